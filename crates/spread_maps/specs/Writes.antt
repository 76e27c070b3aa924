-- Entries as writes of a finite map.
use Rattle.std.specs.Prelude.{List, Option, Some, map}

-- each entry as the write of its value
abbrev pub puts : {K X : Type 0} → List (K × X) → List (K × Option X)
puts es = map (λ e. (e.0, Some e.1)) es
