-- What the attributes end as, where a `&mut` to the values of one is returned.
use Rattle.std.specs.Prelude.{ℕ, List, Some}
use Rattle.std.specs.Borrow.{Lends, Fml, MutBor}
use Rattle.graph_parts.specs.contracts.value_list.ValueList as list_type
use Rattle.ecore_meta.specs.declared.meta.Value.{Value}
use Rattle.finite_maps.specs.Maps.{set}
use Rattle.graph_parts.specs.Parts.{Values}
use Rattle.graph_parts.specs.contracts.attrs.Attrs.{the_row}

-- once the borrow r ends, the attribute has the last values written through r, and the others stay
abbrev pub lends_values : MutBor Values → ℕ → MutBor (List Value) → Fml
lends_values s f r = Lends the_row list_type.the_row s r (λ w. set s.now f (Some w))
