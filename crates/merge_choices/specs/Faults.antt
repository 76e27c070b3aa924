-- When no list is made of choices.
use Rattle.std.specs.Prelude.{◌≡◌, ◌≢◌, List, length}
use Rattle.footprint.specs.declared.bucket.Bucket.{Bucket}
use Rattle.merge_laws.specs.declared.side.Side.{Side}
use Rattle.merge_choices.specs.declared.fault.ChoiceFault.{ChoiceFault}
use Rattle.merge_choices.specs.declared.fault.ChoiceFault.TheVariants.{BadChoice, Memory}

-- BadChoice has both numbers, which differ; out of memory comes only where they are equal
abbrev pub IsChoiceFault : List Bucket → List Side → ChoiceFault → Type 0
IsChoiceFault bs sides (BadChoice want got) = (want ≡ length bs) × (got ≡ length sides) × (length sides ≢ length bs)
IsChoiceFault bs sides Memory = length sides ≡ length bs
