use Rattle.std.proofs.Common.{◌≡◌, ℕ, take}
use Rattle.std.specs.BTreeMap.{get}
use Rattle.std.specs.Ordering.{nat_cmp}
use Rattle.model_import.proofs.FirstPlaces.{first_place}
use Rattle.model_import.proofs.indexes.index_of.Given as goal

-- the indexes of the targets so far
abbrev pub invariant-loop-k : goal.invariant-loop-k
invariant-loop-k l = (q : ℕ) → get nat_cmp l.indexes q ≡ first_place q (take l.k l.targets)
