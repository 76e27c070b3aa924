use Rattle.std.proofs.Common.{take}
use Rattle.ecore_meta.specs.Indexes.{AllKnown}
use Rattle.ecore_meta.proofs.indexes.literal_indexes.Given as goal

abbrev pub invariant-loop-found : goal.invariant-loop-found
invariant-loop-found l = AllKnown (take l.found-index l.enums) l.indexes.items
