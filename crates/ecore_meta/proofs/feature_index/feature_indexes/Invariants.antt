use Rattle.std.proofs.Common.{take}
use Rattle.ecore_meta.specs.Features.{AllListed}
use Rattle.ecore_meta.proofs.feature_index.feature_indexes.Given as goal

abbrev pub invariant-loop-class : goal.invariant-loop-class
invariant-loop-class l = AllListed l.features (take l.class-index l.classes) l.indexes.items
