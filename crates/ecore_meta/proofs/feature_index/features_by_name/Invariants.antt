use Rattle.std.proofs.Common.{take}
use Rattle.ecore_meta.specs.Features.{Listed}
use Rattle.ecore_meta.proofs.feature_index.features_by_name.Given as goal

abbrev pub invariant-loop-n : goal.invariant-loop-n
invariant-loop-n l = Listed l.features (take l.n-index l.numbers) l.index
