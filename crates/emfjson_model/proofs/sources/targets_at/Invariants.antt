use Rattle.std.proofs.Common.{◌≡◌, drop}
use Rattle.model_documents.specs.Completed.{targets_at}
use Rattle.emfjson_model.proofs.sources.targets_at.Given as goal

abbrev pub invariant-loop-r : goal.invariant-loop-r
invariant-loop-r l = targets_at l.f (drop l.r-index l.refs) ≡ targets_at l.f l.refs
