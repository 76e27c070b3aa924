use Rattle.std.proofs.Common.{◌≡◌, drop}
use Rattle.model_documents.specs.Completed.{attr_at}
use Rattle.emfjson_model.proofs.completed.attr_at.Given as goal

abbrev pub invariant-loop-attr : goal.invariant-loop-attr
invariant-loop-attr l = attr_at l.f (drop l.attr-index l.attrs) ≡ attr_at l.f l.attrs
