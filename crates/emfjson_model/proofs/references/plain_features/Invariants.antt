use Rattle.std.proofs.Common.{◌≡◌, ◌++◌, drop}
use Rattle.model_documents.specs.References.{plain_features}
use Rattle.emfjson_model.proofs.references.plain_features.Given as goal

abbrev pub invariant-loop-f : goal.invariant-loop-f
invariant-loop-f l = l.plain ++ plain_features l.meta (drop l.f-index l.features) ≡ plain_features l.meta l.features
