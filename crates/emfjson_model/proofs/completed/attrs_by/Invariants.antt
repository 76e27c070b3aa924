use Rattle.std.proofs.Common.{◌≡◌, ◌++◌, drop}
use Rattle.model_documents.specs.Completed.{attrs_by}
use Rattle.emfjson_model.proofs.completed.attrs_by.Given as goal

abbrev pub invariant-loop-f : goal.invariant-loop-f
invariant-loop-f l = l.all ++ attrs_by l.attrs (drop l.f-index l.features) ≡ attrs_by l.attrs l.features
