use Rattle.std.proofs.Common.{◌≡◌, [], drop}
use Rattle.model_documents.specs.References.{refs_at}
use Rattle.model_documents.specs.Reads.{collected}
use Rattle.emfjson_model.proofs.references.refs_by.Given as goal

abbrev pub invariant-loop-f : goal.invariant-loop-f
invariant-loop-f l = collected (refs_at l.meta l.rows l.links) [] l.features ≡ collected (refs_at l.meta l.rows l.links) l.refs (drop l.f-index l.features)
