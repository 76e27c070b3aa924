use Rattle.std.proofs.Common.{◌≡◌, [], drop}
use Rattle.model_documents.specs.References.{refs_of}
use Rattle.model_documents.specs.Reads.{collected}
use Rattle.emfjson_model.proofs.references.given_with.Given as goal

abbrev pub invariant-loop-row : goal.invariant-loop-row
invariant-loop-row l = collected (refs_of l.meta l.finder) [] l.rows ≡ collected (refs_of l.meta l.finder) l.given (drop l.row-index l.rows)
