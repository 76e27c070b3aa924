use Rattle.std.proofs.Common.{◌≡◌, [], drop}
use Rattle.model_documents.specs.Completed.{completed_at}
use Rattle.model_documents.specs.Reads.{collected}
use Rattle.emfjson_model.proofs.completed.completed_all.Given as goal

abbrev pub invariant-loop-list : goal.invariant-loop-list
invariant-loop-list l = collected (completed_at l.meta l.given l.row) [] l.refs ≡ collected (completed_at l.meta l.given l.row) l.all (drop l.list-index l.refs)
