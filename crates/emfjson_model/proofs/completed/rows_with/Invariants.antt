use Rattle.std.proofs.Common.{◌≡◌, [], drop}
use Rattle.model_documents.specs.Completed.{next_row}
use Rattle.model_documents.specs.Reads.{collected}
use Rattle.emfjson_model.proofs.completed.rows_with.Given as goal

abbrev pub invariant-loop-draft : goal.invariant-loop-draft
invariant-loop-draft l = collected (next_row l.meta l.given) [] l.drafts ≡ collected (next_row l.meta l.given) l.rows (drop l.draft-index l.drafts)
