use Rattle.std.proofs.Common.{◌∙◌, ◌||◌, ap, sym}
use Rattle.model_documents.specs.Laws.{gives_id}
use Rattle.model_import.proofs.GivenIds.{given_more}
use Rattle.model_import.proofs.given.ids_given.Goals as goal

pub loop-row-preserved : goal.loop-row-preserved
loop-row-preserved c = λ e.
    c.in_ok-add_given.ensures e
    ∙ ap (λ b. b || gives_id e c.row-item.result) (c.loop-row.invariant e)
    ∙ sym (given_more c.args.rows.now c.loop-row.row-index c.row-item.result e c.loop-row-test.true c.row-item.is)
