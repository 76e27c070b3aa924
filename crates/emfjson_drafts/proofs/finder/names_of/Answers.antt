use Rattle.std.proofs.Common.{◌∙◌, ap, sym, cond}
use Rattle.std.specs.Prelude.{None, Some}
use Rattle.model_documents.specs.Finder.{first_of}
use Rattle.model_documents.specs.Places.{has_id}
use Rattle.model_documents.proofs.Finding.{named_more}
use Rattle.emfjson_drafts.proofs.finder.names_of.Goals as goal

pub loop-n-preserved : goal.loop-n-preserved
loop-n-preserved c = λ t.
    c.in_ok-add_name.ensures.found t
    ∙ ap (λ o. first_of o (cond (has_id t c.index-rows-n.result) (Some c.loop-n.n) None)) (c.loop-n.invariant t)
    ∙ sym (named_more c.args.rows.now c.loop-n.n c.index-rows-n.result t c.loop-n-test.true c.index-rows-n.is)
