use Rattle.std.proofs.Common.{sym, ap, ◌∙◌, ◌++◌}
use Rattle.edit_steps.specs.Rows.{reranks}
use Rattle.edit_steps.proofs.SpotLaws.{spot_kept, no_reranks, not_not, nothing_added}
use Rattle.edit_steps.proofs.insertions.rerank.Goals as goal

pub returns-else-insertion : goal.returns-else-insertion
returns-else-insertion c =
    let xs = c.args.insertion.now.others in
    nothing_added c.args.steps.now
    ∙ ap (λ ss. c.args.steps.now ++ ss)
    (sym (ap (reranks c.args.a.now c.args.f xs)
    (spot_kept xs c.args.insertion.now.index (not_not c.args.insertion.now.reranks _ c.requires.reranks c.if-insertion.false))
    ∙ no_reranks c.args.a.now c.args.f xs))
