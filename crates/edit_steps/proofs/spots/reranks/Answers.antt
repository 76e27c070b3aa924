use Rattle.std.proofs.Common.{sym, ap, ◌∙◌}
use Rattle.edit_steps.specs.Places.{rerank_places}
use Rattle.edit_steps.proofs.SpotLaws.{spot_kept, not_not}
use Rattle.edit_steps.proofs.Reranks.{no_reranks}
use Rattle.edit_steps.proofs.spots.reranks.Goals as goal

pub returns-else-insertion : goal.returns-else-insertion
returns-else-insertion c =
    let xs = c.args.insertion.now.others in
    c.new.ensures ∙ sym (ap (rerank_places xs)
    (spot_kept xs c.args.insertion.now.index (not_not c.args.insertion.now.reranks _ c.requires.reranks c.if-insertion.false)) ∙ no_reranks xs)
