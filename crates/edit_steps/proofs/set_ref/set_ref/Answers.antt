use Rattle.std.proofs.Common.{◌≡◌, [], ◌∷◌, ◌++◌, sym, ap, ◌∙◌}
use Rattle.std.specs.Prelude.{unwrap_or}
use Rattle.model_state.specs.Listing.{targets}
use Rattle.edit_steps.specs.Rows.{link_step, unlinks}
use Rattle.edit_steps.specs.References.{displace, rank_there, reranks_there}
use Rattle.edit_steps.proofs.Joined.{four}
use Rattle.edit_steps.proofs.set_ref.set_ref.Goals as goal
use Rattle.model_state.specs.Ranks.{rank_gap}

pub returns-clause-made : goal.returns-clause-made
returns-clause-made g c =
    let row = (g.L.Look.state c.args.look.now).row in
    let meta = c.args.meta.now in
    let a = c.args.a.now in
    let f = c.args.f in
    let b = c.args.b.now in
    let xs = targets row a f in
    let o = c.opposite_of-opposite.result in
    let mine = c.as_slice.ensures ∙ c.in_ok-mine.ensures in
    let there : unwrap_or (rank_there meta row o b) 0 ≡ c.in_ok-there.there = ap (λ r. unwrap_or r 0) c.in_ok-there.ensures.rank in
    let step = c.in_ok-link_step.ensures ∙ ap (link_step o a f rank_gap b) (sym there) in
    four _ _ _ _ _ (unlinks row o a f xs) (displace meta row o f b) (reranks_there meta row o b)
    (link_step o a f rank_gap b (unwrap_or (rank_there meta row o b) 0) ∷ [])
    c.new-steps.ensures (c.in_ok-unlinks.ensures ∙ ap (λ l. c.new-steps.result ++ unlinks row o a f l) mine) c.in_ok-displace.ensures
    c.in_ok-there.ensures.steps
    (c.in_ok-push.ensures.ok ∙ ap (λ x. c.enter_there.new.steps ++ x ∷ []) step)
    ∙ (λ i. unlinks row (c.opposite_of-opposite.ensures i) a f xs
    ++ (displace meta row (c.opposite_of-opposite.ensures i) f b ++ (reranks_there meta row (c.opposite_of-opposite.ensures i) b
    ++ link_step (c.opposite_of-opposite.ensures i) a f rank_gap b (unwrap_or (rank_there meta row (c.opposite_of-opposite.ensures i) b) 0) ∷ [])))
