use Rattle.std.proofs.Common.{◌≡◌, [], ◌∷◌, ◌++◌, sym, ap, ◌∙◌, length}
use Rattle.std.proofs.lemmas.Result.{err_from_is_err_and}
use Rattle.std.specs.Prelude.{is_some, nat_le, unwrap_or}
use Rattle.finite_maps.specs.Maps.{is_below}
use Rattle.model_state.specs.Listing.{targets}
use Rattle.model_state.specs.State.{row_count}
use Rattle.model_state.specs.Typing.{opposite_of, row_upper}
use Rattle.edit_steps.specs.Spot.{spot}
use Rattle.edit_steps.specs.Rows.{link_step, reranks}
use Rattle.edit_steps.specs.Refusals.{link_index}
use Rattle.edit_steps.specs.References.{displace, rank_there, reranks_there, room_there}
use Rattle.edit_steps.proofs.Joined.{four}
use Rattle.edit_steps.proofs.ListTests.{here_fault}
use Rattle.edit_steps.proofs.link.link.Goals as goal

pub returns-clause-made : goal.returns-clause-made
returns-clause-made g c =
    let m = g.L.Look.state c.args.look.now in
    let meta = c.args.meta.now in
    let a = c.args.a.now in
    let f = c.args.f in
    let b = c.args.b.now in
    let xs = targets m.row a f in
    let s = spot xs (link_index m a f c.args.at) in
    let o = c.opposite_of-opposite.result in
    let there : unwrap_or (rank_there meta m.row o b) 0 ≡ c.in_ok-there.there = ap (λ r. unwrap_or r 0) c.in_ok-there.ensures.rank in
    let here : unwrap_or s.rank 0 ≡ c.in_ok-here.here = ap (λ r. unwrap_or r 0) c.in_ok-here.ensures.rank in
    let step = c.in_ok-link_step.ensures ∙ (λ i. link_step o a f (sym here i) b (sym there i)) in
    four _ _ _ _ _ (displace meta m.row o f b) (reranks a f xs s.ranks) (reranks_there meta m.row o b)
    (link_step o a f (unwrap_or s.rank 0) b (unwrap_or (rank_there meta m.row o b) 0) ∷ [])
    c.new-steps.ensures c.in_ok-displace.ensures c.in_ok-here.ensures.steps c.in_ok-there.ensures.steps
    (c.in_ok-push.ensures.ok ∙ ap (λ x. c.enter_there.new.steps ++ x ∷ []) step)
    ∙ (λ i. displace meta m.row (c.opposite_of-opposite.ensures i) f b
    ++ (reranks a f xs s.ranks ++ (reranks_there meta m.row (c.opposite_of-opposite.ensures i) b
    ++ link_step (c.opposite_of-opposite.ensures i) a f (unwrap_or s.rank 0) b
    (unwrap_or (rank_there meta m.row (c.opposite_of-opposite.ensures i) b) 0) ∷ [])))

pub returns-in_err-here-clause-refused : goal.returns-in_err-here-clause-refused
returns-in_err-here-clause-refused g c =
    let m = g.L.Look.state c.args.look.now in
    let meta = c.args.meta.now in
    let a = c.args.a.now in
    let f = c.args.f in
    let b = c.args.b.now in
    let xs = targets m.row a f in
    let k = link_index m a f c.args.at in
    let o = opposite_of meta f in
    let left = err_from_is_err_and c.from_residual-in_err-here.result c.from_residual-in_err-here.ensures.1 in
    rw (left.1, left.2) (here_fault (nat_le k (length xs)) (is_below (row_count m a f) (row_upper meta f)) (room_there meta m o b)
    (is_some (spot xs k).rank) (is_some (rank_there meta m.row o b)) c.in_err-here.field-0.0 c.in_err-here.ensures.refused)
