-- The rank at the end of the opposite's list: none where there is no opposite, else by whether the list holds one target or many.
use Rattle.std.proofs.Common.{◌≡◌, true, false, refl, sym, ap, subst, ◌∙◌, ◌++◌}
use Rattle.std.specs.Prelude.{Some, OnOk, IfOk, IfErr, is_some}
use Rattle.model_state.specs.Listing.{targets}
use Rattle.edit_steps.specs.Rows.{reranks}
use Rattle.edit_steps.specs.Spot.{end_spot}
use Rattle.edit_steps.specs.References.{holds_one, rank_there, reranks_there}
use Rattle.edit_steps.specs.LinkRefusals.{IsFull}
use Rattle.edit_steps.proofs.SpotLaws.{nothing_added}
use Rattle.edit_steps.proofs.Ends.{alone, full_of, none_reranked, on_err, one_goes, others_stay}
use Rattle.edit_steps.proofs.there.rank_there.Goals as goal

pub returns-in-None-clause-steps : goal.returns-in-None-clause-steps
returns-in-None-clause-steps g c =
    let row = (g.L.Look.state c.args.look.now).row in
    nothing_added c.args.steps.now ∙ ap (λ o. c.args.steps.now ++ reranks_there c.args.meta.now row o c.args.b.now) (sym c.in-None.is)

pub returns-in-None-clause-rank : goal.returns-in-None-clause-rank
returns-in-None-clause-rank g c =
    ap (λ o. rank_there c.args.meta.now (g.L.Look.state c.args.look.now).row o c.args.b.now) c.in-None.is ∙ alone _ refl

pub returns-then-holds_one-clause-steps : goal.returns-then-holds_one-clause-steps
returns-then-holds_one-clause-steps gh c =
    let row = (gh.L.Look.state c.args.look.now).row in
    let meta = c.args.meta.now in
    let one : holds_one meta c.in-Some.g ≡ true = sym c.holds_one.ensures ∙ c.if-holds_one.true in
    nothing_added c.args.steps.now
    ∙ ap (λ ss. c.args.steps.now ++ ss) (sym (ap (λ o. reranks_there meta row o c.args.b.now) c.in-Some.is
    ∙ none_reranked c.args.b.now c.in-Some.g _ (one_goes meta row c.in-Some.g c.args.b.now one)))

pub returns-then-holds_one-clause-rank : goal.returns-then-holds_one-clause-rank
returns-then-holds_one-clause-rank gh c =
    let row = (gh.L.Look.state c.args.look.now).row in
    let meta = c.args.meta.now in
    let one : holds_one meta c.in-Some.g ≡ true = sym c.holds_one.ensures ∙ c.if-holds_one.true in
    ap (λ o. rank_there meta row o c.args.b.now) c.in-Some.is ∙ alone _ (one_goes meta row c.in-Some.g c.args.b.now one)

pub returns-else-holds_one-clause-steps : goal.returns-else-holds_one-clause-steps
returns-else-holds_one-clause-steps gh c =
    let row = (gh.L.Look.state c.args.look.now).row in
    let meta = c.args.meta.now in
    let b = c.args.b.now in
    let many : holds_one meta c.in-Some.g ≡ false = sym c.holds_one.ensures ∙ c.if-holds_one.false in
    subst (λ ss. OnOk c.enter_last.result (c.enter_last.new.steps ≡ c.args.steps.now ++ ss))
    (sym (ap (λ o. reranks_there meta row o b) c.in-Some.is
    ∙ ap (λ xs. reranks b c.in-Some.g xs (end_spot xs).ranks) (others_stay meta row c.in-Some.g b many)))
    c.enter_last.ensures.steps

pub returns-else-holds_one-clause-rank : goal.returns-else-holds_one-clause-rank
returns-else-holds_one-clause-rank gh c =
    let row = (gh.L.Look.state c.args.look.now).row in
    let meta = c.args.meta.now in
    let b = c.args.b.now in
    let many : holds_one meta c.in-Some.g ≡ false = sym c.holds_one.ensures ∙ c.if-holds_one.false in
    subst (λ o. IfOk c.enter_last.result (λ r. o ≡ Some r))
    (sym (ap (λ o. rank_there meta row o b) c.in-Some.is ∙ ap (λ xs. (end_spot xs).rank) (others_stay meta row c.in-Some.g b many)))
    c.enter_last.ensures.rank

pub returns-else-holds_one-clause-full : goal.returns-else-holds_one-clause-full
returns-else-holds_one-clause-full gh c =
    let row = (gh.L.Look.state c.args.look.now).row in
    let meta = c.args.meta.now in
    let b = c.args.b.now in
    let many : holds_one meta c.in-Some.g ≡ false = sym c.holds_one.ensures ∙ c.if-holds_one.false in
    subst (λ o. IfErr c.enter_last.result (λ e. IsFull (is_some o) e))
    (sym (ap (λ o. rank_there meta row o b) c.in-Some.is ∙ ap (λ xs. (end_spot xs).rank) (others_stay meta row c.in-Some.g b many)))
    (on_err c.enter_last.result (full_of (targets row b c.in-Some.g)) c.enter_last.ensures.refused)
