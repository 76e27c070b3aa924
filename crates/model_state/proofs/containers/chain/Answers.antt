-- the next place is that of the container
use Rattle.std.proofs.Common.{sym, ap, subst, ◌∙◌, ◌∷◌, [], ◌++◌}
use Rattle.std.specs.Prelude.{Some}
use Rattle.model_state.specs.Chains.{IsChain}
use Rattle.model_state.proofs.ChainLaws.{go_on}
use Rattle.model_state.proofs.containers.chain.Goals as goal

pub loop-preserved : goal.loop-preserved
loop-preserved g c =
    let place = (g.L.Look.state c.args.look.now).place in
    let before = c.loop.invariant in
    let there = c.in-Some-placed.ensures.place in
    let more = go_on place c.args.place.now c.loop.next.now c.in-Some-placed.placed.now.place c.in-Some.container.now c.loop.above before.0
    c.in-Some.ensures there before.1 before.2 in
    let pushed = c.in_ok-push.ensures.ok ∙ ap (λ a. c.loop.above ++ a ∷ []) c.in_ok-copy.ensures in
    (more.0, more.1, subst (λ l. IsChain place (Some c.args.place.now) (l ++ more.0)) (sym pushed) more.2)
