use Rattle.std.proofs.Common.{◌≡◌, ◌+◌, ◌++◌, [], ◌∷◌, take, sym, ◌∙◌, ap, subst, ◌≤◌, length, arith}
use Rattle.std.proofs.lemmas.List.{take_more, take_all}
use Rattle.host_port.specs.Replay.{at_start, after_calls}
use Rattle.host_port.proofs.Filling.{filled_left, follows_calls}
use Rattle.host_port.specs.Host.{MayLeave}
use Rattle.host_port.proofs.image.image_after.Goals as goal

pub loop-call-preserved : goal.loop-call-preserved
loop-call-preserved c =
    let done = take c.loop-call.call-index c.args.calls.now.items in
    let shown = c.deref-call-items.result.now in
    let more : take (c.loop-call.call-index + 1) c.args.calls.now.items ≡ done ++ c.call-item.result ∷ [] =
    subst
    (λ l. take (c.loop-call.call-index + 1) l ≡ take c.loop-call.call-index l ++ c.call-item.result ∷ [])
    c.deref-call-items.ensures.value
    (take_more shown c.loop-call.call-index c.call-item.result c.loop-call-test.true
    ∙ ap (λ x. take c.loop-call.call-index shown ++ x ∷ []) (sym c.call-item.is)) in
    follows_calls c.args.first.now.items c.args.fill done _ c.call-item.result _ _ more
    (c.in_ok-follow.ensures (after_calls (at_start c.args.first.now.items) done) c.loop-call.invariant)

pub returns-clause-left : goal.returns-clause-left
returns-clause-left c =
    let all : length c.args.calls.now.items ≤ c.loop-call.call-index = omega (arith, c.loop-call-test.false, ap length c.deref-call-items.ensures.value) in
    subst
    (λ d. MayLeave d c.loop-call.image.items)
    (ap (after_calls (at_start c.args.first.now.items)) (take_all c.loop-call.call-index c.args.calls.now.items all))
    (filled_left _ c.args.fill _ c.loop-call.invariant.leaves)
