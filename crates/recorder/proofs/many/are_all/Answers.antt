use Rattle.std.proofs.Common.{◌<◌, ◌≤◌, sym, ◌∙◌, arith}
use Rattle.model_state.specs.Listing.{values_at}
use Rattle.model_state.specs.Typing.{value_eq}
use Rattle.recorder.proofs.Shifts.{all_on, all_stop, all_past}
use Rattle.recorder.proofs.many.are_all.Goals as goal

pub returns-then-not-is_at : goal.returns-then-not-is_at
returns-then-not-is_at g c =
    let vs = values_at (g.L.Look.state c.args.look.now) c.args.named.now.id c.args.named.now.feature in
    let at = c.loop-at.at in
    let in_range : at < c.args.end = omega (arith, c.loop-at-test.true) in
    sym (c.loop-at.invariant ∙ all_stop (value_eq c.args.v.now) vs at c.args.end in_range c.requires (sym c.is_at.ensures ∙ c.if-not-is_at.true))

pub loop-at-preserved : goal.loop-at-preserved
loop-at-preserved g c =
    let vs = values_at (g.L.Look.state c.args.look.now) c.args.named.now.id c.args.named.now.feature in
    let at = c.loop-at.at in
    let in_range : at < c.args.end = omega (arith, c.loop-at-test.true) in
    c.loop-at.invariant ∙ all_on (value_eq c.args.v.now) vs at c.args.end in_range c.requires (sym c.is_at.ensures ∙ c.if-not-is_at.false)

pub returns : goal.returns
returns g c =
    let vs = values_at (g.L.Look.state c.args.look.now) c.args.named.now.id c.args.named.now.feature in
    let at = c.loop-at.at in
    let past : c.args.end ≤ at = omega (arith, c.loop-at-test.false) in
    sym (c.loop-at.invariant ∙ all_past (value_eq c.args.v.now) vs at c.args.end past)
