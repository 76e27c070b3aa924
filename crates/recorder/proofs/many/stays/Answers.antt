use Rattle.std.proofs.Common.{sym, ◌∙◌, arith}
use Rattle.model_state.specs.Listing.{values_at}
use Rattle.recorder.proofs.Shifts.{stays_on, stays_back, stays_without}
use Rattle.recorder.proofs.many.stays.Goals as goal

pub returns-in_default : goal.returns-in_default
returns-in_default g c =
    let vs = values_at (g.L.Look.state c.args.look.now) c.args.named.now.id c.args.named.now.feature in
    sym (stays_without vs c.args.from c.args.to (sym c.in_default.ensures))

pub returns-then-from-to : goal.returns-then-from-to
returns-then-from-to g c =
    let vs = values_at (g.L.Look.state c.args.look.now) c.args.named.now.id c.args.named.now.feature in
    c.are_all.ensures ∙ sym (stays_on vs c.args.from c.args.to c.in-Some.v.now (sym c.in-Some.ensures) c.if-from-to.true)

pub returns-else-from-to : goal.returns-else-from-to
returns-else-from-to g c =
    let vs = values_at (g.L.Look.state c.args.look.now) c.args.named.now.id c.args.named.now.feature in
    c.are_all-else-from-to.ensures ∙ sym (stays_back vs c.args.from c.args.to c.in-Some.v.now (sym c.in-Some.ensures) (omega (arith, c.if-from-to.false)))
