use Rattle.std.proofs.Common.{sym, ◌∙◌}
use Rattle.cell_index.proofs.Drained.{sort_flagged, sort_met, sort_rest}
use Rattle.cell_index.proofs.draining.sort_place.Goals as goal

pub returns-then-is_flagged : goal.returns-then-is_flagged
returns-then-is_flagged c =
    sort_flagged c.args.prints.now c.args.print.now c.args.flags.now c.args.place c.args.met.now.items c.args.rest.now.items
    (sym c.is_flagged.ensures ∙ c.if-is_flagged.true)

pub returns-then-is_met : goal.returns-then-is_met
returns-then-is_met c =
    sort_met c.args.prints.now c.args.print.now c.args.flags.now c.args.place c.args.met.now.items c.push.new.self.items c.args.rest.now.items
    c.in_ok-push.ensures.items (c.is_met.ensures.met c.if-is_met.true)

pub returns : goal.returns
returns c =
    sort_rest c.args.prints.now c.args.print.now c.args.flags.now c.args.place c.args.met.now.items c.args.rest.now.items c.push-2.new.self.items
    c.in_ok-push-2.ensures.items (c.is_met.ensures.none c.if-is_met.false)
