use Rattle.std.proofs.Common.{sym, ◌∙◌}
use Rattle.model_state.specs.Listing.{children}
use Rattle.edit_steps.proofs.PlaceRefusals.{end_kept}
use Rattle.edit_steps.proofs.spots.last_spot.Goals as goal

pub returns-in-Some-clause-steps : goal.returns-in-Some-clause-steps
returns-in-Some-clause-steps g c =
    let m = g.L.Look.state c.args.look.now in
    c.new.ensures ∙ sym (end_kept (children m.place m.prank c.args.place.now) c.in-Some.rank (sym c.in-Some.ensures)).0
