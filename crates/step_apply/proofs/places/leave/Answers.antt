use Rattle.std.proofs.Common.{sym, ap, ◌∙◌}
use Rattle.std.specs.Prelude.{None}
use Rattle.finite_maps.proofs.MapLaws.{set_here}
use Rattle.model_state.proofs.Orders.{id_order}
use Rattle.model_state.specs.declared.step.Place.{Place}
use Rattle.ranked_lists.specs.Ranks.{stood}
use Rattle.step_apply.specs.Groups.{standing}
use Rattle.step_apply.proofs.Regrouped.{out_of_one}
use Rattle.step_apply.proofs.places.leave.Goals as goal

pub returns-in-Some : goal.returns-in-Some
returns-in-Some c = λ was.
    let here = λ (p : Place). was p ∙ ap (stood p) c.in-Some.is in
    out_of_one (standing c.drop_at.new.self) (standing c.args.groups.now) c.args.e.now c.in-Some.old here c.drop_at.ensures.here c.drop_at.ensures.there

pub returns-in_default : goal.returns-in_default
returns-in_default c = λ was p. sym (set_here id_order (standing c.args.groups.now p) c.args.e.now None (was p ∙ ap (stood p) c.in_default.is))
