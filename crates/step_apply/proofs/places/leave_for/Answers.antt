use Rattle.std.proofs.Common.{sym, ap, ◌∙◌}
use Rattle.std.specs.Prelude.{None}
use Rattle.finite_maps.proofs.MapLaws.{set_here}
use Rattle.model_state.proofs.Orders.{id_order}
use Rattle.ranked_lists.specs.Ranks.{stood}
use Rattle.step_apply.specs.Groups.{standing}
use Rattle.step_apply.proofs.Regrouped.{out_of, stays}
use Rattle.step_apply.proofs.places.leave_for.Goals as goal

pub returns-then-not-is_same-clause-there : goal.returns-then-not-is_same-clause-there
returns-then-not-is_same-clause-there c = λ was.
    out_of (standing c.drop_at.new.self) (standing c.args.groups.now) c.args.e.now c.in-Some.old c.args.to.now
    (λ p else. was p else ∙ ap (stood p) c.in-Some.is)
    c.drop_at.ensures.here c.drop_at.ensures.there

pub returns-in-Some-clause-there : goal.returns-in-Some-clause-there
returns-in-Some-clause-there c = λ was.
    stays (standing c.args.groups.now) (standing c.args.groups.now) c.args.e.now c.in-Some.old c.args.to.now (λ p else. was p else ∙ ap (stood p) c.in-Some.is)
    (sym c.is_same.ensures ∙ c.if-not-is_same.false)

pub returns-clause-there : goal.returns-clause-there
returns-clause-there c = λ was p else. sym (set_here id_order (standing c.args.groups.now p) c.args.e.now None (was p else ∙ ap (stood p) c.in_default.is))
