use Rattle.std.proofs.Common.{sym, ap, ◌∙◌}
use Rattle.std.specs.Prelude.{None}
use Rattle.finite_maps.specs.Maps.{set}
use Rattle.finite_maps.proofs.TableLaws.{table_of_updates}
use Rattle.model_state.proofs.Orders.{id_order}
use Rattle.ranked_lists.specs.Ranks.{stood}
use Rattle.step_apply.proofs.Regrouped.{regrouped}
use Rattle.step_apply.proofs.places.Places.drop_at.Goals as goal

pub invariant_of-self : goal.invariant_of-self
invariant_of-self c =
    regrouped c.self.inside.tree c.remove-old.new.self c.self.inside.groups c.leave.new.groups c.args.e.now None c.self.invariant c.remove-old.ensures.updates.0
    (c.leave.ensures (λ p. c.self.invariant p c.args.e.now ∙ ap (stood p) (sym c.remove-old.ensures.value)))

pub returns-clause-place : goal.returns-clause-place
returns-clause-place c =
    table_of_updates id_order (λ p. p.place) c.self.inside.tree c.remove-old.new.self c.args.e.now None c.remove-old.ensures.updates.0
    ∙ ap (λ m. set m.place c.args.e.now None) c.self.view_is

pub returns-clause-rank : goal.returns-clause-rank
returns-clause-rank c =
    table_of_updates id_order (λ p. p.rank) c.self.inside.tree c.remove-old.new.self c.args.e.now None c.remove-old.ensures.updates.0
    ∙ ap (λ m. set m.rank c.args.e.now None) c.self.view_is
