use Rattle.std.proofs.Common.{sym, ap, ◌∙◌}
use Rattle.finite_maps.specs.Maps.{count}
use Rattle.finite_maps.proofs.TableLaws.{count-table_of}
use Rattle.model_state.specs.declared.step.Placed.{Placed}
use Rattle.model_state.specs.State.{is_inside}
use Rattle.model_state.proofs.Orders.{id_order}
use Rattle.step_apply.proofs.Emptied.{none_inside}
use Rattle.step_apply.proofs.places.Places.count_inside.Goals as goal

pub returns : goal.returns
returns c =
    c.standing_inside.ensures.count
    ∙ sym (count-table_of id_order (λ (p : Placed). p.place) (is_inside c.args.e.now) c.self.inside.tree c.standing_inside.ensures.ordered)
    ∙ ap (λ m. count (λ e. is_inside c.args.e.now e.1) m.place) c.self.view_is

pub returns-then-is_bare : goal.returns-then-is_bare
returns-then-is_bare c =
    none_inside c.self.inside.tree c.self.inside.groups c.self.invariant c.args.e.now (c.is_bare.ensures c.if-is_bare.true)
    ∙ ap (λ m. count (λ e. is_inside c.args.e.now e.1) m.place) c.self.view_is
