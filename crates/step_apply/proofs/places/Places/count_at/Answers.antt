use Rattle.std.proofs.Common.{ap, ◌∙◌}
use Rattle.finite_maps.specs.Maps.{count}
use Rattle.model_state.specs.State.{place_eq}
use Rattle.step_apply.proofs.Regrouped.{spots_count}
use Rattle.step_apply.proofs.places.Places.count_at.Goals as goal

pub returns : goal.returns
returns c =
    c.count.ensures
    ∙ spots_count c.self.inside.tree c.self.inside.groups c.self.invariant c.args.place.now
    ∙ ap (λ m. count (λ e. place_eq c.args.place.now e.1) m.place) c.self.view_is
