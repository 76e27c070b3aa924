use Rattle.std.proofs.Common.{ap, ◌∙◌}
use Rattle.finite_maps.specs.Sorts.{in_order}
use Rattle.model_state.specs.Listing.{entry_cmp, children, last_rank}
use Rattle.step_apply.proofs.Regrouped.{spots_are}
use Rattle.step_apply.proofs.places.Places.last_child.Goals as goal

pub returns : goal.returns
returns c =
    c.last.ensures
    ∙ ap (λ es. last_rank (in_order entry_cmp es)) (spots_are c.self.inside.tree c.self.inside.groups c.self.invariant c.args.place.now)
    ∙ ap (λ s. last_rank (children s.place s.rank c.args.place.now)) c.self.view_is
