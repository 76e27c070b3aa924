use Rattle.std.proofs.Common.{◌≡◌, ap, subst, ◌∙◌}
use Rattle.std.specs.Prelude.{IfOk}
use Rattle.finite_maps.specs.Sorts.{in_order}
use Rattle.model_state.specs.Listing.{entry_cmp, children}
use Rattle.step_apply.proofs.Regrouped.{spots_are}
use Rattle.step_apply.proofs.places.Places.children.Goals as goal

pub returns : goal.returns
returns c =
    subst (λ es. IfOk c.list.result (λ l. l ≡ es))
    (ap (in_order entry_cmp) (spots_are c.self.inside.tree c.self.inside.groups c.self.invariant c.args.place.now)
    ∙ ap (λ s. children s.place s.rank c.args.place.now) c.self.view_is)
    c.list.ensures
