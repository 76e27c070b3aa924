use Rattle.std.proofs.Common.{◌∙◌, Some, ap, subst}
use Rattle.plain_repository.specs.Orderly.{IsOrderly}
use Rattle.op_form.specs.declared.event.Event.TheVariants.{Begin}
use Rattle.plain_repository.specs.Composites.{with_open}
use Rattle.plain_repository.specs.State.{folded}
use Rattle.repo_state.specs.Keeping.{plain_of}
use Rattle.repo_state.specs.Sizes.{sized}
use Rattle.repo_state.proofs.Changing.{fit_set}
use Rattle.repo_state.proofs.Could.{begin_closed}
use Rattle.repo_state.proofs.Effects.{begun_is, changed_view, effect_orderly, fit_before, keeper_before, placed, placed_there}
use Rattle.repo_state.proofs.Models.{fits_same, open_folded}
use Rattle.repo_state.proofs.Keepers.{keepers_set, same_keeps}
use Rattle.repo_state.proofs.repo.Repo.open_composite.Goals as goal

pub invariant_of-self : goal.invariant_of-self
invariant_of-self c =
    let s = c.args.self.now in
    let begun = c.in-Some-begun._begun in
    let w = c.in-Some-index_mut.workspace in
    let new = c.open_composite.new.self in
    let p = placed c.self.inside.begun c.self.inside.workspaces.items c.self.inside.events c.self.inside.end c.args.self.now c.args.ws c.in-Some.at
    c.index_mut.result.now _ c.in-Some-index_mut.workspace c.self.view_is c.in-Some.ensures.there.0 c.in-Some.ensures.there.1
    c.index_mut.ensures.value c.in-Some-index_mut.is in
    let is_begun = begun_is c.self.inside.begun begun _ c.self.inside.events c.self.inside.end s c.self.view_is c.in-Some-begun.is in
    let fits = fits_same begun.meta begun.history.history begun.history.history w new
    (ap (folded begun.meta begun.history.history) c.open_composite.ensures.opened
    ∙ open_folded begun.meta begun.history.history c.args.name (plain_of w)
    (begin_closed s begun.meta c.args.ws c.args.name (plain_of w) is_begun (placed_there p) c.requires.could))
    c.open_composite.ensures.model (fit_before p begun c.in-Some-begun.is c.self.invariant.1) in (
      c.self.invariant.0,
      fit_set c.self.inside.begun begun c.self.inside.workspaces.items c.in-Some.at (Some new) c.in-Some-begun.is fits c.self.invariant.1,
      effect_orderly s _ begun.meta (Begin c.args.ws c.args.name) is_begun c.requires.could c.requires.spelled
          (subst IsOrderly c.self.view_is c.self.invariant.2) (changed_view p (with_open c.args.name) new c.open_composite.ensures.opened),
      keepers_set c.self.inside.recent c.self.inside.workspaces.items c.in-Some.at (Some new)
          (λ keeps. keeper_before p c.self.inside.recent c.self.invariant.3 (same_keeps w new c.open_composite.ensures.model keeps)) c.self.invariant.3,
      keepers_set (sized c.self.inside.sizes.sizes.items) c.self.inside.workspaces.items c.in-Some.at (Some new)
          (λ keeps. keeper_before p (sized c.self.inside.sizes.sizes.items) c.self.invariant.4 (same_keeps w new c.open_composite.ensures.model keeps))
          c.self.invariant.4,
    )

pub returns : goal.returns
returns c =
    let new = c.open_composite.new.self in
    let p = placed c.self.inside.begun c.self.inside.workspaces.items c.self.inside.events c.self.inside.end c.args.self.now c.args.ws c.in-Some.at
    c.index_mut.result.now _ c.in-Some-index_mut.workspace c.self.view_is c.in-Some.ensures.there.0 c.in-Some.ensures.there.1
    c.index_mut.ensures.value c.in-Some-index_mut.is in
    record {
      done = changed_view p (with_open c.args.name) new c.open_composite.ensures.opened;
    }
