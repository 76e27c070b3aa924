use Rattle.std.proofs.Common.{◌∙◌, Some, ap, subst}
use Rattle.plain_repository.specs.Orderly.{IsOrderly}
use Rattle.op_form.specs.declared.event.Event.TheVariants.{End}
use Rattle.plain_repository.specs.Composites.{with_closed}
use Rattle.plain_repository.specs.State.{folded}
use Rattle.repo_state.specs.Keeping.{plain_of}
use Rattle.repo_state.specs.Sizes.{sized}
use Rattle.repo_state.proofs.Changing.{fit_set}
use Rattle.repo_state.proofs.Effects.{begun_is, changed_view, either, either_orderly, fit_before, keeper_before, on_err, on_ok, placed, unchanged_view}
use Rattle.repo_state.proofs.Models.{closed_folded, fits_same}
use Rattle.repo_state.proofs.Keepers.{keepers_set, same_keeps}
use Rattle.repo_state.proofs.repo.Repo.close_composite.Goals as goal

pub invariant_of-self : goal.invariant_of-self
invariant_of-self c =
    let s = c.args.self.now in
    let begun = c.in-Some-begun._begun in
    let w = c.in-Some-index_mut.workspace in
    let new = c.close_composite.new.self in
    let p = placed c.self.inside.begun c.self.inside.workspaces.items c.self.inside.events c.self.inside.end c.args.self.now c.args.ws c.in-Some.at
    c.index_mut.result.now _ c.in-Some-index_mut.workspace c.self.view_is c.in-Some.ensures.there.0 c.in-Some.ensures.there.1
    c.index_mut.ensures.value c.in-Some-index_mut.is in
    let is_begun = begun_is c.self.inside.begun begun _ c.self.inside.events c.self.inside.end s c.self.view_is c.in-Some-begun.is in
    let fits = either c.close_composite.result c.close_composite.ensures.closed c.close_composite.ensures.same
    (λ is. fits_same begun.meta begun.history.history begun.history.history w new
    (ap (folded begun.meta begun.history.history) is ∙ closed_folded begun.meta begun.history.history (plain_of w))
    c.close_composite.ensures.model (fit_before p begun c.in-Some-begun.is c.self.invariant.1))
    (λ is. fits_same begun.meta begun.history.history begun.history.history w new
    (ap (folded begun.meta begun.history.history) is) c.close_composite.ensures.model (fit_before p begun c.in-Some-begun.is c.self.invariant.1)) in (
      c.self.invariant.0,
      fit_set c.self.inside.begun begun c.self.inside.workspaces.items c.in-Some.at (Some new) c.in-Some-begun.is fits c.self.invariant.1,
      either_orderly c.close_composite.result s _ begun.meta (End c.args.ws) is_begun c.requires.could c.requires.spelled
          (subst IsOrderly c.self.view_is c.self.invariant.2)
          (on_ok c.close_composite.result (changed_view p with_closed new) c.close_composite.ensures.closed)
          (on_err c.close_composite.result (unchanged_view p new) c.close_composite.ensures.same),
      keepers_set c.self.inside.recent c.self.inside.workspaces.items c.in-Some.at (Some new)
          (λ keeps. keeper_before p c.self.inside.recent c.self.invariant.3 (same_keeps w new c.close_composite.ensures.model keeps)) c.self.invariant.3,
      keepers_set (sized c.self.inside.sizes.sizes.items) c.self.inside.workspaces.items c.in-Some.at (Some new)
          (λ keeps. keeper_before p (sized c.self.inside.sizes.sizes.items) c.self.invariant.4 (same_keeps w new c.close_composite.ensures.model keeps))
          c.self.invariant.4,
    )

pub returns : goal.returns
returns c =
    let new = c.close_composite.new.self in
    let p = placed c.self.inside.begun c.self.inside.workspaces.items c.self.inside.events c.self.inside.end c.args.self.now c.args.ws c.in-Some.at
    c.index_mut.result.now _ c.in-Some-index_mut.workspace c.self.view_is c.in-Some.ensures.there.0 c.in-Some.ensures.there.1
    c.index_mut.ensures.value c.in-Some-index_mut.is in
    record {
      done = on_ok c.close_composite.result (changed_view p with_closed new) c.close_composite.ensures.closed;
      same = on_err c.close_composite.result (unchanged_view p new) c.close_composite.ensures.same;
    }
