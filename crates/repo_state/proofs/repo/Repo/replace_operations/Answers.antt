use Rattle.std.proofs.Common.{Some, subst, sym}
use Rattle.plain_repository.specs.Orderly.{IsOrderly}
use Rattle.repo_state.specs.Planning.{replaced}
use Rattle.repo_state.specs.Sizes.{sized}
use Rattle.repo_state.proofs.Changing.{fit_set}
use Rattle.repo_state.proofs.Effects.{begun_is, changed_view, fit_before, history_is, keeper_before, placed, placed_there}
use Rattle.repo_state.proofs.Keepers.{keepers_set, same_keeps}
use Rattle.repo_state.proofs.Taken.{replaced_fits}
use Rattle.repo_state.proofs.repo.Repo.replace_operations.Goals as goal

pub invariant_of-self : goal.invariant_of-self
invariant_of-self c =
    let s = c.args.self.now in
    let begun = c.in-Some-begun._begun in
    let w = c.in-Some-index_mut.workspace in
    let new = c.replace_operations.new.self in
    let p = placed c.self.inside.begun c.self.inside.workspaces.items c.self.inside.events c.self.inside.end c.args.self.now c.args.ws c.in-Some.at
    c.index_mut.result.now _ c.in-Some-index_mut.workspace c.self.view_is c.in-Some.ensures.there.0 c.in-Some.ensures.there.1
    c.index_mut.ensures.value c.in-Some-index_mut.is in
    let is_begun = begun_is c.self.inside.begun begun _ c.self.inside.events c.self.inside.end s c.self.view_is c.in-Some-begun.is in
    let hist = history_is c.self.inside.begun begun _ c.self.inside.events c.self.inside.end s c.self.view_is c.in-Some-begun.is in
    let fits = replaced_fits s begun.meta begun.history.history c.args.ws w new c.args.operations is_begun hist
    (placed_there p) c.requires.model c.replace_operations.ensures.replaced c.replace_operations.ensures.model
    (fit_before p begun c.in-Some-begun.is c.self.invariant.1) in (
      c.self.invariant.0,
      fit_set c.self.inside.begun begun c.self.inside.workspaces.items c.in-Some.at (Some new) c.in-Some-begun.is fits c.self.invariant.1,
      subst IsOrderly (sym (changed_view p (replaced c.args.operations) new c.replace_operations.ensures.replaced)) c.requires.orderly,
      keepers_set c.self.inside.recent c.self.inside.workspaces.items c.in-Some.at (Some new)
          (λ keeps. keeper_before p c.self.inside.recent c.self.invariant.3 (same_keeps w new c.replace_operations.ensures.model keeps))
          c.self.invariant.3,
      keepers_set (sized c.self.inside.sizes.sizes.items) c.self.inside.workspaces.items c.in-Some.at (Some new)
          (λ keeps. keeper_before p (sized c.self.inside.sizes.sizes.items) c.self.invariant.4 (same_keeps w new c.replace_operations.ensures.model keeps))
          c.self.invariant.4,
    )

pub returns : goal.returns
returns c =
    let new = c.replace_operations.new.self in
    let p = placed c.self.inside.begun c.self.inside.workspaces.items c.self.inside.events c.self.inside.end c.args.self.now c.args.ws c.in-Some.at
    c.index_mut.result.now _ c.in-Some-index_mut.workspace c.self.view_is c.in-Some.ensures.there.0 c.in-Some.ensures.there.1
    c.index_mut.ensures.value c.in-Some-index_mut.is in
    record {
      done = changed_view p (replaced c.args.operations) new c.replace_operations.ensures.replaced;
    }
