-- A workspace at a version with other operations, or no memory for them: the repository is the plain one's either way.
use Rattle.std.proofs.Common.{Some, subst, sym}
use Rattle.plain_repository.specs.Orderly.{IsOrderly}
use Rattle.repo_state.specs.Keeping.{plain_of}
use Rattle.repo_state.specs.Planning.{restarted}
use Rattle.repo_state.specs.Sizes.{sized}
use Rattle.repo_state.proofs.Changing.{fit_set}
use Rattle.repo_state.proofs.Could.{base_good}
use Rattle.repo_state.proofs.Effects.{begun_is, changed_view, fit_before, history_is, keeper_before, placed, placed_there}
use Rattle.repo_state.proofs.Keepers.{keepers_same, keepers_set}
use Rattle.repo_state.proofs.Taken.{restarted_leads, theirs_of_base, there_closed}
use Rattle.repo_state.proofs.repo.Repo.update.Goals as goal

pub update-requires-clause-base : goal.update-requires-clause-base
update-requires-clause-base c =
    let s = c.args.self.now in
    let begun = c.in-Some-begun.begun in
    let w = c.in-Some-index_mut.workspace in
    let p = placed c.self.inside.begun c.self.inside.workspaces.items c.self.inside.events c.self.inside.end c.args.self.now c.args.ws c.in-Some.at
    c.index_mut.result.now _ c.in-Some-index_mut.workspace c.self.view_is c.in-Some.ensures.there.0 c.in-Some.ensures.there.1
    c.index_mut.ensures.value c.in-Some-index_mut.is in
    let is_begun = begun_is c.self.inside.begun begun _ c.self.inside.events c.self.inside.end s c.self.view_is c.in-Some-begun.is in
    let hist = history_is c.self.inside.begun begun _ c.self.inside.events c.self.inside.end s c.self.view_is c.in-Some-begun.is in
    base_good s begun.meta begun.history.history c.args.ws (plain_of w) is_begun hist (placed_there p)
    (subst IsOrderly c.self.view_is c.self.invariant.2) c.recall_soundness.ensures

pub update-requires-clause-closed : goal.update-requires-clause-closed
update-requires-clause-closed c =
    let s = c.args.self.now in
    let w = c.in-Some-index_mut.workspace in
    let p = placed c.self.inside.begun c.self.inside.workspaces.items c.self.inside.events c.self.inside.end c.args.self.now c.args.ws c.in-Some.at
    c.index_mut.result.now _ c.in-Some-index_mut.workspace c.self.view_is c.in-Some.ensures.there.0 c.in-Some.ensures.there.1
    c.index_mut.ensures.value c.in-Some-index_mut.is in
    there_closed s c.args.ws (plain_of w) (placed_there p) c.requires.closed

pub update-requires-clause-fits : goal.update-requires-clause-fits
update-requires-clause-fits c =
    let s = c.args.self.now in
    let begun = c.in-Some-begun.begun in
    let w = c.in-Some-index_mut.workspace in
    let p = placed c.self.inside.begun c.self.inside.workspaces.items c.self.inside.events c.self.inside.end c.args.self.now c.args.ws c.in-Some.at
    c.index_mut.result.now _ c.in-Some-index_mut.workspace c.self.view_is c.in-Some.ensures.there.0 c.in-Some.ensures.there.1
    c.index_mut.ensures.value c.in-Some-index_mut.is in
    fit_before p begun c.in-Some-begun.is c.self.invariant.1

pub update-requires-clause-theirs : goal.update-requires-clause-theirs
update-requires-clause-theirs c =
    let s = c.args.self.now in
    let begun = c.in-Some-begun.begun in
    let w = c.in-Some-index_mut.workspace in
    let p = placed c.self.inside.begun c.self.inside.workspaces.items c.self.inside.events c.self.inside.end c.args.self.now c.args.ws c.in-Some.at
    c.index_mut.result.now _ c.in-Some-index_mut.workspace c.self.view_is c.in-Some.ensures.there.0 c.in-Some.ensures.there.1
    c.index_mut.ensures.value c.in-Some-index_mut.is in
    let is_begun = begun_is c.self.inside.begun begun _ c.self.inside.events c.self.inside.end s c.self.view_is c.in-Some-begun.is in
    let hist = history_is c.self.inside.begun begun _ c.self.inside.events c.self.inside.end s c.self.view_is c.in-Some-begun.is in
    theirs_of_base s begun.meta begun.history.history c.args.ws (plain_of w) c.args.updated.base c.args.updated.theirs is_begun hist
    (placed_there p) c.requires.theirs

pub update-requires-clause-leads : goal.update-requires-clause-leads
update-requires-clause-leads c =
    let s = c.args.self.now in
    let begun = c.in-Some-begun.begun in
    let w = c.in-Some-index_mut.workspace in
    let p = placed c.self.inside.begun c.self.inside.workspaces.items c.self.inside.events c.self.inside.end c.args.self.now c.args.ws c.in-Some.at
    c.index_mut.result.now _ c.in-Some-index_mut.workspace c.self.view_is c.in-Some.ensures.there.0 c.in-Some.ensures.there.1
    c.index_mut.ensures.value c.in-Some-index_mut.is in
    let is_begun = begun_is c.self.inside.begun begun _ c.self.inside.events c.self.inside.end s c.self.view_is c.in-Some-begun.is in
    let hist = history_is c.self.inside.begun begun _ c.self.inside.events c.self.inside.end s c.self.view_is c.in-Some-begun.is in
    restarted_leads s begun.meta begun.history.history c.args.ws (plain_of w) c.args.updated.base c.args.updated.operations is_begun hist
    (placed_there p) (there_closed s c.args.ws (plain_of w) (placed_there p) c.requires.closed) c.requires.orderly

pub invariant_of-self : goal.invariant_of-self
invariant_of-self c =
    let s = c.args.self.now in
    let begun = c.in-Some-begun.begun in
    let w = c.in-Some-index_mut.workspace in
    let new = c.update.new.self in
    let p = placed c.self.inside.begun c.self.inside.workspaces.items c.self.inside.events c.self.inside.end c.args.self.now c.args.ws c.in-Some.at
    c.index_mut.result.now _ c.in-Some-index_mut.workspace c.self.view_is c.in-Some.ensures.there.0 c.in-Some.ensures.there.1
    c.index_mut.ensures.value c.in-Some-index_mut.is in
    let fits = c.update.ensures.fits in (
      c.self.invariant.0,
      fit_set c.self.inside.begun begun c.self.inside.workspaces.items c.in-Some.at (Some new) c.in-Some-begun.is fits c.self.invariant.1,
      subst IsOrderly (sym (changed_view p (restarted c.args.updated.base c.args.updated.operations) new c.update.ensures.updated)) c.requires.orderly,
      keepers_set c.self.inside.recent c.self.inside.workspaces.items c.in-Some.at (Some new)
          (λ keeps. keeper_before p c.self.inside.recent c.self.invariant.3 (c.update.ensures.kept keeps)) c.self.invariant.3,
      keepers_same (sized c.self.inside.sizes.sizes.items) (sized c.grow.new.self.sizes.items) _ c.grow.ensures
          (keepers_set (sized c.self.inside.sizes.sizes.items) c.self.inside.workspaces.items c.in-Some.at (Some new)
          (λ keeps. keeper_before p (sized c.self.inside.sizes.sizes.items) c.self.invariant.4 (c.update.ensures.kept keeps)) c.self.invariant.4),
    )

pub returns : goal.returns
returns c =
    let new = c.update.new.self in
    let p = placed c.self.inside.begun c.self.inside.workspaces.items c.self.inside.events c.self.inside.end c.args.self.now c.args.ws c.in-Some.at
    c.index_mut.result.now _ c.in-Some-index_mut.workspace c.self.view_is c.in-Some.ensures.there.0 c.in-Some.ensures.there.1
    c.index_mut.ensures.value c.in-Some-index_mut.is in
    record {
      done = changed_view p (restarted c.args.updated.base c.args.updated.operations) new c.update.ensures.updated;
    }
