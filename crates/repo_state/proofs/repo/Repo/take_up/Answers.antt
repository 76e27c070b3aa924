-- Operations of another branch added to a workspace, or no memory for them: the repository is the plain one's either way.
use Rattle.std.proofs.Common.{Some, subst, sym}
use Rattle.plain_repository.specs.Orderly.{IsOrderly}
use Rattle.repo_state.specs.Keeping.{plain_of}
use Rattle.repo_state.specs.Planning.{taken_up}
use Rattle.repo_state.specs.Sizes.{sized}
use Rattle.repo_state.proofs.Changing.{fit_set}
use Rattle.repo_state.proofs.Effects.{begun_is, changed_view, either, fit_before, history_is, keeper_before, on_err, on_ok, placed, placed_there}
use Rattle.repo_state.proofs.Effects.{unchanged_view}
use Rattle.repo_state.proofs.Keepers.{keepers_same, keepers_set}
use Rattle.repo_state.proofs.Taken.{changed_leads, there_closed}
use Rattle.repo_state.proofs.repo.Repo.take_up.Goals as goal

pub take_up-requires-clause-closed : goal.take_up-requires-clause-closed
take_up-requires-clause-closed c =
    let s = c.args.self.now in
    let w = c.in-Some-index_mut.workspace in
    let p = placed c.self.inside.begun c.self.inside.workspaces.items c.self.inside.events c.self.inside.end c.args.self.now c.args.ws c.in-Some.at
    c.index_mut.result.now _ c.in-Some-index_mut.workspace c.self.view_is c.in-Some.ensures.there.0 c.in-Some.ensures.there.1
    c.index_mut.ensures.value c.in-Some-index_mut.is in
    there_closed s c.args.ws (plain_of w) (placed_there p) c.requires.closed

pub take_up-requires-clause-fits : goal.take_up-requires-clause-fits
take_up-requires-clause-fits c =
    let s = c.args.self.now in
    let begun = c.in-Some-begun.begun in
    let w = c.in-Some-index_mut.workspace in
    let p = placed c.self.inside.begun c.self.inside.workspaces.items c.self.inside.events c.self.inside.end c.args.self.now c.args.ws c.in-Some.at
    c.index_mut.result.now _ c.in-Some-index_mut.workspace c.self.view_is c.in-Some.ensures.there.0 c.in-Some.ensures.there.1
    c.index_mut.ensures.value c.in-Some-index_mut.is in
    fit_before p begun c.in-Some-begun.is c.self.invariant.1

pub take_up-requires-clause-leads : goal.take_up-requires-clause-leads
take_up-requires-clause-leads c =
    let s = c.args.self.now in
    let begun = c.in-Some-begun.begun in
    let w = c.in-Some-index_mut.workspace in
    let p = placed c.self.inside.begun c.self.inside.workspaces.items c.self.inside.events c.self.inside.end c.args.self.now c.args.ws c.in-Some.at
    c.index_mut.result.now _ c.in-Some-index_mut.workspace c.self.view_is c.in-Some.ensures.there.0 c.in-Some.ensures.there.1
    c.index_mut.ensures.value c.in-Some-index_mut.is in
    let is_begun = begun_is c.self.inside.begun begun _ c.self.inside.events c.self.inside.end s c.self.view_is c.in-Some-begun.is in
    let hist = history_is c.self.inside.begun begun _ c.self.inside.events c.self.inside.end s c.self.view_is c.in-Some-begun.is in
    changed_leads (taken_up c.args.merged.more c.args.merged.version) s begun.meta begun.history.history c.args.ws (plain_of w) is_begun hist
    (placed_there p) c.requires.orderly

pub invariant_of-self : goal.invariant_of-self
invariant_of-self c =
    let begun = c.in-Some-begun.begun in
    let w = c.in-Some-index_mut.workspace in
    let new = c.take_up.new.self in
    let p = placed c.self.inside.begun c.self.inside.workspaces.items c.self.inside.events c.self.inside.end c.args.self.now c.args.ws c.in-Some.at
    c.index_mut.result.now _ c.in-Some-index_mut.workspace c.self.view_is c.in-Some.ensures.there.0 c.in-Some.ensures.there.1
    c.index_mut.ensures.value c.in-Some-index_mut.is in
    let fits = c.take_up.ensures.fits in (
      c.self.invariant.0,
      fit_set c.self.inside.begun begun c.self.inside.workspaces.items c.in-Some.at (Some new) c.in-Some-begun.is fits c.self.invariant.1,
      either c.take_up.result c.take_up.ensures.taken c.take_up.ensures.same
          (λ is. subst IsOrderly (sym (changed_view p (taken_up c.args.merged.more c.args.merged.version) new is)) c.requires.orderly)
          (λ is. subst IsOrderly (sym (unchanged_view p new is)) (subst IsOrderly c.self.view_is c.self.invariant.2)),
      keepers_set c.self.inside.recent c.self.inside.workspaces.items c.in-Some.at (Some new)
          (λ keeps. keeper_before p c.self.inside.recent c.self.invariant.3 (c.take_up.ensures.kept keeps)) c.self.invariant.3,
      keepers_same (sized c.self.inside.sizes.sizes.items) (sized c.grow.new.self.sizes.items) _ c.grow.ensures
          (keepers_set (sized c.self.inside.sizes.sizes.items) c.self.inside.workspaces.items c.in-Some.at (Some new)
          (λ keeps. keeper_before p (sized c.self.inside.sizes.sizes.items) c.self.invariant.4 (c.take_up.ensures.kept keeps)) c.self.invariant.4),
    )

pub returns : goal.returns
returns c =
    let new = c.take_up.new.self in
    let p = placed c.self.inside.begun c.self.inside.workspaces.items c.self.inside.events c.self.inside.end c.args.self.now c.args.ws c.in-Some.at
    c.index_mut.result.now _ c.in-Some-index_mut.workspace c.self.view_is c.in-Some.ensures.there.0 c.in-Some.ensures.there.1
    c.index_mut.ensures.value c.in-Some-index_mut.is in
    record {
      done = on_ok c.take_up.result (changed_view p (taken_up c.args.merged.more c.args.merged.version) new) c.take_up.ensures.taken;
      same = on_err c.take_up.result (unchanged_view p new) c.take_up.ensures.same;
    }
