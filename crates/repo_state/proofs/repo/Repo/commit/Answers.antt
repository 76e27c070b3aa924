-- A further version, or no memory for it: the repository after it is the plain one's, and else as it was.
use Rattle.std.proofs.Common.{◌≡◌, List, Option, Some, OnErr, OnOk, map, subst}
use Rattle.std.proofs.Math.ListN.{set}
use Rattle.plain_repository.specs.Commits.{version_event}
use Rattle.plain_repository.specs.Events.{effect}
use Rattle.plain_repository.specs.Orderly.{IsOrderly}
use Rattle.plain_repository.specs.State.{State}
use Rattle.repo_state.specs.Keeping.{AllFit, plain_any, plain_of}
use Rattle.repo_state.specs.Sizes.{sized}
use Rattle.repo_state.specs.declared.workspace.Workspace.{Workspace}
use Rattle.repo_state.proofs.Changing.{held}
use Rattle.repo_state.proofs.Effects.{Placed, begun_is, both_err, both_ok, either, either_orderly, history_is, keeper_before, on_err, on_ok}
use Rattle.repo_state.proofs.Effects.{placed, placed_there}
use Rattle.repo_state.proofs.Grown.{commit_at_head, commit_done, commit_fit, grown_same, grown_same_fit, stands_in}
use Rattle.repo_state.proofs.Keepers.{keepers_set, same_keeps}
use Rattle.repo_state.proofs.repo.Repo.commit.Goals.{After-commit}
use Rattle.repo_state.proofs.repo.Repo.commit.Goals as goal

pub commit-requires-clause-branch : goal.commit-requires-clause-branch
commit-requires-clause-branch c =
    let s = c.args.self.now in
    let begun = c.in-Some-begun.begun in
    let w = c.in-Some-index_mut.workspace in
    let p = placed c.self.inside.begun c.self.inside.workspaces.items c.self.inside.events c.self.inside.end c.args.self.now c.args.ws c.in-Some.at
    c.index_mut.result.now _ c.in-Some-index_mut.workspace c.self.view_is c.in-Some.ensures.there.0 c.in-Some.ensures.there.1
    c.index_mut.ensures.value c.in-Some-index_mut.is in
    let is_begun = begun_is c.self.inside.begun begun _ c.self.inside.events c.self.inside.end s c.self.view_is c.in-Some-begun.is in
    let hist = history_is c.self.inside.begun begun _ c.self.inside.events c.self.inside.end s c.self.view_is c.in-Some-begun.is in
    (stands_in s begun.meta begun.history.history c.args.ws (plain_of w) (subst IsOrderly c.self.view_is c.self.invariant.2) is_begun hist
    (placed_there p)).branch

pub commit-requires-clause-at_head : goal.commit-requires-clause-at_head
commit-requires-clause-at_head c =
    let s = c.args.self.now in
    let begun = c.in-Some-begun.begun in
    let w = c.in-Some-index_mut.workspace in
    let p = placed c.self.inside.begun c.self.inside.workspaces.items c.self.inside.events c.self.inside.end c.args.self.now c.args.ws c.in-Some.at
    c.index_mut.result.now _ c.in-Some-index_mut.workspace c.self.view_is c.in-Some.ensures.there.0 c.in-Some.ensures.there.1
    c.index_mut.ensures.value c.in-Some-index_mut.is in
    let is_begun = begun_is c.self.inside.begun begun _ c.self.inside.events c.self.inside.end s c.self.view_is c.in-Some-begun.is in
    let hist = history_is c.self.inside.begun begun _ c.self.inside.events c.self.inside.end s c.self.view_is c.in-Some-begun.is in
    commit_at_head s begun.meta begun.history.history c.args.ws (plain_of w) c.args.signature c.args.message is_begun hist (placed_there p) c.requires.could

pub commit-requires-clause-pending : goal.commit-requires-clause-pending
commit-requires-clause-pending c =
    let s = c.args.self.now in
    let begun = c.in-Some-begun.begun in
    let w = c.in-Some-index_mut.workspace in
    let p = placed c.self.inside.begun c.self.inside.workspaces.items c.self.inside.events c.self.inside.end c.args.self.now c.args.ws c.in-Some.at
    c.index_mut.result.now _ c.in-Some-index_mut.workspace c.self.view_is c.in-Some.ensures.there.0 c.in-Some.ensures.there.1
    c.index_mut.ensures.value c.in-Some-index_mut.is in
    let is_begun = begun_is c.self.inside.begun begun _ c.self.inside.events c.self.inside.end s c.self.view_is c.in-Some-begun.is in
    let hist = history_is c.self.inside.begun begun _ c.self.inside.events c.self.inside.end s c.self.view_is c.in-Some-begun.is in
    (stands_in s begun.meta begun.history.history c.args.ws (plain_of w) (subst IsOrderly c.self.view_is c.self.invariant.2) is_begun hist
    (placed_there p)).pending

-- ---- after the call
-- the workspace at its position
place : (c : After-commit) → Placed c.self.inside.begun c.self.inside.workspaces.items c.self.inside.events c.self.inside.end c.args.self.now
    c.args.ws c.in-Some.at c.index_mut.result.now c.in-Some-index_mut.workspace
place c =
    placed c.self.inside.begun c.self.inside.workspaces.items c.self.inside.events c.self.inside.end c.args.self.now c.args.ws c.in-Some.at
    c.index_mut.result.now _ c.in-Some-index_mut.workspace c.self.view_is c.in-Some.ensures.there.0 c.in-Some.ensures.there.1
    c.index_mut.ensures.value c.in-Some-index_mut.is

-- its workspaces, and what contracts see of the repository
abbrev workspaces : After-commit → List (Option Workspace)
workspaces c = set c.self.inside.workspaces.items c.in-Some.at (Some c.commit.new.workspace)

abbrev left : After-commit → State
left c = held (Some c.commit.new.self) (map plain_any (workspaces c)) c.self.inside.events c.self.inside.end

-- by its result the event is done, or all is as it was; and the kept models fit
outcome : (c : After-commit) → OnOk c.commit.result (left c ≡ effect c.args.self.now (version_event c.args.ws c.args.signature c.args.message))
    × OnErr c.commit.result (left c ≡ c.args.self.now)
    × AllFit (Some c.commit.new.self) (workspaces c)
outcome c =
    let s = c.args.self.now in
    let begun = c.in-Some-begun.begun in
    let p = place c in
    let new = c.commit.new.self in
    let w' = c.commit.new.workspace in
    let orderly = subst IsOrderly c.self.view_is c.self.invariant.2 in
    let r = c.commit.result in
    let made = both_ok _ _ r c.commit.ensures.version c.commit.ensures.committed in
    let not_made = both_err _ _ r c.commit.ensures.same c.commit.ensures.same_workspace in
    let done = on_ok r (λ is.
    commit_done c.self.inside.begun begun new c.self.inside.workspaces.items c.self.inside.events c.self.inside.end s c.self.view_is
    c.in-Some-begun.is c.commit.ensures.meta c.commit.ensures.upgraded orderly c.self.invariant.1 p w' c.commit.ensures.model c.args.signature
    c.args.message is.0 is.1) made in
    let same = on_err r (λ is.
    grown_same c.self.inside.begun begun new c.self.inside.workspaces.items c.self.inside.events c.self.inside.end s c.self.view_is
    c.in-Some-begun.is c.commit.ensures.meta c.commit.ensures.upgraded orderly c.self.invariant.1 p w' c.commit.ensures.model is.0 is.1) not_made in (
      done,
      same,
      either r made not_made
          (λ is. commit_fit c.self.inside.begun begun new c.self.inside.workspaces.items c.self.inside.events c.self.inside.end s c.self.view_is
          c.in-Some-begun.is c.commit.ensures.meta c.commit.ensures.upgraded orderly c.self.invariant.1 p w' c.commit.ensures.model c.args.signature
          c.args.message c.requires.could is.0 is.1)
          (λ is. grown_same_fit c.self.inside.begun begun new c.self.inside.workspaces.items c.self.inside.events c.self.inside.end s c.self.view_is
          c.in-Some-begun.is c.commit.ensures.meta c.commit.ensures.upgraded orderly c.self.invariant.1 p w' c.commit.ensures.model is.0 is.1),
    )

pub invariant_of-self : goal.invariant_of-self
invariant_of-self c =
    let s = c.args.self.now in
    let begun = c.in-Some-begun.begun in
    let w = c.in-Some-index_mut.workspace in
    let w' = c.commit.new.workspace in
    let after = (goal.at.invariant_of-self c).After-commit in
    let p = place after in
    let is_begun = begun_is c.self.inside.begun begun _ c.self.inside.events c.self.inside.end s c.self.view_is c.in-Some-begun.is in
    let orderly = subst IsOrderly c.self.view_is c.self.invariant.2 in
    let m = outcome after in (
      c.self.invariant.0,
      m.2,
      either_orderly c.commit.result s _ begun.meta (version_event c.args.ws c.args.signature c.args.message) is_begun c.requires.could
          c.requires.spelled orderly m.0 m.1,
      keepers_set c.self.inside.recent c.self.inside.workspaces.items c.in-Some.at (Some w')
          (λ keeps. keeper_before p c.self.inside.recent c.self.invariant.3 (same_keeps w w' c.commit.ensures.model keeps)) c.self.invariant.3,
      keepers_set (sized c.self.inside.sizes.sizes.items) c.self.inside.workspaces.items c.in-Some.at (Some w')
          (λ keeps. keeper_before p (sized c.self.inside.sizes.sizes.items) c.self.invariant.4 (same_keeps w w' c.commit.ensures.model keeps))
          c.self.invariant.4,
    )

pub returns : goal.returns
returns c = let m = outcome (goal.at.returns c).After-commit in record { done = m.0; same = m.1 }
