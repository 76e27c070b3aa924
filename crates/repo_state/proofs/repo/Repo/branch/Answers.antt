-- A further branch, or no memory for it: the repository after it is the plain one's, and else as it was.
use Rattle.std.proofs.Common.{◌≡◌, List, Option, Some, OnErr, OnOk, map, subst}
use Rattle.std.proofs.Math.ListN.{set}
use Rattle.op_form.specs.declared.event.Event.TheVariants.{Branch}
use Rattle.plain_repository.specs.Events.{effect}
use Rattle.plain_repository.specs.Orderly.{IsOrderly}
use Rattle.plain_repository.specs.State.{State}
use Rattle.repo_state.specs.Keeping.{AllFit, plain_any, plain_of}
use Rattle.repo_state.specs.Sizes.{sized}
use Rattle.repo_state.specs.declared.workspace.Workspace.{Workspace}
use Rattle.repo_state.proofs.Changing.{held}
use Rattle.repo_state.proofs.Effects.{Placed, begun_is, both_err, both_ok, either, either_orderly, history_is, keeper_before, on_err, on_ok}
use Rattle.repo_state.proofs.Effects.{placed, placed_there}
use Rattle.repo_state.proofs.Grown.{branch_done, branch_fit, branch_new, grown_same, grown_same_fit, stands_in}
use Rattle.repo_state.proofs.Keepers.{keepers_set, same_keeps}
use Rattle.repo_state.proofs.repo.Repo.branch.Goals.{After-branch-begun}
use Rattle.repo_state.proofs.repo.Repo.branch.Goals as goal

pub branch-begun-requires-clause-base : goal.branch-begun-requires-clause-base
branch-begun-requires-clause-base c =
    let s = c.args.self.now in
    let begun = c.in-Some-begun.begun in
    let w = c.in-Some-index_mut.workspace in
    let p = placed c.self.inside.begun c.self.inside.workspaces.items c.self.inside.events c.self.inside.end c.args.self.now c.args.ws c.in-Some.at
    c.index_mut.result.now _ c.in-Some-index_mut.workspace c.self.view_is c.in-Some.ensures.there.0 c.in-Some.ensures.there.1
    c.index_mut.ensures.value c.in-Some-index_mut.is in
    let is_begun = begun_is c.self.inside.begun begun _ c.self.inside.events c.self.inside.end s c.self.view_is c.in-Some-begun.is in
    let hist = history_is c.self.inside.begun begun _ c.self.inside.events c.self.inside.end s c.self.view_is c.in-Some-begun.is in
    (stands_in s begun.meta begun.history.history c.args.ws (plain_of w) (subst IsOrderly c.self.view_is c.self.invariant.2) is_begun hist
    (placed_there p)).base

pub branch-begun-requires-clause-new : goal.branch-begun-requires-clause-new
branch-begun-requires-clause-new c =
    let s = c.args.self.now in
    let begun = c.in-Some-begun.begun in
    let w = c.in-Some-index_mut.workspace in
    let p = placed c.self.inside.begun c.self.inside.workspaces.items c.self.inside.events c.self.inside.end c.args.self.now c.args.ws c.in-Some.at
    c.index_mut.result.now _ c.in-Some-index_mut.workspace c.self.view_is c.in-Some.ensures.there.0 c.in-Some.ensures.there.1
    c.index_mut.ensures.value c.in-Some-index_mut.is in
    let is_begun = begun_is c.self.inside.begun begun _ c.self.inside.events c.self.inside.end s c.self.view_is c.in-Some-begun.is in
    let hist = history_is c.self.inside.begun begun _ c.self.inside.events c.self.inside.end s c.self.view_is c.in-Some-begun.is in
    branch_new s begun.meta begun.history.history c.args.ws c.args.name is_begun hist c.requires.could

-- ---- after the call
-- the workspace at its position
place : (c : After-branch-begun) → Placed c.self.inside.begun c.self.inside.workspaces.items c.self.inside.events c.self.inside.end c.args.self.now
    c.args.ws c.in-Some.at c.index_mut.result.now c.in-Some-index_mut.workspace
place c =
    placed c.self.inside.begun c.self.inside.workspaces.items c.self.inside.events c.self.inside.end c.args.self.now c.args.ws c.in-Some.at
    c.index_mut.result.now _ c.in-Some-index_mut.workspace c.self.view_is c.in-Some.ensures.there.0 c.in-Some.ensures.there.1
    c.index_mut.ensures.value c.in-Some-index_mut.is

-- its workspaces, and what contracts see of the repository
abbrev workspaces : After-branch-begun → List (Option Workspace)
workspaces c = set c.self.inside.workspaces.items c.in-Some.at (Some c.branch-begun.new.workspace)

abbrev left : After-branch-begun → State
left c = held (Some c.branch-begun.new.self) (map plain_any (workspaces c)) c.self.inside.events c.self.inside.end

-- by its result the event is done, or all is as it was; and the kept models fit
outcome : (c : After-branch-begun) → OnOk c.branch-begun.result (left c ≡ effect c.args.self.now (Branch c.args.ws c.args.name))
    × OnErr c.branch-begun.result (left c ≡ c.args.self.now)
    × AllFit (Some c.branch-begun.new.self) (workspaces c)
outcome c =
    let s = c.args.self.now in
    let begun = c.in-Some-begun.begun in
    let p = place c in
    let new = c.branch-begun.new.self in
    let w' = c.branch-begun.new.workspace in
    let orderly = subst IsOrderly c.self.view_is c.self.invariant.2 in
    let r = c.branch-begun.result in
    let made = both_ok _ _ r c.branch-begun.ensures.branch c.branch-begun.ensures.moved in
    let not_made = both_err _ _ r c.branch-begun.ensures.same c.branch-begun.ensures.same_workspace in
    let done = on_ok r (λ is.
    branch_done c.self.inside.begun begun new c.self.inside.workspaces.items c.self.inside.events c.self.inside.end s c.self.view_is
    c.in-Some-begun.is c.branch-begun.ensures.meta c.branch-begun.ensures.upgraded orderly c.self.invariant.1 p w' c.branch-begun.ensures.model
    c.args.name is.0 is.1) made in
    let same = on_err r (λ is.
    grown_same c.self.inside.begun begun new c.self.inside.workspaces.items c.self.inside.events c.self.inside.end s c.self.view_is
    c.in-Some-begun.is c.branch-begun.ensures.meta c.branch-begun.ensures.upgraded orderly c.self.invariant.1 p w' c.branch-begun.ensures.model
    is.0 is.1) not_made in (
      done,
      same,
      either r made not_made
          (λ is. branch_fit c.self.inside.begun begun new c.self.inside.workspaces.items c.self.inside.events c.self.inside.end s c.self.view_is
          c.in-Some-begun.is c.branch-begun.ensures.meta c.branch-begun.ensures.upgraded orderly c.self.invariant.1 p w' c.branch-begun.ensures.model
          c.args.name is.0 is.1)
          (λ is. grown_same_fit c.self.inside.begun begun new c.self.inside.workspaces.items c.self.inside.events c.self.inside.end s c.self.view_is
          c.in-Some-begun.is c.branch-begun.ensures.meta c.branch-begun.ensures.upgraded orderly c.self.invariant.1 p w' c.branch-begun.ensures.model
          is.0 is.1),
    )

pub invariant_of-self : goal.invariant_of-self
invariant_of-self c =
    let s = c.args.self.now in
    let begun = c.in-Some-begun.begun in
    let w = c.in-Some-index_mut.workspace in
    let w' = c.branch-begun.new.workspace in
    let after = (goal.at.invariant_of-self c).After-branch-begun in
    let p = place after in
    let is_begun = begun_is c.self.inside.begun begun _ c.self.inside.events c.self.inside.end s c.self.view_is c.in-Some-begun.is in
    let orderly = subst IsOrderly c.self.view_is c.self.invariant.2 in
    let m = outcome after in (
      c.self.invariant.0,
      m.2,
      either_orderly c.branch-begun.result s _ begun.meta (Branch c.args.ws c.args.name) is_begun c.requires.could c.requires.spelled orderly m.0 m.1,
      keepers_set c.self.inside.recent c.self.inside.workspaces.items c.in-Some.at (Some w')
          (λ keeps. keeper_before p c.self.inside.recent c.self.invariant.3 (same_keeps w w' c.branch-begun.ensures.model keeps)) c.self.invariant.3,
      keepers_set (sized c.self.inside.sizes.sizes.items) c.self.inside.workspaces.items c.in-Some.at (Some w')
          (λ keeps. keeper_before p (sized c.self.inside.sizes.sizes.items) c.self.invariant.4 (same_keeps w w' c.branch-begun.ensures.model keeps))
          c.self.invariant.4,
    )

pub returns : goal.returns
returns c = let m = outcome (goal.at.returns c).After-branch-begun in record { done = m.0; same = m.1 }
