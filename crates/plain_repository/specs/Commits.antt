-- The history grows: the commands `commit`, `signed`, `upgrade`, `branch` and `tag`, and the events Commit, Signed, Upgrade, Branch
-- and Tag.
use Rattle.std.specs.Prelude.{ℕ, ◌&&◌, ◌==◌, nat_lt, not, List, [], Bool, true, false, length, Option, Some, None, is_some, option_map, unwrap_or}
use Rattle.std.specs.Prelude.{Result, Ok, Err, if◌then◌else◌}
use Rattle.std.specs.Fmt.{decimal}
use Rattle.model_state.specs.Names.{is_name}
use Rattle.history_tree.specs.declared.version.Signature.{Signature}
use Rattle.history_tree.specs.declared.version.Version.{Version}
use Rattle.history_tree.specs.declared.found.Found.{Found}
use Rattle.history_tree.specs.declared.found.FindFault.{FindFault}
use Rattle.history_tree.specs.History.{History, head, with_version, with_branch, with_tag}
use Rattle.history_tree.specs.Found.{branch_named, has_tag}
use Rattle.op_form.specs.declared.event.Event.{Event}
use Rattle.op_form.specs.declared.event.Event.TheVariants as events
use Rattle.script_lang.specs.declared.command.Spec.{Spec}
use Rattle.script_lang.specs.declared.reply.Refusal.TheVariants as refusals
use Rattle.plain_repository.specs.State.{State, Workspace, workspace_of, with_changed, is_closed, is_open, has_local}
use Rattle.plain_repository.specs.Answers.{Decision, refused, told, with_room}
use Rattle.plain_repository.specs.Specs.{found_by_spec, unknown}

-- ---- Commit and Signed
-- the version that a workspace's operations make
abbrev pub version_of : Workspace → Option Signature → List ℕ → Version
version_of w signature message = record {
  branch = w.branch;
  parent = Some w.base;
  merged = w.pending;
  author = option_map (λ s. s.author) signature;
  moment = option_map (λ s. s.moment) signature;
  message = message;
  «package» = w.operations;
}

-- the workspace stands at the version that was made of it, with nothing local
abbrev pub committed : ℕ → Workspace → Workspace
committed version w = record w { base = version; operations = []; pending = [] }

-- the event by which a workspace makes a version: Signed where there is a signature
abbrev pub version_event : ℕ → Option Signature → List ℕ → Event
version_event ws None message = events.Commit ws message
version_event ws (Some x) message = events.Signed ws x.author x.moment message

-- the history has the version more, and the workspace stands at it
abbrev pub with_commit : ℕ → Option Signature → List ℕ → Option Workspace → State → State
with_commit ws signature message None s = s
with_commit ws signature message (Some w) s =
    record (with_changed (committed (length s.history.versions)) ws s) { history = with_version s.history (version_of w signature message) }

-- the base is the head, no composite is open, and there is something for a version
abbrev pub can_commit : History → Option Workspace → Bool
can_commit h None = false
can_commit h (Some w) = (w.base == head h w.branch) && is_closed (Some w) && has_local (Some w)

-- the new version's number, where the base is the head, no composite is open and there is something for a version
abbrev pub version_made : State → Workspace → Event → Decision
version_made s w event =
    if not (w.base == head s.history w.branch) then refused (refusals.Stale w.base (head s.history w.branch))
    else if is_open (Some w) then refused refusals.CompositeOpen
    else if has_local (Some w) then with_room s [] (decimal (length s.history.versions)) event
    else refused refusals.NothingLocal

-- the same, where the store is not upgraded
abbrev pub commit_in : State → ℕ → List ℕ → Option Workspace → Decision
commit_in s ws message None = refused refusals.NoWorkspace
commit_in s ws message (Some w) = if s.upgraded then refused refusals.Unsigned else version_made s w (events.Commit ws message)

-- the same, where the store is upgraded
abbrev pub signed_in : State → ℕ → List ℕ → ℕ → List ℕ → Option Workspace → Decision
signed_in s ws author moment message None = refused refusals.NoWorkspace
signed_in s ws author moment message (Some w) = if s.upgraded then version_made s w (events.Signed ws author moment message) else refused refusals.OldForm

-- `commit WS [MESSAGE]`: the local operations are a new version
unfoldable pub decide_commit : State → ℕ → Option (List ℕ) → Decision
decide_commit s ws message = commit_in s ws (unwrap_or message []) (workspace_of s ws)

-- `signed WS AUTHOR MOMENT [MESSAGE]`: the same, with author and moment
unfoldable pub decide_signed : State → ℕ → List ℕ → ℕ → Option (List ℕ) → Decision
decide_signed s ws author moment message = signed_in s ws author moment (unwrap_or message []) (workspace_of s ws)

-- ---- Upgrade
-- the store is upgraded
abbrev pub with_upgrade : State → State
with_upgrade s = record s { upgraded = true }

-- `upgrade`: each later version is signed
unfoldable pub decide_upgrade : State → Decision
decide_upgrade s = if s.upgraded then told [] [] else with_room s [] [] events.Upgrade

-- ---- Branch
-- the workspace is on that branch
abbrev pub moved_onto : ℕ → Workspace → Workspace
moved_onto branch w = record w { branch = branch }

-- the history has the branch more, which starts at the workspace's base, and the workspace is on it
abbrev pub with_new_branch : ℕ → List ℕ → Option Workspace → State → State
with_new_branch ws name None s = s
with_new_branch ws name (Some w) s = record (with_changed (moved_onto (length s.history.branches)) ws s) { history = with_branch s.history name w.base }

-- no branch has that name
abbrev pub is_new_branch : History → List ℕ → Bool
is_new_branch h name = not (is_some (branch_named h name))

-- a branch at the base, where no composite is open and the name is new
abbrev pub branch_in : State → ℕ → List ℕ → Option Workspace → Decision
branch_in s ws name None = refused refusals.NoWorkspace
branch_in s ws name (Some w) =
    if is_open (Some w) then refused refusals.CompositeOpen
    else if is_new_branch s.history name then with_room s [] [] (events.Branch ws name)
    else refused refusals.BranchExists

-- `branch WS NAME`: a branch that starts at the base, and the workspace is on it
unfoldable pub decide_branch : State → ℕ → List ℕ → Decision
decide_branch s ws name = branch_in s ws name (workspace_of s ws)

-- ---- Tag
-- the history has the tag more
abbrev pub with_new_tag : List ℕ → ℕ → State → State
with_new_tag name version s = record s { history = with_tag s.history name version }

-- the name is one, and new, and the version is there
abbrev pub can_tag : History → List ℕ → ℕ → Bool
can_tag h name version = is_name name && not (has_tag h name) && nat_lt version (length h.versions)

-- a tag of the version that was found
abbrev pub tag_found : State → List ℕ → Result Found FindFault → Decision
tag_found s name (Err fault) = refused (unknown fault)
tag_found s name (Ok found) = with_room s [] [] (events.Tag name found.version)

-- `tag NAME SPEC`: a tag of the version, where the name is new
unfoldable pub decide_tag : State → List ℕ → Spec → Decision
decide_tag s name spec = if has_tag s.history name then refused refusals.TagExists else tag_found s name (found_by_spec s.history spec)
