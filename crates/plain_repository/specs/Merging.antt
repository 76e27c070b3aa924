-- Many people edit one model: the commands `update` and `merge`, and the events Update and Merge.
use Rattle.std.specs.Prelude.{ℕ, ◌==◌, ◌&&◌, nat_lt, not, List, [], ◌∷◌, ◌++◌, map, Bool, false, length, Option, Some, None, unwrap_or, if◌then◌else◌}
use Rattle.std.specs.Fmt.{decimal}
use Rattle.ecore_meta.specs.Meta.{Meta}
use Rattle.model_state.specs.declared.operation.Operation.{Operation}
use Rattle.history_tree.specs.History.{History, head}
use Rattle.history_tree.specs.Found.{branch_named}
use Rattle.footprint.specs.declared.bucket.Bucket.{Bucket}
use Rattle.footprint.specs.Buckets.{buckets}
use Rattle.merge_laws.specs.Tidy.{tidy}
use Rattle.merge_laws.specs.Merge.{update_list, merge_list}
use Rattle.merge_laws.specs.Choices.{are_choices, side_of}
use Rattle.merge_laws.specs.Plans.{theirs_of_update, theirs_of_merge, mine_of_merge}
use Rattle.op_form.specs.declared.event.Event.TheVariants as events
use Rattle.script_lang.specs.declared.reply.Refusal.TheVariants as refusals
use Rattle.plain_repository.specs.State.{State, Workspace, workspace_of, is_open, is_closed}
use Rattle.plain_repository.specs.Answers.{Decision, refused, told, with_room}
use Rattle.plain_repository.specs.Choices.{chosen}

-- ---- Update
-- the buckets of an update; mine are the local operations
abbrev pub update_buckets : Meta → History → Workspace → List Bucket
update_buckets meta h w = buckets meta (theirs_of_update h w.branch w.base) w.operations

-- the base is the head, and the local operations are what theirs and mine leave by the choices
abbrev pub updated : Meta → History → List ℕ → Workspace → Workspace
updated meta h letters w =
    record w {
      base = head h w.branch;
      operations =
          update_list (theirs_of_update h w.branch w.base) w.operations (update_buckets meta h w) (map side_of letters);
    }

-- no composite is open, the base is not the head, and the choices fit
abbrev pub can_update : Meta → History → List ℕ → Option Workspace → Bool
can_update meta h letters None = false
can_update meta h letters (Some w) = is_closed (Some w) && not (w.base == head h w.branch) && are_choices letters (update_buckets meta h w)

-- nothing changes where the base is the head
abbrev pub update_to : State → ℕ → Workspace → List ℕ → ℕ → Decision
update_to s ws w letters version = if w.base == version then told [] (decimal version) else with_room s [] (decimal version) (events.Update ws letters)

-- the same, where no composite is open and the choices fit
abbrev pub update_in : State → Meta → ℕ → Option (List ℕ) → Option Workspace → Decision
update_in s meta ws choices None = refused refusals.NoWorkspace
update_in s meta ws choices (Some w) =
    if is_open (Some w) then refused refusals.CompositeOpen
    else chosen (update_buckets meta s.history w) choices (update_to s ws w (unwrap_or choices []) (head s.history w.branch))

-- `update WS [CHOICES]`: the workspace stands at its branch's head, with its operations after those that were brought in
unfoldable pub decide_update : State → Meta → ℕ → Option (List ℕ) → Decision
decide_update s meta ws choices = update_in s meta ws choices (workspace_of s ws)

-- ---- Merge
-- theirs of a merge into a workspace
abbrev pub merge_theirs : History → Workspace → ℕ → List Operation
merge_theirs h w other = theirs_of_merge h w.base w.pending other

-- and mine, tidied
abbrev pub merge_mine : Meta → History → Workspace → ℕ → List Operation
merge_mine meta h w other = tidy meta (mine_of_merge h w.base w.pending w.operations other)

-- the buckets of a merge
abbrev pub merge_buckets : Meta → History → Workspace → ℕ → List Bucket
merge_buckets meta h w other = buckets meta (merge_theirs h w other) (merge_mine meta h w other)

-- what a merge appends to the local operations
abbrev pub merge_tail : Meta → History → Workspace → ℕ → List ℕ → List Operation
merge_tail meta h w other letters = merge_list (merge_theirs h w other) (merge_mine meta h w other) (merge_buckets meta h w other) (map side_of letters)

-- what theirs and mine leave by the choices comes after the local operations, and the version is pending
abbrev pub merged_with : Meta → History → ℕ → List ℕ → Workspace → Workspace
merged_with meta h other letters w = record w { operations = w.operations ++ merge_tail meta h w other letters; pending = w.pending ++ other ∷ [] }

-- the branch is there, and another than the workspace's
abbrev pub is_other_branch : History → Workspace → ℕ → Bool
is_other_branch h w branch = nat_lt branch (length h.branches) && not (branch == w.branch)

-- there is something to merge
abbrev pub has_theirs : History → Workspace → ℕ → Bool
has_theirs h w other = nat_lt 0 (length (merge_theirs h w other))

-- no composite is open, the branch is another, its head has something to merge, and the choices fit
abbrev pub can_merge : Meta → History → ℕ → List ℕ → Option Workspace → Bool
can_merge meta h branch letters None = false
can_merge meta h branch letters (Some w) =
    is_closed (Some w) && is_other_branch h w branch && has_theirs h w (head h branch) && are_choices letters (merge_buckets meta h w (head h branch))

-- nothing changes where there is nothing to merge
abbrev pub merge_to : State → ℕ → Workspace → ℕ → List ℕ → ℕ → Decision
merge_to s ws w branch letters other =
    if has_theirs s.history w other then with_room s [] (decimal other) (events.Merge ws branch letters) else told [] (decimal other)

-- the same, where the branch is there, and another, and the choices fit
abbrev pub merge_named : State → Meta → ℕ → Workspace → Option (List ℕ) → Option ℕ → Decision
merge_named s meta ws w choices None = refused refusals.NoBranch
merge_named s meta ws w choices (Some branch) =
    if branch == w.branch then refused refusals.SameBranch
    else chosen (merge_buckets meta s.history w (head s.history branch)) choices (merge_to s ws w branch (unwrap_or choices []) (head s.history branch))

-- the same, where no composite is open
abbrev pub merge_in : State → Meta → ℕ → List ℕ → Option (List ℕ) → Option Workspace → Decision
merge_in s meta ws name choices None = refused refusals.NoWorkspace
merge_in s meta ws name choices (Some w) =
    if is_open (Some w) then refused refusals.CompositeOpen
    else merge_named s meta ws w choices (branch_named s.history name)

-- `merge WS BRANCH [CHOICES]`: the other branch's operations come after the workspace's
unfoldable pub decide_merge : State → Meta → ℕ → List ℕ → Option (List ℕ) → Decision
decide_merge s meta ws name choices = merge_in s meta ws name choices (workspace_of s ws)
