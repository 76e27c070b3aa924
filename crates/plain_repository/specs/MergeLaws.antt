-- What tidying, updates, merges and reverts make of a working model.
use Rattle.std.specs.Prelude.{◌≡◌, ℕ, ◌==◌, not, List, [], ◌++◌, map, Option, None, Some, IsTrue}
use Rattle.std.specs.List.{filter}
use Rattle.ecore_meta.specs.Meta.{Meta}
use Rattle.model_state.specs.State.{nothing}
use Rattle.model_state.specs.Packages.{fold_package}
use Rattle.history_tree.specs.History.{History, head, path}
use Rattle.history_tree.specs.Found.{branch_named}
use Rattle.history_tree.specs.States.{operations_of, state_of}
use Rattle.history_tree.specs.MergeBase.{merge_base}
use Rattle.merge_laws.specs.Merge.{merged}
use Rattle.merge_laws.specs.ThreeWay.{IsMerge, LosesNothing}
use Rattle.op_form.specs.declared.event.Event.{Event}
use Rattle.op_form.specs.declared.event.Event.TheVariants.{Tidy, Update, Merge}
use Rattle.script_lang.specs.declared.command.Command.TheVariants as commands
use Rattle.plain_repository.specs.State.{State, Workspace, workspace_of, model_of}
use Rattle.merge_laws.specs.Choices.{side_of}
use Rattle.merge_laws.specs.Plans.{theirs_of_update}
use Rattle.plain_repository.specs.Merging.{update_buckets, merge_theirs, merge_mine, merge_buckets}
use Rattle.plain_repository.specs.Events.{play, playable}
use Rattle.plain_repository.specs.Repository.{decide_command}
use Rattle.plain_repository.specs.Laws.{HasMetamodel}

-- a workspace before and after an event that could be made
pub record Changes (s : State) (meta : Meta) (ws : ℕ) (event : Event) (before after : Workspace) : Type 0 where
  pub in_state : HasMetamodel s meta
  pub could : IsTrue (playable s event)
  pub there : workspace_of s ws ≡ Some before
  pub then_there : workspace_of (play s event) ws ≡ Some after

-- tidying leaves the working model
abbrev pub TidyingKeepsModels : Type 0
TidyingKeepsModels = (s : State) (meta : Meta) (ws : ℕ) (before after : Workspace) → Changes s meta ws (Tidy ws) before after
    → model_of meta (play s (Tidy ws)).history after ≡ model_of meta s.history before

-- An update leads to the merged model. That is, from the state of the old base, what the choices keep of theirs, and then what
-- they keep of mine.
abbrev pub UpdatesMerge : Type 0
UpdatesMerge = (s : State) (meta : Meta) (ws : ℕ) (letters : List ℕ) (before after : Workspace) → Changes s meta ws (Update ws letters) before after
    → merged meta (state_of meta s.history before.base) (theirs_of_update s.history before.branch before.base) before.operations
    (update_buckets meta s.history before) (map side_of letters)
    ≡ Some (model_of meta (play s (Update ws letters)).history after)

-- A merge leads to the merged model. That is, from the state of the version where it begins, what the choices keep of theirs, and
-- then of mine.
abbrev pub MergesMerge : Type 0
MergesMerge = (s : State) (meta : Meta) (ws branch : ℕ) (letters : List ℕ) (before after : Workspace) → Changes s meta ws (Merge ws branch letters) before after
    → let other = head s.history branch in
    merged meta (state_of meta s.history (merge_base s.history before.base before.pending other)) (merge_theirs s.history before other)
    (merge_mine meta s.history before other) (merge_buckets meta s.history before other) (map side_of letters)
    ≡ Some (model_of meta (play s (Merge ws branch letters)).history after)

-- An update makes of the state of the old base, the state of the branch's head and the working model before it their three-way
-- merge. Where theirs and mine conflict, the letters choose.
abbrev pub UpdatesAreThreeWay : Type 0
UpdatesAreThreeWay = (s : State) (meta : Meta) (ws : ℕ) (letters : List ℕ) (before after : Workspace) → Changes s meta ws (Update ws letters) before after
    → let h = s.history in
    IsMerge meta (state_of meta h before.base) (state_of meta h (head h before.branch)) (model_of meta h before)
    (model_of meta (play s (Update ws letters)).history after)
    (theirs_of_update h before.branch before.base) before.operations (map side_of letters)

-- A merge does so of the state of the version where it begins, the state of the other branch's head and the working model.
abbrev pub MergesAreThreeWay : Type 0
MergesAreThreeWay = (s : State) (meta : Meta) (ws branch : ℕ) (letters : List ℕ) (before after : Workspace)
    → Changes s meta ws (Merge ws branch letters) before after
    → let h = s.history in
    let other = head h branch in
    IsMerge meta (state_of meta h (merge_base h before.base before.pending other)) (state_of meta h other) (model_of meta h before)
    (model_of meta (play s (Merge ws branch letters)).history after)
    (merge_theirs h before other) (merge_mine meta h before other) (map side_of letters)

-- without a conflict, an update loses nothing that was committed and nothing of the working model
abbrev pub UpdatesLoseNothing : Type 0
UpdatesLoseNothing = (s : State) (meta : Meta) (ws : ℕ) (letters : List ℕ) (before after : Workspace) → Changes s meta ws (Update ws letters) before after
    → update_buckets meta s.history before ≡ []
    → let h = s.history in
    LosesNothing (state_of meta h before.base) (state_of meta h (head h before.branch)) (model_of meta h before)
    (model_of meta (play s (Update ws letters)).history after)

-- nor does a merge
abbrev pub MergesLoseNothing : Type 0
MergesLoseNothing = (s : State) (meta : Meta) (ws branch : ℕ) (letters : List ℕ) (before after : Workspace)
    → Changes s meta ws (Merge ws branch letters) before after
    → let h = s.history in
    let other = head h branch in
    merge_buckets meta h before other ≡ []
    → LosesNothing (state_of meta h (merge_base h before.base before.pending other)) (state_of meta h other) (model_of meta h before)
    (model_of meta (play s (Merge ws branch letters)).history after)

-- so does an update that is given no letters and makes an event
abbrev pub UnaskedUpdatesLoseNothing : Type 0
UnaskedUpdatesLoseNothing = (s : State) (meta : Meta) (ws : ℕ) (block : Option (List ℕ)) (event : Event) (before after : Workspace)
    → (decide_command s block (commands.Update ws None)).event ≡ Some event → Changes s meta ws event before after
    → let h = s.history in
    LosesNothing (state_of meta h before.base) (state_of meta h (head h before.branch)) (model_of meta h before)
    (model_of meta (play s event).history after)

-- and a merge
abbrev pub UnaskedMergesLoseNothing : Type 0
UnaskedMergesLoseNothing = (s : State) (meta : Meta) (ws : ℕ) (name : List ℕ) (block : Option (List ℕ)) (event : Event) (before after : Workspace)
    → (decide_command s block (commands.Merge ws name None)).event ≡ Some event → Changes s meta ws event before after
    → (branch : ℕ) × (branch_named s.history name ≡ Some branch)
    × LosesNothing (state_of meta s.history (merge_base s.history before.base before.pending (head s.history branch)))
    (state_of meta s.history (head s.history branch)) (model_of meta s.history before) (model_of meta (play s event).history after)

-- a merge counts the version as merged: the next merge of it finds nothing
abbrev pub MergesCount : Type 0
MergesCount = (s : State) (meta : Meta) (ws branch : ℕ) (letters : List ℕ) (before after : Workspace) → Changes s meta ws (Merge ws branch letters) before after
    → merge_theirs (play s (Merge ws branch letters)).history after (head (play s (Merge ws branch letters)).history branch) ≡ []

-- the versions on a version's path but for one
abbrev pub path_without : History → ℕ → ℕ → List ℕ
path_without h v last = filter (λ u. not (u == v)) (path h last)

-- a revert leads to what the versions up to the base but for the one that is reverted, and then the local operations, lead to
abbrev pub RevertsTakeOut : Type 0
RevertsTakeOut = (s : State) (meta : Meta) (ws v : ℕ) (block : Option (List ℕ)) (event : Event) (before after : Workspace)
    → (decide_command s block (commands.Revert ws v)).event ≡ Some event → Changes s meta ws event before after
    → fold_package meta nothing (operations_of s.history.versions (path_without s.history v before.base) ++ before.operations) ≡ Some
    (model_of meta (play s event).history after)
