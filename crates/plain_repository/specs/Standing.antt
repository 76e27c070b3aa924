-- Where each event leaves a workspace, and what the version that a commit makes keeps. Each record names all five fields of a
-- workspace, or all seven of a version, so what it doesn't change it says to stay.
use Rattle.std.specs.Prelude.{◌≡◌, ◌⊎◌, ℕ, suc, ◌<◌, ◌≤◌, false, List, [], ◌∷◌, ◌++◌, map, length, Option, None, Some, IsTrue, codes, slice_get}
use Rattle.std.specs.List.{flat_map}
use Rattle.command_runs.specs.Runs.{played}
use Rattle.ecore_meta.specs.Meta.{Meta}
use Rattle.model_state.specs.Packages.{steps_all}
use Rattle.model_state.specs.declared.step.Step.{Step}
use Rattle.model_state.specs.declared.operation.Operation.{Operation}
use Rattle.model_state.specs.declared.operation.Operation.TheVariants as operations
use Rattle.history_tree.specs.declared.version.Version.{Version}
use Rattle.history_tree.specs.History.{History, head}
use Rattle.history_tree.specs.declared.version.Signature.{Signature}
use Rattle.footprint.specs.Buckets.{buckets}
use Rattle.merge_laws.specs.ChoiceLaws.{IsUpdateOf, IsMergeOf}
use Rattle.merge_laws.specs.Plans.{theirs_of_update, theirs_of_merge, mine_of_merge}
use Rattle.merge_laws.specs.Tidy.{tidy}
use Rattle.op_form.specs.declared.event.Event.{Event}
use Rattle.op_form.specs.declared.event.Event.TheVariants.{Init, Checkout, Edit, Begin, End, Undo, Discard, Tidy, Commit, Branch, Tag}
use Rattle.op_form.specs.declared.event.Event.TheVariants.{Update, Merge, Evolve, Signed}
use Rattle.plain_repository.specs.State.{State, Composite, Workspace, workspace_of}
use Rattle.plain_repository.specs.Commits.{version_event}
use Rattle.plain_repository.specs.Events.{is_of, play, playable}
use Rattle.plain_repository.specs.Orderly.{IsOrderly}
use Rattle.plain_repository.specs.Laws.{IsReached, HasMetamodel}
use Rattle.plain_repository.specs.EffectLaws.{CouldBeIn}
use Rattle.plain_repository.specs.MergeLaws.{Changes}

-- the workspace of that number is there after the event, and is such
pub record Leaves (s : State) (event : Event) (ws : ℕ) (Such : Workspace → Type 0) : Type 0 where
  pub after : Workspace
  pub there : workspace_of (play s event) ws ≡ Some after
  pub such : Such after

-- each event of that kind that could be made leads its workspace there, by the metamodel, the history and the workspace before it
abbrev pub Lead : (ℕ → Event) → (Meta → History → Workspace → Workspace → Type 0) → Type 0
Lead event_of There = (s : State) (meta : Meta) (ws : ℕ) (before : Workspace) → CouldBeIn s meta ws before (event_of ws)
    → Leaves s (event_of ws) ws (There meta s.history before)

-- it stands at the same version, on the same branch, and the same versions are pending
pub record StandsStill (before after : Workspace) : Type 0 where
  pub branch : after.branch ≡ before.branch
  pub base : after.base ≡ before.base
  pub pending : after.pending ≡ before.pending

-- no composite is open, before and after
pub record StaysShut (before after : Workspace) : Type 0 where
  pub was : before.composite ≡ None
  pub is : after.composite ≡ None

-- it stands at that version of that branch, and nothing is local: nothing recorded, no composite open and no version pending
pub record IsUntouched (on at : ℕ) (w : Workspace) : Type 0 where
  pub branch : w.branch ≡ on
  pub base : w.base ≡ at
  pub operations : w.operations ≡ []
  pub composite : w.composite ≡ None
  pub pending : w.pending ≡ []

-- ---- what is recorded
-- the operations come after the others; while a composite is open their steps come after its steps
pub record IsEdited (more : List Operation) (before after : Workspace) : Type 0 where
  pub stands : StandsStill before after
  pub shut : before.composite ≡ None → (after.composite ≡ None) × (after.operations ≡ before.operations ++ more)
  pub opened : (open_one : Composite) → before.composite ≡ Some open_one
      → (after.composite ≡ Some (record { name = open_one.name; steps = open_one.steps ++ steps_all more })) × (after.operations ≡ before.operations)

abbrev pub EditsStand : Type 0
EditsStand = (more : List Operation) → Lead (λ ws. Edit ws more) (λ meta h. IsEdited more)

-- a composite of that name is open where none was, without a step
pub record HasBegun (name : List ℕ) (before after : Workspace) : Type 0 where
  pub stands : StandsStill before after
  pub operations : after.operations ≡ before.operations
  pub shut : before.composite ≡ None
  pub opened : after.composite ≡ Some (record { name = name; steps = [] })

abbrev pub BeginsStand : Type 0
BeginsStand = (name : List ℕ) → Lead (λ ws. Begin ws name) (λ meta h. HasBegun name)

-- the steps of a composite are one operation more, of its name; without steps there is none
pub record HasEnded (name : List ℕ) (steps : List Step) (before after : Workspace) : Type 0 where
  pub stands : StandsStill before after
  pub some : 0 < length steps → after.operations ≡ before.operations ++ operations.Composite name steps ∷ []
  pub none : steps ≡ [] → after.operations ≡ before.operations
  pub shut : after.composite ≡ None

-- so it is with the one that is open
pub record EndsOpen (before after : Workspace) : Type 0 where
  pub open_one : Composite
  pub opened : before.composite ≡ Some open_one
  pub ended : HasEnded open_one.name open_one.steps before after

abbrev pub EndsStand : Type 0
EndsStand = Lead (λ ws. End ws) (λ meta h. EndsOpen)

-- a composite from its beginning to its end, with these packages in between
abbrev pub whole_composite : ℕ → List ℕ → List (List Operation) → List Event
whole_composite ws name packages = Begin ws name ∷ map (λ more. Edit ws more) packages ++ End ws ∷ []

-- it is one operation of its name, with all steps that were recorded in between
abbrev pub CompositesAreOne : Type 0
CompositesAreOne = (s : State) (ws : ℕ) (before : Workspace) → workspace_of s ws ≡ Some before → before.composite ≡ None
    → (name : List ℕ) (packages : List (List Operation))
    → (after : Workspace) × (workspace_of (played play s (whole_composite ws name packages)) ws ≡ Some after)
    × HasEnded name (flat_map steps_all packages) before after

-- the last operation is dropped
pub record IsUndone (before after : Workspace) : Type 0 where
  pub stands : StandsStill before after
  pub last : Operation
  pub operations : before.operations ≡ after.operations ++ last ∷ []
  pub shut : StaysShut before after

abbrev pub UndosStand : Type 0
UndosStand = Lead (λ ws. Undo ws) (λ meta h. IsUndone)

-- nothing is local any more
abbrev pub DiscardsStand : Type 0
DiscardsStand = Lead (λ ws. Discard ws) (λ meta h before. IsUntouched before.branch before.base)

-- the operations are tidied
pub record IsTidied (meta : Meta) (before after : Workspace) : Type 0 where
  pub stands : StandsStill before after
  pub operations : after.operations ≡ tidy meta before.operations
  pub shut : StaysShut before after

abbrev pub TidiesStand : Type 0
TidiesStand = Lead (λ ws. Tidy ws) (λ meta h. IsTidied meta)

-- ---- where it stands
-- a checkout makes the workspace of the next number, at that version, on that branch
pub record ChecksOut (s : State) (event : Event) (version branch : ℕ) : Type 0 where
  pub numbers : length (play s event).workspaces ≡ suc (length s.workspaces)
  pub leaves : Leaves s event (suc (length s.workspaces)) (IsUntouched branch version)

abbrev pub CheckoutsStand : Type 0
CheckoutsStand = (s : State) (meta : Meta) → HasMetamodel s meta → (version branch : ℕ) → IsTrue (playable s (Checkout version branch))
    → ChecksOut s (Checkout version branch) version branch

-- the workspace is on that branch, and all else of it stays
pub record IsMovedOnto (onto : ℕ) (before after : Workspace) : Type 0 where
  pub branch : after.branch ≡ onto
  pub base : after.base ≡ before.base
  pub operations : after.operations ≡ before.operations
  pub shut : StaysShut before after
  pub pending : after.pending ≡ before.pending

-- there is one branch more, which starts at the workspace's base, and the workspace is on it
pub record MakesBranch (s : State) (ws : ℕ) (name : List ℕ) (before : Workspace) : Type 0 where
  pub made : (play s (Branch ws name)).history.branches ≡ s.history.branches ++ record { name = name; start = before.base } ∷ []
  pub leaves : Leaves s (Branch ws name) ws (IsMovedOnto (length s.history.branches) before)

abbrev pub BranchesStand : Type 0
BranchesStand = (s : State) (meta : Meta) (ws : ℕ) (name : List ℕ) (before : Workspace) → CouldBeIn s meta ws before (Branch ws name)
    → MakesBranch s ws name before

-- the base is the head, and the local list is what the letters leave of theirs and mine: the operations up to the head, and the local ones
pub record IsUpdated (meta : Meta) (h : History) (letters : List ℕ) (before after : Workspace) : Type 0 where
  pub branch : after.branch ≡ before.branch
  pub base : after.base ≡ head h before.branch
  pub operations : let theirs = theirs_of_update h before.branch before.base in
      IsUpdateOf theirs before.operations (buckets meta theirs before.operations) letters after.operations
  pub shut : StaysShut before after
  pub pending : after.pending ≡ before.pending

abbrev pub UpdatesStand : Type 0
UpdatesStand = (letters : List ℕ) → Lead (λ ws. Update ws letters) (λ meta h. IsUpdated meta h letters)

-- What the letters leave of theirs and mine comes after the local list, and the other version is pending after the others. Mine, tidied,
-- leads from where the merge begins to the working model.
pub record HasMerged (meta : Meta) (h : History) (other : ℕ) (letters : List ℕ) (before after : Workspace) : Type 0 where
  pub branch : after.branch ≡ before.branch
  pub base : after.base ≡ before.base
  pub more : List Operation
  pub more_are : let theirs = theirs_of_merge h before.base before.pending other in
      let mine = tidy meta (mine_of_merge h before.base before.pending before.operations other) in IsMergeOf theirs mine (buckets meta theirs mine) letters more
  pub operations : after.operations ≡ before.operations ++ more
  pub shut : StaysShut before after
  pub pending : after.pending ≡ before.pending ++ other ∷ []

abbrev pub MergesStand : Type 0
MergesStand = (branch : ℕ) (letters : List ℕ) → Lead (λ ws. Merge ws branch letters) (λ meta h. HasMerged meta h (head h branch) letters)

-- ---- versions
-- what a version keeps of the workspace that it was made of: its branch, its base as the parent, its pending versions as the merged
-- ones, and its local operations as the package
pub record IsVersionOf (w : Workspace) (author : Option (List ℕ)) (moment : Option ℕ) (message : List ℕ) (version : Version) : Type 0 where
  pub branch : version.branch ≡ w.branch
  pub parent : version.parent ≡ Some w.base
  pub merged : version.merged ≡ w.pending
  pub author_is : version.author ≡ author
  pub moment_is : version.moment ≡ moment
  pub message_is : version.message ≡ message
  pub package_is : version.«package» ≡ w.operations

-- there is one version more, the workspace's; it is the head of its branch, and the workspace stands at it with nothing local
pub record IsCommitted (s : State) (event : Event) (ws : ℕ) (before : Workspace) (author : Option (List ℕ)) (moment : Option ℕ) (message : List ℕ)
    : Type 0 where
  pub version : Version
  pub is_of : IsVersionOf before author moment message version
  pub made : (play s event).history.versions ≡ s.history.versions ++ version ∷ []
  pub at_head : head (play s event).history before.branch ≡ length s.history.versions
  pub shut : before.composite ≡ None
  pub leaves : Leaves s event ws (IsUntouched before.branch (length s.history.versions))

abbrev pub CommitsStand : Type 0
CommitsStand = (s : State) (meta : Meta) (ws : ℕ) (message : List ℕ) (before : Workspace) → CouldBeIn s meta ws before (Commit ws message)
    → IsCommitted s (Commit ws message) ws before None None message

abbrev pub SignedStand : Type 0
SignedStand = (s : State) (meta : Meta) (ws : ℕ) (author : List ℕ) (moment : ℕ) (message : List ℕ) (before : Workspace)
    → CouldBeIn s meta ws before (Signed ws author moment message)
    → IsCommitted s (Signed ws author moment message) ws before (Some author) (Some moment) message

-- version 0: on the first branch, without a parent, and with nothing in it
pub record IsFirst (version : Version) : Type 0 where
  pub branch : version.branch ≡ 0
  pub parent : version.parent ≡ None
  pub merged : version.merged ≡ []
  pub author : version.author ≡ None
  pub moment : version.moment ≡ None
  pub message : version.message ≡ []
  pub package_is : version.«package» ≡ []

-- there is version 0 on `trunk`, no tag and no workspace
pub record Starts (s : State) : Type 0 where
  pub first : Version
  pub is_first : IsFirst first
  pub versions : s.history.versions ≡ first ∷ []
  pub branches : s.history.branches ≡ record { name = codes "trunk"; start = 0 } ∷ []
  pub tags : s.history.tags ≡ []
  pub workspaces : s.workspaces ≡ []

abbrev pub InitsStand : Type 0
InitsStand = (s : State) → IsOrderly s → (text : List ℕ) → IsTrue (playable s (Init text)) → Starts (play s (Init text))

-- ---- pending versions
-- a commit or a discard of that workspace
abbrev pub IsCommitOrDiscard : ℕ → Event → Type 0
IsCommitOrDiscard ws event = ((signature : Option Signature) × (message : List ℕ) × (event ≡ version_event ws signature message)) ⊎ (event ≡ Discard ws)

-- a merge of that workspace with the head of a branch
pub record IsMergeWith (h : History) (ws other : ℕ) (event : Event) : Type 0 where
  pub branch : ℕ
  pub letters : List ℕ
  pub is_merge : event ≡ Merge ws branch letters
  pub head_is : head h branch ≡ other

-- An event leaves the versions that are pending. A merge alone adds one, as the last, and a commit or a discard alone takes them all away.
abbrev pub PendingGoes : State → ℕ → Event → Workspace → Workspace → Type 0
PendingGoes s ws event before after =
    (after.pending ≡ before.pending)
    ⊎ (((other : ℕ) × IsMergeWith s.history ws other event × (after.pending ≡ before.pending ++ other ∷ []))
    ⊎ (IsCommitOrDiscard ws event × (after.pending ≡ [])))

abbrev pub MergedStayPending : Type 0
MergedStayPending = (s : State) (meta : Meta) (ws : ℕ) (event : Event) (before after : Workspace) → Changes s meta ws event before after
    → PendingGoes s ws event before after

-- no number stands in the list twice
abbrev pub EachOnce : List ℕ → Type 0
EachOnce vs = (i k v : ℕ) → slice_get vs i ≡ Some v → slice_get vs k ≡ Some v → i ≡ k

-- no version is pending twice in a workspace, and none is listed as merged twice by a version
pub record MergedOnce (s : State) : Type 0 where
  pub workspaces : (ws : ℕ) (w : Workspace) → workspace_of s ws ≡ Some w → EachOnce w.pending
  pub versions : (v : ℕ) (version : Version) → slice_get s.history.versions v ≡ Some version → EachOnce version.merged

abbrev pub MergesAreOnce : Type 0
MergesAreOnce = (s : State) → IsReached s → MergedOnce s

-- ---- all others
abbrev pub IsCommit : Event → Type 0
IsCommit event = (ws : ℕ) × (signature : Option Signature) × (message : List ℕ) × (event ≡ version_event ws signature message)

abbrev pub IsCheckout : Event → Type 0
IsCheckout event = (version branch : ℕ) × (event ≡ Checkout version branch)

abbrev pub IsNewBranch : Event → Type 0
IsNewBranch event = (ws : ℕ) × (name : List ℕ) × (event ≡ Branch ws name)

-- a tag, and the one that it makes
pub record MakesTag (s : State) (event : Event) : Type 0 where
  pub name : List ℕ
  pub version : ℕ
  pub is_tag : event ≡ Tag name version
  pub made : (play s event).history.tags ≡ s.history.tags ++ record { name = name; version = version } ∷ []

abbrev pub IsEvolve : Event → Type 0
IsEvolve event = (text : List ℕ) × (event ≡ Evolve text)

-- Each workspace that the event is not of is as it was, there or not. There are the same versions but after a commit, the same branches but
-- after a new one, the same tags but after a new one, and as many numbers of workspaces but after a checkout. The metamodel stays but after
-- an Evolve.
pub record OthersStay (s : State) (event : Event) : Type 0 where
  pub workspaces : (ws : ℕ) → ws ≤ length s.workspaces → is_of ws event ≡ false → workspace_of (play s event) ws ≡ workspace_of s ws
  pub numbers : (length (play s event).workspaces ≡ length s.workspaces) ⊎ IsCheckout event
  pub versions : ((play s event).history.versions ≡ s.history.versions) ⊎ IsCommit event
  pub branches : ((play s event).history.branches ≡ s.history.branches) ⊎ IsNewBranch event
  pub tags : ((play s event).history.tags ≡ s.history.tags) ⊎ MakesTag s event
  pub metamodel : ((play s event).meta ≡ s.meta) ⊎ IsEvolve event

abbrev pub AllOthersStay : Type 0
AllOthersStay = (s : State) (meta : Meta) → HasMetamodel s meta → (event : Event) → IsTrue (playable s event) → OthersStay s event
