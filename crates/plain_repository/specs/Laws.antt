-- What holds in every repository that events make.
use Rattle.std.specs.Prelude.{◌≡◌, ◌≢◌, ◌↔◌, ◌⊎◌, ℕ, ◌<◌, ◌≤◌, ◌||◌, ◌&&◌, nat_lt, List, [], ◌∷◌, ◌++◌, All, codes, map, take, Bool, true, false}
use Rattle.std.specs.Prelude.{Option, Some, None, Ok, IsTrue, is_some, length, slice_get}
use Rattle.std.specs.List.{list_any}
use Rattle.command_runs.specs.Runs.{played}
use Rattle.ecore_meta.specs.Meta.{Meta}
use Rattle.ecore_meta.specs.Promised.{IsMetamodel}
use Rattle.ecore_json.specs.Metamodel.{metamodel_of}
use Rattle.metamodel_growth.specs.EvolvedLaws.{HaveSameParts}
use Rattle.metamodel_growth.specs.Preserves.{Preserves}
use Rattle.model_state.specs.Ident.{is_id}
use Rattle.model_state.specs.Keys.{IdBytes}
use Rattle.model_state.specs.Names.{is_name}
use Rattle.model_state.specs.State as models
use Rattle.model_state.specs.State.{is_live}
use Rattle.model_state.specs.declared.operation.Operation.{Operation}
use Rattle.model_documents.specs.declared.doc.DocRow.{DocRow}
use Rattle.model_documents.specs.Document.{doc_of}
use Rattle.import_laws.specs.Names.{AreNames, names_of}
use Rattle.history_tree.specs.declared.version.Branch.{Branch}
use Rattle.history_tree.specs.declared.version.Tag.{Tag}
use Rattle.history_tree.specs.declared.version.Version.{Version}
use Rattle.history_tree.specs.History.{History, head}
use Rattle.history_tree.specs.Found.{branch_named, tag_named}
use Rattle.history_tree.specs.States.{state_folded, state_of}
use Rattle.history_tree.specs.Whole.{IsWhole}
use Rattle.op_form.specs.declared.event.Event.{Event}
use Rattle.op_form.specs.declared.event.Event.TheVariants.{Init, Checkout, Edit, Undo, Tag as MadeTag, Evolve, Upgrade}
use Rattle.script_lang.specs.declared.command.Spec.{Spec}
use Rattle.script_lang.specs.declared.command.Command.{Command}
use Rattle.script_lang.specs.declared.command.Command.TheVariants as commands
use Rattle.script_lang.specs.declared.reply.Refusal.TheVariants as refusals
use Rattle.script_lang.specs.declared.reply.Last.{Last}
use Rattle.script_lang.specs.declared.reply.Last.TheVariants as last
use Rattle.script_lang.specs.Reply.{last_line}
use Rattle.script_lang.specs.Spelling.{IsCommand}
use Rattle.command_facts.specs.Facts.{facts}
use Rattle.finite_maps.specs.Equal.{text_eq}
use Rattle.plain_repository.specs.State.{State, Workspace, empty, workspace_of, folded, model_of}
use Rattle.plain_repository.specs.Orderly.{IsOrderly, StandsInHistory}
use Rattle.plain_repository.specs.Answers.{Decision, fits_record, is_refusal, most_events}
use Rattle.history_tree.specs.declared.version.Signature.{Signature}
use Rattle.plain_repository.specs.Commits.{version_event}
use Rattle.plain_repository.specs.Changes.{signing_of, turns, comes_with_signatures}
use Rattle.plain_repository.specs.Events.{change_of, effect, play, playable, playable_with, are_playable, is_of}
use Rattle.plain_repository.specs.Repository.{block_text, decide_command, decide_line}

-- events that could be made lead to the state
pub record IsReached (s : State) : Type 0 where
  pub events : List Event
  pub could : IsTrue (are_playable empty events)
  pub reached : played play empty events ≡ s

-- ---- order
-- all is in order in the empty repository
abbrev pub StartsInOrder : Type 0
StartsInOrder = IsOrderly empty

-- each event that could be made keeps all in order
abbrev pub StaysInOrder : Type 0
StaysInOrder = (s : State) → IsOrderly s → (event : Event) → IsTrue (playable s event) → IsOrderly (play s event)

-- so all is in order after any events that could be made
abbrev pub AllIsInOrder : Type 0
AllIsInOrder = (s : State) → IsReached s → IsOrderly s

-- all is in order, and there is that metamodel
pub record HasMetamodel (s : State) (meta : Meta) : Type 0 where
  pub orderly : IsOrderly s
  pub begun : s.meta ≡ Some meta

-- and that workspace, of some number
pub record IsThere (s : State) (meta : Meta) (workspace : Workspace) : Type 0 where
  pub in_state : HasMetamodel s meta
  pub ws : ℕ
  pub there : workspace_of s ws ≡ Some workspace

-- ---- models
-- what holds of each working model
abbrev pub OfModels : (Meta → models.State → Type 0) → Type 0
OfModels Holds = (s : State) (meta : Meta) (workspace : Workspace) → IsThere s meta workspace → Holds meta (model_of meta s.history workspace)

-- what holds of the state of each version
abbrev pub OfVersions : (Meta → models.State → Type 0) → Type 0
OfVersions Holds = (s : State) (meta : Meta) → HasMetamodel s meta → (v : ℕ) → v < length s.history.versions → Holds meta (state_of meta s.history v)

-- the id of each element has the form of an id
abbrev pub HasIds : Meta → models.State → Type 0
HasIds meta m = (e : IdBytes) → is_live m e ≡ true → is_id e ≡ true

-- the steps recorded in a workspace can be taken one by one from the state of its base, and lead to the working model
abbrev pub ModelsAreDefined : Type 0
ModelsAreDefined = (s : State) (meta : Meta) (workspace : Workspace) → IsThere s meta workspace
    → folded meta s.history workspace ≡ Some (model_of meta s.history workspace)

-- the operations on the path of a version can be taken one by one from the empty project, and lead to its state
abbrev pub VersionsAreDefined : Type 0
VersionsAreDefined = (s : State) (meta : Meta) → HasMetamodel s meta → (v : ℕ) → v < length s.history.versions
    → state_folded meta s.history v ≡ Some (state_of meta s.history v)

-- what holds of every metamodel holds of the one that is there after any events that could be made
abbrev pub MetamodelsHold : Type 0
MetamodelsHold = (s : State) → IsReached s → (meta : Meta) → s.meta ≡ Some meta → IsMetamodel meta

-- ---- the history
-- each number that stands in the history names something
abbrev pub HistoriesAreWhole : Type 0
HistoriesAreWhole = (s : State) (meta : Meta) → HasMetamodel s meta → IsWhole s.history

-- each workspace stands in the history
abbrev pub WorkspacesStand : Type 0
WorkspacesStand = (s : State) (meta : Meta) (workspace : Workspace) → IsThere s meta workspace → StandsInHistory s.history workspace

-- the second list is the first with some more after it
abbrev pub IsPrefix : {X : Type 0} → List X → List X → Type 0
IsPrefix before after = (more : List _) × (after ≡ before ++ more)

-- versions, branches and tags stay as they are, and there may be more of them after these
pub record Grows (before after : History) : Type 0 where
  pub versions : IsPrefix before.versions after.versions
  pub branches : IsPrefix before.branches after.branches
  pub tags : IsPrefix before.tags after.tags

-- no event that could be made changes a version, a branch's name and start, or a tag
abbrev pub HistoryOnlyGrows : Type 0
HistoryOnlyGrows = (s : State) → IsOrderly s → (event : Event) → IsTrue (playable s event) → Grows s.history (play s event).history

-- No event that could be made changes the state of a version. The state after it is said by the metamodel that is there then.
abbrev pub StatesStay : Type 0
StatesStay = (s : State) (meta now : Meta) → HasMetamodel s meta → (event : Event) → IsTrue (playable s event) → (play s event).meta ≡ Some now
    → (v : ℕ) → v < length s.history.versions → state_of now (play s event).history v ≡ state_of meta s.history v

-- the form of each branch's name is that of a name, and the branch of that name is this one; so no two branches have one name
abbrev pub BranchesAreNamed : Type 0
BranchesAreNamed = (s : State) (meta : Meta) → HasMetamodel s meta → (k : ℕ) (branch : Branch) → slice_get s.history.branches k ≡ Some branch
    → (is_name branch.name ≡ true) × (branch_named s.history branch.name ≡ Some k)

-- the form of each tag's name is that of a name, and the tag of that name is this one
abbrev pub TagsAreNamed : Type 0
TagsAreNamed = (s : State) (meta : Meta) → HasMetamodel s meta → (k : ℕ) (tag : Tag) → slice_get s.history.tags k ≡ Some tag
    → (is_name tag.name ≡ true) × (tag_named s.history tag.name ≡ Some tag)

-- no two tags have one name
abbrev pub TagNamesDiffer : Type 0
TagNamesDiffer = (s : State) (meta : Meta) → HasMetamodel s meta → (k n : ℕ) (tag other : Tag) → slice_get s.history.tags k ≡ Some tag
    → slice_get s.history.tags n ≡ Some other
    → tag.name ≡ other.name → k ≡ n

-- each event that could be made changes something beside the numbers that every event raises
abbrev pub EventsChange : Type 0
EventsChange = (s : State) (event : Event) → IsTrue (playable s event) → effect s event ≢ s

-- ---- workspaces apart
-- an event is one of one workspace at most
abbrev pub EventsAreOfOne : Type 0
EventsAreOfOne = (event : Event) (ws k : ℕ) → is_of ws event ≡ true → is_of k event ≡ true → ws ≡ k

-- the event is one of no workspace
abbrev pub IsOfNone : Event → Type 0
IsOfNone event = (ws : ℕ) → is_of ws event ≡ false

-- so are Init, Checkout, Tag, Evolve and Upgrade
pub record SomeAreOfNone : Type 0 where
  pub init : (text : List ℕ) → IsOfNone (Init text)
  pub checkout : (version branch : ℕ) → IsOfNone (Checkout version branch)
  pub tag : (name : List ℕ) (version : ℕ) → IsOfNone (MadeTag name version)
  pub evolve : (text : List ℕ) → IsOfNone (Evolve text)
  pub upgrade : IsOfNone Upgrade

-- an event that is not of a workspace leaves its branch, base, operations, open composite and pending list
abbrev pub WorkspacesStayApart : Type 0
WorkspacesStayApart = (s : State) (ws : ℕ) (workspace : Workspace) → workspace_of s ws ≡ Some workspace → (event : Event) → is_of ws event ≡ false
    → workspace_of (play s event) ws ≡ Some workspace

-- And no event changes the model of a workspace that stays as it is. The model after it is said by the metamodel that is there then.
abbrev pub ModelsStayApart : Type 0
ModelsStayApart = (s : State) (meta now : Meta) (workspace : Workspace) → IsThere s meta workspace → (event : Event) → IsTrue (playable s event)
    → (play s event).meta ≡ Some now
    → model_of now (play s event).history workspace ≡ model_of meta s.history workspace

-- the replies to the commands that show a workspace
abbrev pub shown_as : State → Option (List ℕ) → ℕ → List Decision
shown_as s block ws = map (decide_command s block) (commands.Show ws ∷ commands.Changes ws ∷ commands.Validate ws ∷ [])

-- two workspaces look alike: the same is recorded in both, and their bases have the same state
pub record LookAlike (meta : Meta) (h g : History) (w v : Workspace) : Type 0 where
  pub operations : w.operations ≡ v.operations
  pub composite : w.composite ≡ v.composite
  pub state : state_of meta h w.base ≡ state_of meta g v.base

-- Such are shown alike, whatever else there is. What is shown of a workspace goes by the metamodel, the state of its base and
-- what is recorded in it.
abbrev pub ShownByOwn : Type 0
ShownByOwn = (s t : State) (meta : Meta) → s.meta ≡ Some meta → t.meta ≡ Some meta → (ws k : ℕ) (w v : Workspace) → workspace_of s ws ≡ Some w
    → workspace_of t k ≡ Some v → LookAlike meta s.history t.history w v
    → (block more : Option (List ℕ)) → shown_as s block ws ≡ shown_as t more k

-- So an event that is not of a workspace, and leaves the metamodel, leaves what is shown of the workspace.
abbrev pub ShownApart : Type 0
ShownApart = (s : State) (meta : Meta) → HasMetamodel s meta → (ws : ℕ) (w : Workspace) → workspace_of s ws ≡ Some w → (event : Event)
    → IsTrue (playable s event) → is_of ws event ≡ false
    → (play s event).meta ≡ Some meta → (block : Option (List ℕ)) → shown_as (play s event) block ws ≡ shown_as s block ws

-- the answers to `show`, `cat`, `changes` and `package` are the same after an event
pub record ShowsTexts (s : State) (event : Event) : Type 0 where
  pub show : (block more : Option (List ℕ)) (ws : ℕ) → decide_command (play s event) block (commands.Show ws) ≡ decide_command s more (commands.Show ws)
  pub cat : (block more : Option (List ℕ)) (spec : Spec) → decide_command (play s event) block (commands.Cat spec) ≡ decide_command s more (commands.Cat spec)
  pub changes : (block more : Option (List ℕ)) (ws : ℕ)
      → decide_command (play s event) block (commands.Changes ws) ≡ decide_command s more (commands.Changes ws)
  pub packages : (block more : Option (List ℕ)) (spec : Spec)
      → decide_command (play s event) block (commands.Package spec) ≡ decide_command s more (commands.Package spec)

-- So they are where the metamodel is extended. What the new metamodel asks for `validate` may show.
abbrev pub TextsStay : Type 0
TextsStay = (s : State) (meta : Meta) → HasMetamodel s meta → (text : List ℕ) → IsTrue (playable s (Evolve text)) → ShowsTexts s (Evolve text)

-- an extended metamodel has all parts of the one before, with their numbers
abbrev pub MetamodelsGrow : Type 0
MetamodelsGrow = (s : State) (meta now : Meta) → HasMetamodel s meta → (event : Event) → IsTrue (playable s event) → (play s event).meta ≡ Some now
    → (now ≡ meta) ⊎ Preserves meta now

-- an Evolve brings the metamodel of its text: neither lacks a part, by name, that the other has
abbrev pub DocumentsBecome : Type 0
DocumentsBecome = (s : State) (meta now : Meta) → HasMetamodel s meta → (text : List ℕ) → IsTrue (playable s (Evolve text))
    → (play s (Evolve text)).meta ≡ Some now
    → (next : Meta) × (metamodel_of text ≡ Ok next) × HaveSameParts next now

-- no event takes a place of the list of workspaces away, so each checkout makes a new number
abbrev pub NumbersOnlyGrow : Type 0
NumbersOnlyGrow = (s : State) (event : Event) → length s.workspaces ≤ length (play s event).workspaces

-- and the place of a workspace that was dropped stays empty
abbrev pub DroppedStayDropped : Type 0
DroppedStayDropped = (s : State) (place : ℕ) → slice_get s.workspaces place ≡ Some None → (event : Event)
    → slice_get (play s event).workspaces place ≡ Some None

-- ---- commands
-- where the reply is a refusal there is no event
pub record NoneIfRefused (decision : Decision) : Type 0 where
  pub none : is_refusal decision.reply ≡ true → decision.event ≡ None

-- a line that is refused makes no event, so the repository and its file stay as they are
abbrev pub RefusalsMakeNone : Type 0
RefusalsMakeNone = (s : State) (line : List ℕ) (block : Option (List ℕ)) → NoneIfRefused (decide_line s line block)

-- The ids that are given to the elements of the block, where the command gives them any, are the first that are free, and have
-- numbers below 2^64 - 1.
abbrev pub GivesNumbers : State → Option (List ℕ) → Command → Type 0
GivesNumbers s block command = IsTrue (facts command).gives_ids → (ws : ℕ) → (facts command).workspace ≡ Some ws
    → (meta : Meta) (w : Workspace) (rows : List DocRow) → s.meta ≡ Some meta → workspace_of s ws ≡ Some w
    → doc_of meta (block_text block) ≡ Ok rows
    → let m = model_of meta s.history w in AreNames m rows ws 1 rows (names_of m ws rows)

-- a command that a line can spell is answered with an event
pub record MakesEvent (s : State) (block : Option (List ℕ)) (command : Command) (event : Event) : Type 0 where
  pub form : IsCommand command
  pub numbers : GivesNumbers s block command
  pub makes : (decide_command s block command).event ≡ Some event

-- in a state in order, such an event could be made
abbrev pub DecidedCouldBe : Type 0
DecidedCouldBe = (s : State) → IsOrderly s → (block : Option (List ℕ)) (command : Command) (event : Event) → MakesEvent s block command event
    → IsTrue (playable s event)

-- the line begins as the last line of a reply does: with the bytes of `ok` or of `no`
abbrev pub looks_last : List ℕ → Bool
looks_last line = text_eq (take 2 line) (codes "ok") || text_eq (take 2 line) (codes "no")

-- the last line of each reply looks so
abbrev pub LastLinesLook : Type 0
LastLinesLook = (last : Last) → looks_last (last_line last) ≡ true

-- the command is `validate`, whose data lines begin with ids
abbrev pub is_validate : Command → Bool
is_validate command = (facts command).lists_ids

-- no data line looks so but those of `validate`
abbrev pub DataLinesAreApart : Type 0
DataLinesAreApart = (s : State) (block : Option (List ℕ)) (command : Command) → is_validate command ≡ false
    → All (λ line. looks_last line ≡ false) (decide_command s block command).reply.lines

-- there is a metamodel and the workspace, and its base, the first number, is not its branch's head, the second
pub record IsStale (s : State) (ws base head_of_branch : ℕ) : Type 0 where
  pub meta : Meta
  pub begun : s.meta ≡ Some meta
  pub workspace : Workspace
  pub there : workspace_of s ws ≡ Some workspace
  pub base_is : workspace.base ≡ base
  pub head_is : head s.history workspace.branch ≡ head_of_branch
  pub apart : base ≢ head_of_branch

-- the command by which a workspace makes a version: `signed` where there is a signature
abbrev pub version_command : ℕ → Option Signature → Option (List ℕ) → Command
version_command ws None message = commands.Commit ws message
version_command ws (Some x) message = commands.Signed ws x.author x.moment message

-- `commit` and `signed` are answered Stale just where no earlier refusal applies and the base is not the head
abbrev pub CommitsAreStale : Type 0
CommitsAreStale = (s : State) (block : Option (List ℕ)) (ws : ℕ) (signature : Option Signature) (message : Option (List ℕ)) (base head_of_branch : ℕ)
    → ((decide_command s block (version_command ws signature message)).reply.last ≡ last.No (refusals.Stale base head_of_branch))
    ↔ ((s.upgraded ≡ is_some signature) × IsStale s ws base head_of_branch)

-- there is a metamodel and the workspace
pub record HasWorkspace (s : State) (ws : ℕ) : Type 0 where
  pub meta : Meta
  pub begun : s.meta ≡ Some meta
  pub workspace : Workspace
  pub there : workspace_of s ws ≡ Some workspace

-- `commit` is answered Unsigned just where no earlier refusal applies and the store is upgraded
abbrev pub UnsignedAreRefused : Type 0
UnsignedAreRefused = (s : State) (block : Option (List ℕ)) (ws : ℕ) (message : Option (List ℕ))
    → ((decide_command s block (commands.Commit ws message)).reply.last ≡ last.No refusals.Unsigned) ↔ (HasWorkspace s ws × (s.upgraded ≡ true))

-- `signed` is answered OldForm just where no earlier refusal applies and the store is not upgraded
abbrev pub OldFormsAreRefused : Type 0
OldFormsAreRefused = (s : State) (block : Option (List ℕ)) (ws : ℕ) (author : List ℕ) (moment : ℕ) (message : Option (List ℕ))
    → ((decide_command s block (commands.Signed ws author moment message)).reply.last ≡ last.No refusals.OldForm) ↔ (HasWorkspace s ws × (s.upgraded ≡ false))

-- an operation that is recorded where no composite is open, and undone, leaves the workspace as it was
abbrev pub UndoGivesBack : Type 0
UndoGivesBack = (s : State) (ws : ℕ) (workspace : Workspace) → workspace_of s ws ≡ Some workspace → workspace.composite ≡ None → (operation : Operation)
    → workspace_of (play (play s (Edit ws (operation ∷ []))) (Undo ws)) ws ≡ Some workspace

-- a commit that could be made leaves the working model
abbrev pub CommitsKeepModels : Type 0
CommitsKeepModels = (s : State) (meta : Meta) → HasMetamodel s meta
    → (ws : ℕ) (before after : Workspace) (signature : Option Signature) (message : List ℕ) → IsTrue (playable s (version_event ws signature message))
    → workspace_of s ws ≡ Some before → workspace_of (play s (version_event ws signature message)) ws ≡ Some after
    → model_of meta (play s (version_event ws signature message)).history after ≡ model_of meta s.history before

-- ---- signatures
-- the version has an author and a moment
abbrev pub IsSigned : Version → Type 0
IsSigned version = (is_some version.author ≡ true) × (is_some version.moment ≡ true)

-- the version has neither
abbrev pub IsUnsigned : Version → Type 0
IsUnsigned version = (version.author ≡ None) × (version.moment ≡ None)

-- the versions after the first ones are such
pub record AddsSuch (Such : Version → Type 0) (before after : History) : Type 0 where
  pub more : List Version
  pub is : after.versions ≡ before.versions ++ more
  pub such : All Such more

-- does the event upgrade the store: is it Upgrade
abbrev pub is_upgrade : Event → Bool
is_upgrade event = turns (signing_of (change_of event))

-- a store that is upgraded stays so, and no other event upgrades one
abbrev pub UpgradesStay : Type 0
UpgradesStay = (s : State) (event : Event) → (play s event).upgraded ≡ (is_upgrade event || s.upgraded)

-- an event that could be made adds signed versions to a store that is upgraded, and unsigned ones to one that is not
pub record NewVersionsAreSigned : Type 0 where
  pub signed : (s : State) → IsOrderly s → s.upgraded ≡ true → (event : Event) → IsTrue (playable s event) → AddsSuch IsSigned s.history (play s event).history
  pub unsigned : (s : State) → IsOrderly s → s.upgraded ≡ false → (event : Event) → IsTrue (playable s event)
      → AddsSuch IsUnsigned s.history (play s event).history

-- the versions that events make before Upgrade are unsigned, and those behind it signed
pub record AreSignedSince (before after : List Event) : Type 0 where
  pub old : All IsUnsigned (played play empty before).history.versions
  pub new : AddsSuch IsSigned (played play empty before).history (played play empty (before ++ Upgrade ∷ after)).history

-- so it is with all events that could be made
abbrev pub SignedSinceUpgrade : Type 0
SignedSinceUpgrade = (before after : List Event) → IsTrue (are_playable empty (before ++ Upgrade ∷ after)) → AreSignedSince before after

-- is the event one that came with signatures: Upgrade or Signed
abbrev pub is_of_signing : Event → Bool
is_of_signing event = comes_with_signatures (signing_of (change_of event))

-- what is asked of an event beside that it suits the store
abbrev pub is_asked : State → Event → Bool
is_asked s event = nat_lt s.events most_events && fits_record event && playable_with s s.meta event

-- the same of each event, on the state that the events before it leave
abbrev pub are_asked : State → List Event → Bool
are_asked s [] = true
are_asked s (event ∷ events) = is_asked s event && are_asked (play s event) events

-- Events without Upgrade and Signed could be made just where all that is asked of them without signatures holds. The versions that
-- they make are unsigned.
pub record OldStoresGoOn (events : List Event) : Type 0 where
  pub playable : are_playable empty events ≡ are_asked empty events
  pub unsigned : IsTrue (are_playable empty events) → All IsUnsigned (played play empty events).history.versions

-- so it is with any such events
abbrev pub OldStoresReadOn : Type 0
OldStoresReadOn = (events : List Event) → list_any is_of_signing events ≡ false → OldStoresGoOn events
