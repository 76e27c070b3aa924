-- The event of a command is what the command asked for, argument by argument, and the reply says where the workspace then stands.
use Rattle.std.specs.Prelude.{◌≡◌, ℕ, suc, List, [], ◌∷◌, ◌++◌, length, Option, None, Some, Ok, slice_get, unwrap_or}
use Rattle.std.specs.Fmt.{decimal}
use Rattle.std.specs.List.{join_with_byte, slice_split}
use Rattle.host_port.specs.Cut.{is_lf}
use Rattle.ecore_meta.specs.Meta.{Meta}
use Rattle.edits.specs.declared.edit.Edit as edits
use Rattle.edits.specs.declared.edit.Recorded.{Recorded}
use Rattle.edits.specs.Recording.{recorded}
use Rattle.history_tree.specs.declared.version.Tag as tags
use Rattle.history_tree.specs.declared.version.Version.{Version}
use Rattle.history_tree.specs.declared.version.Signature.{Signature}
use Rattle.history_tree.specs.Found.{branch_name, branch_named, tag_named}
use Rattle.history_tree.specs.History.{History, head}
use Rattle.history_tree.specs.States.{package_of_version}
use Rattle.import_laws.specs.Import.{recorded_import}
use Rattle.model_documents.specs.declared.doc.DocRow.{DocRow}
use Rattle.model_documents.specs.Document.{doc_of}
use Rattle.model_state.specs.Packages.{rev_package}
use Rattle.model_state.specs.declared.operation.Operation.{Operation}
use Rattle.op_form.specs.declared.event.Event.{Event}
use Rattle.op_form.specs.declared.event.Event.TheVariants.{Init, Checkout, Edit, Begin, End, Undo, Discard, Tidy, Commit, Branch, Tag, Update, Merge}
use Rattle.op_form.specs.declared.event.Event.TheVariants.{Drop, Evolve, Upgrade, Signed}
use Rattle.op_reading.specs.Packages.{package_at}
use Rattle.op_reading.specs.Events.{whole_of}
use Rattle.script_lang.specs.declared.command.Command.{Command}
use Rattle.script_lang.specs.declared.command.Command.TheVariants as commands
use Rattle.script_lang.specs.declared.command.Spec.{Spec}
use Rattle.script_lang.specs.declared.command.Spec.TheVariants as specs
use Rattle.script_lang.specs.declared.reply.Last.TheVariants as last
use Rattle.plain_repository.specs.State.{State, Workspace, workspace_of, model_of}
use Rattle.plain_repository.specs.Applying.{bytes_of_lines}
use Rattle.plain_repository.specs.Events.{play}
use Rattle.plain_repository.specs.Repository.{block_text, decide_command}
use Rattle.plain_repository.specs.Orderly.{IsOrderly}
use Rattle.plain_repository.specs.Laws.{MakesEvent, version_command}
use Rattle.plain_repository.specs.Standing.{ChecksOut, IsCommitted}

-- ---- what a SPEC names
-- the version is there, on that branch of its own
pub record IsOfBranch (h : History) (version branch : ℕ) : Type 0 where
  pub it : Version
  pub there : slice_get h.versions version ≡ Some it
  pub branch_is : it.branch ≡ branch

-- a version's number names it, and its own branch
pub record NamesByNumber (h : History) (n version branch : ℕ) : Type 0 where
  pub is_it : version ≡ n
  pub there : IsOfBranch h version branch

-- a branch's name names the branch, and the version at its head
pub record NamesByBranch (h : History) (name : List ℕ) (version branch : ℕ) : Type 0 where
  pub named : branch_named h name ≡ Some branch
  pub is_head : version ≡ head h branch

-- a tag's name names the tag's version, and the version's own branch
pub record NamesByTag (h : History) (name : List ℕ) (version branch : ℕ) : Type 0 where
  pub tag : tags.Tag
  pub named : tag_named h name ≡ Some tag
  pub is_it : version ≡ tag.version
  pub there : IsOfBranch h version branch

abbrev pub Names : History → Spec → ℕ → ℕ → Type 0
Names h (specs.Number n) = NamesByNumber h n
Names h (specs.Branch name) = NamesByBranch h name
Names h (specs.Tag name) = NamesByTag h name

-- ---- which operations a command asks for
-- the operation is what is recorded of the edit on the working model
pub record IsOfEdit (s : State) (ws : ℕ) (edit : edits.Edit) (operation : Operation) : Type 0 where
  pub meta : Meta
  pub begun : s.meta ≡ Some meta
  pub workspace : Workspace
  pub there : workspace_of s ws ≡ Some workspace
  pub made : Recorded
  pub recorded_is : recorded meta (model_of meta s.history workspace) ws edit ≡ Ok made
  pub operation_is : made.operation ≡ Some operation

-- the operation is what is recorded of the document's elements on the working model
pub record IsOfImport (s : State) (ws : ℕ) (text : List ℕ) (operation : Operation) : Type 0 where
  pub meta : Meta
  pub begun : s.meta ≡ Some meta
  pub workspace : Workspace
  pub there : workspace_of s ws ≡ Some workspace
  pub rows : List DocRow
  pub read : doc_of meta text ≡ Ok rows
  pub recorded_is : recorded_import meta (model_of meta s.history workspace) ws rows ≡ Ok (Some operation)

-- the bytes that the block spells read as these operations
pub record IsOfBlock (text : List ℕ) (operations : List Operation) : Type 0 where
  pub bytes : List ℕ
  pub spelled : bytes_of_lines (slice_split is_lf text) ≡ Some bytes
  pub read : whole_of package_at bytes ≡ Ok operations

-- ---- what a command asks for
-- The event that a command asks for, with the words of its line and the text of its block. Those that only show ask for none.
abbrev pub IsAskedBy : State → Option (List ℕ) → Command → Event → Type 0
IsAskedBy s block commands.Init event = event ≡ Init (block_text block)
IsAskedBy s block commands.Evolve event = event ≡ Evolve (block_text block)
IsAskedBy s block (commands.Checkout spec) event = (version branch : ℕ) × (event ≡ Checkout version branch) × Names s.history spec version branch
IsAskedBy s block (commands.Edit ws edit) event = (operation : Operation) × (event ≡ Edit ws (operation ∷ [])) × IsOfEdit s ws edit operation
IsAskedBy s block (commands.Import ws) event = (operation : Operation) × (event ≡ Edit ws (operation ∷ [])) × IsOfImport s ws (block_text block) operation
IsAskedBy s block (commands.Load ws) event = (os : List Operation) × (event ≡ Edit ws os) × IsOfBlock (block_text block) os
IsAskedBy s block (commands.Begin ws name) event = event ≡ Begin ws name
IsAskedBy s block (commands.End ws) event = event ≡ End ws
IsAskedBy s block (commands.Undo ws) event = event ≡ Undo ws
IsAskedBy s block (commands.Discard ws) event = event ≡ Discard ws
IsAskedBy s block (commands.Tidy ws) event = event ≡ Tidy ws
IsAskedBy s block (commands.Apply ws bytes) event = (os : List Operation) × (event ≡ Edit ws os) × (whole_of package_at bytes ≡ Ok os)
IsAskedBy s block (commands.Changes ws) event = ⊥
IsAskedBy s block (commands.Show ws) event = ⊥
IsAskedBy s block (commands.Cat spec) event = ⊥
IsAskedBy s block (commands.Validate ws) event = ⊥
IsAskedBy s block (commands.Commit ws message) event = event ≡ Commit ws (unwrap_or message [])
IsAskedBy s block (commands.Signed ws author moment message) event = event ≡ Signed ws author moment (unwrap_or message [])
IsAskedBy s block (commands.Branch ws name) event = event ≡ Branch ws name
IsAskedBy s block (commands.Tag name spec) event = (version branch : ℕ) × (event ≡ Tag name version) × Names s.history spec version branch
IsAskedBy s block commands.Log event = ⊥
IsAskedBy s block (commands.Package spec) event = ⊥
IsAskedBy s block (commands.Update ws choices) event = event ≡ Update ws (unwrap_or choices [])
IsAskedBy s block (commands.Merge ws name choices) event =
    (branch : ℕ) × (event ≡ Merge ws branch (unwrap_or choices [])) × (branch_named s.history name ≡ Some branch)
IsAskedBy s block (commands.Revert ws version) event = event ≡ Edit ws (rev_package (package_of_version s.history.versions version))
IsAskedBy s block (commands.Drop ws) event = event ≡ Drop ws
IsAskedBy s block commands.Upgrade event = event ≡ Upgrade

-- so is each event that a command is answered with
abbrev pub EventsAreAsked : Type 0
EventsAreAsked = (s : State) (block : Option (List ℕ)) (command : Command) (event : Event) → (decide_command s block command).event ≡ Some event
    → IsAskedBy s block command event

-- ---- commands that make versions and workspaces
-- `commit` that makes an event makes the version of its workspace, of its message and of no author
abbrev pub CommitCommits : Type 0
CommitCommits = (s : State) → IsOrderly s → (block : Option (List ℕ)) (ws : ℕ) (message : Option (List ℕ)) (event : Event)
    → MakesEvent s block (commands.Commit ws message) event
    → (before : Workspace) × (workspace_of s ws ≡ Some before) × IsCommitted s event ws before None None (unwrap_or message [])

-- `signed` makes that of its author, moment and message
abbrev pub SignedCommits : Type 0
SignedCommits = (s : State) → IsOrderly s → (block : Option (List ℕ)) (ws : ℕ) (author : List ℕ) (moment : ℕ) (message : Option (List ℕ)) (event : Event)
    → MakesEvent s block (commands.Signed ws author moment message) event
    → (before : Workspace) × (workspace_of s ws ≡ Some before) × IsCommitted s event ws before (Some author) (Some moment) (unwrap_or message [])

-- `checkout` makes a workspace at the version and on the branch that its SPEC names
abbrev pub CheckoutChecksOut : Type 0
CheckoutChecksOut = (s : State) → IsOrderly s → (block : Option (List ℕ)) (spec : Spec) (event : Event) → MakesEvent s block (commands.Checkout spec) event
    → (version branch : ℕ) × Names s.history spec version branch × ChecksOut s event version branch

-- ---- replies
-- the last line of the reply is `ok` with these words
abbrev pub Says : State → Option (List ℕ) → Command → List ℕ → Type 0
Says s block command words = (decide_command s block command).reply.last ≡ last.Ok words

-- the workspace of that number after the event
abbrev pub Then : State → Event → ℕ → Workspace → Type 0
Then s event ws after = workspace_of (play s event) ws ≡ Some after

-- `commit`, `signed` and `update` say the version at which the workspace stands then, and `merge` the one that is pending last.
-- `checkout` says the number of the workspace, the version at which it stands, and the name of its branch.
pub record RepliesTell (s : State) (block : Option (List ℕ)) : Type 0 where
  pub commit : (ws : ℕ) (signature : Option Signature) (message : Option (List ℕ)) (event : Event) (after : Workspace)
      → MakesEvent s block (version_command ws signature message) event → Then s event ws after
      → Says s block (version_command ws signature message) (decimal after.base)
  pub update : (ws : ℕ) (choices : Option (List ℕ)) (event : Event) (after : Workspace) → MakesEvent s block (commands.Update ws choices) event
      → Then s event ws after
      → Says s block (commands.Update ws choices) (decimal after.base)
  pub merge : (ws : ℕ) (name : List ℕ) (choices : Option (List ℕ)) (event : Event) (after : Workspace)
      → MakesEvent s block (commands.Merge ws name choices) event → Then s event ws after
      → (before : List ℕ) × (other : ℕ) × (after.pending ≡ before ++ other ∷ []) × Says s block (commands.Merge ws name choices) (decimal other)
  pub checkout : (spec : Spec) (event : Event) → MakesEvent s block (commands.Checkout spec) event
      → (ws : ℕ) × (after : Workspace) × (ws ≡ suc (length s.workspaces)) × Then s event ws after
      × Says s block (commands.Checkout spec) (join_with_byte 32 (decimal ws ∷ decimal after.base ∷ branch_name s.history after.branch ∷ []))

abbrev pub RepliesTellWhere : Type 0
RepliesTellWhere = (s : State) → IsOrderly s → (block : Option (List ℕ)) → RepliesTell s block
