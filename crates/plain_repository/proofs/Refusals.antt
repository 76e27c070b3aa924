-- What is told of each decision: a refusal makes no event, and no data line looks like a last line.
use Rattle.std.proofs.Common.{◌≡◌, refl, sym, subst, ℕ, ◌==◌, List, [], ◌∷◌, length, Bool, true, false, Option, Some, None, Result, Ok, Err}
use Rattle.std.specs.Prelude.{All, nat_le, not, unwrap_or, if◌then◌else◌}
use Rattle.std.specs.Fmt.{decimal}
use Rattle.std.specs.List.{slice_split}
use Rattle.host_port.specs.Cut.{is_lf}
use Rattle.ecore_meta.specs.Meta.{Meta}
use Rattle.ecore_json.specs.declared.fault.EcoreFault.{EcoreFault}
use Rattle.ecore_json.specs.Metamodel.{metamodel_of}
use Rattle.metamodel_growth.specs.Extension.{missing}
use Rattle.metamodel_growth.specs.Evolved.{evolved}
use Rattle.metamodel_growth.specs.Same.{is_same}
use Rattle.model_state.specs.declared.operation.Operation.{Operation}
use Rattle.model_state.specs.declared.step.ApplyFault.{ApplyFault}
use Rattle.model_state.specs.Packages.{rev_package, steps_all}
use Rattle.model_state.specs.Steps.{first_stop}
use Rattle.history_tree.specs.declared.found.Found.{Found}
use Rattle.history_tree.specs.declared.found.FindFault.{FindFault}
use Rattle.history_tree.specs.Found.{found_by_number, branch_named, has_tag}
use Rattle.history_tree.specs.History.{History, head, path}
use Rattle.history_tree.specs.MergeBase.{is_among}
use Rattle.history_tree.specs.Since.{path_after}
use Rattle.history_tree.specs.States.{package_of_version, state_of}
use Rattle.merge_laws.specs.Choices.{are_choices}
use Rattle.merge_laws.specs.Pairs.{have_pair, first_interfering}
use Rattle.merge_laws.specs.Tidy.{is_tidy}
use Rattle.edits.specs.declared.edit.Edit as edits
use Rattle.edits.specs.declared.edit.Recorded.{Recorded}
use Rattle.edit_steps.specs.declared.fault.EditFault.{EditFault}
use Rattle.edits.specs.Recording.{recorded}
use Rattle.model_documents.specs.declared.doc.DocRow.{DocRow}
use Rattle.model_documents.specs.declared.fault.ModelFault.{ModelFault}
use Rattle.model_documents.specs.Document.{doc_of}
use Rattle.import_laws.specs.Import.{recorded_import}
use Rattle.footprint.specs.declared.bucket.Bucket.{Bucket}
use Rattle.commit_journal.specs.Journal.{fit_of}
use Rattle.commit_journal.specs.declared.fit.Fit.{Fit}
use Rattle.commit_journal.specs.declared.fit.Fit.TheVariants as fits
use Rattle.op_form.specs.declared.event.Event.{Event}
use Rattle.op_form.specs.declared.event.Event.TheVariants.{Commit, Signed}
use Rattle.op_reading.specs.declared.fault.FormFault.{FormFault}
use Rattle.op_reading.specs.Packages.{package_at}
use Rattle.op_form.specs.Events.{event_encoding}
use Rattle.op_reading.specs.Events.{whole_of}
use Rattle.op_form.specs.Formed.{is_event, is_package}
use Rattle.script_lang.specs.declared.command.Command.{Command}
use Rattle.script_lang.specs.declared.command.Command.TheVariants as commands
use Rattle.script_lang.specs.Command.{command_of}
use Rattle.plain_repository.specs.State.{State, Workspace, workspace_of, model_of, is_open, has_local, has_operations}
use Rattle.plain_repository.specs.Answers.{Decision, accepted, most_events, by_fit, with_room}
use Rattle.plain_repository.specs.Specs.{found_by_spec}
use Rattle.plain_repository.specs.Metamodels.{with_metamodel, decide_init, extended, evolve_read, decide_evolve}
use Rattle.plain_repository.specs.Checkouts.{checkout_found, decide_checkout, drop_in, decide_drop}
use Rattle.plain_repository.specs.Commits.{is_new_branch, version_made, commit_in, decide_commit, signed_in, decide_signed, decide_upgrade, branch_in}
use Rattle.plain_repository.specs.Commits.{decide_branch, tag_found, decide_tag}
use Rattle.plain_repository.specs.Edits.{takes, id_words, with_operation, edited, edit_in, decide_edit, imported, import_read, import_in, decide_import}
use Rattle.plain_repository.specs.Composites.{begin_in, decide_begin, end_in, decide_end}
use Rattle.plain_repository.specs.Local.{can_discard, undo_in, decide_undo, discard_in, decide_discard}
use Rattle.plain_repository.specs.Tidying.{tidy_in, decide_tidy}
use Rattle.plain_repository.specs.Applying.{with_operations, applied, apply_read, apply_in, decide_apply, bytes_of_lines, load_package, load_read}
use Rattle.plain_repository.specs.Applying.{load_bytes, load_in, decide_load, taken_out, revert_found, revert_in, decide_revert}
use Rattle.plain_repository.specs.Choices.{chosen}
use Rattle.plain_repository.specs.Merging.{update_buckets, update_in, decide_update, has_theirs, merge_buckets, merge_named, merge_in, decide_merge}
use Rattle.plain_repository.specs.Views.{changes_in, decide_changes, show_in, decide_show, validate_in, decide_validate, cat_found, decide_cat, package_found}
use Rattle.plain_repository.specs.Views.{decide_package, decide_log}
use Rattle.plain_repository.specs.Repository.{block_text, decide_begun, decide_with, decide_command, decide_read, decide_line}
use Rattle.command_facts.specs.Facts.{facts}
use Rattle.plain_repository.specs.Laws.{NoneIfRefused, RefusalsMakeNone, is_validate, DataLinesAreApart}
use Rattle.plain_repository.proofs.DataLines.{Apart, no_lines, changes_apart, package_apart, buckets_apart, text_apart, log_apart}

-- what is told of a decision: a refusal makes no event, and no data line looks like a last line, unless they begin with ids
record Told (ids : Bool) (d : Decision) : Type 0 where
  refused_none : NoneIfRefused d
  apart : ids ≡ false → All Apart d.reply.lines

-- a decision without an event, with those lines
shows : {d : Decision} → d.event ≡ None → All Apart d.reply.lines → Told false d
shows is all = record { refused_none = record { none = λ refuses. is }; apart = λ plain. all }

-- and without any
silent : {d : Decision} → d.event ≡ None → d.reply.lines ≡ [] → Told false d
silent is empty = shows is (subst (All Apart) (sym empty) no_lines)

-- data lines that don't begin so
of_told : (ids : Bool) {d : Decision} → Told false d → Told ids d
of_told ids told = record { refused_none = told.refused_none; apart = λ plain. told.apart refl }

-- one of two decisions
either : (b : Bool) {x y : Decision} → Told false x → Told false y → Told false (if b then x else y)
either true first second = first
either false first second = second

-- an answer that is no refusal
made : (lines : List (List ℕ)) (words : List ℕ) (event : Event) → All Apart lines → Told false (accepted lines words event)
made lines words event all = record { refused_none = record { none = λ refuses. absurd cc }; apart = λ plain. all }

fit_told : (fit : Fit) (lines : List (List ℕ)) (words : List ℕ) (event : Event) → All Apart lines → Told false (by_fit fit lines words event)
fit_told fits.Yes lines words event all = made lines words event all
fit_told fits.TooLarge lines words event all = silent refl refl
fit_told fits.Full lines words event all = silent refl refl

chosen_told : (rows : List Bucket) (choices : Option (List ℕ)) {d : Decision} → Told false d → Told false (chosen rows choices d)
chosen_told [] None rest = rest
chosen_told (b ∷ bs) None rest = shows refl (buckets_apart (b ∷ bs))
chosen_told [] (Some letters) rest = either (are_choices letters []) rest (silent refl refl)
chosen_told (b ∷ bs) (Some letters) rest = either (are_choices letters (b ∷ bs)) rest (silent refl refl)

module _ (s : State) where
  room_for : (lines : List (List ℕ)) (words : List ℕ) (event : Event) → All Apart lines → Told false (with_room s lines words event)
  unfolding with_room
  room_for lines words event all =
      either (nat_le most_events s.events) (silent refl refl)
      (either (is_event event) (fit_told (fit_of s.end (length (event_encoding event))) lines words event all) (silent refl refl))

  room : (words : List ℕ) (event : Event) → Told false (with_room s [] words event)
  room words event = room_for [] words event no_lines

  -- ---- the metamodel, workspaces, the history
  init_read : (text : List ℕ) (read : Result Meta EcoreFault) → Told false (with_metamodel s text read)
  init_read text (Err fault) = silent refl refl
  init_read text (Ok meta) = room _ _

  init_told : (meta : Option Meta) (text : List ℕ) → Told false (decide_init s meta text)
  unfolding decide_init
  init_told (Some meta) text = silent refl refl
  init_told None text = init_read text (metamodel_of text)

  extended_told : (text : List ℕ) (old next : Meta) (name : Option (List ℕ)) → Told false (extended s text old next name)
  extended_told text old next (Some name) = silent refl refl
  extended_told text old next None = either (is_same old (evolved old next)) (silent refl refl) (room _ _)

  evolve_told : (text : List ℕ) (old : Meta) (read : Result Meta EcoreFault) → Told false (evolve_read s text old read)
  evolve_told text old (Err fault) = silent refl refl
  evolve_told text old (Ok next) = extended_told text old next (missing old next)

  checkout_told : (meta : Meta) (found : Result Found FindFault) → Told false (checkout_found s meta found)
  checkout_told meta (Err fault) = silent refl refl
  checkout_told meta (Ok found) = room_for _ _ _ (text_apart meta (state_of meta s.history found.version))

  drop_told : (ws : ℕ) (o : Option Workspace) → Told false (drop_in s ws o)
  drop_told ws None = silent refl refl
  drop_told ws (Some w) = room _ _

  version_told : (w : Workspace) (event : Event) → Told false (version_made s w event)
  version_told w event =
      either (not (w.base == head s.history w.branch)) (silent refl refl)
      (either (is_open (Some w)) (silent refl refl) (either (has_local (Some w)) (room _ event) (silent refl refl)))

  commit_told : (ws : ℕ) (message : List ℕ) (o : Option Workspace) → Told false (commit_in s ws message o)
  commit_told ws message None = silent refl refl
  commit_told ws message (Some w) = either s.upgraded (silent refl refl) (version_told w (Commit ws message))

  signed_told : (ws : ℕ) (author : List ℕ) (moment : ℕ) (message : List ℕ) (o : Option Workspace) → Told false (signed_in s ws author moment message o)
  signed_told ws author moment message None = silent refl refl
  signed_told ws author moment message (Some w) = either s.upgraded (version_told w (Signed ws author moment message)) (silent refl refl)

  branch_told : (ws : ℕ) (name : List ℕ) (o : Option Workspace) → Told false (branch_in s ws name o)
  branch_told ws name None = silent refl refl
  branch_told ws name (Some w) = either (is_open (Some w)) (silent refl refl) (either (is_new_branch s.history name) (room _ _) (silent refl refl))

  tag_told : (name : List ℕ) (found : Result Found FindFault) → Told false (tag_found s name found)
  tag_told name (Err fault) = silent refl refl
  tag_told name (Ok found) = room _ _

  -- ---- edits and composites
  edit_made : (ws : ℕ) (words : List ℕ) (o : Option Operation) → Told false (with_operation s ws words o)
  edit_made ws words None = silent refl refl
  edit_made ws words (Some operation) = room _ _

  edited_told : (ws : ℕ) (read : Result Recorded EditFault) → Told false (edited s ws read)
  edited_told ws (Err fault) = silent refl refl
  edited_told ws (Ok r) = edit_made ws (id_words r.id) r.operation

  edit_told : (meta : Meta) (ws : ℕ) (o : Option Workspace) (edit : edits.Edit) → Told false (edit_in s meta ws o edit)
  edit_told meta ws None edit = silent refl refl
  edit_told meta ws (Some w) edit = edited_told ws (recorded meta (model_of meta s.history w) ws edit)

  imported_told : (ws : ℕ) (rows : List DocRow) (read : Result (Option Operation) EditFault) → Told false (imported s ws rows read)
  imported_told ws rows (Err fault) = silent refl refl
  imported_told ws rows (Ok operation) = edit_made ws (decimal (length rows)) operation

  import_read_told : (meta : Meta) (ws : ℕ) (w : Workspace) (read : Result (List DocRow) ModelFault) → Told false (import_read s meta ws w read)
  import_read_told meta ws w (Err fault) = silent refl refl
  import_read_told meta ws w (Ok rows) = imported_told ws rows (recorded_import meta (model_of meta s.history w) ws rows)

  import_told : (meta : Meta) (ws : ℕ) (o : Option Workspace) (text : List ℕ) → Told false (import_in s meta ws o text)
  import_told meta ws None text = silent refl refl
  import_told meta ws (Some w) text = import_read_told meta ws w (doc_of meta text)

  begin_told : (ws : ℕ) (name : List ℕ) (o : Option Workspace) → Told false (begin_in s ws name o)
  begin_told ws name None = silent refl refl
  begin_told ws name (Some w) = either (is_open (Some w)) (silent refl refl) (room _ _)

  end_told : (ws : ℕ) (o : Option Workspace) → Told false (end_in s ws o)
  end_told ws None = silent refl refl
  end_told ws (Some w) = either (is_open (Some w)) (room _ _) (silent refl refl)

  undo_told : (ws : ℕ) (o : Option Workspace) → Told false (undo_in s ws o)
  undo_told ws None = silent refl refl
  undo_told ws (Some w) = either (is_open (Some w)) (silent refl refl) (either (has_operations (Some w)) (room _ _) (silent refl refl))

  discard_told : (ws : ℕ) (o : Option Workspace) → Told false (discard_in s ws o)
  discard_told ws None = silent refl refl
  discard_told ws (Some w) = either (can_discard (Some w)) (room _ _) (silent refl refl)

  tidy_told : (meta : Meta) (ws : ℕ) (o : Option Workspace) → Told false (tidy_in s meta ws o)
  tidy_told meta ws None = silent refl refl
  tidy_told meta ws (Some w) = either (is_open (Some w)) (silent refl refl) (either (is_tidy meta w.operations) (silent refl refl) (room _ _))

  -- ---- packages
  operations_made : (ws : ℕ) (operations : List Operation) → Told false (with_operations s ws operations)
  operations_made ws [] = silent refl refl
  operations_made ws (o ∷ os) = room _ _

  applied_told : (ws : ℕ) (operations : List Operation) (stop : Option ApplyFault) → Told false (applied s ws operations stop)
  applied_told ws operations None = operations_made ws operations
  applied_told ws operations (Some stop) = silent refl refl

  apply_read_told : (meta : Meta) (ws : ℕ) (w : Workspace) (read : Result (List Operation) FormFault) → Told false (apply_read s meta ws w read)
  apply_read_told meta ws w (Err fault) = silent refl refl
  apply_read_told meta ws w (Ok operations) = applied_told ws operations (first_stop meta (model_of meta s.history w) (steps_all operations))

  apply_told : (meta : Meta) (ws : ℕ) (o : Option Workspace) (bytes : List ℕ) → Told false (apply_in s meta ws o bytes)
  apply_told meta ws None bytes = silent refl refl
  apply_told meta ws (Some w) bytes = either (is_open (Some w)) (silent refl refl) (apply_read_told meta ws w (whole_of package_at bytes))

  load_package_told : (meta : Meta) (ws : ℕ) (w : Workspace) (operations : List Operation) → Told false (load_package s meta ws w operations)
  load_package_told meta ws w operations =
      either (takes w.composite operations) (applied_told ws operations (first_stop meta (model_of meta s.history w) (steps_all operations))) (silent refl refl)

  load_read_told : (meta : Meta) (ws : ℕ) (w : Workspace) (read : Result (List Operation) FormFault) → Told false (load_read s meta ws w read)
  load_read_told meta ws w (Err fault) = silent refl refl
  load_read_told meta ws w (Ok operations) = load_package_told meta ws w operations

  load_bytes_told : (meta : Meta) (ws : ℕ) (w : Workspace) (bytes : Option (List ℕ)) → Told false (load_bytes s meta ws w bytes)
  load_bytes_told meta ws w None = silent refl refl
  load_bytes_told meta ws w (Some bytes) = load_read_told meta ws w (whole_of package_at bytes)

  load_told : (meta : Meta) (ws : ℕ) (o : Option Workspace) (text : List ℕ) → Told false (load_in s meta ws o text)
  load_told meta ws None text = silent refl refl
  load_told meta ws (Some w) text = load_bytes_told meta ws w (bytes_of_lines (slice_split is_lf text))

  taken_out_told : (meta : Meta) (ws : ℕ) (w : Workspace) (operations : List Operation) (interfering : Option ℕ)
      → Told false (taken_out s meta ws w operations interfering)
  taken_out_told meta ws w operations (Some u) = silent refl refl
  taken_out_told meta ws w operations None = either (have_pair meta operations w.operations) (silent refl refl) (operations_made ws (rev_package operations))

  revert_found_told : (meta : Meta) (ws : ℕ) (w : Workspace) (found : Result Found FindFault) → Told false (revert_found s meta ws w found)
  revert_found_told meta ws w (Err fault) = silent refl refl
  revert_found_told meta ws w (Ok found) =
      let operations = package_of_version s.history.versions found.version in
      either (is_among (path s.history w.base) found.version)
      (taken_out_told meta ws w operations (first_interfering meta s.history.versions operations (path_after s.history found.version w.base)))
      (silent refl refl)

  revert_told : (meta : Meta) (ws : ℕ) (o : Option Workspace) (version : ℕ) → Told false (revert_in s meta ws o version)
  revert_told meta ws None version = silent refl refl
  revert_told meta ws (Some w) version = either (is_open (Some w)) (silent refl refl) (revert_found_told meta ws w (found_by_number s.history version))

  -- ---- merging
  update_told : (meta : Meta) (ws : ℕ) (choices : Option (List ℕ)) (o : Option Workspace) → Told false (update_in s meta ws choices o)
  update_told meta ws choices None = silent refl refl
  update_told meta ws choices (Some w) =
      either (is_open (Some w)) (silent refl refl)
      (chosen_told (update_buckets meta s.history w) choices (either (w.base == head s.history w.branch) (silent refl refl) (room _ _)))

  merge_named_told : (meta : Meta) (ws : ℕ) (w : Workspace) (choices : Option (List ℕ)) (branch : Option ℕ)
      → Told false (merge_named s meta ws w choices branch)
  merge_named_told meta ws w choices None = silent refl refl
  merge_named_told meta ws w choices (Some branch) =
      either (branch == w.branch) (silent refl refl)
      (chosen_told (merge_buckets meta s.history w (head s.history branch)) choices
      (either (has_theirs s.history w (head s.history branch)) (room _ _) (silent refl refl)))

  merge_told : (meta : Meta) (ws : ℕ) (name : List ℕ) (choices : Option (List ℕ)) (o : Option Workspace) → Told false (merge_in s meta ws name choices o)
  merge_told meta ws name choices None = silent refl refl
  merge_told meta ws name choices (Some w) = either (is_open (Some w)) (silent refl refl) (merge_named_told meta ws w choices (branch_named s.history name))

  -- ---- what is shown
  changes_told : (meta : Meta) (o : Option Workspace) → Told false (changes_in meta o)
  changes_told meta None = silent refl refl
  changes_told meta (Some w) = shows refl (changes_apart meta w.operations w.composite)

  shown_told : (meta : Meta) (h : History) (o : Option Workspace) → Told false (show_in meta h o)
  shown_told meta h None = silent refl refl
  shown_told meta h (Some w) = shows refl (text_apart meta (model_of meta h w))

  validated_told : (meta : Meta) (h : History) (o : Option Workspace) → Told true (validate_in meta h o)
  validated_told meta h None = record { refused_none = record { none = λ refuses. refl }; apart = λ plain. absurd cc }
  validated_told meta h (Some w) = record { refused_none = record { none = λ refuses. refl }; apart = λ plain. absurd cc }

  text_told : (meta : Meta) (h : History) (found : Result Found FindFault) → Told false (cat_found meta h found)
  text_told meta h (Err fault) = silent refl refl
  text_told meta h (Ok found) = shows refl (text_apart meta (state_of meta h found.version))

  package_told : (meta : Meta) (h : History) (found : Result Found FindFault) → Told false (package_found meta h found)
  package_told meta h (Err fault) = silent refl refl
  package_told meta h (Ok found) =
      either (is_package (package_of_version h.versions found.version))
      (shows refl (package_apart meta (package_of_version h.versions found.version))) (silent refl refl)

  -- ---- each command
  command_told : (meta : Meta) (block : Option (List ℕ)) (command : Command) → Told (is_validate command) (decide_begun s meta block command)
  unfolding decide_init decide_evolve decide_checkout decide_drop decide_commit decide_signed decide_upgrade decide_branch decide_tag decide_edit
      decide_import decide_begin decide_end decide_undo decide_discard decide_tidy decide_apply decide_load decide_revert decide_update decide_merge
      decide_changes decide_show decide_validate decide_cat decide_package decide_log
  command_told meta block commands.Init = silent refl refl
  command_told meta block commands.Evolve = evolve_told (block_text block) meta (metamodel_of (block_text block))
  command_told meta block (commands.Checkout spec) = checkout_told meta (found_by_spec s.history spec)
  command_told meta block (commands.Edit ws edit) = edit_told meta ws (workspace_of s ws) edit
  command_told meta block (commands.Import ws) = import_told meta ws (workspace_of s ws) (block_text block)
  command_told meta block (commands.Load ws) = load_told meta ws (workspace_of s ws) (block_text block)
  command_told meta block (commands.Begin ws name) = begin_told ws name (workspace_of s ws)
  command_told meta block (commands.End ws) = end_told ws (workspace_of s ws)
  command_told meta block (commands.Undo ws) = undo_told ws (workspace_of s ws)
  command_told meta block (commands.Discard ws) = discard_told ws (workspace_of s ws)
  command_told meta block (commands.Tidy ws) = tidy_told meta ws (workspace_of s ws)
  command_told meta block (commands.Apply ws bytes) = apply_told meta ws (workspace_of s ws) bytes
  command_told meta block (commands.Changes ws) = changes_told meta (workspace_of s ws)
  command_told meta block (commands.Show ws) = shown_told meta s.history (workspace_of s ws)
  command_told meta block (commands.Cat spec) = text_told meta s.history (found_by_spec s.history spec)
  command_told meta block (commands.Validate ws) = validated_told meta s.history (workspace_of s ws)
  command_told meta block (commands.Commit ws message) = commit_told ws (unwrap_or message []) (workspace_of s ws)
  command_told meta block (commands.Signed ws author moment message) = signed_told ws author moment (unwrap_or message []) (workspace_of s ws)
  command_told meta block (commands.Branch ws name) = branch_told ws name (workspace_of s ws)
  command_told meta block (commands.Tag name spec) = either (has_tag s.history name) (silent refl refl) (tag_told name (found_by_spec s.history spec))
  command_told meta block commands.Log = shows refl (log_apart s.history)
  command_told meta block (commands.Package spec) = package_told meta s.history (found_by_spec s.history spec)
  command_told meta block (commands.Update ws choices) = update_told meta ws choices (workspace_of s ws)
  command_told meta block (commands.Merge ws branch choices) = merge_told meta ws branch choices (workspace_of s ws)
  command_told meta block (commands.Revert ws version) = revert_told meta ws (workspace_of s ws) version
  command_told meta block (commands.Drop ws) = drop_told ws (workspace_of s ws)
  command_told meta block commands.Upgrade = either s.upgraded (silent refl refl) (room _ _)

  -- before there is a metamodel
  before_told : (block : Option (List ℕ)) (command : Command) → Told (is_validate command) (decide_with s None block command)
  before_told block command = of_told (is_validate command) (either (facts command).begins (init_told None _) (silent refl refl))

  with_told : (m : Option Meta) (block : Option (List ℕ)) (command : Command) → Told (is_validate command) (decide_with s m block command)
  with_told None block command = before_told block command
  with_told (Some meta) block command = command_told meta block command

  read_none : (block : Option (List ℕ)) (read : Result Command ℕ) → NoneIfRefused (decide_read s block read)
  unfolding decide_command
  read_none block (Ok command) = (with_told s.meta block command).refused_none
  read_none block (Err column) = record { none = λ refuses. refl }

pub refusals_make_none : RefusalsMakeNone
unfolding decide_line
refusals_make_none s line block = read_none s block (command_of line)

pub data_lines_are_apart : DataLinesAreApart
unfolding decide_command
data_lines_are_apart s block command plain = (with_told s s.meta block command).apart plain
