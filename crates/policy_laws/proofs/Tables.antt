-- Each command's event is of the command's kind, and of the workspace that it names.
use Rattle.std.proofs.Common.{◌≡◌, ℕ, nat_le, nat_eq, not, List, [], ◌∷◌, length, Bool, true, false, Option, None, Some}
use Rattle.std.proofs.Common.{Result, Ok, Err, cond, refl, sym, ◌∙◌, subst}
use Rattle.std.specs.Prelude.{unwrap_or, if◌then◌else◌}
use Rattle.std.specs.Fmt.{decimal}
use Rattle.std.specs.List.{slice_split}
use Rattle.std.proofs.lemmas.Option.{none-some, same_Some}
use Rattle.commit_journal.specs.Journal.{fit_of}
use Rattle.commit_journal.specs.declared.fit.Fit.{Fit}
use Rattle.commit_journal.specs.declared.fit.Fit.TheVariants as fits
use Rattle.host_port.specs.Cut.{is_lf}
use Rattle.ecore_meta.specs.Meta.{Meta}
use Rattle.model_state.specs.Packages.{rev_package, steps_all}
use Rattle.model_state.specs.Steps.{first_stop}
use Rattle.model_state.specs.declared.operation.Operation.{Operation}
use Rattle.model_state.specs.declared.step.ApplyFault.{ApplyFault}
use Rattle.edits.specs.declared.edit.Edit as edits
use Rattle.edits.specs.declared.edit.Recorded.{Recorded}
use Rattle.edit_steps.specs.declared.fault.EditFault.{EditFault}
use Rattle.edits.specs.Recording.{recorded}
use Rattle.model_documents.specs.declared.doc.DocRow.{DocRow}
use Rattle.model_documents.specs.declared.fault.ModelFault.{ModelFault}
use Rattle.model_documents.specs.Document.{doc_of}
use Rattle.import_laws.specs.Import.{recorded_import}
use Rattle.history_tree.specs.declared.found.Found.{Found}
use Rattle.history_tree.specs.declared.found.FindFault.{FindFault}
use Rattle.history_tree.specs.Found.{found_by_number, branch_named}
use Rattle.history_tree.specs.History.{head, path}
use Rattle.history_tree.specs.MergeBase.{is_among}
use Rattle.history_tree.specs.Since.{path_after}
use Rattle.history_tree.specs.States.{package_of_version}
use Rattle.history_tree.proofs.Heads.{same_number}
use Rattle.footprint.specs.declared.bucket.Bucket.{Bucket}
use Rattle.merge_laws.specs.Choices.{are_choices}
use Rattle.merge_laws.specs.Pairs.{have_pair, first_interfering}
use Rattle.merge_laws.specs.Tidy.{is_tidy}
use Rattle.op_form.specs.declared.event.Event.{Event}
use Rattle.op_form.specs.declared.event.Event.TheVariants.{Checkout, Edit, Begin, End, Undo, Discard, Tidy, Commit, Branch, Update, Merge}
use Rattle.op_form.specs.declared.event.Event.TheVariants.{Drop, Signed}
use Rattle.op_form.specs.Events.{event_encoding}
use Rattle.op_form.specs.Formed.{is_event, is_package}
use Rattle.op_reading.specs.declared.fault.FormFault.{FormFault}
use Rattle.op_reading.specs.Packages.{package_at}
use Rattle.op_reading.specs.Events.{whole_of}
use Rattle.script_lang.specs.declared.command.Command.{Command}
use Rattle.script_lang.specs.declared.command.Command.TheVariants as commands
use Rattle.script_lang.specs.declared.reply.Refusal.TheVariants as refusals
use Rattle.command_facts.specs.declared.table.CommandKind.{CommandKind}
use Rattle.command_facts.specs.declared.table.CommandKind.TheVariants.{Looks, Works, Keeps}
use Rattle.access_rules.specs.Rule.{command_kind, workspace_in}
use Rattle.plain_repository.specs.State.{State, Workspace, workspace_of, model_of, is_open, has_local, has_operations}
use Rattle.plain_repository.specs.Answers.{Decision, refused, most_events, by_fit, with_room}
use Rattle.plain_repository.specs.Specs.{found_by_spec}
use Rattle.plain_repository.specs.Metamodels.{decide_init, decide_evolve}
use Rattle.plain_repository.specs.Checkouts.{checkout_found, decide_checkout, drop_in, decide_drop}
use Rattle.plain_repository.specs.Commits.{is_new_branch, version_made, commit_in, decide_commit, signed_in, decide_signed}
use Rattle.plain_repository.specs.Commits.{decide_upgrade, branch_in, decide_branch, decide_tag}
use Rattle.plain_repository.specs.Edits.{takes, id_words, with_operation, edited, edit_in, decide_edit, imported, import_read, import_in, decide_import}
use Rattle.plain_repository.specs.Composites.{begin_in, decide_begin, end_in, decide_end}
use Rattle.plain_repository.specs.Local.{can_discard, undo_in, decide_undo, discard_in, decide_discard}
use Rattle.plain_repository.specs.Tidying.{tidy_in, decide_tidy}
use Rattle.plain_repository.specs.Applying.{with_operations, applied, apply_read, apply_in, decide_apply, bytes_of_lines, load_read, load_bytes}
use Rattle.plain_repository.specs.Applying.{load_in, decide_load, taken_out, revert_found, revert_in, decide_revert}
use Rattle.plain_repository.specs.Choices.{chosen}
use Rattle.plain_repository.specs.Merging.{update_buckets, update_in, decide_update, has_theirs, merge_buckets, merge_named, merge_in, decide_merge}
use Rattle.plain_repository.specs.Views.{changes_in, decide_changes, show_in, decide_show, validate_in, decide_validate, cat_found, decide_cat, package_found}
use Rattle.plain_repository.specs.Views.{decide_package, decide_log}
use Rattle.plain_repository.specs.Events.{is_of}
use Rattle.plain_repository.specs.Repository.{block_text, decide_begun, decide_with, decide_command}
use Rattle.policy_laws.specs.Tables.{IsOfKind, TablesAreRight}

-- the event of the decision, if it makes one, is of that kind, and of the workspace that is named
record Makes (kind : CommandKind) (named : Option ℕ) (s : State) (d : Decision) : Type 0 where
  holds : (event : Event) → d.event ≡ Some event → IsOfKind kind named s event

-- ---- room
-- where there is room for an event, it is the one that is made
same_event : (s : State) (lines : List (List ℕ)) (words : List ℕ) (e event : Event) → (with_room s lines words e).event ≡ Some event → e ≡ event
unfolding with_room
same_event s lines words e event is = by (nat_le most_events s.events) (is_event e) (fit_of s.end (length (event_encoding e))) is
  where
    by : (full formed : Bool) (fit : Fit)
        → (cond full (refused refusals.HistoryFull) (cond formed (by_fit fit lines words e) (refused refusals.TooLarge))).event ≡ Some event → e ≡ event
    by true formed fit is = absurd cc
    by false false fit is = absurd cc
    by false true fits.Yes is = same_Some e event is
    by false true fits.TooLarge is = absurd cc
    by false true fits.Full is = absurd cc

-- an event of that kind
made : {kind : CommandKind} {named : Option ℕ} {s : State} (lines : List (List ℕ)) (words : List ℕ) (e : Event) → IsOfKind kind named s e
    → Makes kind named s (with_room s lines words e)
made {kind} {named} {s} lines words e is_of_kind =
    record { holds = λ event is. subst (λ (x : Event). IsOfKind kind named s x) (same_event s lines words e event is) is_of_kind }

-- a decision without an event
none : {kind : CommandKind} {named : Option ℕ} {s : State} {d : Decision} → d.event ≡ None → Makes kind named s d
none without = record { holds = λ event is. absurd (none-some event (sym without ∙ is)) }

-- one of two decisions, by a test
either : {kind : CommandKind} {named : Option ℕ} {s : State} (b : Bool) {x y : Decision} → Makes kind named s x → Makes kind named s y
    → Makes kind named s (if b then x else y)
either true first second = first
either false first second = second

choice : {kind : CommandKind} {named : Option ℕ} {s : State} (rows : List Bucket) (choices : Option (List ℕ)) {d : Decision} → Makes kind named s d
    → Makes kind named s (chosen rows choices d)
choice [] None rest = rest
choice (b ∷ bs) None rest = none refl
choice [] (Some letters) rest = either (are_choices letters []) rest (none refl)
choice (b ∷ bs) (Some letters) rest = either (are_choices letters (b ∷ bs)) rest (none refl)

module _ (s : State) (meta : Meta) where
  -- ---- commands that work in a workspace
  module _ (ws : ℕ) where
    -- an event of the workspace, which is there
    worked : (lines : List (List ℕ)) (words : List ℕ) (e : Event) → is_of ws e ≡ true → (w : Workspace) → workspace_of s ws ≡ Some w
        → Makes Works (Some ws) s (with_room s lines words e)
    worked lines words e of w there = made lines words e (record { of = of; workspace = w; there = there })

    own : nat_eq ws ws ≡ true
    own = same_number ws

    drop_made : (o : Option Workspace) → workspace_of s ws ≡ o → Makes Works (Some ws) s (drop_in s ws o)
    drop_made None there = none refl
    drop_made (Some w) there = worked [] [] (Drop ws) own w there

    begin_made : (name : List ℕ) (o : Option Workspace) → workspace_of s ws ≡ o → Makes Works (Some ws) s (begin_in s ws name o)
    begin_made name None there = none refl
    begin_made name (Some w) there = either (is_open (Some w)) (none refl) (worked [] [] (Begin ws name) own w there)

    end_made : (o : Option Workspace) → workspace_of s ws ≡ o → Makes Works (Some ws) s (end_in s ws o)
    end_made None there = none refl
    end_made (Some w) there = either (is_open (Some w)) (worked [] [] (End ws) own w there) (none refl)

    undo_made : (o : Option Workspace) → workspace_of s ws ≡ o → Makes Works (Some ws) s (undo_in s ws o)
    undo_made None there = none refl
    undo_made (Some w) there =
        either (is_open (Some w)) (none refl) (either (has_operations (Some w)) (worked [] [] (Undo ws) own w there) (none refl))

    discard_made : (o : Option Workspace) → workspace_of s ws ≡ o → Makes Works (Some ws) s (discard_in s ws o)
    discard_made None there = none refl
    discard_made (Some w) there = either (can_discard (Some w)) (worked [] [] (Discard ws) own w there) (none refl)

    tidy_made : (o : Option Workspace) → workspace_of s ws ≡ o → Makes Works (Some ws) s (tidy_in s meta ws o)
    tidy_made None there = none refl
    tidy_made (Some w) there =
        either (is_open (Some w)) (none refl) (either (is_tidy meta w.operations) (none refl) (worked [] [] (Tidy ws) own w there))

    version_made_in : (w : Workspace) → workspace_of s ws ≡ Some w → (event : Event) → is_of ws event ≡ true → Makes Works (Some ws) s (version_made s w event)
    version_made_in w there event of =
        either (not (nat_eq w.base (head s.history w.branch))) (none refl) (either (is_open (Some w)) (none refl)
        (either (has_local (Some w)) (worked [] (decimal (length s.history.versions)) event of w there) (none refl)))

    commit_made : (message : List ℕ) (o : Option Workspace) → workspace_of s ws ≡ o → Makes Works (Some ws) s (commit_in s ws message o)
    commit_made message None there = none refl
    commit_made message (Some w) there = either s.upgraded (none refl) (version_made_in w there (Commit ws message) own)

    signed_made : (author : List ℕ) (moment : ℕ) (message : List ℕ) (o : Option Workspace) → workspace_of s ws ≡ o
        → Makes Works (Some ws) s (signed_in s ws author moment message o)
    signed_made author moment message None there = none refl
    signed_made author moment message (Some w) there = either s.upgraded (version_made_in w there (Signed ws author moment message) own) (none refl)

    branch_made : (name : List ℕ) (o : Option Workspace) → workspace_of s ws ≡ o → Makes Works (Some ws) s (branch_in s ws name o)
    branch_made name None there = none refl
    branch_made name (Some w) there =
        either (is_open (Some w)) (none refl) (either (is_new_branch s.history name) (worked [] [] (Branch ws name) own w there) (none refl))

    update_made : (choices : Option (List ℕ)) (o : Option Workspace) → workspace_of s ws ≡ o → Makes Works (Some ws) s (update_in s meta ws choices o)
    update_made choices None there = none refl
    update_made choices (Some w) there =
        let letters = unwrap_or choices [] in
        let version = head s.history w.branch in
        either (is_open (Some w)) (none refl) (choice (update_buckets meta s.history w) choices
        (either (nat_eq w.base version) (none refl) (worked [] (decimal version) (Update ws letters) own w there)))

    merge_made_in : (w : Workspace) → workspace_of s ws ≡ Some w → (choices : Option (List ℕ)) (o : Option ℕ)
        → Makes Works (Some ws) s (merge_named s meta ws w choices o)
    merge_made_in w there choices None = none refl
    merge_made_in w there choices (Some branch) =
        let other = head s.history branch in
        either (nat_eq branch w.branch) (none refl) (choice (merge_buckets meta s.history w other) choices
        (either (has_theirs s.history w other) (worked [] (decimal other) (Merge ws branch (unwrap_or choices [])) own w there) (none refl)))

    merge_made : (name : List ℕ) (choices : Option (List ℕ)) (o : Option Workspace) → workspace_of s ws ≡ o
        → Makes Works (Some ws) s (merge_in s meta ws name choices o)
    merge_made name choices None there = none refl
    merge_made name choices (Some w) there = either (is_open (Some w)) (none refl) (merge_made_in w there choices (branch_named s.history name))

    -- ---- edits
    operation_made : (w : Workspace) → workspace_of s ws ≡ Some w → (words : List ℕ) (o : Option Operation)
        → Makes Works (Some ws) s (with_operation s ws words o)
    operation_made w there words None = none refl
    operation_made w there words (Some o) = worked [] words (Edit ws (o ∷ [])) own w there

    edited_made : (w : Workspace) → workspace_of s ws ≡ Some w → (r : Result Recorded EditFault) → Makes Works (Some ws) s (edited s ws r)
    edited_made w there (Err fault) = none refl
    edited_made w there (Ok r) = operation_made w there (id_words r.id) r.operation

    edit_made : (edit : edits.Edit) (o : Option Workspace) → workspace_of s ws ≡ o → Makes Works (Some ws) s (edit_in s meta ws o edit)
    edit_made edit None there = none refl
    edit_made edit (Some w) there = edited_made w there (recorded meta (model_of meta s.history w) ws edit)

    imported_made : (w : Workspace) → workspace_of s ws ≡ Some w → (rows : List DocRow) (r : Result (Option Operation) EditFault)
        → Makes Works (Some ws) s (imported s ws rows r)
    imported_made w there rows (Err fault) = none refl
    imported_made w there rows (Ok operation) = operation_made w there (decimal (length rows)) operation

    import_made_in : (w : Workspace) → workspace_of s ws ≡ Some w → (r : Result (List DocRow) ModelFault) → Makes Works (Some ws) s (import_read s meta ws w r)
    import_made_in w there (Err fault) = none refl
    import_made_in w there (Ok rows) = imported_made w there rows (recorded_import meta (model_of meta s.history w) ws rows)

    import_made : (text : List ℕ) (o : Option Workspace) → workspace_of s ws ≡ o → Makes Works (Some ws) s (import_in s meta ws o text)
    import_made text None there = none refl
    import_made text (Some w) there = import_made_in w there (doc_of meta text)

    -- ---- packages
    operations_made : (w : Workspace) → workspace_of s ws ≡ Some w → (os : List Operation) → Makes Works (Some ws) s (with_operations s ws os)
    operations_made w there [] = none refl
    operations_made w there (o ∷ os) = worked [] [] (Edit ws (o ∷ os)) own w there

    applied_made : (w : Workspace) → workspace_of s ws ≡ Some w → (os : List Operation) (stop : Option ApplyFault)
        → Makes Works (Some ws) s (applied s ws os stop)
    applied_made w there os (Some stop) = none refl
    applied_made w there os None = operations_made w there os

    apply_made_in : (w : Workspace) → workspace_of s ws ≡ Some w → (r : Result (List Operation) FormFault) → Makes Works (Some ws) s (apply_read s meta ws w r)
    apply_made_in w there (Err fault) = none refl
    apply_made_in w there (Ok os) = applied_made w there os (first_stop meta (model_of meta s.history w) (steps_all os))

    apply_made : (bytes : List ℕ) (o : Option Workspace) → workspace_of s ws ≡ o → Makes Works (Some ws) s (apply_in s meta ws o bytes)
    apply_made bytes None there = none refl
    apply_made bytes (Some w) there = either (is_open (Some w)) (none refl) (apply_made_in w there (whole_of package_at bytes))

    load_made_in : (w : Workspace) → workspace_of s ws ≡ Some w → (r : Result (List Operation) FormFault) → Makes Works (Some ws) s (load_read s meta ws w r)
    load_made_in w there (Err fault) = none refl
    load_made_in w there (Ok os) =
        either (takes w.composite os) (applied_made w there os (first_stop meta (model_of meta s.history w) (steps_all os))) (none refl)

    load_made_of : (w : Workspace) → workspace_of s ws ≡ Some w → (o : Option (List ℕ)) → Makes Works (Some ws) s (load_bytes s meta ws w o)
    load_made_of w there None = none refl
    load_made_of w there (Some bytes) = load_made_in w there (whole_of package_at bytes)

    load_made : (text : List ℕ) (o : Option Workspace) → workspace_of s ws ≡ o → Makes Works (Some ws) s (load_in s meta ws o text)
    load_made text None there = none refl
    load_made text (Some w) there = load_made_of w there (bytes_of_lines (slice_split is_lf text))

    taken_out_made : (w : Workspace) → workspace_of s ws ≡ Some w → (os : List Operation) (o : Option ℕ) → Makes Works (Some ws) s (taken_out s meta ws w os o)
    taken_out_made w there os (Some u) = none refl
    taken_out_made w there os None = either (have_pair meta os w.operations) (none refl) (operations_made w there (rev_package os))

    revert_made_in : (w : Workspace) → workspace_of s ws ≡ Some w → (r : Result Found FindFault) → Makes Works (Some ws) s (revert_found s meta ws w r)
    revert_made_in w there (Err fault) = none refl
    revert_made_in w there (Ok found) =
        let os = package_of_version s.history.versions found.version in
        either (is_among (path s.history w.base) found.version)
        (taken_out_made w there os (first_interfering meta s.history.versions os (path_after s.history found.version w.base))) (none refl)

    revert_made : (version : ℕ) (o : Option Workspace) → workspace_of s ws ≡ o → Makes Works (Some ws) s (revert_in s meta ws o version)
    revert_made version None there = none refl
    revert_made version (Some w) there = either (is_open (Some w)) (none refl) (revert_made_in w there (found_by_number s.history version))

  -- ---- commands that look
  checkout_made : (r : Result Found FindFault) → Makes Looks None s (checkout_found s meta r)
  checkout_made (Err fault) = none refl
  checkout_made (Ok found) = made _ _ (Checkout found.version found.branch) (record { version = found.version; branch = found.branch; is = refl })

  changes_made : (named : Option ℕ) (o : Option Workspace) → Makes Looks named s (changes_in meta o)
  changes_made named None = none refl
  changes_made named (Some w) = none refl

  show_made : (named : Option ℕ) (o : Option Workspace) → Makes Looks named s (show_in meta s.history o)
  show_made named None = none refl
  show_made named (Some w) = none refl

  validate_made : (named : Option ℕ) (o : Option Workspace) → Makes Looks named s (validate_in meta s.history o)
  validate_made named None = none refl
  validate_made named (Some w) = none refl

  cat_made : (r : Result Found FindFault) → Makes Looks None s (cat_found meta s.history r)
  cat_made (Err fault) = none refl
  cat_made (Ok found) = none refl

  package_made : (r : Result Found FindFault) → Makes Looks None s (package_found meta s.history r)
  package_made (Err fault) = none refl
  package_made (Ok found) = either (is_package (package_of_version s.history.versions found.version)) (none refl) (none refl)

  -- ---- commands that keep what workspaces have in common: of their events nothing is asked
  any : (named : Option ℕ) (d : Decision) → Makes Keeps named s d
  any named d = record { holds = λ event is. tt }

  command_made : (block : Option (List ℕ)) (command : Command) → Makes (command_kind command) (workspace_in command) s (decide_begun s meta block command)
  unfolding decide_init decide_evolve decide_checkout decide_drop decide_commit decide_signed decide_upgrade decide_branch decide_tag decide_edit
      decide_import decide_begin decide_end decide_undo decide_discard decide_tidy decide_apply decide_load decide_revert decide_update decide_merge
      decide_changes decide_show decide_validate decide_cat decide_package decide_log
  command_made block commands.Init = any None _
  command_made block commands.Evolve = any None _
  command_made block (commands.Checkout spec) = checkout_made (found_by_spec s.history spec)
  command_made block (commands.Edit ws edit) = edit_made ws edit (workspace_of s ws) refl
  command_made block (commands.Import ws) = import_made ws (block_text block) (workspace_of s ws) refl
  command_made block (commands.Load ws) = load_made ws (block_text block) (workspace_of s ws) refl
  command_made block (commands.Begin ws name) = begin_made ws name (workspace_of s ws) refl
  command_made block (commands.End ws) = end_made ws (workspace_of s ws) refl
  command_made block (commands.Undo ws) = undo_made ws (workspace_of s ws) refl
  command_made block (commands.Discard ws) = discard_made ws (workspace_of s ws) refl
  command_made block (commands.Tidy ws) = tidy_made ws (workspace_of s ws) refl
  command_made block (commands.Apply ws bytes) = apply_made ws bytes (workspace_of s ws) refl
  command_made block (commands.Changes ws) = changes_made (Some ws) (workspace_of s ws)
  command_made block (commands.Show ws) = show_made (Some ws) (workspace_of s ws)
  command_made block (commands.Cat spec) = cat_made (found_by_spec s.history spec)
  command_made block (commands.Validate ws) = validate_made (Some ws) (workspace_of s ws)
  command_made block (commands.Commit ws message) = commit_made ws (unwrap_or message []) (workspace_of s ws) refl
  command_made block (commands.Signed ws author moment message) = signed_made ws author moment (unwrap_or message []) (workspace_of s ws) refl
  command_made block (commands.Branch ws name) = branch_made ws name (workspace_of s ws) refl
  command_made block (commands.Tag name spec) = any None _
  command_made block commands.Log = none refl
  command_made block (commands.Package spec) = package_made (found_by_spec s.history spec)
  command_made block (commands.Update ws choices) = update_made ws choices (workspace_of s ws) refl
  command_made block (commands.Merge ws branch choices) = merge_made ws branch choices (workspace_of s ws) refl
  command_made block (commands.Revert ws version) = revert_made ws version (workspace_of s ws) refl
  command_made block (commands.Drop ws) = drop_made ws (workspace_of s ws) refl
  command_made block commands.Upgrade = any None _

-- before there is a metamodel, `init` alone makes an event
before_made : (s : State) (block : Option (List ℕ)) (command : Command)
    → Makes (command_kind command) (workspace_in command) s (decide_with s None block command)
before_made s block commands.Init = record { holds = λ event is. tt }
before_made s block commands.Evolve = none refl
before_made s block (commands.Checkout spec) = none refl
before_made s block (commands.Edit ws edit) = none refl
before_made s block (commands.Import ws) = none refl
before_made s block (commands.Load ws) = none refl
before_made s block (commands.Begin ws name) = none refl
before_made s block (commands.End ws) = none refl
before_made s block (commands.Undo ws) = none refl
before_made s block (commands.Discard ws) = none refl
before_made s block (commands.Tidy ws) = none refl
before_made s block (commands.Apply ws bytes) = none refl
before_made s block (commands.Changes ws) = none refl
before_made s block (commands.Show ws) = none refl
before_made s block (commands.Cat spec) = none refl
before_made s block (commands.Validate ws) = none refl
before_made s block (commands.Commit ws message) = none refl
before_made s block (commands.Signed ws author moment message) = none refl
before_made s block (commands.Branch ws name) = none refl
before_made s block (commands.Tag name spec) = none refl
before_made s block commands.Log = none refl
before_made s block (commands.Package spec) = none refl
before_made s block (commands.Update ws choices) = none refl
before_made s block (commands.Merge ws branch choices) = none refl
before_made s block (commands.Revert ws version) = none refl
before_made s block (commands.Drop ws) = none refl
before_made s block commands.Upgrade = none refl

pub tables_are_right : TablesAreRight
unfolding decide_command
tables_are_right s block command event is = (by s.meta).holds event is
  where
    by : (m : Option Meta) → Makes (command_kind command) (workspace_in command) s (decide_with s m block command)
    by None = before_made s block command
    by (Some meta) = command_made s meta block command
