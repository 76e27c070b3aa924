-- The event of a command is what the command asked for, argument by argument.
use Rattle.std.proofs.Common.{◌≡◌, ℕ, nat_le, nat_eq, not, List, [], ◌∷◌, length, Bool, true, false, Option, None, Some, Result, Ok, Err}
use Rattle.std.proofs.Common.{refl, sym, ◌∙◌, ap, subst}
use Rattle.std.specs.Prelude.{unwrap_or, slice_get, if◌then◌else◌}
use Rattle.std.specs.Fmt.{decimal}
use Rattle.std.specs.List.{slice_split}
use Rattle.host_port.specs.Cut.{is_lf}
use Rattle.std.proofs.lemmas.Option.{none-some, same_Some}
use Rattle.commit_journal.specs.Journal.{fit_of}
use Rattle.commit_journal.specs.declared.fit.Fit.{Fit}
use Rattle.commit_journal.specs.declared.fit.Fit.TheVariants as fits
use Rattle.ecore_meta.specs.Meta.{Meta}
use Rattle.ecore_json.specs.declared.fault.EcoreFault.{EcoreFault}
use Rattle.ecore_json.specs.Metamodel.{metamodel_of}
use Rattle.metamodel_growth.specs.Extension.{missing}
use Rattle.metamodel_growth.specs.Evolved.{evolved}
use Rattle.metamodel_growth.specs.Same.{is_same}
use Rattle.model_state.specs.Packages.{rev_package, steps_all}
use Rattle.model_state.specs.Steps.{first_stop}
use Rattle.model_state.specs.declared.operation.Operation.{Operation}
use Rattle.model_state.specs.declared.step.ApplyFault.{ApplyFault}
use Rattle.edits.specs.declared.edit.Edit as edits
use Rattle.edits.specs.declared.edit.Recorded.{Recorded}
use Rattle.edits.specs.Recording.{recorded}
use Rattle.edit_steps.specs.declared.fault.EditFault.{EditFault}
use Rattle.model_documents.specs.declared.doc.DocRow.{DocRow}
use Rattle.model_documents.specs.declared.fault.ModelFault.{ModelFault}
use Rattle.model_documents.specs.Document.{doc_of}
use Rattle.import_laws.specs.Import.{recorded_import}
use Rattle.history_tree.specs.declared.found.Found.{Found}
use Rattle.history_tree.specs.declared.found.FindFault.{FindFault}
use Rattle.history_tree.specs.declared.version.Tag as tags
use Rattle.history_tree.specs.declared.version.Version.{Version}
use Rattle.history_tree.specs.Found.{found_by_number, branch_named, tag_named, has_tag, on_its_branch, at_its_head, of_its_version}
use Rattle.history_tree.specs.History.{History, head, path}
use Rattle.history_tree.specs.MergeBase.{is_among}
use Rattle.history_tree.specs.Since.{path_after}
use Rattle.history_tree.specs.States.{package_of_version}
use Rattle.footprint.specs.declared.bucket.Bucket.{Bucket}
use Rattle.merge_laws.specs.Choices.{are_choices}
use Rattle.merge_laws.specs.Pairs.{have_pair, first_interfering}
use Rattle.merge_laws.specs.Tidy.{is_tidy}
use Rattle.op_form.specs.declared.event.Event.{Event}
use Rattle.op_form.specs.declared.event.Event.TheVariants.{Init, Checkout, Edit, Begin, End, Undo, Discard, Tidy, Commit, Branch, Tag, Update, Merge}
use Rattle.op_form.specs.declared.event.Event.TheVariants.{Drop, Evolve, Upgrade, Signed}
use Rattle.op_form.specs.Events.{event_encoding}
use Rattle.op_form.specs.Formed.{is_event, is_package}
use Rattle.op_reading.specs.declared.fault.FormFault.{FormFault}
use Rattle.op_reading.specs.Packages.{package_at}
use Rattle.op_reading.specs.Events.{whole_of}
use Rattle.script_lang.specs.declared.command.Command.{Command}
use Rattle.script_lang.specs.declared.command.Command.TheVariants as commands
use Rattle.script_lang.specs.declared.command.Spec.{Spec}
use Rattle.script_lang.specs.declared.command.Spec.TheVariants as specs
use Rattle.script_lang.specs.declared.reply.Last.TheVariants as last
use Rattle.script_lang.specs.declared.reply.Reply.{Reply}
use Rattle.plain_repository.specs.State.{State, Workspace, workspace_of, model_of, is_open, has_local, has_operations}
use Rattle.plain_repository.specs.Answers.{Decision, most_events, by_fit, with_room}
use Rattle.plain_repository.specs.Specs.{found_by_spec}
use Rattle.plain_repository.specs.Metamodels.{with_metamodel, decide_init, extended, evolve_read, decide_evolve}
use Rattle.plain_repository.specs.Checkouts.{checkout_found, decide_checkout, drop_in, decide_drop}
use Rattle.plain_repository.specs.Commits.{is_new_branch, version_made, commit_in, decide_commit, signed_in, decide_signed}
use Rattle.plain_repository.specs.Commits.{decide_upgrade, branch_in, decide_branch, tag_found, decide_tag}
use Rattle.plain_repository.specs.Edits.{takes, id_words, with_operation, edited, edit_in, decide_edit, imported, import_read, import_in, decide_import}
use Rattle.plain_repository.specs.Composites.{begin_in, decide_begin, end_in, decide_end}
use Rattle.plain_repository.specs.Local.{can_discard, undo_in, decide_undo, discard_in, decide_discard}
use Rattle.plain_repository.specs.Tidying.{tidy_in, decide_tidy}
use Rattle.plain_repository.specs.Applying.{with_operations, applied, apply_read, apply_in, decide_apply, bytes_of_lines, load_read, load_bytes}
use Rattle.plain_repository.specs.Applying.{load_in, decide_load, taken_out, revert_found, revert_in, decide_revert}
use Rattle.plain_repository.specs.Choices.{chosen}
use Rattle.plain_repository.specs.Merging.{update_buckets, update_in, decide_update, has_theirs, merge_buckets, merge_named, merge_in, decide_merge}
use Rattle.plain_repository.specs.Views.{changes_in, decide_changes, show_in, decide_show, validate_in, decide_validate, cat_found, decide_cat}
use Rattle.plain_repository.specs.Views.{package_found, decide_package, decide_log}
use Rattle.plain_repository.specs.Repository.{block_text, decide_begun, decide_with, decide_command}
use Rattle.plain_repository.specs.Asked.{NamesByNumber, NamesByBranch, NamesByTag, Names, IsOfEdit, IsOfImport, IsOfBlock, IsAskedBy, EventsAreAsked}

-- what holds of the event of a decision, where there is one, and of the reply with it
pub record Holds (Q : Event → Reply → Type 0) (d : Decision) : Type 0 where
  pub holds : (event : Event) → d.event ≡ Some event → Q event d.reply

-- ---- decisions, by their tests
module _ {Q : Event → Reply → Type 0} where
  pub none : {d : Decision} → d.event ≡ None → Holds Q d
  none without = record { holds = λ event is. absurd (none-some event (sym without ∙ is)) }

  pub either : (b : Bool) {x y : Decision} → (b ≡ true → Holds Q x) → (b ≡ false → Holds Q y) → Holds Q (if b then x else y)
  either true so not_so = so refl
  either false so not_so = not_so refl

  pub unless : (b : Bool) {x y : Decision} → Holds Q x → Holds Q y → Holds Q (if b then x else y)
  unless b refusal otherwise = either b (λ _. refusal) (λ _. otherwise)

  pub choices : (rows : List Bucket) (letters : Option (List ℕ)) {d : Decision} → Holds Q d → Holds Q (chosen rows letters d)
  choices [] None rest = rest
  choices (b ∷ bs) None rest = none refl
  choices [] (Some letters) rest = unless (are_choices letters []) rest (none refl)
  choices (b ∷ bs) (Some letters) rest = unless (are_choices letters (b ∷ bs)) rest (none refl)

  -- an event that is made where there is room for it
  pub room : (s : State) (lines : List (List ℕ)) (words : List ℕ) (e : Event) → Q e (record { lines = lines; last = last.Ok words })
      → Holds Q (with_room s lines words e)
  unfolding with_room
  room s lines words e q = unless (nat_le most_events s.events) (none refl)
      (unless (is_event e) (by (fit_of s.end (length (event_encoding e)))) (none refl))
    where
      by : (fit : Fit) → Holds Q (by_fit fit lines words e)
      by fits.Yes = record { holds = λ event is. subst (λ (x : Event). Q x (record { lines = lines; last = last.Ok words })) (same_Some e event is) q }
      by fits.TooLarge = none refl
      by fits.Full = none refl

pub weaker : {Q R : Event → Reply → Type 0} {d : Decision} → ((event : Event) (reply : Reply) → Q event reply → R event reply) → Holds Q d → Holds R d
weaker {d = d} less h = record { holds = λ event is. less event d.reply (h.holds event is) }

-- the event is that one
abbrev pub Is : Event → Event → Reply → Type 0
Is e event reply = event ≡ e

-- and the reply ends with these words
abbrev pub IsWith : Event → List ℕ → Event → Reply → Type 0
IsWith e words event reply = (event ≡ e) × (reply.last ≡ last.Ok words)

-- ---- what a SPEC names
found_is : (f g : Found) → ◌≡◌ {A = Result Found FindFault} (Ok f) (Ok g) → f ≡ g
found_is f g is = cc

by_number : (h : History) (v : ℕ) (o : Option Version) → slice_get h.versions v ≡ o → (found : Found) → on_its_branch v o ≡ Ok found
    → NamesByNumber h v found.version found.branch
by_number h v None there found is = absurd cc
by_number h v (Some version) there found is =
    subst (λ (f : Found). NamesByNumber h v f.version f.branch) (found_is (record { version = v; branch = version.branch }) found is)
    (record { is_it = refl; there = record { it = version; there = there; branch_is = refl } })

by_branch : (h : History) (name : List ℕ) (o : Option ℕ) → branch_named h name ≡ o → (found : Found) → at_its_head h o ≡ Ok found
    → NamesByBranch h name found.version found.branch
by_branch h name None named found is = absurd cc
by_branch h name (Some branch) named found is =
    subst (λ (f : Found). NamesByBranch h name f.version f.branch) (found_is (record { version = head h branch; branch = branch }) found is)
    (record { named = named; is_head = refl })

by_tag : (h : History) (name : List ℕ) (o : Option tags.Tag) → tag_named h name ≡ o → (found : Found) → of_its_version h o ≡ Ok found
    → NamesByTag h name found.version found.branch
by_tag h name None named found is = absurd cc
by_tag h name (Some tag) named found is =
    let at = by_number h tag.version (slice_get h.versions tag.version) refl found is in
    record { tag = tag; named = named; is_it = at.is_it; there = at.there }

pub names : (h : History) (spec : Spec) (found : Found) → found_by_spec h spec ≡ Ok found → Names h spec found.version found.branch
names h (specs.Number n) found is = by_number h n (slice_get h.versions n) refl found is
names h (specs.Branch name) found is = by_branch h name (branch_named h name) refl found is
names h (specs.Tag name) found is = by_tag h name (tag_named h name) refl found is

-- ---- operations that are recorded
module _ (s : State) (ws : ℕ) where
  one_asked : (Such : Operation → Type 0) (words : List ℕ) (o : Option Operation) → ((x : Operation) → o ≡ Some x → Such x)
      → Holds (λ event reply. (x : Operation) × (event ≡ Edit ws (x ∷ [])) × Such x) (with_operation s ws words o)
  one_asked Such words None such = none refl
  one_asked Such words (Some x) such = room s [] words (Edit ws (x ∷ [])) (x, refl, such x refl)

  all_asked : (os : List Operation) → Holds (Is (Edit ws os)) (with_operations s ws os)
  all_asked [] = none refl
  all_asked (o ∷ os) = room s [] [] (Edit ws (o ∷ os)) refl

  applied_asked : (os : List Operation) (stop : Option ApplyFault) → Holds (Is (Edit ws os)) (applied s ws os stop)
  applied_asked os None = all_asked os
  applied_asked os (Some stop) = none refl

-- ---- each command, where there is a metamodel
module _ (s : State) (meta : Meta) (begun : s.meta ≡ Some meta) where
  evolve_asked : (text : List ℕ) (read : Result Meta EcoreFault) → Holds (Is (Evolve text)) (evolve_read s text meta read)
  evolve_asked text (Err fault) = none refl
  evolve_asked text (Ok next) = by (missing meta next)
    where
      by : (name : Option (List ℕ)) → Holds (Is (Evolve text)) (extended s text meta next name)
      by (Some name) = none refl
      by None = unless (is_same meta (evolved meta next)) (none refl) (room s [] [] (Evolve text) refl)

  checkout_asked : (spec : Spec) (found : Result Found FindFault) → found_by_spec s.history spec ≡ found
      → Holds (λ event reply. (version branch : ℕ) × (event ≡ Checkout version branch) × Names s.history spec version branch) (checkout_found s meta found)
  checkout_asked spec (Err fault) is = none refl
  checkout_asked spec (Ok found) is =
      room s _ _ (Checkout found.version found.branch) (found.version, found.branch, refl, names s.history spec found is)

  tag_asked : (name : List ℕ) (spec : Spec) (found : Result Found FindFault) → found_by_spec s.history spec ≡ found
      → Holds (λ event reply. (version branch : ℕ) × (event ≡ Tag name version) × Names s.history spec version branch) (tag_found s name found)
  tag_asked name spec (Err fault) is = none refl
  tag_asked name spec (Ok found) is = room s [] [] (Tag name found.version) (found.version, found.branch, refl, names s.history spec found is)

  edit_asked : (ws : ℕ) (edit : edits.Edit) (o : Option Workspace) → workspace_of s ws ≡ o
      → Holds (λ event reply. (x : Operation) × (event ≡ Edit ws (x ∷ [])) × IsOfEdit s ws edit x) (edit_in s meta ws o edit)
  edit_asked ws edit None there = none refl
  edit_asked ws edit (Some w) there = by (recorded meta (model_of meta s.history w) ws edit) refl
    where
      by : (r : Result Recorded EditFault) → recorded meta (model_of meta s.history w) ws edit ≡ r
          → Holds (λ event reply. (x : Operation) × (event ≡ Edit ws (x ∷ [])) × IsOfEdit s ws edit x) (edited s ws r)
      by (Err fault) is = none refl
      by (Ok r) is = one_asked s ws (IsOfEdit s ws edit) (id_words r.id) r.operation (λ x operation_is. record {
        meta = meta;
        begun = begun;
        workspace = w;
        there = there;
        made = r;
        recorded_is = is;
        operation_is = operation_is;
      })

  import_asked : (ws : ℕ) (text : List ℕ) (o : Option Workspace) → workspace_of s ws ≡ o
      → Holds (λ event reply. (x : Operation) × (event ≡ Edit ws (x ∷ [])) × IsOfImport s ws text x) (import_in s meta ws o text)
  import_asked ws text None there = none refl
  import_asked ws text (Some w) there = by (doc_of meta text) refl
    where
      by_recorded : (rows : List DocRow) → doc_of meta text ≡ Ok rows → (r : Result (Option Operation) EditFault)
          → recorded_import meta (model_of meta s.history w) ws rows ≡ r
          → Holds (λ event reply. (x : Operation) × (event ≡ Edit ws (x ∷ [])) × IsOfImport s ws text x) (imported s ws rows r)
      by_recorded rows read (Err fault) is = none refl
      by_recorded rows read (Ok operation) is =
          one_asked s ws (IsOfImport s ws text) (decimal (length rows)) operation (λ x operation_is. record {
            meta = meta;
            begun = begun;
            workspace = w;
            there = there;
            rows = rows;
            read = read;
            recorded_is = is ∙ ap Ok operation_is;
          })

      by : (r : Result (List DocRow) ModelFault) → doc_of meta text ≡ r
          → Holds (λ event reply. (x : Operation) × (event ≡ Edit ws (x ∷ [])) × IsOfImport s ws text x) (import_read s meta ws w r)
      by (Err fault) read = none refl
      by (Ok rows) read = by_recorded rows read (recorded_import meta (model_of meta s.history w) ws rows) refl

  load_asked : (ws : ℕ) (text : List ℕ) (o : Option Workspace)
      → Holds (λ event reply. (os : List Operation) × (event ≡ Edit ws os) × IsOfBlock text os) (load_in s meta ws o text)
  load_asked ws text None = none refl
  load_asked ws text (Some w) = by_bytes (bytes_of_lines (slice_split is_lf text)) refl
    where
      by_read : (bytes : List ℕ) → bytes_of_lines (slice_split is_lf text) ≡ Some bytes → (r : Result (List Operation) FormFault)
          → whole_of package_at bytes ≡ r
          → Holds (λ event reply. (os : List Operation) × (event ≡ Edit ws os) × IsOfBlock text os) (load_read s meta ws w r)
      by_read bytes spelled (Err fault) read = none refl
      by_read bytes spelled (Ok os) read =
          unless (takes w.composite os)
          (weaker (λ event reply is. (os, is, record { bytes = bytes; spelled = spelled; read = read }))
          (applied_asked s ws os (first_stop meta (model_of meta s.history w) (steps_all os)))) (none refl)

      by_bytes : (o : Option (List ℕ)) → bytes_of_lines (slice_split is_lf text) ≡ o
          → Holds (λ event reply. (os : List Operation) × (event ≡ Edit ws os) × IsOfBlock text os) (load_bytes s meta ws w o)
      by_bytes None spelled = none refl
      by_bytes (Some bytes) spelled = by_read bytes spelled (whole_of package_at bytes) refl

  apply_asked : (ws : ℕ) (bytes : List ℕ) (o : Option Workspace)
      → Holds (λ event reply. (os : List Operation) × (event ≡ Edit ws os) × (whole_of package_at bytes ≡ Ok os)) (apply_in s meta ws o bytes)
  apply_asked ws bytes None = none refl
  apply_asked ws bytes (Some w) = unless (is_open (Some w)) (none refl) (by (whole_of package_at bytes) refl)
    where
      by : (r : Result (List Operation) FormFault) → whole_of package_at bytes ≡ r
          → Holds (λ event reply. (os : List Operation) × (event ≡ Edit ws os) × (whole_of package_at bytes ≡ Ok os)) (apply_read s meta ws w r)
      by (Err fault) read = none refl
      by (Ok os) read =
          weaker (λ event reply is. (os, is, read)) (applied_asked s ws os (first_stop meta (model_of meta s.history w) (steps_all os)))

  revert_asked : (ws version : ℕ) (o : Option Workspace)
      → Holds (Is (Edit ws (rev_package (package_of_version s.history.versions version)))) (revert_in s meta ws o version)
  revert_asked ws version None = none refl
  revert_asked ws version (Some w) = unless (is_open (Some w)) (none refl) (by (found_by_number s.history version) refl)
    where
      taken_asked : (os : List Operation) (u : Option ℕ) → Holds (Is (Edit ws (rev_package os))) (taken_out s meta ws w os u)
      taken_asked os (Some u) = none refl
      taken_asked os None = unless (have_pair meta os w.operations) (none refl) (all_asked s ws (rev_package os))

      by : (r : Result Found FindFault) → found_by_number s.history version ≡ r
          → Holds (Is (Edit ws (rev_package (package_of_version s.history.versions version)))) (revert_found s meta ws w r)
      by (Err fault) is = none refl
      by (Ok found) is =
          let at = by_number s.history version (slice_get s.history.versions version) refl found is in
          let os = package_of_version s.history.versions found.version in
          unless (is_among (path s.history w.base) found.version)
          (subst (λ (v : ℕ). Holds (Is (Edit ws (rev_package (package_of_version s.history.versions v))))
          (taken_out s meta ws w os (first_interfering meta s.history.versions os (path_after s.history found.version w.base)))) at.is_it
          (taken_asked os (first_interfering meta s.history.versions os (path_after s.history found.version w.base)))) (none refl)

  -- an event of a workspace, by the words of its line
  begin_asked : (ws : ℕ) (name : List ℕ) (o : Option Workspace) → Holds (Is (Begin ws name)) (begin_in s ws name o)
  begin_asked ws name None = none refl
  begin_asked ws name (Some w) = unless (is_open (Some w)) (none refl) (room s [] [] (Begin ws name) refl)

  end_asked : (ws : ℕ) (o : Option Workspace) → Holds (Is (End ws)) (end_in s ws o)
  end_asked ws None = none refl
  end_asked ws (Some w) = unless (is_open (Some w)) (room s [] [] (End ws) refl) (none refl)

  undo_asked : (ws : ℕ) (o : Option Workspace) → Holds (Is (Undo ws)) (undo_in s ws o)
  undo_asked ws None = none refl
  undo_asked ws (Some w) = unless (is_open (Some w)) (none refl) (unless (has_operations (Some w)) (room s [] [] (Undo ws) refl) (none refl))

  discard_asked : (ws : ℕ) (o : Option Workspace) → Holds (Is (Discard ws)) (discard_in s ws o)
  discard_asked ws None = none refl
  discard_asked ws (Some w) = unless (can_discard (Some w)) (room s [] [] (Discard ws) refl) (none refl)

  tidy_asked : (ws : ℕ) (o : Option Workspace) → Holds (Is (Tidy ws)) (tidy_in s meta ws o)
  tidy_asked ws None = none refl
  tidy_asked ws (Some w) = unless (is_open (Some w)) (none refl) (unless (is_tidy meta w.operations) (none refl) (room s [] [] (Tidy ws) refl))

  drop_asked : (ws : ℕ) (o : Option Workspace) → Holds (Is (Drop ws)) (drop_in s ws o)
  drop_asked ws None = none refl
  drop_asked ws (Some w) = room s [] [] (Drop ws) refl

  branch_asked : (ws : ℕ) (name : List ℕ) (o : Option Workspace) → Holds (Is (Branch ws name)) (branch_in s ws name o)
  branch_asked ws name None = none refl
  branch_asked ws name (Some w) =
      unless (is_open (Some w)) (none refl) (unless (is_new_branch s.history name) (room s [] [] (Branch ws name) refl) (none refl))

  -- a version, an update and a merge, with what their replies say
  pub version_asked : (w : Workspace) (event : Event) → Holds (IsWith event (decimal (length s.history.versions))) (version_made s w event)
  version_asked w event =
      unless (not (nat_eq w.base (head s.history w.branch))) (none refl) (unless (is_open (Some w)) (none refl)
      (unless (has_local (Some w)) (room s [] (decimal (length s.history.versions)) event (refl, refl)) (none refl)))

  pub commit_asked : (ws : ℕ) (message : List ℕ) (o : Option Workspace)
      → Holds (IsWith (Commit ws message) (decimal (length s.history.versions))) (commit_in s ws message o)
  commit_asked ws message None = none refl
  commit_asked ws message (Some w) = unless s.upgraded (none refl) (version_asked w (Commit ws message))

  pub signed_asked : (ws : ℕ) (author : List ℕ) (moment : ℕ) (message : List ℕ) (o : Option Workspace)
      → Holds (IsWith (Signed ws author moment message) (decimal (length s.history.versions))) (signed_in s ws author moment message o)
  signed_asked ws author moment message None = none refl
  signed_asked ws author moment message (Some w) = unless s.upgraded (version_asked w (Signed ws author moment message)) (none refl)

  pub update_asked : (ws : ℕ) (letters : Option (List ℕ)) (o : Option Workspace) → workspace_of s ws ≡ o
      → Holds (λ event reply. (w : Workspace) × (workspace_of s ws ≡ Some w) × IsWith (Update ws (unwrap_or letters [])) (decimal (head s.history w.branch))
      event reply) (update_in s meta ws letters o)
  update_asked ws letters None there = none refl
  update_asked ws letters (Some w) there =
      unless (is_open (Some w)) (none refl) (choices (update_buckets meta s.history w) letters
      (unless (nat_eq w.base (head s.history w.branch)) (none refl)
      (room s [] (decimal (head s.history w.branch)) (Update ws (unwrap_or letters [])) (w, there, (refl, refl)))))

  pub merge_asked : (ws : ℕ) (name : List ℕ) (letters : Option (List ℕ)) (o : Option Workspace)
      → Holds (λ event reply. (branch : ℕ) × (branch_named s.history name ≡ Some branch) ×
      IsWith (Merge ws branch (unwrap_or letters [])) (decimal (head s.history branch)) event reply) (merge_in s meta ws name letters o)
  merge_asked ws name letters None = none refl
  merge_asked ws name letters (Some w) = unless (is_open (Some w)) (none refl) (by (branch_named s.history name) refl)
    where
      by : (o : Option ℕ) → branch_named s.history name ≡ o
          → Holds (λ event reply. (branch : ℕ) × (branch_named s.history name ≡ Some branch) ×
          IsWith (Merge ws branch (unwrap_or letters [])) (decimal (head s.history branch)) event reply) (merge_named s meta ws w letters o)
      by None named = none refl
      by (Some branch) named =
          unless (nat_eq branch w.branch) (none refl) (choices (merge_buckets meta s.history w (head s.history branch)) letters
          (unless (has_theirs s.history w (head s.history branch))
          (room s [] (decimal (head s.history branch)) (Merge ws branch (unwrap_or letters [])) (branch, named, (refl, refl))) (none refl)))

  -- what is shown makes no event
  changes_none : {Q : Event → Reply → Type 0} (o : Option Workspace) → Holds Q (changes_in meta o)
  changes_none None = none refl
  changes_none (Some w) = none refl

  shown_none : {Q : Event → Reply → Type 0} (o : Option Workspace) → Holds Q (show_in meta s.history o)
  shown_none None = none refl
  shown_none (Some w) = none refl

  validated_none : {Q : Event → Reply → Type 0} (o : Option Workspace) → Holds Q (validate_in meta s.history o)
  validated_none None = none refl
  validated_none (Some w) = none refl

  text_none : {Q : Event → Reply → Type 0} (r : Result Found FindFault) → Holds Q (cat_found meta s.history r)
  text_none (Err fault) = none refl
  text_none (Ok found) = none refl

  package_none : {Q : Event → Reply → Type 0} (r : Result Found FindFault) → Holds Q (package_found meta s.history r)
  package_none (Err fault) = none refl
  package_none (Ok found) = unless (is_package (package_of_version s.history.versions found.version)) (none refl) (none refl)

  command_asked : (block : Option (List ℕ)) (command : Command) → Holds (λ event reply. IsAskedBy s block command event) (decide_begun s meta block command)
  unfolding decide_init decide_evolve decide_checkout decide_drop decide_commit decide_signed decide_upgrade decide_branch decide_tag decide_edit
      decide_import decide_begin decide_end decide_undo decide_discard decide_tidy decide_apply decide_load decide_revert decide_update decide_merge
      decide_changes decide_show decide_validate decide_cat decide_package decide_log
  command_asked block commands.Init = none refl
  command_asked block commands.Evolve = evolve_asked (block_text block) (metamodel_of (block_text block))
  command_asked block (commands.Checkout spec) = checkout_asked spec (found_by_spec s.history spec) refl
  command_asked block (commands.Edit ws edit) = edit_asked ws edit (workspace_of s ws) refl
  command_asked block (commands.Import ws) = import_asked ws (block_text block) (workspace_of s ws) refl
  command_asked block (commands.Load ws) = load_asked ws (block_text block) (workspace_of s ws)
  command_asked block (commands.Begin ws name) = begin_asked ws name (workspace_of s ws)
  command_asked block (commands.End ws) = end_asked ws (workspace_of s ws)
  command_asked block (commands.Undo ws) = undo_asked ws (workspace_of s ws)
  command_asked block (commands.Discard ws) = discard_asked ws (workspace_of s ws)
  command_asked block (commands.Tidy ws) = tidy_asked ws (workspace_of s ws)
  command_asked block (commands.Apply ws bytes) = apply_asked ws bytes (workspace_of s ws)
  command_asked block (commands.Changes ws) = changes_none (workspace_of s ws)
  command_asked block (commands.Show ws) = shown_none (workspace_of s ws)
  command_asked block (commands.Cat spec) = text_none (found_by_spec s.history spec)
  command_asked block (commands.Validate ws) = validated_none (workspace_of s ws)
  command_asked block (commands.Commit ws message) = weaker (λ event reply is. is.0) (commit_asked ws (unwrap_or message []) (workspace_of s ws))
  command_asked block (commands.Signed ws author moment message) =
      weaker (λ event reply is. is.0) (signed_asked ws author moment (unwrap_or message []) (workspace_of s ws))
  command_asked block (commands.Branch ws name) = branch_asked ws name (workspace_of s ws)
  command_asked block (commands.Tag name spec) = unless (has_tag s.history name) (none refl) (tag_asked name spec (found_by_spec s.history spec) refl)
  command_asked block commands.Log = none refl
  command_asked block (commands.Package spec) = package_none (found_by_spec s.history spec)
  command_asked block (commands.Update ws letters) = weaker (λ event reply is. is.2.0) (update_asked ws letters (workspace_of s ws) refl)
  command_asked block (commands.Merge ws name letters) =
      weaker (λ event reply is. (is.0, is.2.0, is.1)) (merge_asked ws name letters (workspace_of s ws))
  command_asked block (commands.Revert ws version) = revert_asked ws version (workspace_of s ws)
  command_asked block (commands.Drop ws) = drop_asked ws (workspace_of s ws)
  command_asked block commands.Upgrade = unless s.upgraded (none refl) (room s [] [] Upgrade refl)

-- ---- before there is a metamodel
init_asked : (s : State) (text : List ℕ) (r : Result Meta EcoreFault) → Holds (Is (Init text)) (with_metamodel s text r)
init_asked s text (Err fault) = none refl
init_asked s text (Ok meta) = room s [] [] (Init text) refl

before_asked : (s : State) (block : Option (List ℕ)) (command : Command)
    → Holds (λ event reply. IsAskedBy s block command event) (decide_with s None block command)
unfolding decide_init
before_asked s block commands.Init = init_asked s (block_text block) (metamodel_of (block_text block))
before_asked s block commands.Evolve = none refl
before_asked s block (commands.Checkout spec) = none refl
before_asked s block (commands.Edit ws edit) = none refl
before_asked s block (commands.Import ws) = none refl
before_asked s block (commands.Load ws) = none refl
before_asked s block (commands.Begin ws name) = none refl
before_asked s block (commands.End ws) = none refl
before_asked s block (commands.Undo ws) = none refl
before_asked s block (commands.Discard ws) = none refl
before_asked s block (commands.Tidy ws) = none refl
before_asked s block (commands.Apply ws bytes) = none refl
before_asked s block (commands.Changes ws) = none refl
before_asked s block (commands.Show ws) = none refl
before_asked s block (commands.Cat spec) = none refl
before_asked s block (commands.Validate ws) = none refl
before_asked s block (commands.Commit ws message) = none refl
before_asked s block (commands.Signed ws author moment message) = none refl
before_asked s block (commands.Branch ws name) = none refl
before_asked s block (commands.Tag name spec) = none refl
before_asked s block commands.Log = none refl
before_asked s block (commands.Package spec) = none refl
before_asked s block (commands.Update ws letters) = none refl
before_asked s block (commands.Merge ws name letters) = none refl
before_asked s block (commands.Revert ws version) = none refl
before_asked s block (commands.Drop ws) = none refl
before_asked s block commands.Upgrade = none refl

pub events_are_asked : EventsAreAsked
unfolding decide_command
events_are_asked s block command event made = (by s.meta refl).holds event made
  where
    by : (m : Option Meta) → s.meta ≡ m → Holds (λ event reply. IsAskedBy s block command event) (decide_with s m block command)
    by None is = before_asked s block command
    by (Some meta) is = command_asked s meta is block command
