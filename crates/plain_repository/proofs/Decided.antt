-- Each event that a command is answered with could be made.
use Rattle.std.proofs.Common.{◌≡◌, ℕ, ◌<◌, ◌&&◌, nat_lt, nat_le, nat_eq, not, List, [], ◌∷◌, length, Bool, true, false, Option, None, Some, is_none}
use Rattle.std.proofs.Common.{is_some, Result, Ok, Err, is_ok, cond, refl, sym, ◌∙◌, ap, subst}
use Rattle.std.specs.Prelude.{◌+◌, ◌^◌, IsTrue, unwrap_or, if◌then◌else◌}
use Rattle.std.specs.Fmt.{decimal}
use Rattle.std.specs.List.{slice_split}
use Rattle.host_port.specs.Cut.{is_lf}
use Rattle.std.proofs.lemmas.Bool.{and_from, lt-ltb, leb-false, le-leb, ltb-false}
use Rattle.std.proofs.lemmas.List.Quantifiers.{position-Some}
use Rattle.std.proofs.lemmas.Option.{none-some, same_Some}
use Rattle.commit_journal.specs.Journal.{most_bytes, fit_of}
use Rattle.commit_journal.specs.declared.fit.Fit.{Fit}
use Rattle.commit_journal.specs.declared.fit.Fit.TheVariants as fits
use Rattle.ecore_meta.specs.Meta.{Meta}
use Rattle.ecore_json.specs.declared.fault.EcoreFault.{EcoreFault}
use Rattle.ecore_json.specs.Metamodel.{metamodel_of}
use Rattle.metamodel_growth.specs.Extension.{missing}
use Rattle.metamodel_growth.specs.Evolved.{evolved}
use Rattle.metamodel_growth.specs.Same.{is_same}
use Rattle.model_state.specs.Names.{is_name}
use Rattle.model_state.specs.Packages.{fold_package, rev_package, steps_all}
use Rattle.model_state.specs.Steps.{first_stop}
use Rattle.model_state.specs.State as models
use Rattle.model_state.specs.declared.operation.Operation.{Operation}
use Rattle.model_state.specs.declared.step.ApplyFault.{ApplyFault}
use Rattle.model_laws.proofs.Stops.{no_stop_leads}
use Rattle.edits.specs.declared.edit.Edit as edits
use Rattle.edits.specs.declared.edit.Recorded.{Recorded}
use Rattle.edit_steps.specs.declared.fault.EditFault.{EditFault}
use Rattle.edits.specs.Recording.{recorded}
use Rattle.model_documents.specs.declared.doc.DocRow.{DocRow}
use Rattle.model_documents.specs.declared.fault.ModelFault.{ModelFault}
use Rattle.model_documents.specs.Document.{doc_of}
use Rattle.import_laws.specs.Import.{recorded_import}
use Rattle.import_laws.specs.Names.{AreNames, names_of}
use Rattle.history_tree.specs.declared.found.Found.{Found}
use Rattle.history_tree.specs.declared.found.FindFault.{FindFault}
use Rattle.history_tree.specs.Found.{found_by_number, branch_named, has_tag, is_branch_named}
use Rattle.history_tree.specs.History.{head, path}
use Rattle.history_tree.specs.MergeBase.{is_among}
use Rattle.history_tree.specs.Since.{path_after}
use Rattle.history_tree.specs.States.{package_of_version}
use Rattle.history_tree.proofs.Greatest.{of_among}
use Rattle.footprint.specs.declared.bucket.Bucket.{Bucket}
use Rattle.merge_laws.specs.Choices.{are_choices}
use Rattle.merge_laws.specs.Pairs.{have_pair, first_interfering}
use Rattle.merge_laws.specs.Tidy.{is_tidy}
use Rattle.op_form.specs.declared.event.Event.{Event}
use Rattle.op_form.specs.declared.event.Event.TheVariants.{Init, Checkout, Edit, Begin, End, Undo, Discard, Tidy, Commit, Branch, Tag, Update, Merge}
use Rattle.op_form.specs.declared.event.Event.TheVariants.{Drop, Evolve, Upgrade, Signed}
use Rattle.op_form.specs.Events.{event_encoding}
use Rattle.op_form.specs.Formed.{is_event, is_package}
use Rattle.op_reading.specs.declared.fault.FormFault.{FormFault}
use Rattle.op_reading.specs.Packages.{package_at}
use Rattle.op_reading.specs.Events.{whole_of}
use Rattle.script_lang.specs.declared.command.Command.{Command}
use Rattle.script_lang.specs.declared.command.Command.TheVariants as commands
use Rattle.script_lang.specs.declared.command.Spec.{Spec}
use Rattle.script_lang.specs.declared.reply.Refusal.TheVariants as refusals
use Rattle.script_lang.specs.Spelling.{IsCommand}
use Rattle.plain_repository.specs.State.{State, Workspace, Composite as Open, workspace_of, model_of, is_open, is_closed, has_local, has_operations}
use Rattle.plain_repository.specs.Answers.{Decision, refused, told, most_events, fits_record, by_fit, with_room}
use Rattle.plain_repository.specs.Specs.{found_by_spec}
use Rattle.plain_repository.specs.Metamodels.{with_metamodel, decide_init, extension_of, extended, evolve_read, decide_evolve}
use Rattle.plain_repository.specs.Checkouts.{checkout_found, decide_checkout, drop_in, decide_drop}
use Rattle.plain_repository.specs.Commits.{is_new_branch, can_commit, version_made, commit_in, decide_commit, signed_in, decide_signed}
use Rattle.plain_repository.specs.Commits.{decide_upgrade, branch_in, decide_branch, tag_found, decide_tag}
use Rattle.plain_repository.specs.Edits.{takes, can_follow, id_words, with_operation, edited, edit_in, decide_edit, imported, import_read, import_in}
use Rattle.plain_repository.specs.Edits.{decide_import}
use Rattle.plain_repository.specs.Composites.{can_begin, begin_in, decide_begin, end_in, decide_end}
use Rattle.plain_repository.specs.Local.{can_undo, can_discard, undo_in, decide_undo, discard_in, decide_discard}
use Rattle.plain_repository.specs.Tidying.{can_tidy, tidy_in, decide_tidy}
use Rattle.plain_repository.specs.Applying.{with_operations, applied, apply_read, apply_in, decide_apply, bytes_of_lines, load_read, load_bytes}
use Rattle.plain_repository.specs.Applying.{load_in, decide_load, taken_out, revert_found, revert_in, decide_revert}
use Rattle.plain_repository.specs.Choices.{chosen}
use Rattle.plain_repository.specs.Merging.{update_buckets, can_update, update_in, decide_update, is_other_branch, has_theirs, merge_buckets}
use Rattle.plain_repository.specs.Merging.{can_merge, merge_named, merge_in, decide_merge}
use Rattle.plain_repository.specs.Views.{changes_in, decide_changes, show_in, decide_show, validate_in, decide_validate, cat_found, decide_cat, package_found}
use Rattle.plain_repository.specs.Views.{decide_package, decide_log}
use Rattle.plain_repository.specs.Repository.{block_text, decide_begun, decide_with, decide_command}
use Rattle.plain_repository.specs.Events.{playable, playable_with, suits}
use Rattle.plain_repository.specs.Orderly.{Orderly}
use Rattle.command_facts.specs.Facts.{facts}
use Rattle.plain_repository.specs.Laws.{HasMetamodel, IsThere, GivesNumbers, DecidedCouldBe}
use Rattle.plain_repository.proofs.Encodings.{and_left, not_so}
use Rattle.plain_repository.proofs.Following.{edit_follows, import_follows}
use Rattle.plain_repository.proofs.Naming.{named_there}
use Rattle.plain_repository.proofs.Reached.{in_order, kept, models_are_good}
use Rattle.plain_repository.proofs.Reverting.{revert_follows}

-- an event of the decision could be made on the state
record Could (s : State) (d : Decision) : Type 0 where
  holds : (event : Event) → d.event ≡ Some event → IsTrue (playable s event)

-- ---- room
below : (n m : ℕ) → nat_le m n ≡ false → nat_lt n m ≡ true
below n m is = lt-ltb n m (leb-false m n is)

fit_short : (end n : ℕ) → fit_of end n ≡ fits.Yes → nat_le n most_bytes ≡ true
fit_short end n is = by (nat_lt most_bytes n) refl is
  where
    by : (b : Bool) → nat_lt most_bytes n ≡ b → cond b fits.TooLarge (cond (nat_lt (2 ^ 40) (end + n + 6)) fits.Full fits.Yes) ≡ fits.Yes
        → nat_le n most_bytes ≡ true
    by true large is = absurd cc
    by false small is = le-leb n most_bytes (ltb-false most_bytes n small)

-- an event that passes the test of its kind could be made where there is room for it
fits_there : (s : State) (lines : List (List ℕ)) (words : List ℕ) (e : Event) → suits s.upgraded e ≡ true → playable_with s s.meta e ≡ true → (event : Event)
    → (with_room s lines words e).event ≡ Some event → IsTrue (playable s event)
unfolding with_room playable
fits_there s lines words e suited can event is = by (nat_le most_events s.events) refl (is_event e) refl (fit_of s.end (length (event_encoding e))) refl is
  where
    fitting : nat_le most_events s.events ≡ false → is_event e ≡ true → fit_of s.end (length (event_encoding e)) ≡ fits.Yes → e ≡ event
        → (nat_lt s.events most_events && fits_record event && suits s.upgraded event && playable_with s s.meta event) ≡ true
    fitting few formed fit same =
        let short = and_from (is_event e) (nat_le (length (event_encoding e)) most_bytes) formed (fit_short s.end (length (event_encoding e)) fit) in
        let room = and_from (nat_lt s.events most_events) (fits_record e) (below s.events most_events few) short in
        subst (λ (x : Event). (nat_lt s.events most_events && fits_record x && suits s.upgraded x && playable_with s s.meta x) ≡ true) same
        (and_from (nat_lt s.events most_events && fits_record e && suits s.upgraded e) (playable_with s s.meta e)
        (and_from (nat_lt s.events most_events && fits_record e) (suits s.upgraded e) room suited) can)

    by : (full : Bool) → nat_le most_events s.events ≡ full → (formed : Bool) → is_event e ≡ formed → (fit : Fit)
        → fit_of s.end (length (event_encoding e)) ≡ fit
        → (cond full (refused refusals.HistoryFull) (cond formed (by_fit fit lines words e) (refused refusals.TooLarge))).event ≡ Some event
        → (nat_lt s.events most_events && fits_record event && suits s.upgraded event && playable_with s s.meta event) ≡ true
    by true few formed formed_is fit fits_is is = absurd cc
    by false few false formed_is fit fits_is is = absurd cc
    by false few true formed_is fits.Yes fits_is is = fitting few formed_is fits_is (same_Some e event is)
    by false few true formed_is fits.TooLarge fits_is is = absurd cc
    by false few true formed_is fits.Full fits_is is = absurd cc

could_with : (s : State) (lines : List (List ℕ)) (words : List ℕ) (e : Event) → suits s.upgraded e ≡ true → playable_with s s.meta e ≡ true
    → Could s (with_room s lines words e)
could_with s lines words e suited can = record { holds = fits_there s lines words e suited can }

-- a decision without an event
none : {s : State} {d : Decision} → d.event ≡ None → Could s d
none without = record { holds = λ event is. absurd (none-some event (sym without ∙ is)) }

-- one of two decisions, by a test
either : {s : State} (b : Bool) {x y : Decision} → (b ≡ true → Could s x) → (b ≡ false → Could s y) → Could s (if b then x else y)
either true so not_so = so refl
either false so not_so = not_so refl

-- a refusal, where the test holds
unless : {s : State} (b : Bool) {x y : Decision} → Could s x → (b ≡ false → Could s y) → Could s (if b then x else y)
unless b refusal otherwise = either b (λ _. refusal) otherwise

-- and where it doesn't
if_only : {s : State} (b : Bool) {x y : Decision} → (b ≡ true → Could s x) → Could s y → Could s (if b then x else y)
if_only b so refusal = either b so (λ _. refusal)

-- choices that are taken fit the buckets
fitting_choices : {s : State} (rows : List Bucket) (choices : Option (List ℕ)) {d : Decision} → (are_choices (unwrap_or choices []) rows ≡ true → Could s d)
    → Could s (chosen rows choices d)
fitting_choices [] None rest = rest refl
fitting_choices (b ∷ bs) None rest = none refl
fitting_choices [] (Some letters) rest = if_only (are_choices letters []) rest (none refl)
fitting_choices (b ∷ bs) (Some letters) rest = if_only (are_choices letters (b ∷ bs)) rest (none refl)

is_so : (b : Bool) → not b ≡ false → b ≡ true
is_so true is = refl
is_so false is = absurd cc

-- ---- each command, where there is a metamodel
module _ (s : State) (meta : Meta) (has : HasMetamodel s meta) where
  order : Orderly meta s
  order = kept s meta has

  -- an event, by the test of its kind
  could : (lines : List (List ℕ)) (words : List ℕ) (e : Event) → suits s.upgraded e ≡ true → playable_with s (Some meta) e ≡ true
      → Could s (with_room s lines words e)
  could lines words e suited can = could_with s lines words e suited (subst (λ (m : Option Meta). playable_with s m e ≡ true) (sym has.begun) can)

  -- and by a test of the workspace of its number
  could_in : (lines : List (List ℕ)) (words : List ℕ) (e : Event) → suits s.upgraded e ≡ true
      → (ws : ℕ) (test : Option Workspace → Bool) (w : Workspace) → workspace_of s ws ≡ Some w
      → playable_with s (Some meta) e ≡ test (workspace_of s ws)
      → test (Some w) ≡ true → Could s (with_room s lines words e)
  could_in lines words e suited ws test w there tests can = could lines words e suited (tests ∙ ap test there ∙ can)

  checkout_could : (spec : Spec) (found : Result Found FindFault) → found_by_spec s.history spec ≡ found → Could s (checkout_found s meta found)
  checkout_could spec (Err fault) is = none refl
  checkout_could spec (Ok found) is = could _ _ (Checkout found.version found.branch) refl (named_there s.history order.whole spec found is)

  drop_could : (ws : ℕ) (o : Option Workspace) → workspace_of s ws ≡ o → Could s (drop_in s ws o)
  drop_could ws None there = none refl
  drop_could ws (Some w) there = could_in _ _ (Drop ws) refl ws is_some w there refl refl

  -- ---- composites and what is local
  begin_could : (ws : ℕ) (name : List ℕ) → is_name name ≡ true → (o : Option Workspace) → workspace_of s ws ≡ o → Could s (begin_in s ws name o)
  begin_could ws name is None there = none refl
  begin_could ws name is (Some w) there =
      unless (is_open (Some w)) (none refl) (λ shut. could_in _ _ (Begin ws name) refl ws (can_begin name) w there refl
      (and_from (is_name name) (is_closed (Some w)) is (ap not shut)))

  end_could : (ws : ℕ) (o : Option Workspace) → workspace_of s ws ≡ o → Could s (end_in s ws o)
  end_could ws None there = none refl
  end_could ws (Some w) there = if_only (is_open (Some w)) (λ opened. could_in _ _ (End ws) refl ws is_open w there refl opened) (none refl)

  undo_could : (ws : ℕ) (o : Option Workspace) → workspace_of s ws ≡ o → Could s (undo_in s ws o)
  undo_could ws None there = none refl
  undo_could ws (Some w) there =
      unless (is_open (Some w)) (none refl) (λ shut. if_only (has_operations (Some w)) (λ some.
      could_in _ _ (Undo ws) refl ws can_undo w there refl (and_from (is_closed (Some w)) (has_operations (Some w)) (ap not shut) some)) (none refl))

  discard_could : (ws : ℕ) (o : Option Workspace) → workspace_of s ws ≡ o → Could s (discard_in s ws o)
  discard_could ws None there = none refl
  discard_could ws (Some w) there = if_only (can_discard (Some w)) (λ some. could_in _ _ (Discard ws) refl ws can_discard w there refl some) (none refl)

  tidy_could : (ws : ℕ) (o : Option Workspace) → workspace_of s ws ≡ o → Could s (tidy_in s meta ws o)
  tidy_could ws None there = none refl
  tidy_could ws (Some w) there =
      unless (is_open (Some w)) (none refl) (λ shut. unless (is_tidy meta w.operations) (none refl) (λ untidy.
      could_in _ _ (Tidy ws) refl ws (can_tidy meta) w there refl
      (and_from (is_closed (Some w)) (not (is_tidy meta w.operations)) (ap not shut) (ap not untidy))))

  -- ---- the history
  version_could : (w : Workspace) (event : Event) → suits s.upgraded event ≡ true
      → (can_commit s.history (Some w) ≡ true → playable_with s (Some meta) event ≡ true) → Could s (version_made s w event)
  version_could w event suited can =
      let at_head : Bool = nat_eq w.base (head s.history w.branch) in
      unless (not at_head) (none refl) (λ now. unless (is_open (Some w)) (none refl) (λ shut. if_only (has_local (Some w)) (λ some.
      let closed = and_from at_head (is_closed (Some w)) (is_so at_head now) (ap not shut) in
      could _ _ event suited (can (and_from (at_head && is_closed (Some w)) (has_local (Some w)) closed some)))
      (none refl)))

  commit_could : (ws : ℕ) (message : List ℕ) (o : Option Workspace) → workspace_of s ws ≡ o → Could s (commit_in s ws message o)
  commit_could ws message None there = none refl
  commit_could ws message (Some w) there =
      unless s.upgraded (none refl) (λ old. version_could w (Commit ws message) (ap not old) (λ can. ap (can_commit s.history) there ∙ can))

  signed_could : (ws : ℕ) (author : List ℕ) (moment : ℕ) (message : List ℕ) → is_name author ≡ true → (o : Option Workspace) → workspace_of s ws ≡ o
      → Could s (signed_in s ws author moment message o)
  signed_could ws author moment message is None there = none refl
  signed_could ws author moment message is (Some w) there =
      if_only s.upgraded (λ new. version_could w (Signed ws author moment message) new
      (λ can. and_from (is_name author) (can_commit s.history (workspace_of s ws)) is (ap (can_commit s.history) there ∙ can))) (none refl)

  upgrade_could : Could s (if s.upgraded then told [] [] else with_room s [] [] Upgrade)
  upgrade_could = unless s.upgraded (none refl) (λ old. could [] [] Upgrade (ap not old) refl)

  evolve_could : (text : List ℕ) (read : Result Meta EcoreFault) → metamodel_of text ≡ read → Could s (evolve_read s text meta read)
  evolve_could text (Err fault) is = none refl
  evolve_could text (Ok next) is = by (missing meta next) refl
    where
      by : (name : Option (List ℕ)) → missing meta next ≡ name → Could s (extended s text meta next name)
      by (Some name) lost = none refl
      by None kept_is = unless (is_same meta (evolved meta next)) (none refl) (λ other. could [] [] (Evolve text) refl
          (ap (λ (r : Result Meta EcoreFault). is_some (extension_of meta r)) is
          ∙ (λ i. is_some (cond (is_none (kept_is i) && not (other i)) (Some (evolved meta next)) None))))

  branch_could : (ws : ℕ) (name : List ℕ) → is_name name ≡ true → (o : Option Workspace) → workspace_of s ws ≡ o → Could s (branch_in s ws name o)
  branch_could ws name is None there = none refl
  branch_could ws name is (Some w) there =
      unless (is_open (Some w)) (none refl) (λ shut. if_only (is_new_branch s.history name) (λ new.
      let front = and_from (is_name name) (is_new_branch s.history name) is new in
      could_in _ _ (Branch ws name) refl ws (λ o. is_name name && is_new_branch s.history name && is_closed o) w there refl
      (and_from (is_name name && is_new_branch s.history name) (is_closed (Some w)) front (ap not shut))) (none refl))

  tag_could : (name : List ℕ) → is_name name ≡ true → has_tag s.history name ≡ false → (spec : Spec) (found : Result Found FindFault)
      → found_by_spec s.history spec ≡ found → Could s (tag_found s name found)
  tag_could name is new spec (Err fault) found_is = none refl
  tag_could name is new spec (Ok found) found_is =
      let h = s.history in
      let both = and_left (nat_lt found.version (length h.versions) && nat_lt found.branch (length h.branches)) _
      (named_there h order.whole spec found found_is) in
      let within = and_left (nat_lt found.version (length h.versions)) (nat_lt found.branch (length h.branches)) both in
      could _ _ (Tag name found.version) refl
      (and_from (is_name name && not (has_tag h name)) (nat_lt found.version (length h.versions))
      (and_from (is_name name) (not (has_tag h name)) is (ap not new)) within)

  -- ---- merging
  update_could : (ws : ℕ) (choices : Option (List ℕ)) (o : Option Workspace) → workspace_of s ws ≡ o → Could s (update_in s meta ws choices o)
  update_could ws choices None there = none refl
  update_could ws choices (Some w) there =
      let letters = unwrap_or choices [] in
      let rows = update_buckets meta s.history w in
      let at_head : Bool = nat_eq w.base (head s.history w.branch) in
      unless (is_open (Some w)) (none refl) (λ shut. fitting_choices rows choices (λ fit. unless at_head (none refl) (λ behind.
      let apart = and_from (is_closed (Some w)) (not at_head) (ap not shut) (ap not behind) in
      could_in _ _ (Update ws letters) refl ws (can_update meta s.history letters) w there refl
      (and_from (is_closed (Some w) && not at_head) (are_choices letters rows) apart fit))))

  merge_could_in : (ws : ℕ) (w : Workspace) → workspace_of s ws ≡ Some w → is_open (Some w) ≡ false
      → (choices : Option (List ℕ)) (name : List ℕ) (o : Option ℕ) → branch_named s.history name ≡ o
      → Could s (merge_named s meta ws w choices o)
  merge_could_in ws w there shut choices name None is = none refl
  merge_could_in ws w there shut choices name (Some branch) is =
      let h = s.history in
      let other = head h branch in
      let letters = unwrap_or choices [] in
      let rows = merge_buckets meta h w other in
      let within : branch < length h.branches = (position-Some (is_branch_named name) h.branches branch (record { name = []; start = 0 }) is).0 in
      unless (nat_eq branch w.branch) (none refl) (λ apart. fitting_choices rows choices (λ fit. if_only (has_theirs h w other) (λ more.
      let another = and_from (nat_lt branch (length h.branches)) (not (nat_eq branch w.branch)) (lt-ltb branch (length h.branches) within) (ap not apart) in
      let first = and_from (is_closed (Some w)) (is_other_branch h w branch) (ap not shut) another in
      let second = and_from (is_closed (Some w) && is_other_branch h w branch) (has_theirs h w other) first more in
      could_in _ _ (Merge ws branch letters) refl ws (can_merge meta h branch letters) w there refl
      (and_from (is_closed (Some w) && is_other_branch h w branch && has_theirs h w other) (are_choices letters rows) second fit)) (none refl)))

  merge_could : (ws : ℕ) (name : List ℕ) (choices : Option (List ℕ)) (o : Option Workspace) → workspace_of s ws ≡ o
      → Could s (merge_in s meta ws name choices o)
  merge_could ws name choices None there = none refl
  merge_could ws name choices (Some w) there =
      unless (is_open (Some w)) (none refl) (λ shut. merge_could_in ws w there shut choices name (branch_named s.history name) refl)

  -- ---- edits
  takes_one : (c : Option Open) (o : Operation) → takes c (o ∷ []) ≡ true
  takes_one None o = refl
  takes_one (Some c) o = refl

  takes_any : (c : Option Open) → is_some c ≡ false → (os : List Operation) → takes c os ≡ true
  takes_any None shut os = refl
  takes_any (Some c) shut os = absurd cc

  abbrev model : Workspace → models.State
  model w = model_of meta s.history w

  operation_could : (ws : ℕ) (w : Workspace) → workspace_of s ws ≡ Some w → (words : List ℕ) (o : Option Operation)
      → ((x : Operation) → o ≡ Some x → is_some (fold_package meta (model w) (x ∷ [])) ≡ true)
      → Could s (with_operation s ws words o)
  operation_could ws w there words None follows = none refl
  operation_could ws w there words (Some o) follows =
      could_in _ _ (Edit ws (o ∷ [])) refl ws (λ o2. can_follow meta s.history o2 (o ∷ [])) w there refl
      (and_from (takes w.composite (o ∷ [])) (is_some (fold_package meta (model w) (o ∷ []))) (takes_one w.composite o) (follows o refl))

  here : (ws : ℕ) (w : Workspace) → workspace_of s ws ≡ Some w → IsThere s meta w
  here ws w there = record { in_state = has; ws = ws; there = there }

  edited_could : (ws : ℕ) (w : Workspace) → workspace_of s ws ≡ Some w → (edit : edits.Edit) (r : Result Recorded EditFault)
      → recorded meta (model w) ws edit ≡ r → Could s (edited s ws r)
  edited_could ws w there edit (Err fault) is = none refl
  edited_could ws w there edit (Ok r) is =
      operation_could ws w there (id_words r.id) r.operation (λ o operation_is.
      edit_follows meta order.metamodel.sound (model w) (models_are_good s meta w (here ws w there)) ws edit r o is operation_is)

  edit_could : (ws : ℕ) (edit : edits.Edit) (o : Option Workspace) → workspace_of s ws ≡ o → Could s (edit_in s meta ws o edit)
  edit_could ws edit None there = none refl
  edit_could ws edit (Some w) there = edited_could ws w there edit (recorded meta (model w) ws edit) refl

  imported_could : (ws : ℕ) (w : Workspace) → workspace_of s ws ≡ Some w → (text : List ℕ) (rows : List DocRow) → doc_of meta text ≡ Ok rows
      → AreNames (model w) rows ws 1 rows (names_of (model w) ws rows)
      → (r : Result (Option Operation) EditFault) → recorded_import meta (model w) ws rows ≡ r → Could s (imported s ws rows r)
  imported_could ws w there text rows is are (Err fault) recorded_is = none refl
  imported_could ws w there text rows is are (Ok operation) recorded_is =
      operation_could ws w there (decimal (length rows)) operation (λ o operation_is.
      import_follows meta order.metamodel (model w) (models_are_good s meta w (here ws w there)) ws text rows o is are (recorded_is ∙ ap Ok operation_is))

  import_could : (block : Option (List ℕ)) (ws : ℕ) → GivesNumbers s block (commands.Import ws) → (o : Option Workspace) → workspace_of s ws ≡ o
      → Could s (import_in s meta ws o (block_text block))
  import_could block ws gives None there = none refl
  import_could block ws gives (Some w) there = by (doc_of meta (block_text block)) refl
    where
      by : (r : Result (List DocRow) ModelFault) → doc_of meta (block_text block) ≡ r → Could s (import_read s meta ws w r)
      by (Err fault) is = none refl
      by (Ok rows) is =
          imported_could ws w there (block_text block) rows is (gives refl ws refl meta w rows has.begun there is) (recorded_import meta (model w) ws rows) refl

  -- ---- packages
  operations_could : (ws : ℕ) (w : Workspace) → workspace_of s ws ≡ Some w → (os : List Operation)
      → ((x : Operation) (xs : List Operation) → os ≡ x ∷ xs → can_follow meta s.history (Some w) (x ∷ xs) ≡ true)
      → Could s (with_operations s ws os)
  operations_could ws w there [] follows = none refl
  operations_could ws w there (o ∷ os) follows =
      could_in _ _ (Edit ws (o ∷ os)) refl ws (λ o2. can_follow meta s.history o2 (o ∷ os)) w there refl (follows o os refl)

  applied_could : (ws : ℕ) (w : Workspace) → workspace_of s ws ≡ Some w → (os : List Operation) → takes w.composite os ≡ true → (stop : Option ApplyFault)
      → first_stop meta (model w) (steps_all os) ≡ stop
      → Could s (applied s ws os stop)
  applied_could ws w there os fits (Some stop) is = none refl
  applied_could ws w there os fits None is =
      let leads = no_stop_leads meta (model w) (steps_all os) is in
      operations_could ws w there os (λ x xs same.
      let taken : is_some (fold_package meta (model w) (x ∷ xs)) ≡ true = ap is_some (ap (fold_package meta (model w)) (sym same) ∙ leads.1) in
      and_from (takes w.composite (x ∷ xs)) (is_some (fold_package meta (model w) (x ∷ xs)))
      (subst (λ (l : List Operation). takes w.composite l ≡ true) same fits) taken)

  apply_could : (ws : ℕ) (bytes : List ℕ) (o : Option Workspace) → workspace_of s ws ≡ o → Could s (apply_in s meta ws o bytes)
  apply_could ws bytes None there = none refl
  apply_could ws bytes (Some w) there = unless (is_open (Some w)) (none refl) (λ shut. by shut (whole_of package_at bytes))
    where
      by : is_open (Some w) ≡ false → (r : Result (List Operation) FormFault) → Could s (apply_read s meta ws w r)
      by shut (Err fault) = none refl
      by shut (Ok os) = applied_could ws w there os (takes_any w.composite shut os) (first_stop meta (model w) (steps_all os)) refl

  load_could : (ws : ℕ) (text : List ℕ) (o : Option Workspace) → workspace_of s ws ≡ o → Could s (load_in s meta ws o text)
  load_could ws text None there = none refl
  load_could ws text (Some w) there = by_bytes (bytes_of_lines (slice_split is_lf text))
    where
      by_read : (r : Result (List Operation) FormFault) → Could s (load_read s meta ws w r)
      by_read (Err fault) = none refl
      by_read (Ok os) = if_only (takes w.composite os) (λ fits. applied_could ws w there os fits (first_stop meta (model w) (steps_all os)) refl) (none refl)

      by_bytes : (o : Option (List ℕ)) → Could s (load_bytes s meta ws w o)
      by_bytes None = none refl
      by_bytes (Some bytes) = by_read (whole_of package_at bytes)

  taken_out_could : (ws : ℕ) (w : Workspace) → workspace_of s ws ≡ Some w → is_open (Some w) ≡ false → (v : ℕ) → is_among (path s.history w.base) v ≡ true
      → (o : Option ℕ)
      → first_interfering meta s.history.versions (package_of_version s.history.versions v) (path_after s.history v w.base) ≡ o
      → Could s (taken_out s meta ws w (package_of_version s.history.versions v) o)
  taken_out_could ws w there shut v on (Some u) is = none refl
  taken_out_could ws w there shut v on None is =
      let h = s.history in
      let taken = package_of_version h.versions v in
      unless (have_pair meta taken w.operations) (none refl) (λ apart. operations_could ws w there (rev_package taken) (λ x xs same.
      revert_follows meta order.metamodel.sound h order.whole order.versions w (in_order s meta w (here ws w there)) (ap not shut) v
      (of_among (path h w.base) v on) is apart x xs same))

  revert_could : (ws version : ℕ) (o : Option Workspace) → workspace_of s ws ≡ o → Could s (revert_in s meta ws o version)
  revert_could ws version None there = none refl
  revert_could ws version (Some w) there = unless (is_open (Some w)) (none refl) (λ shut. by shut (found_by_number s.history version))
    where
      by : is_open (Some w) ≡ false → (r : Result Found FindFault) → Could s (revert_found s meta ws w r)
      by shut (Err fault) = none refl
      by shut (Ok found) = if_only (is_among (path s.history w.base) found.version) (λ on. taken_out_could ws w there shut found.version on _ refl) (none refl)

  -- ---- what is shown makes no event
  changes_none : (o : Option Workspace) → Could s (changes_in meta o)
  changes_none None = none refl
  changes_none (Some w) = none refl

  shown_none : (o : Option Workspace) → Could s (show_in meta s.history o)
  shown_none None = none refl
  shown_none (Some w) = none refl

  validated_none : (o : Option Workspace) → Could s (validate_in meta s.history o)
  validated_none None = none refl
  validated_none (Some w) = none refl

  text_none : (r : Result Found FindFault) → Could s (cat_found meta s.history r)
  text_none (Err fault) = none refl
  text_none (Ok found) = none refl

  package_none : (r : Result Found FindFault) → Could s (package_found meta s.history r)
  package_none (Err fault) = none refl
  package_none (Ok found) = either (is_package (package_of_version s.history.versions found.version)) (λ _. none refl) (λ _. none refl)

  command_could : (block : Option (List ℕ)) (command : Command) → IsCommand command → GivesNumbers s block command → Could s (decide_begun s meta block command)
  unfolding decide_init decide_evolve decide_checkout decide_drop decide_commit decide_signed decide_upgrade decide_branch decide_tag decide_edit
      decide_import decide_begin decide_end decide_undo decide_discard decide_tidy decide_apply decide_load decide_revert decide_update decide_merge
      decide_changes decide_show decide_validate decide_cat decide_package decide_log
  command_could block commands.Init form gives = none refl
  command_could block commands.Evolve form gives = evolve_could (block_text block) (metamodel_of (block_text block)) refl
  command_could block (commands.Checkout spec) form gives = checkout_could spec (found_by_spec s.history spec) refl
  command_could block (commands.Edit ws edit) form gives = edit_could ws edit (workspace_of s ws) refl
  command_could block (commands.Import ws) form gives = import_could block ws gives (workspace_of s ws) refl
  command_could block (commands.Load ws) form gives = load_could ws (block_text block) (workspace_of s ws) refl
  command_could block (commands.Begin ws name) form gives = begin_could ws name form.1 (workspace_of s ws) refl
  command_could block (commands.End ws) form gives = end_could ws (workspace_of s ws) refl
  command_could block (commands.Undo ws) form gives = undo_could ws (workspace_of s ws) refl
  command_could block (commands.Discard ws) form gives = discard_could ws (workspace_of s ws) refl
  command_could block (commands.Tidy ws) form gives = tidy_could ws (workspace_of s ws) refl
  command_could block (commands.Apply ws bytes) form gives = apply_could ws bytes (workspace_of s ws) refl
  command_could block (commands.Changes ws) form gives = changes_none (workspace_of s ws)
  command_could block (commands.Show ws) form gives = shown_none (workspace_of s ws)
  command_could block (commands.Cat spec) form gives = text_none (found_by_spec s.history spec)
  command_could block (commands.Validate ws) form gives = validated_none (workspace_of s ws)
  command_could block (commands.Commit ws message) form gives = commit_could ws (unwrap_or message []) (workspace_of s ws) refl
  command_could block (commands.Signed ws author moment message) form gives =
      signed_could ws author moment (unwrap_or message []) form.1 (workspace_of s ws) refl
  command_could block (commands.Branch ws name) form gives = branch_could ws name form.1 (workspace_of s ws) refl
  command_could block (commands.Tag name spec) form gives =
      unless (has_tag s.history name) (none refl) (λ new. tag_could name form.0 new spec (found_by_spec s.history spec) refl)
  command_could block commands.Log form gives = none refl
  command_could block (commands.Package spec) form gives = package_none (found_by_spec s.history spec)
  command_could block (commands.Update ws choices) form gives = update_could ws choices (workspace_of s ws) refl
  command_could block (commands.Merge ws branch choices) form gives = merge_could ws branch choices (workspace_of s ws) refl
  command_could block (commands.Revert ws version) form gives = revert_could ws version (workspace_of s ws) refl
  command_could block (commands.Drop ws) form gives = drop_could ws (workspace_of s ws) refl
  command_could block commands.Upgrade form gives = upgrade_could

-- ---- before there is a metamodel
module _ (s : State) (begun_none : s.meta ≡ None) where
  init_could : (text : List ℕ) (r : Result Meta EcoreFault) → metamodel_of text ≡ r → Could s (with_metamodel s text r)
  init_could text (Err fault) is = none refl
  init_could text (Ok meta) is =
      could_with s [] [] (Init text) refl (subst (λ (m : Option Meta). playable_with s m (Init text) ≡ true) (sym begun_none)
      (ap (λ (r : Result Meta EcoreFault). is_ok r) is))

  before_could : (block : Option (List ℕ)) (command : Command) → Could s (decide_with s None block command)
  unfolding decide_init
  before_could block command =
      if_only (facts command).begins (λ _. init_could (block_text block) (metamodel_of (block_text block)) refl) (none refl)

pub decided_could_be : DecidedCouldBe
unfolding decide_command
decided_could_be s orderly block command event made = (by s.meta refl).holds event made.makes
  where
    by : (m : Option Meta) → s.meta ≡ m → Could s (decide_with s m block command)
    by None is = before_could s is block command
    by (Some meta) is = command_could s meta (record { orderly = orderly; begun = is }) block command made.form made.numbers
