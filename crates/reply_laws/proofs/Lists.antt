-- What the lists that are printed have.
use Rattle.std.proofs.Common.{◌≡◌, ◌≢◌, ⊎_elim, ℕ, zero, suc, ◌+◌, ◌<◌, nat_eq, nat_le, nat_lt, List, [], ◌∷◌, ◌++◌, length, Bool, true, false}
use Rattle.std.proofs.Common.{cond, ◌&&◌, get_or, Option, None, Some, refl, sym, ◌∙◌, ap, subst, append_assoc, append-nil, arith}
use Rattle.std.specs.Prelude.{Contains, map, slice_get, if◌then◌else◌}
use Rattle.std.specs.FinMap.{get}
use Rattle.std.specs.Fmt.{decimal}
use Rattle.std.specs.List.{list_all}
use Rattle.std.proofs.lemmas.Bool.{eq-eqb, lt-ltb, ltb-true}
use Rattle.std.proofs.lemmas.List.Elements.{Contains-append_cases, Contains-append_left, Contains-append_right}
use Rattle.commit_journal.specs.Journal.{fit_of}
use Rattle.commit_journal.specs.declared.fit.Fit.{Fit}
use Rattle.commit_journal.specs.declared.fit.Fit.TheVariants as fits
use Rattle.ecore_meta.specs.Meta.{Meta}
use Rattle.model_state.specs.Keys.{IdBytes}
use Rattle.model_state.specs.Listing.{ids}
use Rattle.model_state.specs.Packages.{steps_of}
use Rattle.model_state.specs.State as models
use Rattle.model_state.specs.declared.operation.Operation.{Operation}
use Rattle.history_tree.specs.declared.version.Version.{Version}
use Rattle.history_tree.specs.Found.{branch_name, branch_named, tags_of}
use Rattle.history_tree.specs.History.{History, head}
use Rattle.footprint.specs.declared.bucket.Bucket.{Bucket}
use Rattle.merge_laws.specs.Choices.{are_choices, is_choice}
use Rattle.op_form.specs.declared.event.Event.{Event}
use Rattle.op_form.specs.declared.event.Event.TheVariants.{Edit, Update, Merge}
use Rattle.op_form.specs.Events.{event_encoding}
use Rattle.op_form.specs.Formed.{is_event}
use Rattle.shown_lines.specs.Buckets.{bucket_lines, bucket_lines_from}
use Rattle.shown_lines.specs.Lines.{lines_from, operation_line, operation_lines, step_line, after_spaces, optional}
use Rattle.shown_lines.specs.Validation.{element_lines, feature_lines, features_at, held_in, line_if_short, lower_of, shortage_line, validate_lines}
use Rattle.serde_json.specs.Data.{string}
use Rattle.serde_json.specs.Written.{compact_text}
use Rattle.shown_lines.specs.Versions.{listed, log_lines, version_lines}
use Rattle.script_lang.specs.declared.command.Command.TheVariants as commands
use Rattle.script_lang.specs.declared.reply.Refusal.TheVariants as refusals
use Rattle.script_lang.specs.declared.reply.Last.TheVariants as last
use Rattle.plain_repository.specs.State.{State, Composite as Open, Workspace, workspace_of, model_of, is_open}
use Rattle.plain_repository.specs.Answers.{Decision, most_events, by_fit, refused, with_room}
use Rattle.plain_repository.specs.Choices.{chosen}
use Rattle.plain_repository.specs.Merging.{update_buckets, update_to, update_in, decide_update, has_theirs, merge_buckets, merge_to, merge_named, merge_in}
use Rattle.plain_repository.specs.Merging.{decide_merge}
use Rattle.plain_repository.specs.Events.{play}
use Rattle.plain_repository.specs.Repository.{decide_with, decide_command}
use Rattle.plain_repository.specs.Laws.{IsPrefix}
use Rattle.plain_repository.specs.Views.{lines_of_open, changes_in, decide_changes, validate_in, decide_validate, decide_log}
use Rattle.plain_repository.proofs.Standing.{edits_stand}
use Rattle.reply_laws.specs.Again.{lines_of}
use Rattle.reply_laws.specs.Lists.{LogsListVersions, ChangesGrow, ValidateIsExact, ConflictsAreCounted}
use Rattle.reply_laws.proofs.Deciding.{decided}

-- ---- versions
log_counts : (h : History) (n : ℕ) (vs : List Version) → length (version_lines h n vs) ≡ length vs
log_counts h n [] = refl
log_counts h n (v ∷ vs) = ap suc (log_counts h (suc n) vs)

-- a version's line after its number and a space
abbrev rest_of : History → ℕ → Version → List ℕ
rest_of h n v =
    branch_name h v.branch
    ++ after_spaces (optional decimal v.parent ∷ listed (map decimal v.merged) ∷ decimal (length v.«package») ∷ listed (tags_of h n)
    ∷ optional (λ author. author) v.author ∷ optional decimal v.moment ∷ compact_text (string v.message) ∷ [])

-- the line of the version at a place
log_line : (h : History) (n : ℕ) (vs : List Version) (k : ℕ) (v : Version) → slice_get vs k ≡ Some v
    → (rest : List ℕ) × (slice_get (version_lines h n vs) k ≡ Some (decimal (n + k) ++ 32 ∷ rest))
log_line h n [] k v there = absurd cc
log_line h n (x ∷ vs) zero v there =
    let same : n ≡ n + 0 = omega arith in (rest_of h n x, ap (λ (m : ℕ). Some (decimal m ++ 32 ∷ rest_of h n x)) same)
log_line h n (x ∷ vs) (suc k) v there =
    let more = log_line h (suc n) vs k v there in
    let same : suc n + k ≡ n + suc k = omega arith in
    (more.0, more.1 ∙ ap (λ (m : ℕ). Some (decimal m ++ 32 ∷ more.0)) same)

pub logs_list_versions : LogsListVersions
unfolding decide_log log_lines
logs_list_versions s meta begun block =
    let lines : lines_of s block commands.Log ≡ version_lines s.history 0 s.history.versions =
    ap (λ (d : Decision). d.reply.lines) (decided s meta begun block commands.Log) in
    record {
      count = ap length lines ∙ log_counts s.history 0 s.history.versions;
      each = λ n version there.
          let found = log_line s.history 0 s.history.versions n version there in
          let same : 0 + n ≡ n = omega arith in
          (found.0, ap (λ (l : List (List ℕ)). slice_get l n) lines ∙ found.1 ∙ ap (λ (m : ℕ). Some (decimal m ++ 32 ∷ found.0)) same);
    }

-- ---- operations
-- the lines of operations begin with those of the first ones
more_lines : (meta : Meta) (n : ℕ) (os more : List Operation) → IsPrefix (lines_from meta n os) (lines_from meta n (os ++ more))
more_lines meta n [] more = (lines_from meta n more, refl)
more_lines meta n (o ∷ os) more =
    let rest = more_lines meta (suc n) os more in
    let steps = map (step_line meta) (steps_of o) in (
      rest.0,
      ap (λ (l : List (List ℕ)). operation_line n o ∷ (steps ++ l)) rest.1
          ∙ ap (λ (l : List (List ℕ)). operation_line n o ∷ l) (sym (append_assoc steps (lines_from meta (suc n) os) rest.0)),
    )

changes_are : (s : State) (meta : Meta) (ws : ℕ) (w : Workspace) → s.meta ≡ Some meta → workspace_of s ws ≡ Some w → w.composite ≡ None
    → (block : Option (List ℕ)) → lines_of s block (commands.Changes ws) ≡ operation_lines meta w.operations
unfolding decide_changes
changes_are s meta ws w begun there shut block =
    ap (λ (d : Decision). d.reply.lines) (decided s meta begun block (commands.Changes ws) ∙ ap (changes_in meta) there)
    ∙ ap (λ (c : Option Open). operation_lines meta w.operations ++ lines_of_open meta c) shut
    ∙ append-nil (operation_lines meta w.operations)

meta_stays : (s : State) (ws : ℕ) (more : List Operation) → (play s (Edit ws more)).meta ≡ s.meta
unfolding play
meta_stays s ws more = refl

pub changes_grow : ChangesGrow
unfolding operation_lines
changes_grow s meta ws w more could shut block other =
    let stands = edits_stand more s meta ws w could in
    let after = stands.such.shut shut in
    let t = play s (Edit ws more) in
    let first = changes_are s meta ws w could.in_state.begun could.there shut block in
    let later = changes_are t meta ws stands.after (meta_stays s ws more ∙ could.in_state.begun) stands.there after.0 other in
    let rest = more_lines meta 1 w.operations more in
    (rest.0, later ∙ ap (operation_lines meta) after.1 ∙ rest.1 ∙ ap (λ (l : List (List ℕ)). l ++ rest.0) (sym first))

-- ---- features that are short
alone_at : {X : Type 0} (x y : X) (k : ℕ) → k < 1 → get_or (x ∷ []) k y ≡ y → y ≡ x
alone_at x y zero low is = sym is
alone_at x y (suc k) low is = absurd (omega (arith, low))

alone : {X : Type 0} (x y : X) → Contains (x ∷ []) y → y ≡ x
alone x y held = alone_at x y held.0 held.1 held.2

nowhere : {X : Type 0} (y : X) → Contains [] y → ⊥
nowhere y held = omega (arith, held.1)

first_one : {X : Type 0} (x : X) (xs : List X) → Contains (x ∷ xs) x
first_one x xs = (0, omega arith, refl)

later_one : {X : Type 0} (x y : X) (xs : List X) → Contains xs y → Contains (x ∷ xs) y
later_one x y xs held = let low = held.1 in (suc held.0, omega (arith, low), held.2)

module _ (meta : Meta) (m : models.State) (line : List ℕ) where
  -- a line of one of these features, which is short
  abbrev OfFeature : IdBytes → List ℕ → Type 0
  OfFeature e fs = (f : ℕ) × Contains fs f × (held_in meta m e f < lower_of meta f) × (line ≡ shortage_line meta m e f)

  one_line : (e : IdBytes) (f : ℕ) (b : Bool) → nat_lt (held_in meta m e f) (lower_of meta f) ≡ b
      → Contains (cond b (shortage_line meta m e f ∷ []) []) line → (held_in meta m e f < lower_of meta f) × (line ≡ shortage_line meta m e f)
  one_line e f true is held = (ltb-true (held_in meta m e f) (lower_of meta f) is, alone (shortage_line meta m e f) line held)
  one_line e f false is held = absurd (nowhere line held)

  feature_in : (e : IdBytes) (fs : List ℕ) → Contains (feature_lines meta m e fs) line → OfFeature e fs
  feature_in e [] held = absurd (nowhere line held)
  feature_in e (f ∷ fs) held =
      ⊎_elim
      (λ here. let found = one_line e f (nat_lt (held_in meta m e f) (lower_of meta f)) refl here in (f, first_one f fs, found.0, found.1))
      (λ later. let found = feature_in e fs later in (found.0, later_one f found.0 fs found.1, found.2, found.3))
      (Contains-append_cases (line_if_short meta m e f) (feature_lines meta m e fs) line held)

  element_in : (es : List IdBytes) → Contains (element_lines meta m es) line
      → (e : IdBytes) × Contains es e × OfFeature e (features_at meta (get m.kind e))
  element_in [] held = absurd (nowhere line held)
  element_in (e ∷ es) held =
      ⊎_elim
      (λ here. (e, first_one e es, feature_in e (features_at meta (get m.kind e)) here))
      (λ later. let found = element_in es later in (found.0, later_one e found.0 es found.1, found.2))
      (Contains-append_cases (feature_lines meta m e (features_at meta (get m.kind e))) (element_lines meta m es) line held)

  short_line : (e : IdBytes) (f : ℕ) → held_in meta m e f < lower_of meta f → line ≡ shortage_line meta m e f → Contains (line_if_short meta m e f) line
  short_line e f low is =
      subst (λ (b : Bool). Contains (cond b (shortage_line meta m e f ∷ []) []) line)
      (sym (lt-ltb (held_in meta m e f) (lower_of meta f) low)) (0, omega arith, sym is)

  feature_out : (e : IdBytes) (f : ℕ) (fs : List ℕ) (k : ℕ) → held_in meta m e f < lower_of meta f → line ≡ shortage_line meta m e f → k < length fs
      → get_or fs k f ≡ f → Contains (feature_lines meta m e fs) line
  feature_out e f [] k low is at same = absurd (omega (arith, at))
  feature_out e f (g ∷ fs) zero low is at same =
      Contains-append_left (line_if_short meta m e g) (feature_lines meta m e fs) line
      (subst (λ (x : ℕ). Contains (line_if_short meta m e x) line) (sym same) (short_line e f low is))
  feature_out e f (g ∷ fs) (suc k) low is at same =
      Contains-append_right (line_if_short meta m e g) (feature_lines meta m e fs) line (feature_out e f fs k low is (omega (arith, at)) same)

  element_out : (e : IdBytes) (f : ℕ) (es : List IdBytes) (k : ℕ) → held_in meta m e f < lower_of meta f → line ≡ shortage_line meta m e f
      → Contains (features_at meta (get m.kind e)) f → k < length es → get_or es k e ≡ e → Contains (element_lines meta m es) line
  element_out e f [] k low is held at same = absurd (omega (arith, at))
  element_out e f (x ∷ es) zero low is held at same =
      Contains-append_left (feature_lines meta m x (features_at meta (get m.kind x))) (element_lines meta m es) line
      (subst (λ (y : IdBytes). Contains (feature_lines meta m y (features_at meta (get m.kind y))) line) (sym same)
      (feature_out e f (features_at meta (get m.kind e)) held.0 low is held.1 held.2))
  element_out e f (x ∷ es) (suc k) low is held at same =
      Contains-append_right (feature_lines meta m x (features_at meta (get m.kind x))) (element_lines meta m es) line
      (element_out e f es k low is held (omega (arith, at)) same)

pub validate_is_exact : ValidateIsExact
unfolding decide_validate validate_lines
validate_is_exact s meta ws w begun there block line =
    let m = model_of meta s.history w in
    let lines : lines_of s block (commands.Validate ws) ≡ element_lines meta m (ids m) =
    ap (λ (d : Decision). d.reply.lines) (decided s meta begun block (commands.Validate ws) ∙ ap (validate_in meta s.history) there) in (
      λ held.
          let found = element_in meta m line (ids m) (subst (λ (l : List (List ℕ)). Contains l line) lines held) in
          (found.0, found.2.0, record { element = found.1; feature = found.2.1; short = found.2.2 }, found.2.3),
      λ short.
          subst (λ (l : List (List ℕ)). Contains l line) (sym lines)
          (element_out meta m line short.0 short.1 (ids m) short.2.element.0 short.2.short short.3 short.2.feature short.2.element.1
          short.2.element.2),
    )

-- ---- conflicts
buckets_count : (n : ℕ) (bs : List Bucket) → length (bucket_lines_from n bs) ≡ length bs
buckets_count n [] = refl
buckets_count n (b ∷ bs) = ap suc (buckets_count (suc n) bs)

-- a reply that is neither of the two refusals
record Neither (d : Decision) : Type 0 where
  no_conflicts : (n : ℕ) → d.reply.last ≢ last.No (refusals.Conflicts n)
  no_bad : (a b : ℕ) → d.reply.last ≢ last.No (refusals.BadChoice a b)

ok_neither : {d : Decision} (words : List ℕ) → d.reply.last ≡ last.Ok words → Neither d
ok_neither words says = record { no_conflicts = λ n is. cc; no_bad = λ a b is. cc }

either_neither : (b : Bool) {x y : Decision} → Neither x → Neither y → Neither (if b then x else y)
either_neither true first second = first
either_neither false first second = second

room_neither : (s : State) (lines : List (List ℕ)) (words : List ℕ) (e : Event) → Neither (with_room s lines words e)
unfolding with_room
room_neither s lines words e = either_neither (nat_le most_events s.events) (record { no_conflicts = λ n is. cc; no_bad = λ a b is. cc })
    (either_neither (is_event e) (by (fit_of s.end (length (event_encoding e)))) (record { no_conflicts = λ n is. cc; no_bad = λ a b is. cc }))
  where
    by : (fit : Fit) → Neither (by_fit fit lines words e)
    by fits.Yes = ok_neither words refl
    by fits.TooLarge = record { no_conflicts = λ n is. cc; no_bad = λ a b is. cc }
    by fits.Full = record { no_conflicts = λ n is. cc; no_bad = λ a b is. cc }

both_true : (a b : Bool) → a ≡ true → b ≡ true → (a && b) ≡ true
both_true a b one two = rw one two

same_conflicts : (a b : ℕ) → last.No (refusals.Conflicts a) ≡ last.No (refusals.Conflicts b) → a ≡ b
same_conflicts a b is = cc

-- what is decided without letters, and with as many as there are conflicts
record Counts (without : Decision) (given : List ℕ → Decision) : Type 0 where
  counts : (n : ℕ) → without.reply.last ≡ last.No (refusals.Conflicts n)
      → (length without.reply.lines ≡ n)
      × ((letters : List ℕ) → length letters ≡ n → list_all is_choice letters ≡ true → (a b : ℕ)
      → (given letters).reply.last ≢ last.No (refusals.BadChoice a b))

-- a decision without conflicts
no_counts : {without : Decision} {given : List ℕ → Decision} → ((n : ℕ) → without.reply.last ≢ last.No (refusals.Conflicts n)) → Counts without given
no_counts none = record { counts = λ n is. absurd (none n is) }

either_counts : (b : Bool) {x y : Decision} {f g : List ℕ → Decision} → Counts x f → Counts y g
    → Counts (if b then x else y) (λ letters. if b then f letters else g letters)
either_counts true first second = first
either_counts false first second = second

-- letters that fit the buckets
given_is : (x : Bucket) (xs : List Bucket) (letters : List ℕ) (d : Decision) → are_choices letters (x ∷ xs) ≡ true → chosen (x ∷ xs) (Some letters) d ≡ d
given_is x xs letters d fits = ap (λ (c : Bool). if c then d else refused (refusals.BadChoice (length (x ∷ xs)) (length letters))) fits

chosen_counts : (rows : List Bucket) (decision : Decision) (given : List ℕ → Decision) → Neither decision → ((letters : List ℕ) → Neither (given letters))
    → Counts (chosen rows None decision) (λ letters. chosen rows (Some letters) (given letters))
unfolding bucket_lines
chosen_counts [] decision given none all = no_counts none.no_conflicts
chosen_counts (x ∷ xs) decision given none all = record {
  counts = λ n is.
      let count : length (x ∷ xs) ≡ n = same_conflicts (length (x ∷ xs)) n is in (
        buckets_count 1 (x ∷ xs) ∙ count,
        λ letters long choices a b bad.
            let fits : are_choices letters (x ∷ xs) ≡ true =
            both_true (nat_eq (length letters) (length (x ∷ xs))) (list_all is_choice letters)
            (eq-eqb (length letters) (length (x ∷ xs)) (long ∙ sym count)) choices in
            (all letters).no_bad a b (ap (λ (d : Decision). d.reply.last) (sym (given_is x xs letters (given letters) fits)) ∙ bad),
      );
}

module _ (s : State) (meta : Meta) (ws : ℕ) where
  update_neither : (w : Workspace) (letters : List ℕ) (version : ℕ) → Neither (update_to s ws w letters version)
  update_neither w letters version =
      either_neither (nat_eq w.base version) (ok_neither (decimal version) refl) (room_neither s [] (decimal version) (Update ws letters))

  update_counts : (o : Option Workspace) → Counts (update_in s meta ws None o) (λ letters. update_in s meta ws (Some letters) o)
  update_counts None = no_counts (λ n is. cc)
  update_counts (Some w) =
      let version = head s.history w.branch in
      either_counts (is_open (Some w)) (no_counts (λ n is. cc))
      (chosen_counts (update_buckets meta s.history w) (update_to s ws w [] version) (λ letters. update_to s ws w letters version)
      (update_neither w [] version) (λ letters. update_neither w letters version))

  merge_neither : (w : Workspace) (branch : ℕ) (letters : List ℕ) (other : ℕ) → Neither (merge_to s ws w branch letters other)
  merge_neither w branch letters other =
      either_neither (has_theirs s.history w other) (room_neither s [] (decimal other) (Merge ws branch letters)) (ok_neither (decimal other) refl)

  named_counts : (w : Workspace) (o : Option ℕ) → Counts (merge_named s meta ws w None o) (λ letters. merge_named s meta ws w (Some letters) o)
  named_counts w None = no_counts (λ n is. cc)
  named_counts w (Some branch) =
      let other = head s.history branch in
      either_counts (nat_eq branch w.branch) (no_counts (λ n is. cc))
      (chosen_counts (merge_buckets meta s.history w other) (merge_to s ws w branch [] other) (λ letters. merge_to s ws w branch letters other)
      (merge_neither w branch [] other) (λ letters. merge_neither w branch letters other))

  merge_counts : (name : List ℕ) (o : Option Workspace) → Counts (merge_in s meta ws name None o) (λ letters. merge_in s meta ws name (Some letters) o)
  merge_counts name None = no_counts (λ n is. cc)
  merge_counts name (Some w) =
      either_counts (is_open (Some w)) (no_counts (λ n is. cc)) (named_counts w (branch_named s.history name))

update_by : (s : State) (block : Option (List ℕ)) (ws : ℕ) (m : Option Meta)
    → Counts (decide_with s m block (commands.Update ws None)) (λ letters. decide_with s m block (commands.Update ws (Some letters)))
unfolding decide_update
update_by s block ws None = no_counts (λ n is. cc)
update_by s block ws (Some meta) = update_counts s meta ws (workspace_of s ws)

merge_by : (s : State) (block : Option (List ℕ)) (ws : ℕ) (name : List ℕ) (m : Option Meta)
    → Counts (decide_with s m block (commands.Merge ws name None)) (λ letters. decide_with s m block (commands.Merge ws name (Some letters)))
unfolding decide_merge
merge_by s block ws name None = no_counts (λ n is. cc)
merge_by s block ws name (Some meta) = merge_counts s meta ws name (workspace_of s ws)

pub conflicts_are_counted : ConflictsAreCounted
unfolding decide_command
conflicts_are_counted = record {
  updates = λ s block ws n is. let c = (update_by s block ws s.meta).counts n is in record { lines = c.0; letters = c.1 };
  merges = λ s block ws name n is. let c = (merge_by s block ws name s.meta).counts n is in record { lines = c.0; letters = c.1 };
}
