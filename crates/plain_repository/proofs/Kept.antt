-- What each event keeps: versions and workspaces whose steps are runs, in a history that is whole.
use Rattle.std.proofs.Common.{◌≡◌, ◌⊎◌, inl, inr, ℕ, zero, suc, ◌+◌, ◌<◌, ◌&&◌, ◌||◌, nat_eq, nat_lt, List, [], ◌∷◌, ◌++◌, Bool, true, false, length}
use Rattle.std.proofs.Common.{Option, None, Some, is_some, Result, Ok, Err, is_ok, refl, sym, ◌∙◌, ap, subst, arith, length-append, append-nil}
use Rattle.std.specs.Prelude.{All, Contains, IsTrue, slice_get, option_map, not}
use Rattle.std.specs.List.{AllByRecursion}
use Rattle.std.specs.Option.{option_map_or}
use Rattle.std.proofs.lemmas.Bool.{eqb-true, ltb-true, ltb-false}
use Rattle.std.proofs.lemmas.List.Elements.{All-push, All-weaker, recursion_from_All}
use Rattle.std.proofs.lemmas.Option.{slice_get_within, get_or_from_slice_get, same_Some}
use Rattle.command_runs.specs.Runs.{played}
use Rattle.ecore_meta.specs.Meta.{Meta}
use Rattle.ecore_json.specs.Metamodel.{metamodel_of}
use Rattle.ecore_json.proofs.ReadHolds.{read_holds}
use Rattle.ecore_json.specs.declared.fault.EcoreFault.{EcoreFault}
use Rattle.model_state.specs.Names.{is_name}
use Rattle.model_state.specs.State.{nothing}
use Rattle.model_state.specs.Packages.{steps_all}
use Rattle.model_state.specs.declared.step.Step.{Step}
use Rattle.model_state.specs.declared.operation.Operation.{Operation}
use Rattle.history_tree.specs.declared.version.Version.{Version}
use Rattle.history_tree.specs.History.{History, first_version, first_history, with_version, with_branch, with_tag, path, head}
use Rattle.history_tree.specs.Found.{has_tag}
use Rattle.history_tree.specs.States.{operations_to}
use Rattle.history_tree.specs.Whole.{IsWhole}
use Rattle.history_tree.proofs.Growing.{whole_more}
use Rattle.history_tree.proofs.Heads.{head_more, head_within}
use Rattle.history_tree.proofs.Steady.{operations_kept, operations_more, path_ends, on_path_more, head_kept, head_new, whole_branch, whole_tag, whole_first}
use Rattle.op_form.specs.Formed.{IsOperation, IsEvent}
use Rattle.op_form.specs.declared.event.Event.{Event}
use Rattle.op_form.specs.declared.event.Event.TheVariants.{Init, Checkout, Edit, Begin, End, Undo, Discard, Tidy, Commit, Branch, Tag, Update, Merge}
use Rattle.op_form.specs.declared.event.Event.TheVariants.{Drop, Evolve, Upgrade, Signed}
use Rattle.plain_repository.specs.State.{State, Workspace, Composite as Open, empty, untouched, workspace_of, recorded_steps, open_steps}
use Rattle.plain_repository.specs.State.{with_changed, changed_by_number, is_closed, has_operations, has_local}
use Rattle.plain_repository.specs.Metamodels.{meta_of_read, grown}
use Rattle.plain_repository.specs.Checkouts.{with_checkout, can_check_out}
use Rattle.history_tree.specs.declared.version.Signature.{Signature}
use Rattle.plain_repository.specs.Commits.{version_of, committed, with_commit, can_commit, moved_onto, with_new_branch, is_new_branch, with_new_tag}
use Rattle.plain_repository.specs.Edits.{added, with_more, can_follow}
use Rattle.plain_repository.specs.Composites.{with_open, with_closed}
use Rattle.plain_repository.specs.Local.{without_last, without_any}
use Rattle.merge_laws.specs.Tidy.{is_tidy}
use Rattle.merge_laws.specs.Choices.{are_choices}
use Rattle.plain_repository.specs.Tidying.{tidied, can_tidy}
use Rattle.plain_repository.specs.Merging.{update_buckets, updated, can_update, merge_buckets, merged_with, is_other_branch, has_theirs, can_merge}
use Rattle.plain_repository.specs.Changes.{Change, Begins, Extends, Upgrades, Opens, Drops, Within, Makes, Branches, Tags, applied, meta_with}
use Rattle.plain_repository.specs.Changes.{first_text}
use Rattle.plain_repository.specs.Events.{by_meta, change_of, effect, meta_after, play, playable, playable_with, are_playable}
use Rattle.plain_repository.specs.Orderly.{RunsTo, Runs, steps_to, StandsInHistory, IsOrderlyWorkspace, HeadsLead, IfThere, Orderly, AllOrderly, IsOrderly}
use Rattle.plain_repository.proofs.Encodings.{and_left, and_right, not_so, playable_is_event}
use Rattle.plain_repository.proofs.Shapes.{is_first, is_later}
use Rattle.plain_repository.proofs.Evolving.{grown_is, order_stays}
use Rattle.plain_repository.proofs.Merged.{tidied_led, updated_led, merged_led}
use Rattle.plain_repository.proofs.Names.{split_last, first_names, version_names, branch_names, tag_names}
use Rattle.plain_repository.proofs.Places.{both, at_number, all_weaker, number_changed, number_dropped}
use Rattle.plain_repository.proofs.Recorded.{steps_append}
use Rattle.plain_repository.proofs.Runs.{same_run, untouched_runs, more_runs, open_runs, closed_runs, last_runs, closed_steps_are}

-- ---- workspaces
-- a change that leaves branch, base and pending list leaves the workspace in order where its steps are a run
in_order : (meta : Meta) (h : History) (v w : Workspace) → v.branch ≡ w.branch → v.base ≡ w.base → v.pending ≡ w.pending → StandsInHistory h w
    → Runs meta h v → IsOrderlyWorkspace meta h v
in_order meta h v w branch base pending stands runs = record {
  stands = record {
    branch = subst (λ b. b < length h.branches) (sym branch) stands.branch;
    base = subst (λ b. b < length h.versions) (sym base) stands.base;
    on_path = subst (λ b. Contains (path h (head h b)) v.base) (sym branch) (subst (λ b. Contains (path h (head h w.branch)) b) (sym base) stands.on_path);
    pending = subst (All (λ v. v < length h.versions)) (sym pending) stands.pending;
  };
  runs = runs;
}

none_pending : (n : ℕ) → All (λ v. v < n) []
none_pending n k d within = absurd (omega (arith, within))

untouched_in_order : (meta : Meta) (h : History) (branch base : ℕ) → branch < length h.branches → base < length h.versions
    → Contains (path h (head h branch)) base → RunsTo meta h base → IsOrderlyWorkspace meta h (untouched branch base)
untouched_in_order meta h branch base first second on run = record {
  stands = record { branch = first; base = second; on_path = on; pending = none_pending (length h.versions) };
  runs = untouched_runs meta h branch base run;
}

more_in_order : (meta : Meta) (h : History) (more : List Operation) → AllByRecursion IsOperation more → (w : Workspace)
    → can_follow meta h (Some w) more ≡ true → IsOrderlyWorkspace meta h w → IsOrderlyWorkspace meta h (with_more more w)
more_in_order meta h more spelled w can r = by w.composite refl
  where
    by : (c : Option Open) → w.composite ≡ c → IsOrderlyWorkspace meta h (added more c w)
    by None is = in_order meta h (added more None w) w refl refl refl r.stands (more_runs meta h more spelled w can r.runs None is)
    by (Some c) is = in_order meta h (added more (Some c) w) w refl refl refl r.stands (more_runs meta h more spelled w can r.runs (Some c) is)

-- ---- events that leave the history
-- what holds of the workspaces, with the history and the metamodel as they are
with_workspaces : (meta : Meta) (s : State) (ws : List (Option Workspace)) → Orderly meta s → AllByRecursion (IfThere (IsOrderlyWorkspace meta s.history)) ws
    → Orderly meta (record s { workspaces = ws })
with_workspaces meta s ws kept all =
    record { metamodel = kept.metamodel; whole = kept.whole; heads = kept.heads; names = kept.names; versions = kept.versions; workspaces = all }

changed_kept : (meta : Meta) (s : State) (change : Workspace → Workspace) (k : ℕ) → Orderly meta s
    → ((w : Workspace) → workspace_of s k ≡ Some w → IsOrderlyWorkspace meta s.history w → IsOrderlyWorkspace meta s.history (change w))
    → Orderly meta (with_changed change k s)
changed_kept meta s change k kept keeps =
    with_workspaces meta s (changed_by_number (option_map change) s.workspaces k) kept
    (number_changed (IsOrderlyWorkspace meta s.history) (IsOrderlyWorkspace meta s.history) (λ w r. r) change s k keeps kept.workspaces)

-- what was tested of the workspace of a number is used of it
found : (s : State) (k : ℕ) (P : Option Workspace → Type 0) → P (workspace_of s k) → (w : Workspace) → workspace_of s k ≡ Some w → P (Some w)
found s k P p w is = subst P is p

-- a version of the branch, or its head, is on the path of its head
checkout_on_path : (h : History) → IsWhole h → HeadsLead h → (version branch : ℕ) → version < length h.versions → (o : Option Version)
    → slice_get h.versions version ≡ o
    → (option_map_or (λ (v : Version). nat_eq v.branch branch) o false || nat_eq (head h branch) version) ≡ true → Contains (path h (head h branch)) version
checkout_on_path h whole heads version branch within o there on = by o there on
  where
    at_head : nat_eq (head h branch) version ≡ true → Contains (path h (head h branch)) version
    at_head e = subst (λ k. Contains (path h k) version) (sym (eqb-true (head h branch) version e)) (path_ends h whole version within)

    on_branch : (v : Version) → slice_get h.versions version ≡ Some v → (b : Bool) → nat_eq v.branch branch ≡ b
        → b || nat_eq (head h branch) version ≡ true → Contains (path h (head h branch)) version
    on_branch v there true is on = subst (λ b. Contains (path h (head h b)) version) (eqb-true v.branch branch is) (heads version v there)
    on_branch v there false is on = at_head on

    by : (o : Option Version) → slice_get h.versions version ≡ o
        → (option_map_or (λ (v : Version). nat_eq v.branch branch) o false || nat_eq (head h branch) version) ≡ true
        → Contains (path h (head h branch)) version
    by None there on = at_head on
    by (Some v) there on = on_branch v there (nat_eq v.branch branch) refl on

checkout_kept : (meta : Meta) (s : State) (version branch : ℕ) → can_check_out s.history version branch ≡ true → Orderly meta s
    → Orderly meta (with_checkout version branch s)
checkout_kept meta s version branch can kept =
    let h : History = s.history in
    let in_versions : version < length h.versions = ltb-true version (length h.versions) (and_left _ _ (and_left _ _ can)) in
    let in_branches : branch < length h.branches =
    ltb-true branch (length h.branches) (and_right (nat_lt version (length h.versions)) (nat_lt branch (length h.branches)) (and_left _ _ can)) in
    with_workspaces meta s (s.workspaces ++ Some (untouched branch version) ∷ []) kept
    (both (IfThere (IsOrderlyWorkspace meta h)) s.workspaces (Some (untouched branch version) ∷ []) kept.workspaces (
      untouched_in_order meta h branch version in_branches in_versions
          (checkout_on_path h kept.whole kept.heads version branch in_versions (slice_get h.versions version) refl
          (and_right (nat_lt version (length h.versions) && nat_lt branch (length h.branches)) _ can))
          (kept.versions version in_versions),
      tt,
    ))

-- ---- events that change the history
-- a number below one more
below_more : (v n : ℕ) → v < n + 1 → (v < n) ⊎ (v ≡ n)
below_more v n within = by (nat_lt v n) refl
  where
    by : (b : Bool) → nat_lt v n ≡ b → (v < n) ⊎ (v ≡ n)
    by true is = inl (ltb-true v n is)
    by false is = inr (omega (arith, within, ltb-false v n is))

-- ---- Commit and Signed
-- there are both an author and a moment, or neither
signature_whole : (o : Option Signature) → is_some (option_map (λ (x : Signature). x.author) o) ≡ is_some (option_map (λ (x : Signature). x.moment) o)
signature_whole None = refl
signature_whole (Some x) = refl

module _ (meta : Meta) (s : State) (kept : Orderly meta s) (signature : Option Signature) (message : List ℕ) (w : Workspace)
    (r : IsOrderlyWorkspace meta s.history w) (at_head : w.base ≡ head s.history w.branch) (closed : is_closed (Some w) ≡ true) where
  abbrev h : History
  h = s.history

  abbrev n : ℕ
  n = length s.history.versions

  abbrev more : History
  more = with_version s.history (version_of w signature message)

  parent : Some w.base ≡ Some (head s.history w.branch)
  parent = ap Some at_head

  longer : length (s.history.versions ++ version_of w signature message ∷ []) ≡ length s.history.versions + 1
  longer = length-append s.history.versions (version_of w signature message ∷ [])

  commit_whole : IsWhole (with_version s.history (version_of w signature message))
  commit_whole = whole_more s.history (version_of w signature message) kept.whole r.stands.branch parent r.stands.pending (signature_whole signature)

  on_path : (branch u : ℕ) → Contains (path h (head h branch)) u → Contains (path more (head more branch)) u
  on_path branch u on = on_path_more s.history (version_of w signature message) kept.whole parent branch u on

  last_on_path : Contains (path more (head more w.branch)) n
  last_on_path = subst (λ k. Contains (path more k) n) (sym (head_more s.history (version_of w signature message)))
      (path_ends more commit_whole n (omega (arith, longer)))

  commit_heads : HeadsLead (with_version s.history (version_of w signature message))
  commit_heads v version there =
      elim (split_last s.history.versions (version_of w signature message) v version there) [
        | inl i ↦ on_path version.branch v (kept.heads v version i)
        | inr i ↦ subst (λ k. Contains (path more (head more version.branch)) k) (sym i.0)
            (subst (λ (y : Version). Contains (path more (head more y.branch)) n) i.1 last_on_path)
      ]

  -- the steps up to the new version are those of the workspace
  pub commit_steps : steps_to more n ≡ steps_to h w.base ++ recorded_steps w
  commit_steps =
      ap steps_all (operations_more s.history (version_of w signature message) w.base refl r.stands.base)
      ∙ steps_append (operations_to h w.base) w.operations
      ∙ ap (λ (l : List Step). steps_to h w.base ++ l) (sym (closed_steps_are w w.composite refl closed))

  commit_run : RunsTo meta more n
  commit_run = same_run meta (steps_to more n) (steps_to h w.base ++ recorded_steps w) commit_steps r.runs

  old_steps : (v : ℕ) → v < n → steps_to more v ≡ steps_to h v
  old_steps v within = ap steps_all (operations_kept s.history (version_of w signature message) v within)

  commit_versions : (v : ℕ) → v < length (s.history.versions ++ version_of w signature message ∷ []) → RunsTo meta more v
  commit_versions v within =
      elim (below_more v n (omega (arith, within, longer))) [
        | inl i ↦ same_run meta (steps_to more v) (steps_to h v) (old_steps v i) (kept.versions v i)
        | inr i ↦ subst (λ k. RunsTo meta more k) (sym i) commit_run
      ]

  -- the other workspaces stay in order
  commit_others : (v : Workspace) → IsOrderlyWorkspace meta h v → IsOrderlyWorkspace meta more v
  commit_others v q = record {
    stands = record {
      branch = q.stands.branch;
      base = omega (arith, q.stands.base, longer);
      on_path = on_path v.branch v.base q.stands.on_path;
      pending = All-weaker (λ u. u < n) (λ u. u < length (s.history.versions ++ version_of w signature message ∷ []))
          (λ u within. omega (arith, within, longer)) v.pending q.stands.pending;
    };
    runs = same_run meta (steps_to more v.base ++ recorded_steps v) (steps_to h v.base ++ recorded_steps v)
        (ap (λ (l : List Step). l ++ recorded_steps v) (old_steps v.base q.stands.base)) q.runs;
  }

  -- the workspace stands at the new version, with nothing local
  pub commit_itself : (c : Option Open) → w.composite ≡ c → IsOrderlyWorkspace meta more (committed n w)
  commit_itself None is = record {
    stands = record { branch = r.stands.branch; base = omega (arith, longer); on_path = last_on_path; pending = none_pending _ };
    runs = same_run meta (steps_to more n ++ recorded_steps (committed n w)) (steps_to more n)
        (ap (λ (c : Option Open). steps_to more n ++ open_steps c) is ∙ append-nil (steps_to more n)) commit_run;
  }
  commit_itself (Some c) is = absurd (by (ap (λ (c : Option Open). not (is_some c)) (sym is) ∙ closed))
    where
      by : false ≡ true → ⊥
      by e = cc

  commit_kept : (k : ℕ) → workspace_of s k ≡ Some w → Orderly meta (with_commit k signature message (Some w) s)
  commit_kept k there = record {
    metamodel = kept.metamodel;
    whole = commit_whole;
    heads = commit_heads;
    names = version_names s.history (version_of w signature message) kept.names;
    versions = commit_versions;
    workspaces = number_changed (IsOrderlyWorkspace meta h) (IsOrderlyWorkspace meta more) commit_others (committed n) s k
        (λ v at q. let same : w ≡ v = same_Some w v (sym there ∙ at)
        in subst (λ (u : Workspace). IsOrderlyWorkspace meta more (committed n u)) same (commit_itself w.composite refl)) kept.workspaces;
  }

-- ---- Branch
branch_kept : (meta : Meta) (s : State) → Orderly meta s → (name : List ℕ) → is_name name ≡ true → is_new_branch s.history name ≡ true
    → (w : Workspace) → IsOrderlyWorkspace meta s.history w → (k : ℕ) → workspace_of s k ≡ Some w → Orderly meta (with_new_branch k name (Some w) s)
branch_kept meta s kept name is new w r k there =
    let h : History = s.history in
    let more : History = with_branch h name w.base in
    let longer : length more.branches ≡ length h.branches + 1 = length-append h.branches (record { name = name; start = w.base } ∷ []) in
    let new_head : head more (length h.branches) ≡ w.base = head_new h kept.whole name w.base in
    let branches = recursion_from_All (λ (v : Version). v.branch < length h.branches) h.versions kept.whole.branches in
    record {
      metamodel = kept.metamodel;
      whole = whole_branch h kept.whole name w.base r.stands.base;
      heads = λ v version at.
          subst (λ k. Contains (path h k) v)
          (sym (head_kept h name w.base version.branch
          (All-at (λ (v : Version). v.branch < length h.branches) h.versions v version at kept.whole.branches))) (kept.heads v version at);
      names = branch_names h name w.base kept.names is new;
      versions = kept.versions;
      workspaces = number_changed (IsOrderlyWorkspace meta h) (IsOrderlyWorkspace meta more)
          (λ v q. record {
            stands = record {
              branch = omega (arith, q.stands.branch, longer);
              base = q.stands.base;
              on_path = subst (λ k. Contains (path h k) v.base) (sym (head_kept h name w.base v.branch q.stands.branch)) q.stands.on_path;
              pending = q.stands.pending;
            };
            runs = q.runs;
          })
          (moved_onto (length h.branches)) s k
          (λ v at q. let same : w ≡ v = same_Some w v (sym there ∙ at) in record {
            stands = record {
              branch = omega (arith, longer);
              base = q.stands.base;
              on_path = subst (λ k. Contains (path h k) v.base) (sym (new_head ∙ ap (λ (u : Workspace). u.base) same))
                  (path_ends h kept.whole v.base q.stands.base);
              pending = q.stands.pending;
            };
            runs = q.runs;
          }) kept.workspaces;
    }
  where
    All-at : (P : Version → Type 0) (vs : List Version) (k : ℕ) (v : Version) → slice_get vs k ≡ Some v → All P vs → P v
    All-at P vs k v at all = subst P (get_or_from_slice_get vs k v v at) (all k v (slice_get_within vs k v at))

-- ---- Tag
tag_kept : (meta : Meta) (s : State) → Orderly meta s → (name : List ℕ) (version : ℕ) → is_name name ≡ true → has_tag s.history name ≡ false
    → version < length s.history.versions → Orderly meta (with_new_tag name version s)
tag_kept meta s kept name version is new within = record {
  metamodel = kept.metamodel;
  whole = whole_tag s.history kept.whole name version within;
  heads = kept.heads;
  names = tag_names s.history name version kept.names is new;
  versions = kept.versions;
  workspaces = all_weaker (IsOrderlyWorkspace meta s.history) (IsOrderlyWorkspace meta (with_tag s.history name version)) (λ w q. record {
    stands = record { branch = q.stands.branch; base = q.stands.base; on_path = q.stands.on_path; pending = q.stands.pending };
    runs = q.runs;
  }) s.workspaces kept.workspaces;
}

-- ---- Init
first_heads : HeadsLead first_history
first_heads zero version there = let same : first_version ≡ version = same_Some first_version version there
    in subst (λ (v : Version). Contains (path first_history (head first_history v.branch)) 0) same (0, omega arith, refl)
first_heads (suc v) version there = absurd cc

first_kept : (meta : Meta) (s : State) (text : List ℕ) → metamodel_of text ≡ Ok meta → s.workspaces ≡ []
    → Orderly meta (record s { meta = Some meta; history = first_history })
first_kept meta s text is none = record {
  metamodel = read_holds text meta is;
  whole = whole_first;
  heads = first_heads;
  names = first_names;
  versions = λ v within. let is_zero : 0 ≡ v = omega (arith, within)
      in subst (λ k. RunsTo meta first_history k) is_zero (record { model = nothing; run = refl; spelled = tt });
  workspaces = subst (AllByRecursion (IfThere (IsOrderlyWorkspace meta first_history))) (sym none) tt;
}

init_kept : (s : State) (text : List ℕ) (r : Result Meta EcoreFault) → metamodel_of text ≡ r → is_ok r ≡ true → s.workspaces ≡ []
    → AllOrderly (meta_of_read r) (record s { meta = meta_of_read r; history = first_history })
init_kept s text (Ok meta) is ok none = first_kept meta s text is none
init_kept s text (Err e) is ok none = absurd cc

-- ---- Tidy, Update and Merge
tidied_in_order : (meta : Meta) (s : State) → Orderly meta s → (w : Workspace) → can_tidy meta (Some w) ≡ true → IsOrderlyWorkspace meta s.history w
    → IsOrderlyWorkspace meta s.history (tidied meta w)
tidied_in_order meta s kept w can q =
    in_order meta s.history (tidied meta w) w refl refl refl q.stands
    (tidied_led meta kept.metamodel.sound s.history kept.whole kept.versions w q (and_left (is_closed (Some w)) (not (is_tidy meta w.operations)) can)).runs_to

updated_in_order : (meta : Meta) (s : State) → Orderly meta s → (letters : List ℕ) (w : Workspace) → can_update meta s.history letters (Some w) ≡ true
    → IsOrderlyWorkspace meta s.history w → IsOrderlyWorkspace meta s.history (updated meta s.history letters w)
updated_in_order meta s kept letters w can q =
    let h : History = s.history in
    let apart : Bool = not (nat_eq w.base (head h w.branch)) in
    let fit : Bool = are_choices letters (update_buckets meta h w) in
    let there : head h w.branch < length h.versions = head_within h w.branch kept.whole in
    record {
      stands = record { branch = q.stands.branch; base = there; on_path = path_ends h kept.whole (head h w.branch) there; pending = q.stands.pending };
      runs = (updated_led meta kept.metamodel.sound h kept.whole kept.versions w q
          (and_left (is_closed (Some w)) apart (and_left (is_closed (Some w) && apart) fit can)) letters
          (and_right (is_closed (Some w) && apart) fit can)).runs_to;
    }

merged_in_order : (meta : Meta) (s : State) → Orderly meta s → (branch : ℕ) (letters : List ℕ) (w : Workspace)
    → can_merge meta s.history branch letters (Some w) ≡ true → IsOrderlyWorkspace meta s.history w
    → IsOrderlyWorkspace meta s.history (merged_with meta s.history (head s.history branch) letters w)
merged_in_order meta s kept branch letters w can q =
    let h : History = s.history in
    let other : ℕ = head h branch in
    let closed : Bool = is_closed (Some w) in
    let apart : Bool = is_other_branch h w branch in
    let some : Bool = has_theirs h w other in
    let fit : Bool = are_choices letters (merge_buckets meta h w other) in
    let there : other < length h.versions = head_within h branch kept.whole in
    record {
      stands = record {
        branch = q.stands.branch;
        base = q.stands.base;
        on_path = q.stands.on_path;
        pending =
            All-push (λ v. v < length h.versions) w.pending other q.stands.pending there;
      };
      runs = (merged_led meta kept.metamodel.sound h kept.whole kept.versions w q
          (and_left closed apart (and_left (closed && apart) some (and_left (closed && apart && some) fit can))) other there letters
          (and_right (closed && apart && some) fit can)).runs_to;
    }

-- ---- each event
commit_by : (meta : Meta) (s : State) (k : ℕ) (signature : Option Signature) (message : List ℕ) (o : Option Workspace) → workspace_of s k ≡ o
    → can_commit s.history o ≡ true → Orderly meta s → Orderly meta (with_commit k signature message o s)
commit_by meta s k signature message None there can kept = absurd cc
commit_by meta s k signature message (Some w) there can kept =
    let first : (nat_eq w.base (head s.history w.branch) && is_closed (Some w)) ≡ true = and_left _ (has_local (Some w)) can in
    commit_kept meta s kept signature message w (at_number (IsOrderlyWorkspace meta s.history) s k w there kept.workspaces)
    (eqb-true w.base (head s.history w.branch) (and_left _ (is_closed (Some w)) first))
    (and_right (nat_eq w.base (head s.history w.branch)) (is_closed (Some w)) first) k there

branch_by : (meta : Meta) (s : State) (k : ℕ) (name : List ℕ) (o : Option Workspace) → is_name name ≡ true → is_new_branch s.history name ≡ true
    → workspace_of s k ≡ o → is_closed o ≡ true → Orderly meta s
    → Orderly meta (with_new_branch k name o s)
branch_by meta s k name None is new there closed kept = absurd cc
branch_by meta s k name (Some w) is new there closed kept =
    branch_kept meta s kept name is new w (at_number (IsOrderlyWorkspace meta s.history) s k w there kept.workspaces) k there

-- an event that could be made keeps all of it
pub event_kept : (meta : Meta) (s : State) (e : Event) → s.meta ≡ Some meta → IsTrue (playable_with s (Some meta) e) → IsEvent e → Orderly meta s
    → Orderly (meta_after meta e) (effect s e)
event_kept meta s (Init text) begun could spelled kept = absurd cc
event_kept meta s (Checkout version branch) begun could spelled kept = checkout_kept meta s version branch could kept
event_kept meta s (Edit k operations) begun could spelled kept =
    changed_kept meta s (with_more operations) k kept
    (λ w at q. more_in_order meta s.history operations (recursion_from_All IsOperation operations spelled.1.1) w
    (found s k (λ o. can_follow meta s.history o operations ≡ true) could w at) q)
event_kept meta s (Begin k name) begun could spelled kept =
    changed_kept meta s (with_open name) k kept
    (λ w at q. in_order meta s.history (with_open name w) w refl refl refl q.stands
    (open_runs meta s.history name w
    (found s k (λ o. is_closed o ≡ true) (and_right (is_name name) (is_closed (workspace_of s k)) could) w at) q.runs))
event_kept meta s (End k) begun could spelled kept =
    changed_kept meta s with_closed k kept (λ w at q. in_order meta s.history (with_closed w) w refl refl refl q.stands (closed_runs meta s.history w q.runs))
event_kept meta s (Undo k) begun could spelled kept =
    changed_kept meta s without_last k kept
    (λ w at q. in_order meta s.history (without_last w) w refl refl refl q.stands
    (last_runs meta s.history w
    (found s k (λ o. is_closed o ≡ true) (and_left (is_closed (workspace_of s k)) (has_operations (workspace_of s k)) could) w at) q.runs))
event_kept meta s (Discard k) begun could spelled kept =
    changed_kept meta s without_any k kept
    (λ w at q. untouched_in_order meta s.history w.branch w.base q.stands.branch q.stands.base q.stands.on_path (kept.versions w.base q.stands.base))
event_kept meta s (Tidy k) begun could spelled kept =
    subst (λ (m : Option Meta). Orderly meta (with_changed (by_meta m tidied) k s)) (sym begun)
    (changed_kept meta s (tidied meta) k kept (λ w at q. tidied_in_order meta s kept w (found s k (λ o. can_tidy meta o ≡ true) could w at) q))
event_kept meta s (Commit k message) begun could spelled kept = commit_by meta s k None message (workspace_of s k) refl could kept
event_kept meta s (Branch k name) begun could spelled kept =
    let named = and_left (is_name name && is_new_branch s.history name) (is_closed (workspace_of s k)) could in
    branch_by meta s k name (workspace_of s k) (and_left (is_name name) (is_new_branch s.history name) named)
    (and_right (is_name name) (is_new_branch s.history name) named) refl
    (and_right (is_name name && is_new_branch s.history name) (is_closed (workspace_of s k)) could) kept
event_kept meta s (Tag name version) begun could spelled kept =
    let named = and_left (is_name name && not (has_tag s.history name)) (nat_lt version (length s.history.versions)) could in
    tag_kept meta s kept name version (and_left (is_name name) (not (has_tag s.history name)) named)
    (not_so (has_tag s.history name) (and_right (is_name name) (not (has_tag s.history name)) named))
    (ltb-true version (length s.history.versions) (and_right (is_name name && not (has_tag s.history name)) (nat_lt version (length s.history.versions)) could))
event_kept meta s (Update k letters) begun could spelled kept =
    subst (λ (m : Option Meta). Orderly meta (with_changed (by_meta m (λ n. updated n s.history letters)) k s)) (sym begun)
    (changed_kept meta s (updated meta s.history letters) k kept
    (λ w at q. updated_in_order meta s kept letters w (found s k (λ o. can_update meta s.history letters o ≡ true) could w at) q))
event_kept meta s (Merge k branch letters) begun could spelled kept =
    subst (λ (m : Option Meta). Orderly meta (with_changed (by_meta m (λ n. merged_with n s.history (head s.history branch) letters)) k s)) (sym begun)
    (changed_kept meta s (merged_with meta s.history (head s.history branch) letters) k kept
    (λ w at q. merged_in_order meta s kept branch letters w (found s k (λ o. can_merge meta s.history branch letters o ≡ true) could w at) q))
event_kept meta s (Drop k) begun could spelled kept =
    with_workspaces meta s (changed_by_number (λ o. None) s.workspaces k) kept
    (number_dropped (IsOrderlyWorkspace meta s.history) s.workspaces k kept.workspaces)
event_kept meta s (Evolve text) begun could spelled kept =
    subst (λ (m : Option Meta). Orderly (grown text meta) (record s { meta = option_map (grown text) m })) (sym begun)
    (order_stays meta (grown text meta) (grown_is meta text kept.metamodel could) s kept)
event_kept meta s Upgrade begun could spelled kept =
    record { metamodel = kept.metamodel; whole = kept.whole; heads = kept.heads; names = kept.names; versions = kept.versions; workspaces = kept.workspaces }
event_kept meta s (Signed k author moment message) begun could spelled kept =
    commit_by meta s k (Some (record { author = author; moment = moment })) message (workspace_of s k) refl
    (and_right (is_name author) (can_commit s.history (workspace_of s k)) could) kept

-- which metamodel a change leaves, but for the first
change_leaves_meta : (s : State) (meta : Meta) (c : Change) → s.meta ≡ Some meta → first_text c ≡ None → (applied c s).meta ≡ Some (meta_with c meta)
change_leaves_meta s meta (Begins text) begun later = absurd cc
change_leaves_meta s meta (Extends text) begun later = ap (option_map (grown text)) begun
change_leaves_meta s meta Upgrades begun later = begun
change_leaves_meta s meta (Opens version branch) begun later = begun
change_leaves_meta s meta (Drops ws) begun later = begun
change_leaves_meta s meta (Within ws change) begun later = begun
change_leaves_meta s meta (Makes ws signature message) begun later = by (workspace_of s ws)
  where
    by : (o : Option Workspace) → (with_commit ws signature message o s).meta ≡ Some meta
    by None = begun
    by (Some w) = begun
change_leaves_meta s meta (Branches ws name) begun later = by (workspace_of s ws)
  where
    by : (o : Option Workspace) → (with_new_branch ws name o s).meta ≡ Some meta
    by None = begun
    by (Some w) = begun
change_leaves_meta s meta (Tags name version) begun later = begun

-- which metamodel an event leaves
pub meta_left : (s : State) (meta : Meta) (e : Event) → s.meta ≡ Some meta → IsTrue (playable_with s (Some meta) e)
    → (effect s e).meta ≡ Some (meta_after meta e)
meta_left s meta e begun could = change_leaves_meta s meta (change_of e) begun (is_later s meta e could)

-- what could be made keeps all in order, with the metamodel that is there then
pub effect_keeps : (s : State) (m : Option Meta) (e : Event) → s.meta ≡ m → IsTrue (playable_with s m e) → IsEvent e → AllOrderly m s
    → AllOrderly (effect s e).meta (effect s e)
effect_keeps s None e is could spelled all =
    let first = is_first (change_of e) could in
    subst (λ (c : Change). AllOrderly (applied c s).meta (applied c s)) (sym first.is)
    (init_kept s first.text (metamodel_of first.text) refl first.reads all.0)
effect_keeps s (Some meta) e is could spelled all =
    subst (λ (m : Option Meta). AllOrderly m (effect s e)) (sym (meta_left s meta e is could)) (event_kept meta s e is could spelled all)

-- the numbers that every event raises are no part of it
numbers_kept : (m : Option Meta) (s : State) (events end : ℕ) → AllOrderly m s → AllOrderly m (record s { events = events; end = end })
numbers_kept None s events end all = all
numbers_kept (Some meta) s events end all =
    record { metamodel = all.metamodel; whole = all.whole; heads = all.heads; names = all.names; versions = all.versions; workspaces = all.workspaces }

-- an event that could be made keeps all in order
pub play_keeps : (s : State) (e : Event) → IsTrue (playable s e) → IsOrderly s → IsOrderly (play s e)
unfolding play playable
play_keeps s e could all =
    numbers_kept (effect s e).meta (effect s e) _ _
    (effect_keeps s s.meta e refl (and_right _ (playable_with s s.meta e) could) (playable_is_event s e could) all)

pub played_keeps : (s : State) (events : List Event) → IsTrue (are_playable s events) → IsOrderly s → IsOrderly (played play s events)
played_keeps s [] could all = all
played_keeps s (e ∷ events) could all =
    played_keeps (play s e) events (and_right (playable s e) (are_playable (play s e) events) could)
    (play_keeps s e (and_left (playable s e) (are_playable (play s e) events) could) all)

-- all is in order in the empty repository
pub empty_kept : IsOrderly empty
empty_kept = (refl, refl, refl)
