-- No version is pending twice in a workspace, and none is listed as merged twice by a version.
use Rattle.std.proofs.Common.{◌≡◌, inl, inr, ℕ, zero, suc, ◌&&◌, nat_eq, nat_lt, Bool, true, false, List, [], ◌∷◌, ◌++◌, length, Option, None}
use Rattle.std.proofs.Common.{Some, refl, sym, ◌∙◌, ap, subst}
use Rattle.std.specs.Prelude.{IsTrue, slice_get, option_map}
use Rattle.std.specs.List.{AllByRecursion}
use Rattle.std.proofs.lemmas.Bool.{or_left, or_right}
use Rattle.finite_maps.proofs.Cases.{not_so}
use Rattle.command_runs.specs.Runs.{played}
use Rattle.ecore_meta.specs.Meta.{Meta}
use Rattle.model_state.specs.declared.operation.Operation.{Operation}
use Rattle.history_tree.specs.declared.version.Signature.{Signature}
use Rattle.history_tree.specs.declared.version.Version.{Version}
use Rattle.history_tree.specs.History.{History, first_history, head}
use Rattle.history_tree.specs.MergeBase.{is_among}
use Rattle.history_tree.proofs.Heads.{head_within, same_number}
use Rattle.merge_laws.specs.Choices.{are_choices}
use Rattle.op_form.specs.declared.event.Event.{Event}
use Rattle.op_form.specs.declared.event.Event.TheVariants.{Init, Checkout, Edit, Begin, End, Undo, Discard, Tidy, Commit, Branch, Tag, Update, Merge}
use Rattle.op_form.specs.declared.event.Event.TheVariants.{Drop, Evolve, Upgrade, Signed}
use Rattle.plain_repository.specs.State.{State, Workspace, Composite as Open, empty, untouched, workspace_of, changed_by_number, is_closed}
use Rattle.plain_repository.specs.Commits.{version_of, committed, with_commit, moved_onto, with_new_branch}
use Rattle.plain_repository.specs.Edits.{added, with_more}
use Rattle.plain_repository.specs.Composites.{with_open, with_closed}
use Rattle.plain_repository.specs.Local.{without_last, without_any}
use Rattle.plain_repository.specs.Tidying.{tidied}
use Rattle.plain_repository.specs.Merging.{merge_theirs, merge_buckets, updated, merged_with, is_other_branch, has_theirs, can_merge}
use Rattle.plain_repository.specs.Events.{by_meta, effect, play, playable, playable_with, are_playable}
use Rattle.plain_repository.specs.Orderly.{IfThere, IsOrderlyWorkspace, Orderly, AllOrderly, IsOrderly}
use Rattle.plain_repository.specs.Standing.{EachOnce, MergesAreOnce}
use Rattle.plain_repository.proofs.Encodings.{and_left, and_right}
use Rattle.plain_repository.proofs.Kept.{play_keeps, empty_kept}
use Rattle.plain_repository.proofs.Merging.{pending_settled}
use Rattle.plain_repository.proofs.Names.{split_last}
use Rattle.plain_repository.proofs.Places.{both, at_number, number_changed, number_dropped}

-- ---- lists
none_once : EachOnce []
none_once i k v first second = absurd cc

among_at : (vs : List ℕ) (i v : ℕ) → slice_get vs i ≡ Some v → is_among vs v ≡ true
among_at [] i v at = absurd cc
among_at (u ∷ vs) zero v at =
    let same : v ≡ u = cc in or_left (nat_eq v u) (is_among vs v) (subst (λ x. nat_eq v x ≡ true) same (same_number v))
among_at (u ∷ vs) (suc i) v at = or_right (nat_eq v u) (is_among vs v) (among_at vs i v at)

not_both : (b : Bool) → b ≡ true → b ≡ false → ⊥
not_both b first second = cc

one_more : (vs : List ℕ) (other : ℕ) → EachOnce vs → is_among vs other ≡ false → EachOnce (vs ++ other ∷ [])
one_more vs other once new i k v first second =
    elim (split_last vs other i v first) [
      | inl old ↦ elim (split_last vs other k v second) [
        | inl older ↦ once i k v old older
        | inr last ↦ absurd (not_both (is_among vs other) (subst (λ x. is_among vs x ≡ true) (sym last.1) (among_at vs i v old)) new)
      ]
      | inr last ↦ elim (split_last vs other k v second) [
        | inl old ↦ absurd (not_both (is_among vs other) (subst (λ x. is_among vs x ≡ true) (sym last.1) (among_at vs k v old)) new)
        | inr lasts ↦ last.0 ∙ sym lasts.0
      ]
    ]

-- ---- workspaces
abbrev Once : Workspace → Type 0
Once w = EachOnce w.pending

more_once : (more : List Operation) (w : Workspace) (o : Option Open) → Once w → Once (added more o w)
more_once more w None once = once
more_once more w (Some c) once = once

tidied_once : (m : Option Meta) (w : Workspace) → Once w → Once (by_meta m tidied w)
tidied_once None w once = once
tidied_once (Some meta) w once = once

updated_once : (h : History) (letters : List ℕ) (m : Option Meta) (w : Workspace) → Once w → Once (by_meta m (λ n. updated n h letters) w)
updated_once h letters None w once = once
updated_once h letters (Some meta) w once = once

-- what is merged is not pending yet, since there is something to merge
merged_new : (meta : Meta) (s : State) → Orderly meta s → (branch : ℕ) (letters : List ℕ) (w : Workspace) → IsOrderlyWorkspace meta s.history w
    → can_merge meta s.history branch letters (Some w) ≡ true → is_among w.pending (head s.history branch) ≡ false
merged_new meta s orderly branch letters w r can =
    let h : History = s.history in
    let other : ℕ = head h branch in
    let front : Bool = is_closed (Some w) && is_other_branch h w branch in
    let some : has_theirs h w other ≡ true =
    and_right front (has_theirs h w other) (and_left (front && has_theirs h w other) (are_choices letters (merge_buckets meta h w other)) can) in
    not_so (is_among w.pending other) (λ among.
    let none : merge_theirs h w other ≡ [] =
    pending_settled h orderly.whole w.base w.pending other r.stands.base (head_within h branch orderly.whole) among in
    not_both (has_theirs h w other) some (ap (λ (os : List Operation). nat_lt 0 (length os)) none))

-- ---- states
record IsOnce (s : State) : Type 0 where
  workspaces : AllByRecursion (IfThere Once) s.workspaces
  versions : (v : ℕ) (version : Version) → slice_get s.history.versions v ≡ Some version → EachOnce version.merged

module _ (s : State) (once : IsOnce s) where
  -- a workspace is changed
  changed : (change : Workspace → Workspace) (k : ℕ) → ((w : Workspace) → workspace_of s k ≡ Some w → Once w → Once (change w))
      → IsOnce (record s { workspaces = changed_by_number (option_map change) s.workspaces k })
  changed change k keeps = record { workspaces = number_changed Once Once (λ w is. is) change s k keeps once.workspaces; versions = once.versions }

  by_commit : (k : ℕ) (signature : Option Signature) (message : List ℕ) (o : Option Workspace) → workspace_of s k ≡ o
      → IsOnce (with_commit k signature message o s)
  by_commit k signature message None there = once
  by_commit k signature message (Some w) there = record {
    workspaces = number_changed Once Once (λ w is. is) (committed (length s.history.versions)) s k (λ w there is. none_once) once.workspaces;
    versions = λ v version at. elim (split_last s.history.versions (version_of w signature message) v version at) [
      | inl old ↦ once.versions v version old
      | inr last ↦ subst (λ (x : Version). EachOnce x.merged) last.1 (at_number Once s k w there once.workspaces)
    ];
  }

  by_branch : (k : ℕ) (name : List ℕ) (o : Option Workspace) → IsOnce (with_new_branch k name o s)
  by_branch k name None = once
  by_branch k name (Some w) = record {
    workspaces = number_changed Once Once (λ w is. is) (moved_onto (length s.history.branches)) s k (λ w there is. is) once.workspaces;
    versions = once.versions;
  }

  kept_once : (meta : Meta) (e : Event) → s.meta ≡ Some meta → Orderly meta s → IsTrue (playable_with s (Some meta) e) → IsOnce (effect s e)
  kept_once meta (Init text) begun orderly could = absurd cc
  kept_once meta (Checkout version branch) begun orderly could = record {
    workspaces = both (IfThere Once) s.workspaces (Some (untouched branch version) ∷ []) once.workspaces (none_once, tt);
    versions = once.versions;
  }
  kept_once meta (Edit k operations) begun orderly could = changed (with_more operations) k (λ w there is. more_once operations w w.composite is)
  kept_once meta (Begin k name) begun orderly could = changed (with_open name) k (λ w there is. is)
  kept_once meta (End k) begun orderly could = changed with_closed k (λ w there is. is)
  kept_once meta (Undo k) begun orderly could = changed without_last k (λ w there is. is)
  kept_once meta (Discard k) begun orderly could = changed without_any k (λ w there is. none_once)
  kept_once meta (Tidy k) begun orderly could = changed (by_meta s.meta tidied) k (λ w there is. tidied_once s.meta w is)
  kept_once meta (Commit k message) begun orderly could = by_commit k None message (workspace_of s k) refl
  kept_once meta (Branch k name) begun orderly could = by_branch k name (workspace_of s k)
  kept_once meta (Tag name version) begun orderly could = record { workspaces = once.workspaces; versions = once.versions }
  kept_once meta (Update k letters) begun orderly could =
      changed (by_meta s.meta (λ n. updated n s.history letters)) k (λ w there is. updated_once s.history letters s.meta w is)
  kept_once meta (Merge k branch letters) begun orderly could =
      changed (by_meta s.meta (λ n. merged_with n s.history (head s.history branch) letters)) k (λ w there is.
      subst (λ (m : Option Meta). Once (by_meta m (λ n. merged_with n s.history (head s.history branch) letters) w)) (sym begun)
      (one_more w.pending (head s.history branch) is
      (merged_new meta s orderly branch letters w (at_number (IsOrderlyWorkspace meta s.history) s k w there orderly.workspaces)
      (subst (λ (o : Option Workspace). can_merge meta s.history branch letters o ≡ true) there could))))
  kept_once meta (Drop k) begun orderly could =
      record { workspaces = number_dropped Once s.workspaces k once.workspaces; versions = once.versions }
  kept_once meta (Evolve text) begun orderly could = record { workspaces = once.workspaces; versions = once.versions }
  kept_once meta Upgrade begun orderly could = record { workspaces = once.workspaces; versions = once.versions }
  kept_once meta (Signed k author moment message) begun orderly could =
      by_commit k (Some (record { author = author; moment = moment })) message (workspace_of s k) refl

first_once : (v : ℕ) (version : Version) → slice_get first_history.versions v ≡ Some version → EachOnce version.merged
first_once zero version at = subst (λ (x : Version). EachOnce x.merged) (same_version _ version at) none_once
  where
    same_version : (x y : Version) → Some x ≡ Some y → x ≡ y
    same_version x y is = cc
first_once (suc v) version at = absurd cc

-- before there is a metamodel, Init alone could be made
begin_once : (s : State) (e : Event) → IsTrue (playable_with s None e) → IsOnce s → IsOnce (effect s e)
begin_once s (Init text) could once = record { workspaces = once.workspaces; versions = first_once }
begin_once s (Checkout version branch) could once = absurd cc
begin_once s (Edit k operations) could once = absurd cc
begin_once s (Begin k name) could once = absurd cc
begin_once s (End k) could once = absurd cc
begin_once s (Undo k) could once = absurd cc
begin_once s (Discard k) could once = absurd cc
begin_once s (Tidy k) could once = absurd cc
begin_once s (Commit k message) could once = absurd cc
begin_once s (Branch k name) could once = absurd cc
begin_once s (Tag name version) could once = absurd cc
begin_once s (Update k letters) could once = absurd cc
begin_once s (Merge k branch letters) could once = absurd cc
begin_once s (Drop k) could once = absurd cc
begin_once s (Evolve text) could once = absurd cc
begin_once s Upgrade could once = absurd cc
begin_once s (Signed k author moment message) could once = absurd cc

effect_once : (s : State) (m : Option Meta) (e : Event) → s.meta ≡ m → AllOrderly m s → IsTrue (playable_with s m e) → IsOnce s → IsOnce (effect s e)
effect_once s None e is orderly could once = begin_once s e could once
effect_once s (Some meta) e is orderly could once = kept_once s once meta e is orderly could

play_once : (s : State) (e : Event) → IsOrderly s → IsTrue (playable s e) → IsOnce s → IsOnce (play s e)
unfolding play playable
play_once s e orderly could once =
    let after = effect_once s s.meta e refl orderly (and_right _ (playable_with s s.meta e) could) once in
    record { workspaces = after.workspaces; versions = after.versions }

played_once : (s : State) (events : List Event) → IsTrue (are_playable s events) → IsOrderly s → IsOnce s → IsOnce (played play s events)
played_once s [] could orderly once = once
played_once s (e ∷ events) could orderly once =
    let first = and_left (playable s e) (are_playable (play s e) events) could in
    played_once (play s e) events (and_right (playable s e) (are_playable (play s e) events) could) (play_keeps s e first orderly)
    (play_once s e orderly first once)

empty_once : IsOnce empty
empty_once = record { workspaces = tt; versions = λ v version at. absurd cc }

pub merges_are_once : MergesAreOnce
merges_are_once s r =
    let once = subst IsOnce r.reached (played_once empty r.events r.could empty_kept empty_once) in
    record { workspaces = λ ws w there. at_number Once s ws w there once.workspaces; versions = once.versions }
