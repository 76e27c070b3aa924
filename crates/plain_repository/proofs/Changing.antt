-- Each event that could be made changes something beside the numbers that every event raises.
use Rattle.std.proofs.Common.{◌≡◌, refl, ◌∙◌, sym, ap, subst, ℕ, zero, suc, ◌+◌, ◌-◌, ◌<◌, ◌==◌, ◌&&◌, ◌||◌, not, nat_lt, List, [], ◌∷◌, ◌++◌, length}
use Rattle.std.proofs.Common.{length-append, Bool, true, false, Option, None, Some, ltb-true, arith}
use Rattle.std.proofs.lemmas.List.{length-take-le}
use Rattle.std.proofs.lemmas.Option.{same_Some}
use Rattle.std.specs.Prelude.{IsTrue, take, is_some, is_ok, slice_get, option_map, Result, Ok, Err}
use Rattle.ecore_meta.specs.Meta.{Meta}
use Rattle.ecore_json.specs.declared.fault.EcoreFault.{EcoreFault}
use Rattle.ecore_json.specs.Metamodel.{metamodel_of}
use Rattle.model_state.specs.declared.operation.Operation.{Operation}
use Rattle.model_state.specs.declared.operation.Operation.TheVariants.{Simple, Composite}
use Rattle.model_state.specs.Packages.{steps_all, steps_of}
use Rattle.history_tree.specs.History.{head}
use Rattle.merge_laws.specs.Tidy.{is_tidy}
use Rattle.merge_laws.proofs.Equal.{tidy_test_is_exact}
use Rattle.op_form.specs.declared.event.Event.{Event}
use Rattle.op_form.specs.declared.event.Event.TheVariants.{Init, Checkout, Edit, Begin, End, Undo, Discard, Tidy, Commit, Branch, Tag, Update, Merge}
use Rattle.op_form.specs.declared.event.Event.TheVariants.{Drop, Evolve, Upgrade, Signed}
use Rattle.op_form.specs.Formed.{is_event, is_package, is_operation}
use Rattle.plain_repository.specs.State.{State, Workspace, Composite as Open, untouched, there, workspace_of, open_steps, with_changed, changed_at}
use Rattle.plain_repository.specs.State.{changed_by_number, is_closed, is_open}
use Rattle.plain_repository.specs.Metamodels.{meta_of_read, can_evolve, grown, with_grown}
use Rattle.plain_repository.specs.Checkouts.{with_drop}
use Rattle.history_tree.specs.declared.version.Signature.{Signature}
use Rattle.plain_repository.specs.Commits.{version_of, with_commit, with_new_branch, can_commit}
use Rattle.plain_repository.specs.Edits.{added, with_more, can_follow}
use Rattle.plain_repository.specs.Composites.{with_open, with_closed}
use Rattle.plain_repository.specs.Local.{without_last, can_undo, without_any, can_discard}
use Rattle.plain_repository.specs.Tidying.{tidied, can_tidy}
use Rattle.plain_repository.specs.Merging.{updated, can_update, merged_with, can_merge}
use Rattle.plain_repository.specs.Changes.{Change, applied}
use Rattle.plain_repository.specs.Events.{by_meta, change_of, effect, playable, playable_with, suits}
use Rattle.plain_repository.specs.Laws.{EventsChange}
use Rattle.finite_maps.proofs.EqualLaws.{nat_equality}
use Rattle.plain_repository.proofs.Encodings.{and_left, and_right, fitting, suiting}
use Rattle.plain_repository.proofs.Evolving.{grown_other}
use Rattle.plain_repository.proofs.Merging.{changed_is}
use Rattle.plain_repository.proofs.Places.{of_number, is_of_number}
use Rattle.plain_repository.proofs.Shapes.{is_first}

-- ---- lists
-- a list with something after it is another
not_longer : {X : Type 0} (xs ys : List X) → 0 < length ys → xs ++ ys ≡ xs → ⊥
not_longer xs ys more same =
    let count : length xs + length ys ≡ length xs = sym (length-append xs ys) ∙ ap length same in
    absurd (omega (arith, more, count))

-- so is one without its last
not_shorter : {X : Type 0} (xs : List X) → 0 < length xs → take (length xs - 1) xs ≡ xs → ⊥
not_shorter xs some same =
    let count : length xs - 1 ≡ length xs = sym (length-take-le (length xs - 1) xs (omega arith)) ∙ ap length same in
    absurd (omega (arith, some, count))

some_number : (n : ℕ) → IsTrue (nat_lt 0 n) → 0 < n
some_number n is = ltb-true 0 n is

-- ---- a workspace that is changed
-- where the whole stays, the workspace does
unchanged : (s : State) (k : ℕ) (change : Workspace → Workspace) (w : Workspace) → workspace_of s k ≡ Some w → with_changed change k s ≡ s → change w ≡ w
unchanged s k change w is same = changed_is s k change w w is (ap (λ (x : State). of_number x.workspaces k) same ∙ sym (is_of_number s k) ∙ is)

-- the test of an operation: it has steps
has_steps : (o : Operation) → IsTrue (is_operation o) → 0 < length (steps_of o)
unfolding is_operation
has_steps (Simple kind (step ∷ steps)) is = omega arith
has_steps (Simple kind []) is = absurd cc
has_steps (Composite name (step ∷ steps)) is = omega arith
has_steps (Composite name []) is = absurd (none _ is)
  where
    none : (b : Bool) → IsTrue (b && false) → ⊥
    none true is = cc
    none false is = cc

-- operations that are recorded make the list longer, or that of the open composite's steps
more_recorded : (more : List Operation) (o : Option Open) (w : Workspace) → w.composite ≡ o → 0 < length more → 0 < length (steps_all more)
    → added more o w ≡ w → ⊥
more_recorded more None w is some steps same = not_longer w.operations more some (ap (λ (x : Workspace). x.operations) same)
more_recorded more (Some c) w is some steps same =
    not_longer c.steps (steps_all more) steps (ap (λ (o : Option Open). open_steps o) (ap (λ (x : Workspace). x.composite) same ∙ is))

first_has_steps : (p : Operation) (more : List Operation) → IsTrue (is_package (p ∷ more)) → 0 < length (steps_of p)
unfolding is_package
first_has_steps p more formed = has_steps p (and_left (is_operation p) _ (and_right _ _ formed))

some_steps : (p : Operation) (more : List Operation) → 0 < length (steps_of p) → 0 < length (steps_all (p ∷ more))
some_steps p more some =
    let count : length (steps_of p ++ steps_all more) ≡ length (steps_of p) + length (steps_all more) = length-append (steps_of p) (steps_all more) in
    omega (arith, some, count)

edit_changes : (s : State) (meta : Meta) (k : ℕ) (more : List Operation) (o : Option Workspace) → workspace_of s k ≡ o
    → IsTrue (can_follow meta s.history o more) → IsTrue (is_package more) → with_changed (with_more more) k s ≡ s → ⊥
edit_changes s meta k more None is could formed same = absurd cc
edit_changes s meta k [] (Some w) is could formed same = absurd cc
edit_changes s meta k (p ∷ more) (Some w) is could formed same =
    more_recorded (p ∷ more) w.composite w refl (omega arith) (some_steps p more (first_has_steps p more formed))
    (unchanged s k (with_more (p ∷ more)) w is same)

opened : (o : Option Open) (c : Open) → IsTrue (not (is_some o)) → Some c ≡ o → ⊥
opened (Some d) c is same = cc
opened None c is same = cc

closed : (o : Option Open) → IsTrue (is_some o) → None ≡ o → ⊥
closed None is same = cc
closed (Some c) is same = cc

emptied : (c : Option Open) (operations : List Operation) (pending : List ℕ) → IsTrue (is_some c || (nat_lt 0 (length operations) || nat_lt 0 (length pending)))
    → None ≡ c → [] ≡ operations → [] ≡ pending → ⊥
emptied (Some c) operations pending could no_composite no_operations no_pending = cc
emptied None (o ∷ operations) pending could no_composite no_operations no_pending = cc
emptied None [] (v ∷ pending) could no_composite no_operations no_pending = cc
emptied None [] [] could no_composite no_operations no_pending = cc

not_both : (b : Bool) → IsTrue (not b) → b ≡ true → ⊥
not_both true is same = cc
not_both false is same = cc

module _ (s : State) (meta : Meta) (begun : s.meta ≡ Some meta) (k : ℕ) where
  begin_changes : (name : List ℕ) (o : Option Workspace) → workspace_of s k ≡ o → IsTrue (is_closed o) → with_changed (with_open name) k s ≡ s → ⊥
  begin_changes name None is could same = absurd cc
  begin_changes name (Some w) is could same =
      opened w.composite (record { name = name; steps = [] }) could (ap (λ (x : Workspace). x.composite) (unchanged s k (with_open name) w is same))

  end_changes : (o : Option Workspace) → workspace_of s k ≡ o → IsTrue (is_open o) → with_changed with_closed k s ≡ s → ⊥
  end_changes None is could same = absurd cc
  end_changes (Some w) is could same = closed w.composite could (ap (λ (x : Workspace). x.composite) (unchanged s k with_closed w is same))

  undo_changes : (o : Option Workspace) → workspace_of s k ≡ o → IsTrue (can_undo o) → with_changed without_last k s ≡ s → ⊥
  undo_changes None is could same = absurd cc
  undo_changes (Some w) is could same =
      not_shorter w.operations (some_number (length w.operations) (and_right _ _ could))
      (ap (λ (x : Workspace). x.operations) (unchanged s k without_last w is same))

  discard_changes : (o : Option Workspace) → workspace_of s k ≡ o → IsTrue (can_discard o) → with_changed without_any k s ≡ s → ⊥
  discard_changes None is could same = absurd cc
  discard_changes (Some w) is could same =
      let still : without_any w ≡ w = unchanged s k without_any w is same in
      emptied w.composite w.operations w.pending could (ap (λ (x : Workspace). x.composite) still) (ap (λ (x : Workspace). x.operations) still)
      (ap (λ (x : Workspace). x.pending) still)

  tidy_changes : (o : Option Workspace) → workspace_of s k ≡ o → IsTrue (can_tidy meta o) → with_changed (by_meta s.meta tidied) k s ≡ s → ⊥
  tidy_changes None is could same = absurd cc
  tidy_changes (Some w) is could same =
      let still : tidied meta w ≡ w = subst (λ (m : Option Meta). by_meta m tidied w ≡ w) begun (unchanged s k (by_meta s.meta tidied) w is same) in
      not_both (is_tidy meta w.operations) (and_right _ _ could) ((tidy_test_is_exact meta w.operations).1 (ap (λ (x : Workspace). x.operations) still))

  commit_changes : (signature : Option Signature) (message : List ℕ) (o : Option Workspace) → IsTrue (can_commit s.history o)
      → with_commit k signature message o s ≡ s → ⊥
  commit_changes signature message None could same = absurd cc
  commit_changes signature message (Some w) could same =
      not_longer s.history.versions (version_of w signature message ∷ []) (omega arith) (ap (λ (x : State). x.history.versions) same)

  branch_changes : (name : List ℕ) (o : Option Workspace) → IsTrue (is_closed o) → with_new_branch k name o s ≡ s → ⊥
  branch_changes name None could same = absurd cc
  branch_changes name (Some w) could same =
      not_longer s.history.branches (record { name = name; start = w.base } ∷ []) (omega arith) (ap (λ (x : State). x.history.branches) same)

  update_changes : (letters : List ℕ) (o : Option Workspace) → workspace_of s k ≡ o → IsTrue (can_update meta s.history letters o)
      → with_changed (by_meta s.meta (λ m. updated m s.history letters)) k s ≡ s → ⊥
  update_changes letters None is could same = absurd cc
  update_changes letters (Some w) is could same =
      let still : updated meta s.history letters w ≡ w =
      subst (λ (m : Option Meta). by_meta m (λ n. updated n s.history letters) w ≡ w) begun
      (unchanged s k (by_meta s.meta (λ m. updated m s.history letters)) w is same) in
      let head_is : head s.history w.branch ≡ w.base = ap (λ (x : Workspace). x.base) still in
      not_both (w.base == head s.history w.branch) (and_right _ _ (and_left _ _ could)) (ap (λ h. w.base == h) head_is ∙ nat_equality.own w.base)

  merge_changes : (branch : ℕ) (letters : List ℕ) (o : Option Workspace) → workspace_of s k ≡ o → IsTrue (can_merge meta s.history branch letters o)
      → with_changed (by_meta s.meta (λ m. merged_with m s.history (head s.history branch) letters)) k s ≡ s → ⊥
  merge_changes branch letters None is could same = absurd cc
  merge_changes branch letters (Some w) is could same =
      let still : merged_with meta s.history (head s.history branch) letters w ≡ w =
      subst (λ (m : Option Meta). by_meta m (λ n. merged_with n s.history (head s.history branch) letters) w ≡ w) begun
      (unchanged s k (by_meta s.meta (λ m. merged_with m s.history (head s.history branch) letters)) w is same) in
      not_longer w.pending (head s.history branch ∷ []) (omega arith) (ap (λ (x : Workspace). x.pending) still)

-- ---- Drop
gone_at : (ws : List (Option Workspace)) (n : ℕ) → there (slice_get (changed_at (λ o. None) ws n) n) ≡ None
gone_at [] n = refl
gone_at (o ∷ ws) zero = refl
gone_at (o ∷ ws) (suc n) = gone_at ws n

gone : (ws : List (Option Workspace)) (k : ℕ) → of_number (changed_by_number (λ o. None) ws k) k ≡ None
gone ws zero = refl
gone ws (suc n) = gone_at ws n

drop_changes : (s : State) (k : ℕ) (o : Option Workspace) → workspace_of s k ≡ o → IsTrue (is_some o) → with_drop k s ≡ s → ⊥
drop_changes s k None is could same = absurd cc
drop_changes s k (Some w) is could same =
    absurd (none_some (sym (gone s.workspaces k) ∙ ap (λ (x : State). of_number x.workspaces k) same ∙ sym (is_of_number s k) ∙ is))
  where
    none_some : ◌≡◌ {A = Option Workspace} None (Some w) → ⊥
    none_some h = cc

-- ---- each event
init_changes : (read : Result Meta EcoreFault) → IsTrue (is_ok read) → meta_of_read read ≡ None → ⊥
init_changes (Ok meta) could same = cc
init_changes (Err fault) could same = absurd cc

evolve_changes : (s : State) (meta : Meta) (text : List ℕ) → s.meta ≡ Some meta → IsTrue (can_evolve meta text) → with_grown text s ≡ s → ⊥
evolve_changes s meta text is could same =
    let still : Some (grown text meta) ≡ Some meta = ap (option_map (grown text)) (sym is) ∙ ap (λ (x : State). x.meta) same ∙ is in
    grown_other meta text could (same_Some (grown text meta) meta still)

effect_changes : (s : State) (m : Option Meta) (e : Event) → s.meta ≡ m → IsTrue (is_event e) → IsTrue (suits s.upgraded e)
    → IsTrue (playable_with s m e) → effect s e ≡ s → ⊥
unfolding is_event
effect_changes s None e is formed suited could same =
    let first = is_first (change_of e) could in
    let begun : meta_of_read (metamodel_of first.text) ≡ None =
    ap (λ (c : Change). (applied c s).meta) (sym first.is) ∙ ap (λ (x : State). x.meta) same ∙ is in
    init_changes (metamodel_of first.text) first.reads begun
effect_changes s (Some meta) (Init text) is formed suited could same = absurd cc
effect_changes s (Some meta) (Checkout version branch) is formed suited could same =
    not_longer s.workspaces (Some (untouched branch version) ∷ []) (omega arith) (ap (λ (x : State). x.workspaces) same)
effect_changes s (Some meta) (Edit k operations) is formed suited could same =
    edit_changes s meta k operations (workspace_of s k) refl could (and_right _ _ formed) same
effect_changes s (Some meta) (Begin k name) is formed suited could same = begin_changes s meta is k name (workspace_of s k) refl (and_right _ _ could) same
effect_changes s (Some meta) (End k) is formed suited could same = end_changes s meta is k (workspace_of s k) refl could same
effect_changes s (Some meta) (Undo k) is formed suited could same = undo_changes s meta is k (workspace_of s k) refl could same
effect_changes s (Some meta) (Discard k) is formed suited could same = discard_changes s meta is k (workspace_of s k) refl could same
effect_changes s (Some meta) (Tidy k) is formed suited could same = tidy_changes s meta is k (workspace_of s k) refl could same
effect_changes s (Some meta) (Commit k message) is formed suited could same = commit_changes s meta is k None message (workspace_of s k) could same
effect_changes s (Some meta) (Branch k name) is formed suited could same = branch_changes s meta is k name (workspace_of s k) (and_right _ _ could) same
effect_changes s (Some meta) (Tag name version) is formed suited could same =
    not_longer s.history.tags (record { name = name; version = version } ∷ []) (omega arith) (ap (λ (x : State). x.history.tags) same)
effect_changes s (Some meta) (Update k letters) is formed suited could same = update_changes s meta is k letters (workspace_of s k) refl could same
effect_changes s (Some meta) (Merge k branch letters) is formed suited could same = merge_changes s meta is k branch letters (workspace_of s k) refl could same
effect_changes s (Some meta) (Drop k) is formed suited could same = drop_changes s k (workspace_of s k) refl could same
effect_changes s (Some meta) (Evolve text) is formed suited could same = evolve_changes s meta text is could same
effect_changes s (Some meta) Upgrade is formed suited could same = not_both s.upgraded suited (sym (ap (λ (x : State). x.upgraded) same))
effect_changes s (Some meta) (Signed k author moment message) is formed suited could same =
    commit_changes s meta is k (Some (record { author = author; moment = moment })) message (workspace_of s k) (and_right _ _ could) same

pub events_change : EventsChange
unfolding playable
events_change s e could =
    effect_changes s s.meta e refl (and_left _ _ (fitting s e could)) (suiting s e could) (and_right _ _ could)
