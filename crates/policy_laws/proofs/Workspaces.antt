-- An event of a workspace leaves all others, and the workspace stays on its branch, or comes onto a new one.
use Rattle.std.proofs.Common.{◌≡◌, ◌≢◌, ◌⊎◌, inl, inr, ℕ, zero, suc, nat_eq, List, [], ◌∷◌, ◌++◌, length, true, false, Option, None, Some, refl, sym, ◌∙◌, ap}
use Rattle.std.proofs.Common.{subst}
use Rattle.std.proofs.Common.{arith, true≢false}
use Rattle.std.specs.Prelude.{slice_get, option_map}
use Rattle.std.proofs.lemmas.Bool.{eqb-true}
use Rattle.std.proofs.lemmas.Option.{none-some, same_Some}
use Rattle.ecore_meta.specs.Meta.{Meta}
use Rattle.history_tree.specs.declared.version.Signature.{Signature}
use Rattle.history_tree.specs.History.{head}
use Rattle.history_tree.proofs.Heads as heads
use Rattle.model_state.specs.declared.operation.Operation.{Operation}
use Rattle.op_form.specs.declared.event.Event.{Event}
use Rattle.op_form.specs.declared.event.Event.TheVariants.{Init, Checkout, Edit, Begin, End, Undo, Discard, Tidy, Commit, Branch, Tag, Update, Merge}
use Rattle.op_form.specs.declared.event.Event.TheVariants.{Drop, Evolve, Upgrade, Signed}
use Rattle.plain_repository.specs.State.{State, Workspace, Composite, untouched, there, workspace_of, changed_at, changed_by_number}
use Rattle.plain_repository.specs.Commits.{committed, with_commit, moved_onto, with_new_branch}
use Rattle.plain_repository.specs.Composites.{with_open, with_closed}
use Rattle.plain_repository.specs.Edits.{added, with_more}
use Rattle.plain_repository.specs.Local.{without_last, without_any}
use Rattle.plain_repository.specs.Merging.{updated, merged_with}
use Rattle.plain_repository.specs.Tidying.{tidied}
use Rattle.plain_repository.specs.Events.{by_meta, effect, play, is_of}
use Rattle.plain_repository.proofs.Places.{of_number, is_of_number, other_number, same_number}
use Rattle.policy_laws.specs.Keeping.{IsNew}

differ : (k n : ℕ) → nat_eq k n ≡ false → k ≢ n
differ k n is e = true≢false (sym (heads.same_number k) ∙ ap (λ m. nat_eq k m) e ∙ is)

-- ---- other workspaces
module _ (s : State) (ws n : ℕ) where
  left : (change : Option Workspace → Option Workspace) (k : ℕ) → nat_eq k n ≡ false
      → of_number (changed_by_number change s.workspaces k) n ≡ of_number s.workspaces n
  left change k apart = other_number change s.workspaces k n (differ k n apart)

  commit_left : (k : ℕ) (signature : Option Signature) (message : List ℕ) → nat_eq k n ≡ false → (o : Option Workspace)
      → of_number (with_commit k signature message o s).workspaces n ≡ of_number s.workspaces n
  commit_left k signature message apart None = refl
  commit_left k signature message apart (Some w) = left (option_map (committed (length s.history.versions))) k apart

  branch_left : (k : ℕ) (name : List ℕ) → nat_eq k n ≡ false → (o : Option Workspace)
      → of_number (with_new_branch k name o s).workspaces n ≡ of_number s.workspaces n
  branch_left k name apart None = refl
  branch_left k name apart (Some w) = left (option_map (moved_onto (length s.history.branches))) k apart

  effect_left : (e : Event) → is_of ws e ≡ true → is_of n e ≡ false → of_number (effect s e).workspaces n ≡ of_number s.workspaces n
  effect_left (Init text) of apart = absurd cc
  effect_left (Checkout version branch) of apart = absurd cc
  effect_left (Edit k operations) of apart = left (option_map (with_more operations)) k apart
  effect_left (Begin k name) of apart = left (option_map (with_open name)) k apart
  effect_left (End k) of apart = left (option_map with_closed) k apart
  effect_left (Undo k) of apart = left (option_map without_last) k apart
  effect_left (Discard k) of apart = left (option_map without_any) k apart
  effect_left (Tidy k) of apart = left (option_map (by_meta s.meta tidied)) k apart
  effect_left (Commit k message) of apart = commit_left k None message apart (workspace_of s k)
  effect_left (Branch k name) of apart = branch_left k name apart (workspace_of s k)
  effect_left (Tag name version) of apart = absurd cc
  effect_left (Update k letters) of apart = left (option_map (by_meta s.meta (λ meta. updated meta s.history letters))) k apart
  effect_left (Merge k branch letters) of apart =
      left (option_map (by_meta s.meta (λ meta. merged_with meta s.history (head s.history branch) letters))) k apart
  effect_left (Drop k) of apart = left (λ o. None) k apart
  effect_left (Evolve text) of apart = absurd cc
  effect_left Upgrade of apart = absurd cc
  effect_left (Signed k author moment message) of apart =
      commit_left k (Some (record { author = author; moment = moment })) message apart (workspace_of s k)

-- an event of one workspace leaves what stands at the number of another
pub number_left : (s : State) (ws n : ℕ) (e : Event) → is_of ws e ≡ true → is_of n e ≡ false → workspace_of (play s e) n ≡ workspace_of s n
unfolding play
number_left s ws n e of apart = is_of_number (play s e) n ∙ effect_left s ws n e of apart ∙ sym (is_of_number s n)

-- ---- its own workspace
gone_at : (ws : List (Option Workspace)) (n : ℕ) → there (slice_get (changed_at (λ o. None) ws n) n) ≡ None
gone_at [] n = refl
gone_at (o ∷ ws) zero = refl
gone_at (o ∷ ws) (suc n) = gone_at ws n

gone : (ws : List (Option Workspace)) (k : ℕ) → of_number (changed_by_number (λ o. None) ws k) k ≡ None
gone ws zero = refl
gone ws (suc n) = gone_at ws n

-- the branch is as it was
KeepsBranch : (Workspace → Workspace) → Type 0
KeepsBranch change = (w : Workspace) → (change w).branch ≡ w.branch

added_keeps : (operations : List Operation) (o : Option Composite) (w : Workspace) → (added operations o w).branch ≡ w.branch
added_keeps operations None w = refl
added_keeps operations (Some c) w = refl

by_meta_keeps : (o : Option Meta) (change : Meta → Workspace → Workspace) → ((meta : Meta) (w : Workspace) → (change meta w).branch ≡ w.branch)
    → (w : Workspace) → (by_meta o change w).branch ≡ w.branch
by_meta_keeps None change keeps w = refl
by_meta_keeps (Some meta) change keeps w = keeps meta w

module _ (s : State) (ws : ℕ) (w v : Workspace) (stood : workspace_of s ws ≡ Some w) where
  -- the branch of the workspace, or the next one that is made
  abbrev IsItsOrNew : Type 0
  IsItsOrNew = (v.branch ≡ w.branch) ⊎ (v.branch ≡ length s.history.branches)

  changed : (change : Workspace → Workspace) → of_number (changed_by_number (option_map change) s.workspaces ws) ws ≡ Some v → v ≡ change w
  changed change is = sym (same_Some (change w) v (sym (same_number change s.workspaces ws w (sym (is_of_number s ws) ∙ stood)) ∙ is))

  kept : (change : Workspace → Workspace) → ((u : Workspace) → (change u).branch ≡ u.branch)
      → of_number (changed_by_number (option_map change) s.workspaces ws) ws ≡ Some v → IsItsOrNew
  kept change keeps is = inl (ap (λ (u : Workspace). u.branch) (changed change is) ∙ keeps w)

  committed_kept : (signature : Option Signature) (message : List ℕ) → of_number (with_commit ws signature message (workspace_of s ws) s).workspaces ws ≡ Some v
      → IsItsOrNew
  committed_kept signature message is = kept (committed (length s.history.versions)) (λ u. refl)
      (ap (λ (o : Option Workspace). of_number (with_commit ws signature message o s).workspaces ws) (sym stood) ∙ is)

  moved : (name : List ℕ) → of_number (with_new_branch ws name (workspace_of s ws) s).workspaces ws ≡ Some v → IsItsOrNew
  moved name is = inr (ap (λ (u : Workspace). u.branch) (changed (moved_onto (length s.history.branches))
      (ap (λ (o : Option Workspace). of_number (with_new_branch ws name o s).workspaces ws) (sym stood) ∙ is)))

  -- what an event of the workspace makes of it
  abbrev Makes : (ℕ → Event) → ℕ → Type 0
  Makes event_of k = of_number (effect s (event_of k)).workspaces ws ≡ Some v → IsItsOrNew

  at_own : (event_of : ℕ → Event) (k : ℕ) → nat_eq k ws ≡ true → Makes event_of ws → Makes event_of k
  at_own event_of k of makes = subst (Makes event_of) (sym (eqb-true k ws of)) makes

  own_effect : (e : Event) → is_of ws e ≡ true → of_number (effect s e).workspaces ws ≡ Some v → IsItsOrNew
  own_effect (Init text) of = absurd cc
  own_effect (Checkout version branch) of = absurd cc
  own_effect (Edit k operations) of =
      at_own (λ k. Edit k operations) k of (kept (with_more operations) (λ u. added_keeps operations u.composite u))
  own_effect (Begin k name) of = at_own (λ k. Begin k name) k of (kept (with_open name) (λ u. refl))
  own_effect (End k) of = at_own (λ k. End k) k of (kept with_closed (λ u. refl))
  own_effect (Undo k) of = at_own (λ k. Undo k) k of (kept without_last (λ u. refl))
  own_effect (Discard k) of = at_own (λ k. Discard k) k of (kept without_any (λ u. refl))
  own_effect (Tidy k) of = at_own (λ k. Tidy k) k of (kept (by_meta s.meta tidied) (by_meta_keeps s.meta tidied (λ meta u. refl)))
  own_effect (Commit k message) of = at_own (λ k. Commit k message) k of (committed_kept None message)
  own_effect (Branch k name) of = at_own (λ k. Branch k name) k of (moved name)
  own_effect (Tag name version) of = absurd cc
  own_effect (Update k letters) of = at_own (λ k. Update k letters) k of
      (kept (by_meta s.meta (λ meta. updated meta s.history letters)) (by_meta_keeps s.meta (λ meta. updated meta s.history letters) (λ meta u. refl)))
  own_effect (Merge k branch letters) of =
      let change : Meta → Workspace → Workspace = λ meta. merged_with meta s.history (head s.history branch) letters in
      at_own (λ k. Merge k branch letters) k of (kept (by_meta s.meta change) (by_meta_keeps s.meta change (λ meta u. refl)))
  own_effect (Drop k) of = at_own (λ k. Drop k) k of (λ is. absurd (none-some v (sym (gone s.workspaces ws) ∙ is)))
  own_effect (Evolve text) of = absurd cc
  own_effect Upgrade of = absurd cc
  own_effect (Signed k author moment message) of =
      at_own (λ k. Signed k author moment message) k of (committed_kept (Some (record { author = author; moment = moment })) message)

  pub own_branch : (e : Event) → is_of ws e ≡ true → workspace_of (play s e) ws ≡ Some v → IsItsOrNew
  unfolding play
  own_branch e of is = own_effect e of (sym (is_of_number (play s e) ws) ∙ is)

-- ---- one more workspace
last_or_before : (os : List (Option Workspace)) (o : Option Workspace) (n : ℕ) (v : Workspace) → there (slice_get (os ++ o ∷ []) n) ≡ Some v
    → (there (slice_get os n) ≡ Some v) ⊎ ((n ≡ length os) × (o ≡ Some v))
last_or_before [] o zero v is = inr (refl, is)
last_or_before [] o (suc n) v is = absurd cc
last_or_before (p ∷ os) o zero v is = inl is
last_or_before (p ∷ os) o (suc n) v is = elim (last_or_before os o n v is) [
  | inl before ↦ inl before
  | inr last ↦ inr (ap suc last.0, last.1)
]

pub opened_only : (s : State) (version branch n : ℕ) (v : Workspace) → workspace_of (play s (Checkout version branch)) n ≡ Some v
    → (workspace_of s n ≡ Some v) ⊎ IsNew s n v
unfolding play
opened_only s version branch zero v is = absurd cc
opened_only s version branch (suc n) v is = elim (last_or_before s.workspaces (Some (untouched branch version)) n v is) [
  | inl before ↦ inl before
  | inr last ↦ inr (
      let same : untouched branch version ≡ v = same_Some (untouched branch version) v last.1 in record {
        number = omega (arith, last.0);
        is = subst (λ (u : Workspace). u ≡ untouched u.branch u.base) same refl;
      })
]
