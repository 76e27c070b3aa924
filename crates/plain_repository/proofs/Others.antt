-- What an event leaves: all other workspaces, and of the history what it doesn't add to.
use Rattle.std.proofs.Common.{◌≡◌, ◌⊎◌, inl, inr, ℕ, zero, suc, ◌<◌, ◌≤◌, nat_eq, false, List, [], ◌∷◌, ◌++◌, length, Option, None, Some, refl, sym}
use Rattle.std.proofs.Common.{◌∙◌, arith}
use Rattle.std.specs.Prelude.{IsTrue, slice_get, option_map}
use Rattle.ecore_meta.specs.Meta.{Meta}
use Rattle.history_tree.specs.declared.version.Signature.{Signature}
use Rattle.history_tree.specs.History.{head}
use Rattle.op_form.specs.declared.event.Event.{Event}
use Rattle.op_form.specs.declared.event.Event.TheVariants.{Init, Checkout, Edit, Begin, End, Undo, Discard, Tidy, Commit, Branch, Tag, Update, Merge}
use Rattle.op_form.specs.declared.event.Event.TheVariants.{Drop, Evolve, Upgrade, Signed}
use Rattle.plain_repository.specs.State.{State, Workspace, untouched, there, workspace_of, changed_by_number}
use Rattle.plain_repository.specs.Commits.{version_event, committed, with_commit, moved_onto, with_new_branch}
use Rattle.plain_repository.specs.Edits.{with_more}
use Rattle.plain_repository.specs.Composites.{with_open, with_closed}
use Rattle.plain_repository.specs.Local.{without_last, without_any}
use Rattle.plain_repository.specs.Tidying.{tidied}
use Rattle.plain_repository.specs.Merging.{updated, merged_with}
use Rattle.plain_repository.specs.Events.{by_meta, effect, is_of, play, playable_with}
use Rattle.plain_repository.specs.Standing.{IsCommit, IsCheckout, IsEvolve, IsNewBranch, AllOthersStay}
use Rattle.plain_repository.proofs.Apart.{asked, differ}
use Rattle.plain_repository.proofs.Numbers.{count_at}
use Rattle.plain_repository.proofs.Places.{of_number, is_of_number, other_number}

-- ---- workspaces
same_place : (ws : List (Option Workspace)) (o : Option Workspace) (n : ℕ) → n < length ws → there (slice_get (ws ++ o ∷ []) n) ≡ there (slice_get ws n)
same_place [] o n low = absurd (omega (arith, low))
same_place (p ∷ ws) o zero low = refl
same_place (p ∷ ws) o (suc n) low = same_place ws o n (omega (arith, low))

-- a further one leaves those whose numbers were given
one_more : (ws : List (Option Workspace)) (o : Option Workspace) (k : ℕ) → k ≤ length ws → of_number (ws ++ o ∷ []) k ≡ of_number ws k
one_more ws o zero low = refl
one_more ws o (suc n) low = same_place ws o n (omega (arith, low))

module _ (s : State) (ws : ℕ) (low : ws ≤ length s.workspaces) where
  left : (change : Option Workspace → Option Workspace) (k : ℕ) → nat_eq k ws ≡ false
      → of_number (changed_by_number change s.workspaces k) ws ≡ of_number s.workspaces ws
  left change k apart = other_number change s.workspaces k ws (differ k ws apart)

  left_by_commit : (k : ℕ) (signature : Option Signature) (message : List ℕ) → nat_eq k ws ≡ false → (o : Option Workspace)
      → of_number (with_commit k signature message o s).workspaces ws ≡ of_number s.workspaces ws
  left_by_commit k signature message apart None = refl
  left_by_commit k signature message apart (Some v) = left (option_map (committed (length s.history.versions))) k apart

  left_by_branch : (k : ℕ) (name : List ℕ) → nat_eq k ws ≡ false → (o : Option Workspace)
      → of_number (with_new_branch k name o s).workspaces ws ≡ of_number s.workspaces ws
  left_by_branch k name apart None = refl
  left_by_branch k name apart (Some v) = left (option_map (moved_onto (length s.history.branches))) k apart

  left_by : (e : Event) → is_of ws e ≡ false → of_number (effect s e).workspaces ws ≡ of_number s.workspaces ws
  left_by (Init text) apart = refl
  left_by (Checkout version branch) apart = one_more s.workspaces (Some (untouched branch version)) ws low
  left_by (Edit k operations) apart = left (option_map (with_more operations)) k apart
  left_by (Begin k name) apart = left (option_map (with_open name)) k apart
  left_by (End k) apart = left (option_map with_closed) k apart
  left_by (Undo k) apart = left (option_map without_last) k apart
  left_by (Discard k) apart = left (option_map without_any) k apart
  left_by (Tidy k) apart = left (option_map (by_meta s.meta tidied)) k apart
  left_by (Commit k message) apart = left_by_commit k None message apart (workspace_of s k)
  left_by (Branch k name) apart = left_by_branch k name apart (workspace_of s k)
  left_by (Tag name version) apart = refl
  left_by (Update k letters) apart = left (option_map (by_meta s.meta (λ meta. updated meta s.history letters))) k apart
  left_by (Merge k branch letters) apart = left (option_map (by_meta s.meta (λ meta. merged_with meta s.history (head s.history branch) letters))) k apart
  left_by (Drop k) apart = left (λ o. None) k apart
  left_by (Evolve text) apart = refl
  left_by Upgrade apart = refl
  left_by (Signed k author moment message) apart =
      left_by_commit k (Some (record { author = author; moment = moment })) message apart (workspace_of s k)

-- ---- numbers and the history
-- what there is besides: how many numbers were given, and the versions, branches and tags
record RestStays (s after : State) (e : Event) : Type 0 where
  numbers : (length after.workspaces ≡ length s.workspaces) ⊎ IsCheckout e
  versions : (after.history.versions ≡ s.history.versions) ⊎ IsCommit e
  branches : (after.history.branches ≡ s.history.branches) ⊎ IsNewBranch e
  metamodel : (after.meta ≡ s.meta) ⊎ IsEvolve e
  tags : (after.history.tags ≡ s.history.tags)
      ⊎ ((name : List ℕ) × (version : ℕ) × (e ≡ Tag name version) × (after.history.tags ≡ s.history.tags ++ record { name = name; version = version } ∷ []))

count_by : (change : Option Workspace → Option Workspace) (ws : List (Option Workspace)) (k : ℕ) → length (changed_by_number change ws k) ≡ length ws
count_by change ws zero = refl
count_by change ws (suc n) = count_at change ws n

module _ (s : State) where
  -- one workspace is changed, and the history may be
  changed : (e : Event) (change : Option Workspace → Option Workspace) (k : ℕ)
      → RestStays s (record s { workspaces = changed_by_number change s.workspaces k }) e
  changed e change k = record {
    numbers = inl (count_by change s.workspaces k);
    versions = inl refl;
    branches = inl refl;
    tags = inl refl;
    metamodel = inl refl;
  }

  nothing : (e : Event) → RestStays s s e
  nothing e = record { numbers = inl refl; versions = inl refl; branches = inl refl; tags = inl refl; metamodel = inl refl }

  by_commit : (k : ℕ) (signature : Option Signature) (message : List ℕ) (o : Option Workspace)
      → RestStays s (with_commit k signature message o s) (version_event k signature message)
  by_commit k signature message None = nothing (version_event k signature message)
  by_commit k signature message (Some w) = record {
    numbers = inl (count_by (option_map (committed (length s.history.versions))) s.workspaces k);
    versions = inr (k, signature, message, refl);
    branches = inl refl;
    tags = inl refl;
    metamodel = inl refl;
  }

  by_branch : (k : ℕ) (name : List ℕ) (o : Option Workspace) → RestStays s (with_new_branch k name o s) (Branch k name)
  by_branch k name None = nothing (Branch k name)
  by_branch k name (Some w) = record {
    numbers = inl (count_by (option_map (moved_onto (length s.history.branches))) s.workspaces k);
    versions = inl refl;
    branches = inr (k, name, refl);
    tags = inl refl;
    metamodel = inl refl;
  }

  rest : (meta : Meta) (e : Event) → IsTrue (playable_with s (Some meta) e) → RestStays s (effect s e) e
  rest meta (Init text) could = absurd cc
  rest meta (Checkout version branch) could =
      record { numbers = inr (version, branch, refl); versions = inl refl; branches = inl refl; tags = inl refl; metamodel = inl refl }
  rest meta (Edit k operations) could = changed (Edit k operations) (option_map (with_more operations)) k
  rest meta (Begin k name) could = changed (Begin k name) (option_map (with_open name)) k
  rest meta (End k) could = changed (End k) (option_map with_closed) k
  rest meta (Undo k) could = changed (Undo k) (option_map without_last) k
  rest meta (Discard k) could = changed (Discard k) (option_map without_any) k
  rest meta (Tidy k) could = changed (Tidy k) (option_map (by_meta s.meta tidied)) k
  rest meta (Commit k message) could = by_commit k None message (workspace_of s k)
  rest meta (Branch k name) could = by_branch k name (workspace_of s k)
  rest meta (Tag name version) could =
      record { numbers = inl refl; versions = inl refl; branches = inl refl; tags = inr (name, version, refl, refl); metamodel = inl refl }
  rest meta (Update k letters) could = changed (Update k letters) (option_map (by_meta s.meta (λ meta. updated meta s.history letters))) k
  rest meta (Merge k branch letters) could =
      changed (Merge k branch letters) (option_map (by_meta s.meta (λ meta. merged_with meta s.history (head s.history branch) letters))) k
  rest meta (Drop k) could = changed (Drop k) (λ o. None) k
  rest meta (Evolve text) could =
      record { numbers = inl refl; versions = inl refl; branches = inl refl; tags = inl refl; metamodel = inr (text, refl) }
  rest meta Upgrade could = record { numbers = inl refl; versions = inl refl; branches = inl refl; tags = inl refl; metamodel = inl refl }
  rest meta (Signed k author moment message) could = by_commit k (Some (record { author = author; moment = moment })) message (workspace_of s k)

pub all_others_stay : AllOthersStay
unfolding play
all_others_stay s meta has e could =
    let r = rest s meta e (asked s meta e has.begun could) in
    record {
      workspaces = λ ws low apart. is_of_number (play s e) ws ∙ left_by s ws low e apart ∙ sym (is_of_number s ws);
      numbers = r.numbers;
      versions = r.versions;
      branches = r.branches;
      metamodel = r.metamodel;
      tags = elim r.tags [ inl same ↦ inl same | inr t ↦ inr (record { name = t.0; version = t.1; is_tag = t.2; made = t.3 }) ];
    }
