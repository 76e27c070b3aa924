-- Which workspaces keep their models, once one is set or added, or a position is taken out of those used last.
use Rattle.std.proofs.Common.{◌≡◌, ◌≢◌, ◌⊎◌, inl, inr, ⊎_elim, ℕ, zero, suc, ◌≤◌, Bool, true, false, is_some, List, [], ◌∷◌, ◌++◌, length, map}
use Rattle.std.proofs.Common.{Option, Some, None}
use Rattle.std.proofs.Common.{IfSome, sym, ◌∙◌, ap, subst, refl, arith}
use Rattle.std.specs.Prelude.{All, if◌then◌else◌}
use Rattle.std.specs.List.{Contains}
use Rattle.std.proofs.Math.ListN.{set, get_or}
use Rattle.std.proofs.lemmas.List.{get_or_past, length-map}
use Rattle.std.proofs.lemmas.Option.{same_Some}
use Rattle.ecore_meta.specs.Meta.{Meta}
use Rattle.history_tree.specs.History.{History}
use Rattle.repo_state.specs.declared.repo.Begun.{Begun}
use Rattle.repo_state.specs.declared.workspace.Workspace.{Workspace as Kept}
use Rattle.plain_repository.specs.State.{Workspace}
use Rattle.repo_state.specs.Keeping.{AllFit, FitsAny, KeepersAmong, ModelFits, keeps_model, plain_any}
use Rattle.repo_state.proofs.Changing.{none_fits}
use Rattle.model_state.specs.State as models

-- ---- one workspace
-- without a model it keeps none
pub none_keeps : (w : Kept) (P : Type 0) → w.model ≡ None → keeps_model (Some w) ≡ true → P
none_keeps w P none keeps = let is : false ≡ true = ap (λ (o : Option models.State). is_some o) (sym none) ∙ keeps in absurd cc

-- with the same model it keeps one where it did
pub same_keeps : (w new : Kept) → new.model ≡ w.model → keeps_model (Some new) ≡ true → keeps_model (Some w) ≡ true
same_keeps w new same keeps = ap (λ (o : Option models.State). is_some o) (sym same) ∙ keeps

-- it keeps a model only if its position is there
pub kept_if : (places : List ℕ) (i : ℕ) (o : Option models.State) (w : Kept) → IfSome o (λ m. Contains places i) → w.model ≡ o
    → keeps_model (Some w) ≡ true → Contains places i
kept_if places i None w has is keeps = none_keeps w (Contains places i) is keeps
kept_if places i (Some m) w has is keeps = has

-- and what it keeps fits
pub fits_if : (meta : Meta) (h : History) (o : Option models.State) (m : models.State) (w : Kept) → IfSome o (λ n. n ≡ m) → w.model ≡ o
    → (w.model ≡ Some m → ModelFits meta h w) → ModelFits meta h w
fits_if meta h None m w same is fits = none_fits meta h w is
fits_if meta h (Some n) m w same is fits = fits (is ∙ ap Some same)

-- ---- one of several
set_split : (ws : List (Option Kept)) (i : ℕ) (x : Option Kept) (at : ℕ) → keeps_model (get_or (set ws i x) at None) ≡ true
    → ((at ≡ i) × (keeps_model x ≡ true)) ⊎ ((at ≢ i) × (keeps_model (get_or ws at None) ≡ true))
set_split [] i x at keeps = let is : false ≡ true = keeps in absurd cc
set_split (w ∷ ws) zero x zero keeps = inl (refl, keeps)
set_split (w ∷ ws) zero x (suc at) keeps = inr (λ is. omega (arith, is), keeps)
set_split (w ∷ ws) (suc i) x zero keeps = inr (λ is. omega (arith, is), keeps)
set_split (w ∷ ws) (suc i) x (suc at) keeps =
    ⊎_elim (λ here. inl (ap suc here.0, here.1)) (λ other. inr (λ is. other.0 (omega (arith, is)), other.1)) (set_split ws i x at keeps)

-- where one is set, its position is there if it keeps a model
pub keepers_set : (places : List ℕ) (ws : List (Option Kept)) (i : ℕ) (x : Option Kept) → (keeps_model x ≡ true → Contains places i)
    → KeepersAmong places ws → KeepersAmong places (set ws i x)
keepers_set places ws i x now all at keeps =
    ⊎_elim (λ here. subst (Contains places) (sym here.0) (now here.1)) (λ other. all at other.1) (set_split ws i x at keeps)

-- where the positions are the same
pub keepers_same : (old new : List ℕ) (ws : List (Option Kept)) → new ≡ old → KeepersAmong old ws → KeepersAmong new ws
keepers_same old new ws is all = subst (λ (places : List ℕ). KeepersAmong places ws) (sym is) all

-- where one isn't there any more, its position may go
pub keepers_gone : (old new : List ℕ) (ws : List (Option Kept)) (i : ℕ) → ((n : ℕ) → Contains old n → Contains new n ⊎ (Some i ≡ Some n))
    → KeepersAmong old ws → KeepersAmong new (set ws i None)
keepers_gone old new ws i stays all at keeps =
    ⊎_elim (λ here. let clash : false ≡ true = here.1 in absurd cc)
    (λ other. ⊎_elim (λ has. has) (λ is. absurd (other.0 (sym (same_Some i at is)))) (stays at (all at other.1))) (set_split ws i None at keeps)

-- where one gives its model away, its position may go
pub keepers_lent : (old new : List ℕ) (ws : List (Option Kept)) (i : ℕ) (w : Kept) → w.model ≡ None
    → ((n : ℕ) → Contains old n → Contains new n ⊎ (i ≡ n)) → KeepersAmong old ws → KeepersAmong new (set ws i (Some w))
keepers_lent old new ws i w none stays all at keeps =
    ⊎_elim (λ here. none_keeps w (Contains new at) none here.1)
    (λ other. ⊎_elim (λ has. has) (λ is. absurd (other.0 (sym is))) (stays at (all at other.1))) (set_split ws i (Some w) at keeps)

more : (ws : List (Option Kept)) (w : Kept) (at : ℕ) → keeps_model (get_or (ws ++ Some w ∷ []) at None) ≡ true
    → (keeps_model (Some w) ≡ true) ⊎ (keeps_model (get_or ws at None) ≡ true)
more [] w zero keeps = inl keeps
more [] w (suc at) keeps = inr keeps
more (x ∷ ws) w zero keeps = inr keeps
more (x ∷ ws) w (suc at) keeps = more ws w at keeps

-- one without a model is added
pub keepers_pushed : (places : List ℕ) (ws new : List (Option Kept)) (w : Kept) (ok : Bool) → w.model ≡ None
    → new ≡ (if ok then ws ++ Some w ∷ [] else ws) → KeepersAmong places ws → KeepersAmong places new
keepers_pushed places ws new w true none is all =
    subst (KeepersAmong places) (sym is)
    (λ at keeps. ⊎_elim (λ here. none_keeps w (Contains places at) none here) (λ before. all at before) (more ws w at keeps))
keepers_pushed places ws new w false none is all = subst (KeepersAmong places) (sym is) all

-- ---- a position that isn't used goes
-- after that the positions of all that keep a model are there
pub keepers_out : (old new : List ℕ) (out : Option ℕ) (before after : List (Option Kept)) → ((n : ℕ) → Contains old n → Contains new n ⊎ (out ≡ Some n))
    → ((at : ℕ) → keeps_model (get_or after at None) ≡ true → (keeps_model (get_or before at None) ≡ true) × (out ≢ Some at))
    → KeepersAmong old before → KeepersAmong new after
keepers_out old new out before after stays gone all at keeps = let g = gone at keeps in ⊎_elim (λ has. has) (λ is. absurd (g.1 is)) (stays at (all at g.0))

pub all_fit : (b : Option Begun) (before after : List (Option Kept))
    → ((meta : Meta) (h : History) → All (FitsAny meta h) before → All (FitsAny meta h) after) → AllFit b before → AllFit b after
all_fit None before after fits all = tt
all_fit (Some begun) before after fits all = fits begun.meta begun.history.history all

-- ---- all of them go
-- where only positions past the last one keep a model, none is kept
pub none_left : (old new : List (Option Kept)) (n : ℕ) → map plain_any new ≡ map plain_any old → length old ≤ n
    → ((i : ℕ) → keeps_model (get_or new i None) ≡ true → n ≤ i) → (i : ℕ) → keeps_model (get_or new i None) ≡ false
none_left old new n same past left i = by (keeps_model (get_or new i None)) refl
  where
    as_many : length new ≡ length old
    as_many = sym (length-map new plain_any) ∙ ap (λ (l : List (Option Workspace)). length l) same ∙ length-map old plain_any

    by : (b : Bool) → keeps_model (get_or new i None) ≡ b → b ≡ false
    by false is = refl
    by true is = sym is ∙ ap keeps_model (get_or_past new i None (omega (arith, left i is, as_many, past)))

-- those that keep one, of which there are none, stand at any positions
pub none_among : (places : List ℕ) (ws : List (Option Kept)) → ((at : ℕ) → keeps_model (get_or ws at None) ≡ false) → KeepersAmong places ws
none_among places ws none at keeps = let is : false ≡ true = sym (none at) ∙ keeps in absurd cc
