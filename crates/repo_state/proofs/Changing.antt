-- One of several workspaces looked up or set, and what stays of all of them.
use Rattle.std.proofs.Common.{◌≡◌, ℕ, zero, suc, ◌-◌, ◌≤◌, ◌<◌, List, [], ◌∷◌, map, length, Option, None, Some, is_some, Result, Ok, Err, IfSome, Bor}
use Rattle.std.proofs.Common.{nat_lt, refl, sym, ◌∙◌, ap, subst, arith}
use Rattle.std.specs.Prelude.{slice_get}
use Rattle.std.specs.Option.{option_copied, option_map}
use Rattle.std.proofs.Math.ListN.{set, get_or}
use Rattle.std.proofs.lemmas.List.{length-map}
use Rattle.std.proofs.lemmas.List.Elements.{All-set, All-get_or}
use Rattle.std.proofs.lemmas.Bool.{ltb-true, ltb-false}
use Rattle.std.proofs.lemmas.Option.{slice_get-map, slice_get_past}
use Rattle.ecore_meta.specs.Meta.{Meta}
use Rattle.history_tree.specs.History.{History}
use Rattle.std.specs.Prelude.{IfOk, unwrap_or}
use Rattle.std.proofs.lemmas.Option.{same_Some}
use Rattle.model_state.specs.Good.{Good}
use Rattle.plain_repository.specs.Laws.{IsThere}
use Rattle.plain_repository.specs.Orderly.{IsOrderly}
use Rattle.plain_repository.proofs.Reached.{models_are_defined}
use Rattle.repo_state.specs.Working.{IsWorkingModel}
use Rattle.plain_repository.specs.State.{State, Workspace, workspace_of, there, folded, model_of}
use Rattle.repo_state.specs.declared.repo.Begun.{Begun}
use Rattle.repo_state.specs.declared.workspace.Workspace.{Workspace as Kept}
use Rattle.repo_state.specs.Keeping.{FitsAny, ModelFits, AllFit, meta_of, history_of, upgraded_of, plain_any, plain_of}
use Rattle.model_state.specs.State as models

pub below_is : (s : State) (ws : List (Option Kept)) (i : ℕ) → map plain_any ws ≡ s.workspaces → i < length s.workspaces → i < length ws
below_is s ws i is below = subst (λ (n : ℕ). i < n) (sym (ap (λ (l : List (Option Workspace)). length l) is) ∙ length-map ws plain_any) below

-- what is at a position that is there
pub slice_there : (ws : List (Option Kept)) (i : ℕ) (d : Option Kept) → i < length ws → slice_get ws i ≡ Some (get_or ws i d)
slice_there [] i d below = absurd (omega arith)
slice_there (w ∷ ws) zero d below = refl
slice_there (w ∷ ws) (suc i) d below = slice_there ws i d (omega arith)

-- what a look-up found
pub looked_up : (ws : List (Option Kept)) (i : ℕ) (r : Option (Bor (Option Kept))) → is_some r ≡ nat_lt i (length ws)
    → IfSome r (λ x. x.now ≡ get_or ws i x.now) → option_copied r ≡ slice_get ws i
looked_up ws i None is found = sym (slice_get_past ws i (ltb-false i (length ws) (sym is)))
looked_up ws i (Some x) is found = ap Some found ∙ sym (slice_there ws i x.now (ltb-true i (length ws) (sym is)))

-- the workspace of a number, found at its position
pub numbered_is : (s : State) (ws : List (Option Kept)) (k : ℕ) → map plain_any ws ≡ s.workspaces → 1 ≤ k
    → there (option_map plain_any (slice_get ws (k - 1))) ≡ workspace_of s k
numbered_is s ws zero is least = absurd (omega arith)
numbered_is s ws (suc n) is least =
    ap (λ (i : ℕ). there (option_map plain_any (slice_get ws i))) (omega arith) ∙ ap there (sym (slice_get-map plain_any ws n))
    ∙ ap (λ (l : List (Option Workspace)). there (slice_get l n)) is

pub found_is : (s : State) (ws : List (Option Kept)) (k : ℕ) (w : Option Kept) → map plain_any ws ≡ s.workspaces → 1 ≤ k
    → slice_get ws (k - 1) ≡ Some w → plain_any w ≡ workspace_of s k
found_is s ws k w is least found = ap (λ (o : Option (Option Kept)). there (option_map plain_any o)) (sym found) ∙ numbered_is s ws k is least

-- the same, by its position
pub at_is : (s : State) (ws : List (Option Kept)) (k i : ℕ) (old d : Option Kept) → map plain_any ws ≡ s.workspaces → k ≡ suc i
    → i < length s.workspaces → old ≡ get_or ws i d → workspace_of s k ≡ plain_any old
at_is s ws k i old d is numbered below old_is =
    ap (λ (n : ℕ). workspace_of s n) numbered ∙ ap (λ (l : List (Option Workspace)). there (slice_get l i)) (sym is) ∙ ap there (slice_get-map plain_any ws i)
    ∙ ap (λ (o : Option (Option Kept)). there (option_map plain_any o)) (slice_there ws i d (below_is s ws i is below)) ∙ ap plain_any (sym old_is)

-- setting what stands for the same leaves all that contracts see
pub set_same : (ws : List (Option Kept)) (i : ℕ) (new d : Option Kept) → i < length ws → plain_any new ≡ plain_any (get_or ws i d)
    → map plain_any (set ws i new) ≡ map plain_any ws
set_same [] i new d below is = absurd (omega arith)
set_same (w ∷ ws) zero new d below is = ap (λ (x : Option Workspace). x ∷ map plain_any ws) is
set_same (w ∷ ws) (suc i) new d below is = ap (λ (l : List (Option Workspace)). plain_any w ∷ l) (set_same ws i new d (omega arith) is)

-- one set to what stands for the same
pub set_at : (ws : List (Option Kept)) (i : ℕ) (old d new : Option Kept) → i < length ws → old ≡ get_or ws i d → plain_any new ≡ plain_any old
    → map plain_any (set ws i new) ≡ map plain_any ws
set_at ws i old d new below old_is same = set_same ws i new d below (same ∙ ap plain_any old_is)

-- each model that is kept fits, where the one that is set does
pub fit_set : (b : Option Begun) (begun : Begun) (ws : List (Option Kept)) (i : ℕ) (w : Option Kept) → b ≡ Some begun
    → FitsAny begun.meta begun.history.history w → AllFit b ws → AllFit b (set ws i w)
fit_set b begun ws i w is fits all =
    subst (λ (b : Option Begun). AllFit b (set ws i w)) (sym is)
    (All-set (FitsAny begun.meta begun.history.history) ws i w fits (subst (λ (b : Option Begun). AllFit b ws) is all))

pub fit_at : (b : Option Begun) (begun : Begun) (ws : List (Option Kept)) (i : ℕ) (old d : Option Kept) → b ≡ Some begun → i < length ws
    → old ≡ get_or ws i d → AllFit b ws → FitsAny begun.meta begun.history.history old
fit_at b begun ws i old d is below old_is all =
    subst (FitsAny begun.meta begun.history.history) (sym old_is)
    (All-get_or (FitsAny begun.meta begun.history.history) ws i d below (subst (λ (b : Option Begun). AllFit b ws) is all))

-- what contracts see of a repository
abbrev pub held : Option Begun → List (Option Workspace) → ℕ → ℕ → State
held b l events end = record { meta = meta_of b; history = history_of b; workspaces = l; upgraded = upgraded_of b; events = events; end = end }

-- a workspace set to one that stands for the same
pub same_at : (ws : List (Option Kept)) (i : ℕ) (old d : Option Kept) (w new : Kept) → i < length ws → old ≡ get_or ws i d → old ≡ Some w
    → plain_of new ≡ plain_of w → map plain_any (set ws i (Some new)) ≡ map plain_any ws
same_at ws i old d w new below old_is is same = set_same ws i (Some new) d below (ap Some same ∙ ap plain_any (sym is ∙ old_is))

pub order_same : (b : Option Begun) (ws new : List (Option Kept)) (events end : ℕ) → map plain_any new ≡ map plain_any ws
    → IsOrderly (held b (map plain_any ws) events end) → IsOrderly (held b (map plain_any new) events end)
order_same b ws new events end same orderly = subst (λ (l : List (Option Workspace)). IsOrderly (held b l events end)) (sym same) orderly

pub view_same : (b : Option Begun) (ws new : List (Option Kept)) (events end : ℕ) (s : State) → map plain_any new ≡ map plain_any ws
    → held b (map plain_any ws) events end ≡ s → held b (map plain_any new) events end ≡ s
view_same b ws new events end s same is = ap (λ (l : List (Option Workspace)). held b l events end) same ∙ is

-- a model that is the working model is so by whatever names the metamodel and the workspace have
pub working_is : (s : State) (k : ℕ) (meta : Meta) (h : History) (w : Workspace) (m : models.State) → s.meta ≡ Some meta → s.history ≡ h
    → workspace_of s k ≡ Some w → m ≡ model_of meta h w → Good meta m → IsWorkingModel s k m
working_is s k meta h w m begun hist at model good n v is found =
    subst (λ (x : Meta). (m ≡ model_of x s.history v) × Good x m) (same_Some meta n (sym begun ∙ is))
    (model ∙ ap (λ (g : History). model_of meta g w) (sym hist) ∙ ap (λ (x : Workspace). model_of meta s.history x) (same_Some w v (sym at ∙ found)), good)

pub working : (s : State) (k : ℕ) (meta : Meta) (h : History) (w : Workspace) {E : Type 0} (r : Result models.State E) → s.meta ≡ Some meta
    → s.history ≡ h → workspace_of s k ≡ Some w → IfOk r (λ m. m ≡ model_of meta h w)
    → IfOk r (λ m. Good meta m) → IfOk r (λ m. IsWorkingModel s k m)
working s k meta h w (Ok m) begun hist at model good = working_is s k meta h w m begun hist at model good
working s k meta h w (Err e) begun hist at model good = tt

-- a working model that is kept fits
pub kept_fits : (s : State) (k : ℕ) (meta : Meta) (h : History) (w new : Kept) (m : models.State) → s.meta ≡ Some meta → s.history ≡ h
    → IsThere s meta (plain_of w) → workspace_of s k ≡ Some (plain_of w) → IsWorkingModel s k m → plain_of new ≡ plain_of w → new.model ≡ Some m
    → ModelFits meta h new
kept_fits s k meta h w new m begun hist there at is same kept n now =
    let both = is meta (plain_of w) begun at in
    let folds : folded meta h (plain_of new) ≡ Some m =
    ap (λ (v : Workspace). folded meta h v) same ∙ ap (λ (g : History). folded meta g (plain_of w)) (sym hist)
    ∙ models_are_defined s meta (plain_of w) there ∙ ap Some (sym both.0) in
    subst (λ (x : models.State). (folded meta h (plain_of new) ≡ Some x) × Good meta x) (same_Some m n (sym kept ∙ now)) (folds, both.1)

-- no model fits
pub none_fits : (meta : Meta) (h : History) (w : Kept) → w.model ≡ None → ModelFits meta h w
none_fits meta h w none m is = absurd cc

-- the model that a workspace keeps is its working model
pub kept_working : (s : State) (k : ℕ) (meta : Meta) (h : History) (w : Kept) (r : Option models.State) → s.meta ≡ Some meta → s.history ≡ h
    → workspace_of s k ≡ Some (plain_of w) → ModelFits meta h w → r ≡ w.model → IfSome r (λ m. IsWorkingModel s k m)
kept_working s k meta h w None begun hist at fits is = tt
kept_working s k meta h w (Some m) begun hist at fits is =
    let both = fits m (sym is) in
    working_is s k meta h (plain_of w) m begun hist at (sym (ap (λ (o : Option models.State). unwrap_or o models.nothing) both.0)) both.1
