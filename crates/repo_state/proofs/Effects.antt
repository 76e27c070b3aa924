-- What an event makes of one workspace, and that all stays in order.
use Rattle.std.proofs.Common.{◌≡◌, ℕ, zero, suc, ◌<◌, List, [], ◌∷◌, ◌++◌, map, Bool, true, false, length, Option, None, Some, Result, Ok, Err, OnOk}
use Rattle.std.proofs.Common.{OnErr, refl, sym, ◌∙◌, ap, subst, arith}
use Rattle.std.specs.Prelude.{All, if◌then◌else◌}
use Rattle.std.proofs.lemmas.List.Elements.{All-append, All-cons, All-nil}
use Rattle.op_form.specs.declared.event.Event.TheVariants.{Checkout}
use Rattle.plain_repository.specs.Checkouts.{with_checkout}
use Rattle.std.specs.Option.{option_map}
use Rattle.std.proofs.Math.ListN.{set, get_or}
use Rattle.ecore_meta.specs.Meta.{Meta}
use Rattle.history_tree.specs.History.{History}
use Rattle.op_form.specs.declared.event.Event.{Event}
use Rattle.op_form.specs.Formed.{IsEvent}
use Rattle.plain_repository.specs.State.{State, Workspace, untouched, changed_at, changed_by_number, with_changed, workspace_of}
use Rattle.plain_repository.specs.Orderly.{AllOrderly, IsOrderly}
use Rattle.plain_repository.specs.Events.{effect, playable_with}
use Rattle.plain_repository.proofs.Kept.{event_kept, meta_left}
use Rattle.repo_state.specs.declared.repo.Begun.{Begun}
use Rattle.repo_state.specs.declared.workspace.Workspace.{Workspace as Kept}
use Rattle.std.specs.List.{Contains}
use Rattle.repo_state.specs.Keeping.{AllFit, KeepersAmong, ModelFits, FitsAny, history_of, keeps_model, meta_of, upgraded_of, plain_any, plain_of}
use Rattle.repo_state.proofs.Changing.{at_is, below_is, fit_at, held, none_fits, set_same}

-- ---- what a call gives by its result
pub either : {T E : Type 0} {A B X : Type 0} (r : Result T E) → OnOk r A → OnErr r B → (A → X) → (B → X) → X
either (Ok x) a b f g = f a
either (Err e) a b f g = g b

pub both_ok : {T E : Type 0} (A B : Type 0) (r : Result T E) → OnOk r A → OnOk r B → OnOk r (A × B)
both_ok A B (Ok x) a b = (a, b)
both_ok A B (Err e) a b = tt

pub both_err : {T E : Type 0} (A B : Type 0) (r : Result T E) → OnErr r A → OnErr r B → OnErr r (A × B)
both_err A B (Ok x) a b = tt
both_err A B (Err e) a b = (a, b)

pub on_ok : {T E : Type 0} {P Q : Type 0} (r : Result T E) → (P → Q) → OnOk r P → OnOk r Q
on_ok (Ok x) f p = f p
on_ok (Err e) f p = p

pub on_err : {T E : Type 0} {P Q : Type 0} (r : Result T E) → (P → Q) → OnErr r P → OnErr r Q
on_err (Ok x) f p = p
on_err (Err e) f p = f p

abbrev pub meta_in : State → Option Meta
meta_in s = s.meta

abbrev pub history_in : State → History
history_in s = s.history

-- the metamodel and the history that are there
pub begun_is : (b : Option Begun) (begun : Begun) (l : List (Option Workspace)) (events end : ℕ) (s : State) → held b l events end ≡ s
    → b ≡ Some begun → s.meta ≡ Some begun.meta
begun_is b begun l events end s view is = sym (ap meta_in view) ∙ ap meta_of is

pub history_is : (b : Option Begun) (begun : Begun) (l : List (Option Workspace)) (events end : ℕ) (s : State) → held b l events end ≡ s
    → b ≡ Some begun → s.history ≡ begun.history.history
history_is b begun l events end s view is = sym (ap history_in view) ∙ ap history_of is

-- ---- one workspace
-- the workspace of a number, at its position in the list of a repository
pub record Placed (b : Option Begun) (ws : List (Option Kept)) (events end : ℕ) (s : State) (k i : ℕ) (d : Option Kept) (w : Kept) : Type 0 where
  pub view : held b (map plain_any ws) events end ≡ s
  pub number : k ≡ suc i
  pub below : i < length s.workspaces
  pub at : get_or ws i d ≡ Some w

pub placed : (b : Option Begun) (ws : List (Option Kept)) (events end : ℕ) (s : State) (k i : ℕ) (old d : Option Kept) (w : Kept)
    → held b (map plain_any ws) events end ≡ s → k ≡ suc i → i < length s.workspaces → old ≡ get_or ws i d → old ≡ Some w
    → Placed b ws events end s k i d w
placed b ws events end s k i old d w view number below old_is some = record { view = view; number = number; below = below; at = sym old_is ∙ some }

-- the workspace at a position is set to what the change makes of it
pub set_is : (change : Option Workspace → Option Workspace) (ws : List (Option Kept)) (i : ℕ) (d new : Option Kept) → i < length ws
    → plain_any new ≡ change (plain_any (get_or ws i d)) → map plain_any (set ws i new) ≡ changed_at change (map plain_any ws) i
set_is change [] i d new below is = absurd (omega arith)
set_is change (x ∷ ws) zero d new below is = ap (λ (y : Option Workspace). y ∷ map plain_any ws) is
set_is change (x ∷ ws) (suc i) d new below is = ap (λ (l : List (Option Workspace)). plain_any x ∷ l) (set_is change ws i d new (omega arith) is)

-- so is that of its number
pub number_set : (change : Option Workspace → Option Workspace) (b : Option Begun) (ws : List (Option Kept)) (events end : ℕ) (s : State) (k i : ℕ)
    (d new : Option Kept) → held b (map plain_any ws) events end ≡ s → k ≡ suc i → i < length s.workspaces
    → plain_any new ≡ change (plain_any (get_or ws i d))
    → held b (map plain_any (set ws i new)) events end ≡ record s { workspaces = changed_by_number change s.workspaces k }
number_set change b ws events end s k i d new view number below is =
    ap (λ (l : List (Option Workspace)). held b l events end) (set_is change ws i d new (below_is s ws i (ap (λ (s : State). s.workspaces) view) below) is)
    ∙ ap (λ (t : State). record t { workspaces = changed_at change t.workspaces i }) view
    ∙ ap (λ (n : ℕ). record s { workspaces = changed_by_number change s.workspaces n }) (sym number)

-- what is at a position that is there, whatever would stand for none
any_default : (ws : List (Option Kept)) (i : ℕ) (d e : Option Kept) → i < length ws → get_or ws i d ≡ get_or ws i e
any_default [] i d e below = absurd (omega arith)
any_default (w ∷ ws) zero d e below = refl
any_default (w ∷ ws) (suc i) d e below = any_default ws i d e (omega arith)

module _ {b : Option Begun} {ws : List (Option Kept)} {events end : ℕ} {s : State} {k i : ℕ} {d : Option Kept} {w : Kept}
    (p : Placed b ws events end s k i d w) where
  within : i < length ws
  within = below_is s ws i (ap (λ (s : State). s.workspaces) p.view) p.below

  pub changed_view : (change : Workspace → Workspace) (new : Kept) → plain_of new ≡ change (plain_of w)
      → held b (map plain_any (set ws i (Some new))) events end ≡ with_changed change k s
  changed_view change new is =
      number_set (option_map change) b ws events end s k i d (Some new) p.view p.number p.below
      (ap Some is ∙ ap (λ (o : Option Kept). option_map change (plain_any o)) (sym p.at))

  pub unchanged_view : (new : Kept) → plain_of new ≡ plain_of w → held b (map plain_any (set ws i (Some new))) events end ≡ s
  unchanged_view new is =
      ap (λ (l : List (Option Workspace)). held b l events end) (set_same ws i (Some new) d within (ap Some is ∙ ap plain_any (sym p.at))) ∙ p.view

  pub placed_there : workspace_of s k ≡ Some (plain_of w)
  placed_there = at_is s ws k i (Some w) d (ap (λ (s : State). s.workspaces) p.view) p.number p.below (sym p.at)

  -- it has its position among those used last where it kept its model
  pub keeper_before : (places : List ℕ) → KeepersAmong places ws → keeps_model (Some w) ≡ true → Contains places i
  keeper_before places all keeps = all i (ap keeps_model (any_default ws i None d within ∙ p.at) ∙ keeps)

  pub fit_before : (begun : Begun) → b ≡ Some begun → AllFit b ws → ModelFits begun.meta begun.history.history w
  fit_before begun is all = subst (FitsAny begun.meta begun.history.history) p.at (fit_at b begun ws i (get_or ws i d) d is within refl all)

-- ---- all is in order
-- what could be made, by the metamodel that is there
pub could_with : (s : State) (meta : Meta) (e : Event) → s.meta ≡ Some meta → playable_with s s.meta e ≡ true → playable_with s (Some meta) e ≡ true
could_with s meta e begun could = subst (λ (m : Option Meta). playable_with s m e ≡ true) begun could

-- after an event that could be made
pub effect_orderly : (s new : State) (meta : Meta) (e : Event) → s.meta ≡ Some meta → playable_with s s.meta e ≡ true → IsEvent e → IsOrderly s
    → new ≡ effect s e → IsOrderly new
effect_orderly s new meta e begun could spelled orderly is =
    let can = could_with s meta e begun could in
    subst IsOrderly (sym is)
    (subst (λ (m : Option Meta). AllOrderly m (effect s e)) (sym (meta_left s meta e begun can))
    (event_kept meta s e begun can spelled (subst (λ (m : Option Meta). AllOrderly m s) begun orderly)))

-- so it is by the result of the call that made it
pub either_orderly : {T E : Type 0} (r : Result T E) (s new : State) (meta : Meta) (e : Event) → s.meta ≡ Some meta → playable_with s s.meta e ≡ true
    → IsEvent e → IsOrderly s → OnOk r (new ≡ effect s e) → OnErr r (new ≡ s) → IsOrderly new
either_orderly r s new meta e begun could spelled orderly done same =
    either r done same (λ is. effect_orderly s new meta e begun could spelled orderly is) (λ is. subst IsOrderly (sym is) orderly)

-- ---- the history
-- what contracts see of a repository whose history is another one
pub grown : (b : Option Begun) (begun new : Begun) (h : History) (l : List (Option Workspace)) (events end : ℕ) (t : State) → b ≡ Some begun
    → new.meta ≡ begun.meta → new.upgraded ≡ begun.upgraded → new.history.history ≡ h
    → held b l events end ≡ t → held (Some new) l events end ≡ record t { history = h }
grown b begun new h l events end t is meta form hist view =
    ap (λ (g : History). record { meta = Some new.meta; history = g; workspaces = l; upgraded = new.upgraded; events = events; end = end }) hist
    ∙ ap (λ (m : Option Meta). record { meta = m; history = h; workspaces = l; upgraded = new.upgraded; events = events; end = end })
    (ap Some meta ∙ sym (ap meta_of is))
    ∙ ap (λ (u : Bool). record { meta = meta_of b; history = h; workspaces = l; upgraded = u; events = events; end = end }) (form ∙ sym (ap upgraded_of is))
    ∙ ap (λ (t : State). record t { history = h }) view

pub grown_fit : (begun new : Begun) (h : History) (ws : List (Option Kept)) → new.meta ≡ begun.meta → new.history.history ≡ h
    → All (FitsAny begun.meta h) ws → AllFit (Some new) ws
grown_fit begun new h ws meta hist all =
    subst (λ (m : Meta). All (FitsAny m new.history.history) ws) (sym meta) (subst (λ (g : History). All (FitsAny begun.meta g) ws) (sym hist) all)

-- ---- Checkout
map_more : (ws : List (Option Kept)) (x : Option Kept) → map plain_any (ws ++ x ∷ []) ≡ map plain_any ws ++ plain_any x ∷ []
map_more [] x = refl
map_more (w ∷ ws) x = ap (λ (l : List (Option Workspace)). plain_any w ∷ l) (map_more ws x)

-- a workspace more
pub pushed_view : (b : Option Begun) (ws : List (Option Kept)) (events end : ℕ) (s : State) (w : Kept) (version branch : ℕ)
    → held b (map plain_any ws) events end ≡ s → plain_of w ≡ untouched branch version
    → held b (map plain_any (ws ++ Some w ∷ [])) events end ≡ with_checkout version branch s
pushed_view b ws events end s w version branch view is =
    ap (λ (l : List (Option Workspace)). held b l events end) (map_more ws (Some w))
    ∙ ap (λ (o : Workspace). held b (map plain_any ws ++ Some o ∷ []) events end) is
    ∙ ap (λ (t : State). record t { workspaces = t.workspaces ++ Some (untouched branch version) ∷ [] }) view

pub pushed_order : (b : Option Begun) (ws new : List (Option Kept)) (events end : ℕ) (s : State) (meta : Meta) (w : Kept) (ok : Bool)
    (version branch : ℕ) → held b (map plain_any ws) events end ≡ s → s.meta ≡ Some meta
    → playable_with s s.meta (Checkout version branch) ≡ true → IsEvent (Checkout version branch) → IsOrderly s
    → plain_of w ≡ untouched branch version → new ≡ (if ok then ws ++ Some w ∷ [] else ws) → IsOrderly (held b (map plain_any new) events end)
pushed_order b ws new events end s meta w true version branch view begun could spelled orderly untouched_is is =
    subst (λ (l : List (Option Kept)). IsOrderly (held b (map plain_any l) events end)) (sym is)
    (effect_orderly s _ meta (Checkout version branch) begun could spelled orderly (pushed_view b ws events end s w version branch view untouched_is))
pushed_order b ws new events end s meta w false version branch view begun could spelled orderly untouched_is is =
    subst (λ (l : List (Option Kept)). IsOrderly (held b (map plain_any l) events end)) (sym is) (subst IsOrderly (sym view) orderly)

pub pushed_fit : (b : Option Begun) (ws new : List (Option Kept)) (w : Kept) (ok : Bool) → w.model ≡ None
    → new ≡ (if ok then ws ++ Some w ∷ [] else ws) → AllFit b ws → AllFit b new
pushed_fit None ws new w ok none is all = tt
pushed_fit (Some begun) ws new w true none is all =
    let P = FitsAny begun.meta begun.history.history in
    subst (All P) (sym is) (All-append P ws (Some w ∷ []) all (All-cons P (Some w) [] (none_fits begun.meta begun.history.history w none) (All-nil P)))
pushed_fit (Some begun) ws new w false none is all = subst (All (FitsAny begun.meta begun.history.history)) (sym is) all
