-- An element is created, moved or deleted: what its tests have shown, and the steps taken one by one.
use Rattle.std.proofs.Common.{◌≡◌, ℕ, true, refl, sym, ap, subst, ◌∙◌}
use Rattle.std.specs.Prelude.{Option, None, Some, is_some, unwrap_or, Result, Ok, Err}
use Rattle.std.specs.FinMap.{get}
use Rattle.finite_maps.proofs.EqualLaws.{and_both}
use Rattle.ecore_meta.specs.Meta.{Meta}
use Rattle.model_state.specs.declared.step.Place.{Place}
use Rattle.model_state.specs.declared.step.Place.TheVariants as places
use Rattle.model_state.specs.Ident.{is_id}
use Rattle.model_state.specs.Keys.{IdBytes}
use Rattle.model_state.specs.State.{State, is_live}
use Rattle.model_state.specs.Steps.{fold, class_has}
use Rattle.model_state.specs.Typing.{kind_of, is_concrete, is_containment}
use Rattle.model_state.specs.Good.{Good, Sound}
use Rattle.edit_steps.specs.declared.fault.EditFault.{EditFault}
use Rattle.edit_steps.specs.declared.move_fault.MoveFault.{MoveFault}
use Rattle.edit_steps.specs.MoveRefusals.{IsPlace, create_refusal, create_tests, move_refusal, place_of}
use Rattle.edit_steps.specs.Moves.{move_after, move_made}
use Rattle.edit_steps.proofs.Containers.{live_place, parent_live}
use Rattle.edit_steps.proofs.MoveRefused as moves
use Rattle.edits.specs.declared.edit.Destination.{Destination}
use Rattle.edits.specs.declared.edit.Destination.TheVariants.{Root, Inside}
use Rattle.edit_steps.specs.Containers.{containers_of}
use Rattle.edits.specs.Edits.{Effect, Creates, Moves, Deletes, class_at, feature_at, place_inside, place_at, unless_full, new_effect, create_in}
use Rattle.edits.specs.Edits.{create_effect, move_in, move_effect, delete_effect}
use Rattle.edits.proofs.Allowed.{Allowed, MayMove, passed, missed, allowed_as}
use Rattle.edits.proofs.Chains.{chain_of, is_chain}
use Rattle.edits.proofs.Names.{class_held, feature_held}

not_full : (o : Option MoveFault) (r : Result Effect EditFault) (x : Effect) → unless_full o r ≡ Ok x → (o ≡ None) × (r ≡ Ok x)
not_full None r x h = (refl, h)
not_full (Some e) r x h = cc

same_place : (x y : Place) → ◌≡◌ {A = Result Place EditFault} (Ok x) (Ok y) → x ≡ y
same_place x y h = cc

-- ---- the place of a destination
inside_is : (meta : Meta) (m : State) (a : IdBytes) (r : Result ℕ EditFault) → ((f : ℕ) → r ≡ Ok f → class_has meta (get m.kind a) f ≡ true)
    → (p : Place) → place_inside meta a r ≡ Ok p → IsPlace meta m p
inside_is meta m a (Err e) held p h = cc
inside_is meta m a (Ok f) held p h =
    let contains = passed (is_containment (kind_of meta f)) _ _ p h in
    subst (IsPlace meta m) (same_place (places.Inside a f) p contains.1) (and_both _ _ (held f refl) contains.0)

pub place_is : (meta : Meta) (m : State) (to : Destination) (p : Place) → place_at meta m to ≡ Ok p → IsPlace meta m p
place_is meta m Root p h = subst (IsPlace meta m) (same_place places.Root p h) refl
place_is meta m (Inside a name) p h = inside_is meta m a (feature_at meta (class_at m a) name) (feature_held meta m a name) p h

-- ---- create
create_in_allowed : (meta : Meta) (m : State) → Good meta m → (c : ℕ) → is_concrete meta c ≡ true → (r : Result Place EditFault)
    → ((p : Place) → r ≡ Ok p → IsPlace meta m p) → (e : IdBytes) (effect : Effect) → create_in meta m c r e ≡ Ok effect → Allowed meta m effect
create_in_allowed meta m good c concrete (Err fault) is e effect h = cc
create_in_allowed meta m good c concrete (Ok p) is e effect h =
    let taken = not_full (create_refusal meta m c p) (new_effect m c p e) effect h in
    let formed = passed (is_id e) _ _ effect taken.1 in
    let fresh = missed (is_live m e) _ _ effect formed.1 in
    let t = moves.passed (create_tests meta m c p) taken.0 in
    allowed_as meta m (Creates e c p) effect fresh.1
    (record { fresh = fresh.0; parent = parent_live meta m good p (is p refl); concrete = concrete; typed = t.0; room = t.1.0; ranked = t.1.1.0 })

pub create_allowed : (meta : Meta) (m : State) → Good meta m → (o : Option ℕ) (to : Destination) (e : IdBytes) (effect : Effect)
    → create_effect meta m o to e ≡ Ok effect → Allowed meta m effect
create_allowed meta m good None to e effect h = cc
create_allowed meta m good (Some c) to e effect h =
    let concrete = passed (is_concrete meta c) _ _ effect h in
    create_in_allowed meta m good c concrete.0 (place_at meta m to) (place_is meta m to) e effect concrete.1

-- ---- move
move_in_allowed : (meta : Meta) (m : State) (e : IdBytes) → is_live m e ≡ true → (r : Result Place EditFault)
    → ((p : Place) → r ≡ Ok p → IsPlace meta m p) → (at : Option ℕ) (effect : Effect) → move_in meta m e r at ≡ Ok effect → Allowed meta m effect
move_in_allowed meta m e live (Err fault) is at effect h = cc
move_in_allowed meta m e live (Ok p) is at effect h =
    let taken = not_full (move_refusal meta m e p (containers_of m p) at) (Ok (Moves e p at)) effect h in
    allowed_as meta m (Moves e p at) effect taken.1 (record { live = live; is = is p refl; taken = taken.0 })

pub move_allowed : (meta : Meta) (m : State) (e : IdBytes) (to : Destination) (at : Option ℕ) (effect : Effect)
    → move_effect meta m e to at ≡ Ok effect → Allowed meta m effect
move_allowed meta m e to at effect h =
    let live = passed (is_some (class_at m e)) _ _ effect h in
    move_in_allowed meta m e (class_held m e live.0) (place_at meta m to) (place_is meta m to) at effect live.1

-- the steps are those of the move to the place
pub move_meets : (meta : Meta) → Sound meta → (m : State) → Good meta m → (e : IdBytes) (to : Place) (at : Option ℕ) → MayMove meta m e to at
    → fold meta m (move_made m e to at (containers_of m (place_of m e)) (containers_of m to)) ≡ Some (move_after m e to at)
move_meets meta sound m good e to at may =
    let here = live_place meta m good e may.live in
    let stands : get m.place e ≡ Some (place_of m e) = here.1 ∙ ap Some (sym (ap (λ o. unwrap_or o places.Root) here.1)) in
    let down = is_chain meta m good to (parent_live meta m good to may.is) in
    moves.move_leads meta sound m good e to at may.live may.is (containers_of m to) down may.taken
    (move_made m e to at (containers_of m (place_of m e)) (containers_of m to)) (record {
      up = containers_of m (place_of m e);
      above_from = chain_of meta m good (place_of m e) (good.places.ends e (place_of m e) stands);
      down = containers_of m to;
      above_to = down;
      made = refl;
    })

-- ---- delete
pub delete_allowed : (meta : Meta) (m : State) (e : IdBytes) (effect : Effect) → delete_effect m e ≡ Ok effect → Allowed meta m effect
delete_allowed meta m e effect h =
    let live = passed (is_some (class_at m e)) _ _ effect h in
    allowed_as meta m (Deletes e) effect live.1 (class_held m e live.0)
