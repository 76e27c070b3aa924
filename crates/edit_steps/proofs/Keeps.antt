-- A deletion keeps what stays.
use Rattle.std.proofs.Common.{◌≡◌, ℕ, Bool, true, false, cond, not, List, ◌∷◌, refl, sym, ap, subst, ◌∙◌, ◌&&◌, ◌||◌}
use Rattle.std.specs.Prelude.{Option, None, Some, is_some, unwrap_or}
use Rattle.std.specs.FinMap.{FinMap, get}
use Rattle.finite_maps.proofs.Cases.{no_some}
use Rattle.finite_maps.proofs.NestedLaws.{get-without}
use Rattle.ecore_meta.specs.Meta.{Meta}
use Rattle.ecore_meta.specs.declared.meta.Value.{Value}
use Rattle.model_state.specs.declared.step.Place.{Place}
use Rattle.model_state.specs.declared.step.Place.TheVariants.{Root}
use Rattle.model_state.specs.Keys.{IdBytes, AttrKey, RowKey, id_cmp}
use Rattle.model_state.specs.State.{State, is_live}
use Rattle.model_state.specs.Good.{Good, AttrOk, RowOk, PlaceOk}
use Rattle.model_state.specs.Chains.{IsChain}
use Rattle.model_state.proofs.Orders.{attr_order, id_order, row_order}
use Rattle.edit_steps.specs.Containers.{containers_of}
use Rattle.edit_steps.specs.Deletes.{delete_after}
use Rattle.edit_steps.specs.PlaceLaws.{DeleteKeeps}
use Rattle.edit_steps.specs.MoveRefusals.{place_of}
use Rattle.edit_steps.specs.Stays.{stays, Keeps}
use Rattle.edit_steps.specs.Subtree.{is_among, subtree_of}
use Rattle.edit_steps.proofs.ContainerLists.{containers_are_chain}
use Rattle.edit_steps.proofs.Containers.{live_place}
use Rattle.edit_steps.proofs.DeleteLaws.{subtree_is_below}

turned : {A : Type 0} (b : Bool) (x y : A) → cond b x y ≡ cond (not b) y x
turned true x y = refl
turned false x y = refl

none_either : {A : Type 0} (b : Bool) (o : Option A) → o ≡ None → cond b None o ≡ None
none_either true o h = refl
none_either false o h = h

live_either : {A : Type 0} (b : Bool) (o : Option A) → is_some (cond b o None) ≡ is_some o && b
live_either true None = refl
live_either true (Some x) = refl
live_either false None = refl
live_either false (Some x) = refl

and_cut : (b c : Bool) → b && (b && c) ≡ b && c
and_cut true c = refl
and_cut false c = refl

no_place : (meta : Meta) (kind : FinMap id_cmp ℕ) (c : Option ℕ) (p : Option Place) (r : Option ℕ) → c ≡ None → PlaceOk meta kind c p r
    → (p ≡ None) × (r ≡ None)
no_place meta kind None None None dead ok = (refl, refl)
no_place meta kind None None (Some r) dead ok = absurd ok
no_place meta kind None (Some p) None dead ok = absurd ok
no_place meta kind None (Some p) (Some r) dead ok = absurd ok
no_place meta kind (Some c) p r dead ok = cc

no_values : (meta : Meta) (c : Option ℕ) (f : ℕ) (o : Option (List Value)) → c ≡ None → AttrOk meta c f o → o ≡ None
no_values meta c f None dead ok = refl
no_values meta None f (Some vs) dead ok = absurd ok
no_values meta (Some c) f (Some vs) dead ok = cc

no_source : (meta : Meta) (c : Option ℕ) (f : ℕ) (d : Option ℕ) (o : Option ℕ) → c ≡ None → RowOk meta c f d o → o ≡ None
no_source meta c f d None dead ok = refl
no_source meta None f d (Some r) dead ok = cc
no_source meta (Some c) f d (Some r) dead ok = cc

no_target : (meta : Meta) (c : Option ℕ) (f : ℕ) (d : Option ℕ) (o : Option ℕ) → d ≡ None → RowOk meta c f d o → o ≡ None
no_target meta c f d None dead ok = refl
no_target meta None f None (Some r) dead ok = cc
no_target meta (Some c) f None (Some r) dead ok = cc
no_target meta c f (Some d) (Some r) dead ok = cc

module _ (meta : Meta) (m : State) (good : Good meta m) (e : IdBytes) where
  abbrev gone : IdBytes → Bool
  gone y = is_among (subtree_of meta m e) y

  -- a live element is deleted where it is e or has e among its containers
  gone_is : (y : IdBytes) → is_live m y ≡ true → gone y ≡ is_among (y ∷ containers_of m (place_of m y)) e
  gone_is y live =
      let at = live_place meta m good y live in
      let up = good.places.ends y at.0 at.1 in
      let here : at.0 ≡ place_of m y = sym (ap (λ o. unwrap_or o Root) at.1) in
      let above : containers_of m (place_of m y) ≡ up.0 =
      containers_are_chain meta m good (place_of m y) up.0 (subst (λ p. IsChain m.place (Some p) up.0) here up.1) in
      subtree_is_below meta m good e y up.0 (subst (λ o. IsChain m.place o up.0) (sym at.1) up.1) ∙ ap (λ xs. is_among (y ∷ xs) e) (sym above)

  -- what a live element has stays where it isn't deleted, and an element that isn't live has nothing
  kept : {A : Type 0} (y : IdBytes) (o : Option A) → (get m.kind y ≡ None → o ≡ None) → cond (gone y) None o ≡ cond (stays m e y) o None
  kept y o dead =
      elim (is_live m y) as (λ b. is_live m y ≡ b → cond (gone y) None o ≡ cond (b && not (is_among (y ∷ containers_of m (place_of m y)) e)) o None) [
        | true ↦ λ live. turned (gone y) None o ∙ ap (λ b. cond (not b) o None) (gone_is y live)
        | false ↦ λ no. none_either (gone y) o (dead (no_some (get m.kind y) no))
      ] refl

  kept_pair : (y z : IdBytes) (o : Option ℕ) → (get m.kind y ≡ None → o ≡ None) → (get m.kind z ≡ None → o ≡ None)
      → cond (gone y || gone z) None o ≡ cond (stays m e y && stays m e z) o None
  kept_pair y z o from to =
      either (gone y) (gone z) o ∙ ap (λ w. cond (gone y) None w) (kept z o to)
      ∙ kept y (cond (stays m e z) o None) (λ dead. cut (stays m e z) o (from dead)) ∙ both (stays m e y) (stays m e z) o
    where
      either : (b c : Bool) (o : Option ℕ) → cond (b || c) None o ≡ cond b None (cond c None o)
      either true c o = refl
      either false c o = refl

      both : (b c : Bool) (o : Option ℕ) → cond b (cond c o None) None ≡ cond (b && c) o None
      both true c o = refl
      both false c o = refl

      cut : (b : Bool) (o : Option ℕ) → o ≡ None → cond b o None ≡ None
      cut true o h = h
      cut false o h = refl

  class_kept : (y : IdBytes) → get (delete_after meta m e).kind y ≡ cond (stays m e y) (get m.kind y) None
  class_kept y = get-without id_order gone m.kind y ∙ kept y (get m.kind y) (λ dead. dead)

  pub keeps : Keeps m (delete_after meta m e) e
  keeps = record {
    live = λ y. ap is_some (class_kept y) ∙ live_either (stays m e y) (get m.kind y)
        ∙ and_cut (is_live m y) (not (is_among (y ∷ containers_of m (place_of m y)) e));
    class = class_kept;
    place = λ y. get-without id_order gone m.place y
        ∙ kept y (get m.place y) (λ dead. (no_place meta m.kind (get m.kind y) (get m.place y) (get m.prank y) dead (good.places.stands y)).0);
    rank = λ y. get-without id_order gone m.prank y
        ∙ kept y (get m.prank y) (λ dead. (no_place meta m.kind (get m.kind y) (get m.place y) (get m.prank y) dead (good.places.stands y)).1);
    values = λ y f. get-without attr_order (λ (k : AttrKey). gone k.0) m.attr (y, f)
        ∙ kept y (get m.attr (y, f)) (λ dead. no_values meta (get m.kind y) f (get m.attr (y, f)) dead (good.attrs.typed y f));
    reference = λ y f z.
        get-without row_order (λ (k : RowKey). gone k.0 || gone k.2) m.row (y, f, z)
        ∙ kept_pair y z (get m.row (y, f, z))
        (λ dead. no_source meta (get m.kind y) f (get m.kind z) (get m.row (y, f, z)) dead (good.rows.typed y f z))
        (λ dead. no_target meta (get m.kind y) f (get m.kind z) (get m.row (y, f, z)) dead (good.rows.typed y f z));
  }

pub delete_keeps : DeleteKeeps
delete_keeps meta m good e = keeps meta m good e
