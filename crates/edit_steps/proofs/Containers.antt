-- Places have containers.
use Rattle.std.proofs.Common.{◌≡◌, ℕ, true, List, [], ◌∷◌, refl, sym, ap, subst, ◌∙◌}
use Rattle.std.specs.Prelude.{Option, None, Some, is_some}
use Rattle.std.specs.FinMap.{FinMap, get}
use Rattle.finite_maps.specs.Equal.{text_eq}
use Rattle.finite_maps.proofs.EqualLaws.{and_both, and_first, text_equality}
use Rattle.ecore_meta.specs.Meta.{Meta}
use Rattle.model_state.specs.declared.step.Place.{Place}
use Rattle.model_state.specs.declared.step.Place.TheVariants.{Root, Inside}
use Rattle.model_state.specs.Keys.{IdBytes, id_cmp}
use Rattle.model_state.specs.State.{State, is_live}
use Rattle.model_state.specs.Steps.{chain_is, place_live}
use Rattle.model_state.specs.Good.{Good, PlaceOk}
use Rattle.model_state.specs.Chains.{IsChain}
use Rattle.model_laws.proofs.Births.{has_class}
use Rattle.edit_steps.specs.MoveRefusals.{IsPlace}

-- an element that is live stands somewhere
pub stands_somewhere : (meta : Meta) (kind : FinMap id_cmp ℕ) (c : Option ℕ) (p : Option Place) (r : Option ℕ) → is_some c ≡ true
    → PlaceOk meta kind c p r → (q : Place) × (p ≡ Some q) × (is_some r ≡ true)
stands_somewhere meta kind None p r live ok = cc
stands_somewhere meta kind (Some c) None r live ok = absurd ok
stands_somewhere meta kind (Some c) (Some q) None live ok = absurd ok
stands_somewhere meta kind (Some c) (Some q) (Some r) live ok = (q, refl, refl)

module _ (meta : Meta) (m : State) (good : Good meta m) where
  pub live_place : (e : IdBytes) → is_live m e ≡ true → (q : Place) × (get m.place e ≡ Some q) × (is_some (get m.prank e) ≡ true)
  live_place e live = stands_somewhere meta m.kind (get m.kind e) (get m.place e) (get m.prank e) live (good.places.stands e)

  -- the parent of a place is live
  pub parent_live : (p : Place) → IsPlace meta m p → place_live m p ≡ true
  parent_live Root is = refl
  parent_live (Inside a f) is = has_class meta (get m.kind a) f (and_first _ _ is)

  -- a place has containers
  pub has_chain : (p : Place) → place_live m p ≡ true → (xs : List IdBytes) × IsChain m.place (Some p) xs
  has_chain Root live = ([], tt)
  has_chain (Inside a f) live =
      let at = live_place a live in
      let above = good.places.ends a at.0 at.1 in
      (a ∷ above.0, (refl, subst (λ o. IsChain m.place o above.0) (sym at.1) above.1))

-- what is the chain passes the test
pub chain_passes : (place : FinMap id_cmp Place) (o : Option Place) (xs : List IdBytes) → IsChain place o xs → chain_is place o xs ≡ true
chain_passes place None xs h = absurd h
chain_passes place (Some Root) [] h = refl
chain_passes place (Some Root) (x ∷ xs) h = absurd h
chain_passes place (Some (Inside a f)) [] h = absurd h
chain_passes place (Some (Inside a f)) (x ∷ xs) h = and_both _ _ (ap (text_eq x) (sym h.0) ∙ text_equality.own x) (chain_passes place (get place x) xs h.1)

-- an element has one chain of containers
pub one_chain : (m : State) (o : Option Place) (xs ys : List IdBytes) → IsChain m.place o xs → IsChain m.place o ys → xs ≡ ys
one_chain m None xs ys g h = absurd g
one_chain m (Some Root) [] [] g h = refl
one_chain m (Some Root) [] (y ∷ ys) g h = absurd h
one_chain m (Some Root) (x ∷ xs) ys g h = absurd g
one_chain m (Some (Inside a f)) [] ys g h = absurd g
one_chain m (Some (Inside a f)) (x ∷ xs) [] g h = absurd h
one_chain m (Some (Inside a f)) (x ∷ xs) (y ∷ ys) g h =
    let same : x ≡ y = g.0 ∙ sym h.0 in
    let rest = one_chain m (get m.place x) xs ys g.1 (subst (λ z. IsChain m.place (get m.place z) ys) (sym same) h.1) in
    λ i. same i ∷ rest i
