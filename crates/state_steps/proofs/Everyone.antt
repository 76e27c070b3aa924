-- All elements, each before those inside it.
use Rattle.std.proofs.Common.{◌≡◌, ℕ, true, List, [], ◌∷◌, refl, sym, ap, subst, ◌∙◌, inl, inr, zero, suc}
use Rattle.std.specs.Prelude.{Option, None, Some, is_some}
use Rattle.std.specs.FinMap.{get}
use Rattle.ecore_meta.specs.Meta.{Meta}
use Rattle.model_state.specs.declared.step.Place.{Place}
use Rattle.model_state.specs.declared.step.Place.TheVariants.{Root, Inside}
use Rattle.model_state.specs.Chains.{IsChain}
use Rattle.model_state.specs.Keys.{IdBytes}
use Rattle.model_state.specs.Good.{Good, PlaceOk}
use Rattle.model_state.specs.State.{State, is_live}
use Rattle.edit_steps.proofs.Creates.{placed_live}
use Rattle.edit_steps.specs.Subtree.{each, subtree_of, is_among}
use Rattle.edit_steps.proofs.Children.{has_children, child_there, children_have, children_once}
use Rattle.edit_steps.proofs.Containers.{live_place}
use Rattle.edit_steps.proofs.ElementsGone.{AllLive}
use Rattle.edit_steps.proofs.Forests.{IsForest, forest_joins}
use Rattle.edit_steps.proofs.Levels.{subtree_is}
use Rattle.edit_steps.proofs.Members.{In, Distinct, in_among}
use Rattle.edit_steps.proofs.Trees.{HasChildren, Ordered, Up, Spread, AsideAll, forest_below, forest_has, forest_ordered, all_below}
use Rattle.state_steps.specs.Whole.{roots_of, elements_of}

module _ (meta : Meta) (m : State) (good : Good meta m) where
  abbrev pub known : HasChildren meta m
  known = has_children meta m good

  forest_each : (rs : List IdBytes) → IsForest meta m rs (each (subtree_of meta m) rs)
  forest_each [] = tt
  forest_each (r ∷ rs) = forest_joins meta m (r ∷ []) rs (subtree_of meta m r) (each (subtree_of meta m) rs) (subtree_is meta m good known r) (forest_each rs)

  root_place : (r : IdBytes) → In r (roots_of m) → get m.place r ≡ Some Root
  root_place r is = child_there m Root r is

  clash : (o : Option Place) (a : IdBytes) (f : ℕ) → o ≡ Some Root → o ≡ Some (Inside a f) → ⊥
  clash o a f h g = cc

  -- nothing is up from a root but itself
  no_up : (r t : IdBytes) → get m.place r ≡ Some Root → (r ≡ t → ⊥) → (n : ℕ) → Up m.place n r t → ⊥
  no_up r t root differ zero up = differ up
  no_up r t root differ (suc n) up = clash (get m.place r) up.0 up.1 root up.2

  aside_roots : (r : IdBytes) (ts : List IdBytes) → get m.place r ≡ Some Root → ((t : IdBytes) → In t ts → get m.place t ≡ Some Root) → (In r ts → ⊥)
      → AsideAll m.place r ts
  aside_roots r [] root all apart = tt
  aside_roots r (t ∷ ts) root all apart = (
    (no_up r t root (λ e. apart (inl e)), no_up t r (all t (inl refl)) (λ e. apart (inl (sym e)))),
    aside_roots r ts root (λ z h. all z (inr h)) (λ h. apart (inr h)),
  )

  spread_roots : (rs : List IdBytes) → ((t : IdBytes) → In t rs → get m.place t ≡ Some Root) → Distinct rs → Spread m.place rs
  spread_roots [] all d = tt
  spread_roots (r ∷ rs) all d = (aside_roots r rs (all r (inl refl)) (λ z h. all z (inr h)) d.0, spread_roots rs (λ z h. all z (inr h)) d.1)

  pub all_ordered : Ordered meta m good known (elements_of meta m)
  all_ordered = forest_ordered meta m good known (roots_of m) (elements_of meta m)
      (spread_roots (roots_of m) root_place (children_once m Root meta good)) (forest_each (roots_of m))

  -- each element that stands somewhere is among them
  stands : (up : List IdBytes) (y : IdBytes) (o : Option Place) → get m.place y ≡ o → IsChain m.place o up → In y (elements_of meta m)
  stands up y None is chain = absurd chain
  stands up y (Some Root) is chain = forest_has meta m good known (roots_of m) (elements_of meta m) (forest_each (roots_of m)) y (children_have m Root y is)
  stands [] y (Some (Inside a f)) is chain = absurd chain
  stands (x ∷ xs) y (Some (Inside a f)) is chain =
      all_below meta m good known (elements_of meta m) all_ordered 1 y a
      (subst (λ z. In z (elements_of meta m)) chain.0 (stands xs x (get m.place x) refl chain.1)) (a, f, is, refl)

  pub everyone : (y : IdBytes) → is_live m y ≡ true → In y (elements_of meta m)
  everyone y live =
      let at = live_place meta m good y live in
      let chain = good.places.ends y at.0 at.1 in
      stands chain.0 y (Some at.0) at.1 chain.1

  live_root : (r : IdBytes) → get m.place r ≡ Some Root → is_live m r ≡ true
  live_root r is = by_ok (get m.kind r) (get m.prank r) (subst (λ o. PlaceOk meta m.kind (get m.kind r) o (get m.prank r)) is (good.places.stands r))
    where
      by_ok : (c : Option ℕ) (k : Option ℕ) → PlaceOk meta m.kind c (Some Root) k → is_some c ≡ true
      by_ok None None ok = absurd ok
      by_ok None (Some k) ok = absurd ok
      by_ok (Some c) k ok = refl

  live_up : (y r : IdBytes) (n : ℕ) → get m.place r ≡ Some Root → Up m.place n y r → is_live m y ≡ true
  live_up y r zero root up = ap (is_live m) up ∙ live_root r root
  live_up y r (suc n) root up =
      (placed_live meta m.kind (get m.kind y) (Inside up.0 up.1) (get m.prank y)
      (subst (λ o. PlaceOk meta m.kind (get m.kind y) o (get m.prank y)) up.2 (good.places.stands y))).0

  listed_live : (y : IdBytes) → In y (elements_of meta m) → is_live m y ≡ true
  listed_live y is =
      let under = forest_below meta m good known (roots_of m) (elements_of meta m) (forest_each (roots_of m)) y is in
      live_up y under.0 under.2 (root_place under.0 under.1) under.3

  pub all_live : (ys : List IdBytes) → ((y : IdBytes) → In y ys → In y (elements_of meta m)) → AllLive m ys
  all_live [] h = tt
  all_live (y ∷ ys) h = (listed_live y (h y (inl refl)), all_live ys (λ z l. h z (inr l)))

  pub distinct_from : (ys : List IdBytes) → Ordered meta m good known ys → Distinct ys
  distinct_from [] o = tt
  distinct_from (y ∷ ys) o = (o.1, distinct_from ys o.2)

  pub among_all : (y : IdBytes) → is_live m y ≡ true → is_among (elements_of meta m) y ≡ true
  among_all y live = in_among y (elements_of meta m) (everyone y live)
