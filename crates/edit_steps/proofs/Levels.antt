-- An element has a subtree, whose levels are no more than the elements.
use Rattle.std.proofs.Common.{◌≡◌, ℕ, ◌+◌, ◌<◌, ◌≤◌, suc, zero, true, false, List, [], ◌∷◌, refl, sym, ap, subst, ◌∙◌, arith, length, map, inl, inr}
use Rattle.std.proofs.lemmas.List.{append-nil}
use Rattle.std.specs.Prelude.{Option, None, Some, is_some}
use Rattle.std.specs.FinMap.{FinMap, get, entries}
use Rattle.std.specs.Ordering.{eq_by_cmp}
use Rattle.finite_maps.specs.Maps.{count, counts, set, tally}
use Rattle.finite_maps.proofs.Cases.{not_so}
use Rattle.finite_maps.proofs.CountLaws.{count-set}
use Rattle.finite_maps.proofs.MapLaws.{get-set_other, same_key}
use Rattle.ecore_meta.specs.Meta.{Meta}
use Rattle.model_state.specs.declared.step.Place.TheVariants.{Inside}
use Rattle.model_state.specs.Keys.{IdBytes, id_cmp}
use Rattle.model_state.specs.Listing.{ids}
use Rattle.model_state.specs.State.{State, is_live}
use Rattle.model_state.specs.Good.{Good, PlaceOk}
use Rattle.model_state.proofs.Orders.{id_order}
use Rattle.edit_steps.proofs.Creates.{placed_live}
use Rattle.edit_steps.specs.Subtree.{children_of, each, levels, subtree_of}
use Rattle.edit_steps.proofs.Members.{In, Distinct}
use Rattle.edit_steps.proofs.Forests.{IsForest, IsSubtree, forest_joins, forest_one}
use Rattle.edit_steps.proofs.Trees.{HasChildren, Up, inside_at, no_loop, up_more}

-- ---- as many different keys are entries
counted : (e : IdBytes) (o : Option ℕ) → is_some o ≡ true → counts (λ _. true) e o ≡ 1
counted e None h = cc
counted e (Some v) h = refl

pub keys_fit : (kind : FinMap id_cmp ℕ) (xs : List IdBytes) → Distinct xs → ((x : IdBytes) → In x xs → is_some (get kind x) ≡ true)
    → length xs ≤ count (λ _. true) kind
keys_fit kind [] d there = omega arith
keys_fit kind (x ∷ xs) d there =
    let left = set kind x None in
    let sum : count (λ _. true) left + counts (λ _. true) x (get kind x) ≡ count (λ _. true) kind + 0 = count-set id_order (λ _. true) kind x None in
    let one = counted x (get kind x) (there x (inl refl)) in
    let rest : length xs ≤ count (λ _. true) left =
    keys_fit left xs d.1 (λ y is. ap is_some (get-set_other id_order kind x None y (other y is)) ∙ there y (inr is)) in
    more (length xs) (count (λ _. true) left) (counts (λ _. true) x (get kind x)) (count (λ _. true) kind) rest one sum
  where
    other : (y : IdBytes) → In y xs → eq_by_cmp id_cmp y x ≡ false
    other y is = not_so (eq_by_cmp id_cmp y x) (λ tied. d.0 (subst (λ (z : IdBytes). In z xs) (same_key id_order y x tied) is))

    more : (n c o k : ℕ) → n ≤ c → o ≡ 1 → c + o ≡ k + 0 → suc n ≤ k
    more n c o k h e s = omega arith

all_counted : {A : Type 0} (xs : List A) → tally (λ _. true) xs ≡ length xs
all_counted [] = refl
all_counted (x ∷ xs) = ap (λ n. 1 + n) (all_counted xs) ∙ turned (length xs)
  where
    turned : (n : ℕ) → 1 + n ≡ suc n
    turned n = omega arith

length-map : {A B : Type 0} (h : A → B) (xs : List A) → length (map h xs) ≡ length xs
length-map h [] = refl
length-map h (x ∷ xs) = ap suc (length-map h xs)

many_ids : (m : State) → count (λ _. true) m.kind ≡ length (ids m)
many_ids m = all_counted (entries m.kind) ∙ sym (length-map (λ (e : IdBytes × ℕ). e.0) (entries m.kind))

module _ (meta : Meta) (m : State) (good : Good meta m) where
  -- an element and those above it, below another
  abbrev path : (n : ℕ) (y e : IdBytes) → Up m.place n y e → List IdBytes
  path zero y e up = []
  path (suc n) y e up = y ∷ path n up.0 e up.3

  path_long : (n : ℕ) (y e : IdBytes) (up : Up m.place n y e) → length (path n y e up) ≡ n
  path_long zero y e up = refl
  path_long (suc n) y e up = ap suc (path_long n up.0 e up.3)

  path_above : (n : ℕ) (y e : IdBytes) (up : Up m.place n y e) (z : IdBytes) → In z (path n y e up) → (k : ℕ) × Up m.place k y z
  path_above zero y e up z h = absurd h
  path_above (suc n) y e up z (inl h) = (0, sym h)
  path_above (suc n) y e up z (inr h) = let rest = path_above n up.0 e up.3 z h in (suc rest.0, (up.0, up.1, up.2, rest.1))

  path_distinct : (n : ℕ) (y e : IdBytes) (up : Up m.place n y e) → Distinct (path n y e up)
  path_distinct zero y e up = tt
  path_distinct (suc n) y e up = (
    λ h. let again = path_above n up.0 e up.3 y h in no_loop meta m good again.0 y (up.0, up.1, up.2, again.1),
    path_distinct n up.0 e up.3,
  )

  path_live : (n : ℕ) (y e : IdBytes) (up : Up m.place n y e) (z : IdBytes) → In z (path n y e up) → is_live m z ≡ true
  path_live zero y e up z h = absurd h
  path_live (suc n) y e up z (inl h) =
      ap (is_live m) h ∙ (placed_live meta m.kind (get m.kind y) (Inside up.0 up.1) (get m.prank y)
      (subst (λ o. PlaceOk meta m.kind (get m.kind y) o (get m.prank y)) up.2 (good.places.stands y))).0
  path_live (suc n) y e up z (inr h) = path_live n up.0 e up.3 z h

  -- nothing stands deeper below an element than there are live elements
  pub bounded : (e : IdBytes) (n : ℕ) (y : IdBytes) → Up m.place n y e → n < suc (length (ids m))
  bounded e n y up =
      less n (length (path n y e up)) (count (λ _. true) m.kind) (length (ids m)) (path_long n y e up)
      (keys_fit m.kind (path n y e up) (path_distinct n y e up) (path_live n y e up)) (many_ids m)
    where
      less : (n p c k : ℕ) → p ≡ n → p ≤ c → c ≡ k → n < suc k
      less n p c k h g e = omega arith

  module _ (known : HasChildren meta m) where
    -- the children's forest, where each child has its subtree
    each_forest : (h : IdBytes → List IdBytes) (cs : List IdBytes) → ((c : IdBytes) → In c cs → IsSubtree meta m c (h c)) → IsForest meta m cs (each h cs)
    each_forest h [] all = tt
    each_forest h (c ∷ cs) all = forest_joins meta m (c ∷ []) cs (h c) (each h cs) (all c (inl refl)) (each_forest h cs (λ d is. all d (inr is)))

    pub one_forest : (h : IdBytes → List IdBytes) (e : IdBytes) → ((c : IdBytes) → In c (children_of meta m e) → IsSubtree meta m c (h c))
        → IsSubtree meta m e (e ∷ each h (children_of meta m e))
    one_forest h e all = (
      refl,
      subst (λ l. IsForest meta m l (each h (children_of meta m e))) (sym (append-nil (children_of meta m e)))
          (each_forest h (children_of meta m e) all),
    )

    levels_forest : (n : ℕ) (e : IdBytes) → ((k : ℕ) (y : IdBytes) → Up m.place k y e → k < n) → IsSubtree meta m e (levels meta m n e)
    levels_forest zero e deep = absurd (none (deep 0 e refl))
      where
        none : 0 < 0 → ⊥
        none h = omega arith
    levels_forest (suc n) e deep = one_forest (levels meta m n) e (λ c is.
        let at = inside_at m.place e c (children_of meta m e) (known.inside e) is in
        levels_forest n c (λ k y up. less k n (deep (suc k) y (up_more m.place k y c e at.0 up at.1))))
      where
        less : (k n : ℕ) → suc k < suc n → k < n
        less k n h = omega arith

    pub subtree_is : (e : IdBytes) → IsSubtree meta m e (subtree_of meta m e)
    subtree_is e = levels_forest (suc (length (ids m))) e (bounded e)

    pub in_order : (e : IdBytes) → subtree_of meta m e ≡ e ∷ each (subtree_of meta m) (children_of meta m e)
    in_order e = forest_one meta m (e ∷ []) (subtree_of meta m e) (e ∷ each (subtree_of meta m) (children_of meta m e)) (subtree_is e)
        (one_forest (subtree_of meta m) e (λ c is. subtree_is c))
