-- No element stands deeper than there are elements, so each object is whole.
use Rattle.std.proofs.Common.{◌≡◌, ℕ, ◌+◌, ◌-◌, ◌<◌, ◌≤◌, zero, suc, Bool, true, false, cond, List, [], ◌∷◌, length, refl, sym, ap, subst, ◌∙◌, arith}
use Rattle.std.specs.Prelude.{Option, None, Some, is_some}
use Rattle.std.specs.List.{AllByRecursion}
use Rattle.std.specs.Ordering.{eq_by_cmp}
use Rattle.std.specs.FinMap.{FinMap, get, len, remove, len-remove, get-empty, empty_of_len}
use Rattle.finite_maps.proofs.MapLaws.{same_key, get-set_other}
use Rattle.serde_json.specs.Data.{object, no_members}
use Rattle.ecore_meta.specs.Meta.{Meta}
use Rattle.model_state.specs.declared.step.Place.{Place}
use Rattle.model_state.specs.declared.step.Place.TheVariants.{Root, Inside}
use Rattle.model_state.specs.Good.{GoodPlaces, IsChain, PlaceOk}
use Rattle.model_state.specs.Keys.{IdBytes, id_cmp}
use Rattle.model_state.specs.State.{State}
use Rattle.model_state.proofs.Orders.{id_order}
use Rattle.model_texts.specs.Laws.{IsNested, TextIsWhole}
use Rattle.model_texts.specs.Tree.{child_ids, element, object_of, whole}
use Rattle.model_texts.proofs.Children.{all_weaker, each_child}
use Rattle.model_texts.proofs.Objects.{same_object}

-- each differs from those after it
abbrev Apart : List IdBytes → Type 0
Apart [] = Unit {0}
Apart (x ∷ xs) = AllByRecursion (λ y. y ≡ x → ⊥) xs × Apart xs

-- ---- names that differ and are live are no more than the entries

unequal_keys : (x y : IdBytes) → (y ≡ x → ⊥) → eq_by_cmp id_cmp y x ≡ false
unequal_keys x y h =
    elim (eq_by_cmp id_cmp y x) as (λ b. eq_by_cmp id_cmp y x ≡ b → b ≡ false) [
      | true ↦ λ e. absurd (h (same_key id_order y x e))
      | false ↦ λ e. refl
    ] refl

one_gone : (b : Bool) (n m k : ℕ) → b ≡ true → n ≡ cond b (m - 1) m → 0 < m → k ≤ n → suc k ≤ m
one_gone true n m k h e p l = omega arith
one_gone false n m k h e p l = cc

none_some : {A : Type 0} (o : Option A) → o ≡ None → is_some o ≡ true → ⊥
none_some None e h = cc
none_some (Some x) e h = cc

positive : (n : ℕ) → (n ≡ 0 → ⊥) → 0 < n
positive zero h = absurd (h refl)
positive (suc n) h = omega arith

some_there : (kind : FinMap id_cmp ℕ) (x : IdBytes) → is_some (get kind x) ≡ true → 0 < len kind
some_there kind x h = positive (len kind) (λ e. none_some (get kind x) (ap (λ (k : FinMap id_cmp ℕ). get k x) (empty_of_len kind e) ∙ get-empty id_cmp x) h)

still_live : (kind : FinMap id_cmp ℕ) (x : IdBytes) (xs : List IdBytes) → AllByRecursion (λ y. y ≡ x → ⊥) xs
    → AllByRecursion (λ y. is_some (get kind y) ≡ true) xs → AllByRecursion (λ y. is_some (get (remove kind x) y) ≡ true) xs
still_live kind x [] apart live = tt
still_live kind x (y ∷ ys) apart live =
    (ap is_some (get-set_other id_order kind x None y (unequal_keys x y apart.0)) ∙ live.0, still_live kind x ys apart.1 live.1)

live_len : (xs : List IdBytes) (kind : FinMap id_cmp ℕ) → Apart xs → AllByRecursion (λ x. is_some (get kind x) ≡ true) xs → length xs ≤ len kind
live_len [] kind apart live = omega arith
live_len (x ∷ xs) kind apart live =
    one_gone (is_some (get kind x)) (len (remove kind x)) (len kind) (length xs) live.0 (len-remove id_order.total kind x) (some_there kind x live.0)
    (live_len xs (remove kind x) apart.1 (still_live kind x xs apart.0 live.1))

-- ---- a chain of containers has no element twice
module _ (place : FinMap id_cmp Place) where
  one_chain : (o : Option Place) (xs ys : List IdBytes) → IsChain place o xs → IsChain place o ys → length xs ≡ length ys
  one_chain None xs ys g h = absurd g
  one_chain (Some Root) [] [] g h = refl
  one_chain (Some Root) [] (y ∷ ys) g h = absurd h
  one_chain (Some Root) (x ∷ xs) ys g h = absurd g
  one_chain (Some (Inside a f)) [] ys g h = absurd g
  one_chain (Some (Inside a f)) (x ∷ xs) [] g h = absurd h
  one_chain (Some (Inside a f)) (x ∷ xs) (y ∷ ys) g h =
      ap suc (one_chain (get place x) xs ys g.1 (subst (λ z. IsChain place (get place z) ys) (h.0 ∙ sym g.0) h.1))

  not_above : (e : IdBytes) (ys : List IdBytes) → IsChain place (get place e) ys → (o : Option Place) (xs : List IdBytes) → IsChain place o xs
      → length xs ≤ length ys → AllByRecursion (λ x. x ≡ e → ⊥) xs
  not_above e ys of_e o [] c less = tt
  not_above e ys of_e None (x ∷ xs) c less = absurd c
  not_above e ys of_e (Some Root) (x ∷ xs) c less = absurd c
  not_above e ys of_e (Some (Inside a f)) (x ∷ xs) c less = (
    (λ h. let l = one_chain (get place e) xs ys (subst (λ z. IsChain place (get place z) xs) h c.1) of_e in omega arith),
    not_above e ys of_e (get place x) xs c.1 (omega arith),
  )

  chain_apart : (o : Option Place) (xs : List IdBytes) → IsChain place o xs → Apart xs
  chain_apart o [] c = tt
  chain_apart None (x ∷ xs) c = absurd c
  chain_apart (Some Root) (x ∷ xs) c = absurd c
  chain_apart (Some (Inside a f)) (x ∷ xs) c = (not_above x xs c.1 (get place x) xs c.1 (omega arith), chain_apart (get place x) xs c.1)

-- ---- an element that stands is live, and one that is not live does not stand
module _ (meta : Meta) (kind : FinMap id_cmp ℕ) where
  placed_live : (c : Option ℕ) (q : Option Place) (r : Option ℕ) (p : Place) → PlaceOk meta kind c q r → q ≡ Some p → is_some c ≡ true
  placed_live None None r p ok at = cc
  placed_live None (Some q) r p ok at = absurd ok
  placed_live (Some c) q r p ok at = refl

  chained_live : (c : Option ℕ) (q : Option Place) (r : Option ℕ) (place : FinMap id_cmp Place) (xs : List IdBytes) → PlaceOk meta kind c q r
      → IsChain place q xs → is_some c ≡ true
  chained_live c None r place xs ok chain = absurd chain
  chained_live None (Some q) r place xs ok chain = absurd ok
  chained_live (Some c) (Some q) r place xs ok chain = refl

  not_placed : (c : Option ℕ) (q : Option Place) (r : Option ℕ) → PlaceOk meta kind c q r → q ≡ None → c ≡ None
  not_placed None q r ok is = refl
  not_placed (Some c) None r ok is = absurd ok
  not_placed (Some c) (Some p) r ok is = cc

module _ (meta : Meta) (m : State) (good : GoodPlaces meta m.kind m.place m.prank) where
  live_chain : (o : Option Place) (xs : List IdBytes) → IsChain m.place o xs → AllByRecursion (λ x. is_some (get m.kind x) ≡ true) xs
  live_chain o [] c = tt
  live_chain None (x ∷ xs) c = absurd c
  live_chain (Some Root) (x ∷ xs) c = absurd c
  live_chain (Some (Inside a f)) (x ∷ xs) c =
      (chained_live meta m.kind (get m.kind x) (get m.place x) (get m.prank x) m.place xs (good.stands x) c.1, live_chain (get m.place x) xs c.1)

  -- the containers of an element are fewer than the elements
  above_less : (e : IdBytes) (p : Place) (xs : List IdBytes) → get m.place e ≡ Some p → IsChain m.place (Some p) xs → length xs < len m.kind
  above_less e p xs at chain =
      let own : IsChain m.place (get m.place e) xs = subst (λ o. IsChain m.place o xs) (sym at) chain in
      let l = live_len (e ∷ xs) m.kind (not_above m.place e xs own (get m.place e) xs own (omega arith), chain_apart m.place (get m.place e) xs own)
      (placed_live meta m.kind (get m.kind e) (get m.place e) (get m.prank e) p (good.stands e) at, live_chain (get m.place e) xs own) in
      omega arith

  deep_enough : (n : ℕ) (e : IdBytes) (p : Place) (xs : List IdBytes) → get m.place e ≡ Some p → IsChain m.place (Some p) xs
      → len m.kind ≤ length xs + n → element meta m (suc n) e ≡ element meta m n e
  unfolding element
  deep_enough zero e p xs at chain enough = let l = above_less e p xs at chain in absurd (omega arith)
  deep_enough (suc n) e p xs at chain enough =
      same_object meta m (element meta m (suc n)) (element meta m n) e (get m.kind e) (λ f.
      all_weaker _ _ (λ c inside. deep_enough n c (Inside e f) (e ∷ xs) inside (refl, subst (λ o. IsChain m.place o xs) (sym at) chain) (omega arith))
      (child_ids m (Inside e f)) (each_child m (Inside e f)))

  not_live : (n : ℕ) (e : IdBytes) → get m.kind e ≡ None → element meta m n e ≡ object no_members
  unfolding element
  not_live zero e is = refl
  not_live (suc n) e is = ap (object_of meta m (element meta m n) e) is

  nested : IsNested meta m
  unfolding whole element
  nested e = elim (get m.place e) as (λ o. get m.place e ≡ o → whole meta m e ≡ object_of meta m (whole meta m) e (get m.kind e)) [
    | None ↦ λ is. let none = not_placed meta m.kind (get m.kind e) (get m.place e) (get m.prank e) (good.stands e) is
        in not_live (len m.kind) e none ∙ sym (ap (object_of meta m (whole meta m) e) none)
    | Some p ↦ λ is. let chain = good.ends e p is in sym (deep_enough (len m.kind) e p chain.0 is chain.1 (omega arith))
  ] refl

pub text_is_whole : TextIsWhole
text_is_whole meta m good = nested meta m good.places
