-- Elements under others, and how deep they stand.
use Rattle.std.proofs.Common.{◌≡◌, ℕ, zero, suc, ◌+◌, List, [], ◌∷◌, length, refl, sym, ap, subst, ◌∙◌, arith}
use Rattle.std.specs.Prelude.{Option, None, Some, option_and_then}
use Rattle.std.specs.FinMap.{get}
use Rattle.model_state.specs.declared.step.Place.{Place}
use Rattle.model_state.specs.declared.step.Place.TheVariants.{Root, Inside}
use Rattle.model_state.specs.Chains.{IsChain, parent_of}
use Rattle.model_state.specs.Keys.{IdBytes}
use Rattle.model_state.specs.State.{State}

-- the container
abbrev pub up : State → IdBytes → Option IdBytes
up m x = option_and_then parent_of (get m.place x)

-- the container so many levels up
abbrev pub above : State → ℕ → IdBytes → Option IdBytes
above m zero x = Some x
above m (suc k) x = option_and_then (up m) (above m k x)

-- the second element is the first, or inside it
abbrev pub Under : State → IdBytes → IdBytes → Type 0
Under m e x = (k : ℕ) × (above m k x ≡ Some e)

-- the element stands so many levels deep
abbrev pub Level : State → IdBytes → ℕ → Type 0
Level m x n = (xs : List IdBytes) × IsChain m.place (get m.place x) xs × (length xs ≡ n)

module _ (m : State) where
  pub under_own : (e : IdBytes) → Under m e e
  under_own e = (0, refl)

  pub above_up : (e c x : IdBytes) (k : ℕ) → up m c ≡ Some e → above m k x ≡ Some c → above m (suc k) x ≡ Some e
  above_up e c x k is at = ap (option_and_then (up m)) at ∙ is

  pub under_up : (e c x : IdBytes) → up m c ≡ Some e → Under m c x → Under m e x
  under_up e c x is u = (suc u.0, ap (option_and_then (up m)) u.1 ∙ is)

  pub inside_up : (e c : IdBytes) (f : ℕ) → get m.place c ≡ Some (Inside e f) → up m c ≡ Some e
  inside_up e c f at = ap (option_and_then parent_of) at

  one_chain : (o : Option Place) (xs ys : List IdBytes) → IsChain m.place o xs → IsChain m.place o ys → length xs ≡ length ys
  one_chain None xs ys g h = absurd g
  one_chain (Some Root) [] [] g h = refl
  one_chain (Some Root) [] (y ∷ ys) g h = absurd h
  one_chain (Some Root) (x ∷ xs) ys g h = absurd g
  one_chain (Some (Inside a f)) [] ys g h = absurd g
  one_chain (Some (Inside a f)) (x ∷ xs) [] g h = absurd h
  one_chain (Some (Inside a f)) (x ∷ xs) (y ∷ ys) g h =
      ap suc (one_chain (get m.place x) xs ys g.1 (subst (λ z. IsChain m.place (get m.place z) ys) (h.0 ∙ sym g.0) h.1))

  pub one_level : (x : IdBytes) (i j : ℕ) → Level m x i → Level m x j → i ≡ j
  one_level x i j g h = sym g.2 ∙ one_chain (get m.place x) g.0 h.0 g.1 h.1 ∙ h.2

  pub root_level : (x : IdBytes) → get m.place x ≡ Some Root → Level m x 0
  root_level x at = ([], subst (λ o. IsChain m.place o []) (sym at) tt, refl)

  pub inside_level : (e c : IdBytes) (f j : ℕ) → get m.place c ≡ Some (Inside e f) → Level m e j → Level m c (suc j)
  inside_level e c f j at l = (e ∷ l.0, subst (λ o. IsChain m.place o (e ∷ l.0)) (sym at) (refl, l.1), ap suc l.2)

  up_level : (o : Option Place) (y c : IdBytes) (j : ℕ) → get m.place y ≡ o → option_and_then parent_of o ≡ Some c → Level m c j → Level m y (suc j)
  up_level None y c j at is l = cc
  up_level (Some Root) y c j at is l = cc
  up_level (Some (Inside a f)) y c j at is l = let same : a ≡ c = cc in inside_level c y f j (at ∙ ap (λ (z : IdBytes). Some (Inside z f)) same) l

  -- what is under an element stands as much deeper
  pub lift_level : (k : ℕ) (x c : IdBytes) (j : ℕ) → above m k x ≡ Some c → Level m c j → Level m x (k + j)
  lift_level zero x c j is l = let same : x ≡ c = cc in subst (λ z. Level m z (0 + j)) (sym same) (l.0, l.1, l.2 ∙ none j)
    where
      none : (j : ℕ) → j ≡ 0 + j
      none j = omega arith
  lift_level (suc k) x c j is l = by_above (above m k x) refl is
      (λ y at up_is. lift_level k x y (suc j) at (up_level (get m.place y) y c j refl up_is l))
    where
      more : (k j : ℕ) → k + suc j ≡ suc k + j
      more k j = omega arith

      by_above : (o : Option IdBytes) → above m k x ≡ o → option_and_then (up m) o ≡ Some c
          → ((y : IdBytes) → above m k x ≡ Some y → up m y ≡ Some c → Level m x (k + suc j)) → Level m x (suc k + j)
      by_above None at is go = cc
      by_above (Some y) at is go = let l = go y at is in (l.0, l.1, l.2 ∙ more k j)

  -- an element has one container at each level
  pub same_above : (x c d : IdBytes) (j : ℕ) → Under m c x → Under m d x → Level m c j → Level m d j → c ≡ d
  same_above x c d j u v l n =
      let steps : u.0 ≡ v.0 = let e = one_level x (u.0 + j) (v.0 + j) (lift_level u.0 x c j u.1 l) (lift_level v.0 x d j v.1 n) in omega arith in
      let is : Some c ≡ Some d = sym u.1 ∙ ap (λ k. above m k x) steps ∙ v.1 in
      cc

  -- no element is inside itself
  pub not_inside : (e : IdBytes) (j k : ℕ) → Level m e j → above m (suc k) e ≡ Some e → ⊥
  not_inside e j k l is = let same = one_level e j (suc k + j) l (lift_level (suc k) e e j is l) in omega arith

  -- each element that stands is under one at the root
  pub root_above : (x : IdBytes) (xs : List IdBytes) → IsChain m.place (get m.place x) xs
      → (r : IdBytes) × (k : ℕ) × (above m k x ≡ Some r) × (get m.place r ≡ Some Root)
  root_above x xs chain = go xs x 0 (get m.place x) refl refl chain
    where
      go : (xs : List IdBytes) (y : IdBytes) (k : ℕ) (o : Option Place) → above m k x ≡ Some y → get m.place y ≡ o → IsChain m.place o xs
          → (r : IdBytes) × (k : ℕ) × (above m k x ≡ Some r) × (get m.place r ≡ Some Root)
      go [] y k None is at chain = absurd chain
      go [] y k (Some Root) is at chain = (y, k, is, at)
      go [] y k (Some (Inside a f)) is at chain = absurd chain
      go (z ∷ xs) y k None is at chain = absurd chain
      go (z ∷ xs) y k (Some Root) is at chain = absurd chain
      go (z ∷ xs) y k (Some (Inside a f)) is at chain =
          go xs z (suc k) (get m.place z)
          (ap (option_and_then (up m)) is ∙ ap (option_and_then parent_of) at ∙ ap (λ (w : IdBytes). Some w) (sym chain.0)) refl chain.1
