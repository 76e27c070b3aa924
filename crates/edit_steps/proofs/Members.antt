-- Items of lists, and lists that have each item once.
use Rattle.std.proofs.Common.{◌≡◌, ℕ, ◌<◌, suc, zero, Bool, true, false, cond, List, [], ◌∷◌, ◌++◌, refl, sym, ap, subst, ◌∙◌, ◌||◌, arith, map}
use Rattle.std.proofs.Common.{length, inl, inr}
use Rattle.std.specs.Prelude.{slice_get, ◌⊎◌}
use Rattle.std.specs.List.{filter}
use Rattle.std.specs.Option.{option_map_or}
use Rattle.finite_maps.specs.Equal.{text_eq}
use Rattle.finite_maps.proofs.Cases.{not_so, true_false}
use Rattle.finite_maps.proofs.EqualLaws.{text_equality}
use Rattle.model_state.specs.Keys.{IdBytes}
use Rattle.edit_steps.specs.Subtree.{is_among, numbers}

-- the item is in the list
abbrev pub In : {A : Type 0} → A → List A → Type 0
In x [] = ⊥
In x (y ∷ ys) = (x ≡ y) ⊎ In x ys

-- each item is there once
abbrev pub Distinct : {A : Type 0} → List A → Type 0
Distinct [] = Unit {0}
Distinct (x ∷ xs) = (In x xs → ⊥) × Distinct xs

module _ {A : Type 0} where
  pub in_left : (x : A) (xs ys : List A) → In x xs → In x (xs ++ ys)
  in_left x [] ys h = absurd h
  in_left x (z ∷ zs) ys (inl e) = inl e
  in_left x (z ∷ zs) ys (inr h) = inr (in_left x zs ys h)

  pub in_right : (x : A) (xs ys : List A) → In x ys → In x (xs ++ ys)
  in_right x [] ys h = h
  in_right x (z ∷ zs) ys h = inr (in_right x zs ys h)

  pub in_either : (x : A) (xs ys : List A) → In x (xs ++ ys) → In x xs ⊎ In x ys
  in_either x [] ys h = inr h
  in_either x (z ∷ zs) ys (inl e) = inl (inl e)
  in_either x (z ∷ zs) ys (inr h) = elim (in_either x zs ys h) [ inl l ↦ inl (inr l) | inr r ↦ inr r ]

  pub distinct_join : (xs ys : List A) → Distinct xs → Distinct ys → ((x : A) → In x xs → In x ys → ⊥) → Distinct (xs ++ ys)
  distinct_join [] ys dx dy far = dy
  distinct_join (x ∷ xs) ys dx dy far = (
    λ h. elim (in_either x xs ys h) [ inl l ↦ dx.0 l | inr r ↦ far x (inl refl) r ],
    distinct_join xs ys dx.1 dy (λ z l r. far z (inr l) r),
  )

  pub in_filter : (p : A → Bool) (x : A) (xs : List A) → In x (filter p xs) → In x xs × (p x ≡ true)
  in_filter p x [] h = absurd h
  in_filter p x (y ∷ ys) h =
      elim (p y) as (λ b. p y ≡ b → In x (cond b (y ∷ filter p ys) (filter p ys)) → In x (y ∷ ys) × (p x ≡ true)) [
        | true ↦ λ is g. elim g [ inl e ↦ (inl e, ap p e ∙ is) | inr l ↦ let rest = in_filter p x ys l in (inr rest.0, rest.1) ]
        | false ↦ λ is g. let rest = in_filter p x ys g in (inr rest.0, rest.1)
      ] refl h

  pub kept_in : (p : A → Bool) (x : A) (xs : List A) → In x xs → p x ≡ true → In x (filter p xs)
  kept_in p x [] h pass = absurd h
  kept_in p x (y ∷ ys) (inl e) pass = subst (λ b. In x (cond b (y ∷ filter p ys) (filter p ys))) (sym (ap p (sym e) ∙ pass)) (inl e)
  kept_in p x (y ∷ ys) (inr h) pass =
      elim (p y) as (λ b. In x (cond b (y ∷ filter p ys) (filter p ys))) [
        | true ↦ inr (kept_in p x ys h pass)
        | false ↦ kept_in p x ys h pass
      ]

  pub distinct_filter : (p : A → Bool) (xs : List A) → Distinct xs → Distinct (filter p xs)
  distinct_filter p [] d = tt
  distinct_filter p (x ∷ xs) d =
      elim (p x) as (λ b. Distinct (cond b (x ∷ filter p xs) (filter p xs))) [
        | true ↦ (λ h. d.0 (in_filter p x xs h).0, distinct_filter p xs d.1)
        | false ↦ distinct_filter p xs d.1
      ]

  pub in_map : {B : Type 0} (h : A → B) (y : B) (xs : List A) → In y (map h xs) → (x : A) × In x xs × (y ≡ h x)
  in_map h y [] g = absurd g
  in_map h y (x ∷ xs) (inl e) = (x, inl refl, e)
  in_map h y (x ∷ xs) (inr g) = let rest = in_map h y xs g in (rest.0, inr rest.1, rest.2)

  pub map_in : {B : Type 0} (h : A → B) (x : A) (xs : List A) → In x xs → In (h x) (map h xs)
  map_in h x [] g = absurd g
  map_in h x (y ∷ ys) (inl e) = inl (ap h e)
  map_in h x (y ∷ ys) (inr g) = inr (map_in h x ys g)

-- ---- numbers
in_numbers : (k n : ℕ) → In k (numbers n) → k < n
in_numbers k zero h = absurd h
in_numbers k (suc n) h =
    elim (in_either k (numbers n) (n ∷ []) h) [ inl l ↦ later k n (in_numbers k n l) | inr r ↦ elim r [ inl e ↦ here k n e | inr none ↦ absurd none ] ]
  where
    later : (k n : ℕ) → k < n → k < suc n
    later k n h = omega arith

    here : (k n : ℕ) → k ≡ n → k < suc n
    here k n h = omega arith

pub numbers_distinct : (n : ℕ) → Distinct (numbers n)
numbers_distinct zero = tt
numbers_distinct (suc n) =
    distinct_join (numbers n) (n ∷ []) (numbers_distinct n) (λ h. h, tt)
    (λ x l r. elim r [ inl e ↦ itself n (subst (λ k. k < n) e (in_numbers x n l)) | inr none ↦ none ])
  where
    itself : (n : ℕ) → n < n → ⊥
    itself n h = omega arith

pub numbers_have : (k n : ℕ) → k < n → In k (numbers n)
numbers_have k zero h = absurd (omega arith)
numbers_have k (suc n) h =
    elim (less_or k n h) [ inl less ↦ in_left k (numbers n) (n ∷ []) (numbers_have k n less) | inr e ↦ in_right k (numbers n) (n ∷ []) (inl e) ]
  where
    less_or : (k n : ℕ) → k < suc n → (k < n) ⊎ (k ≡ n)
    less_or zero zero h = inr refl
    less_or zero (suc n) h = inl (omega arith)
    less_or (suc k) zero h = absurd (omega arith)
    less_or (suc k) (suc n) h = elim (less_or k n (omega (arith, h))) [ inl less ↦ inl (omega (arith, less)) | inr e ↦ inr (ap suc e) ]

-- a place of a list where what is read passes, and nothing doesn't
pub within_list : {A B : Type 0} (h : A → B) (d : B) (p : B → Bool) (xs : List A) (k : ℕ) → p d ≡ false
    → p (option_map_or h (slice_get xs k) d) ≡ true → k < length xs
within_list h d p [] k none pass = absurd (true_false (p d) pass none)
within_list h d p (x ∷ xs) zero none pass = first (length xs)
  where
    first : (n : ℕ) → 0 < suc n
    first n = omega arith
within_list h d p (x ∷ xs) (suc k) none pass = next k (length xs) (within_list h d p xs k none pass)
  where
    next : (k n : ℕ) → k < n → suc k < suc n
    next k n h = omega arith

-- ---- names
pub among_in : (y : IdBytes) (xs : List IdBytes) → is_among xs y ≡ true → In y xs
among_in y [] h = cc
among_in y (x ∷ xs) h =
    elim (text_eq y x) as (λ b. text_eq y x ≡ b → b || is_among xs y ≡ true → In y (x ∷ xs)) [
      | true ↦ λ e _. inl (text_equality.exact y x e)
      | false ↦ λ _ g. inr (among_in y xs g)
    ] refl h

pub in_among : (y : IdBytes) (xs : List IdBytes) → In y xs → is_among xs y ≡ true
in_among y [] h = absurd h
in_among y (x ∷ xs) (inl e) = ap (λ b. b || is_among xs y) (ap (text_eq y) (sym e) ∙ text_equality.own y)
in_among y (x ∷ xs) (inr h) = ap (λ b. text_eq y x || b) (in_among y xs h) ∙ or_true (text_eq y x)
  where
    or_true : (b : Bool) → b || true ≡ true
    or_true true = refl
    or_true false = refl

pub not_among : (y : IdBytes) (xs : List IdBytes) → (In y xs → ⊥) → is_among xs y ≡ false
not_among y xs h = not_so (is_among xs y) (λ is. h (among_in y xs is))

pub among_not : (y : IdBytes) (xs : List IdBytes) → is_among xs y ≡ false → In y xs → ⊥
among_not y xs h is = true_false (is_among xs y) (in_among y xs is) h
