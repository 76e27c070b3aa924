-- The tables of a metamodel, one class more.
use Rattle.std.proofs.Common.{◌≡◌, ℕ, zero, suc, ◌+◌, ◌<◌, ◌≤◌, Bool, true, false, List, [], ◌∷◌, ◌++◌, ◌||◌, ◌⊎◌, inl, inr, refl, sym, ap, subst}
use Rattle.std.proofs.Common.{◌∙◌, arith, length, map, get_or, nat_eq}
use Rattle.std.specs.Prelude.{None, Some, slice_get}
use Rattle.std.specs.List.{filter, list_any, range_with_len}
use Rattle.std.specs.BTreeSet.{BTreeSet}
use Rattle.std.specs.Option.{option_map_or}
use Rattle.std.proofs.lemmas.List.{length-map, map-append}
use Rattle.std.proofs.lemmas.List.Folds.{list_any-append}
use Rattle.ecore_drafts.specs.Supers.{is_cyclic, super_cycle, Inside, IsPath, all_above, is_above}
use Rattle.ecore_meta.specs.Meta.{is_in}
use Rattle.ecore_drafts.proofs.SuperLaws.{above_leads, any_at, supers_at}
use Rattle.ecore_meta.proofs.RisingLaws.{in_kept, in_range}

range_suc : (a n : ℕ) → range_with_len a (suc n) ≡ range_with_len a n ++ (a + n) ∷ []
range_suc a zero = ap (λ x. x ∷ []) (plus_none a)
  where
    plus_none : (a : ℕ) → a ≡ a + 0
    plus_none a = omega arith
range_suc a (suc n) = ap (λ xs. a ∷ xs) (range_suc (a + 1) n ∙ ap (λ x. range_with_len (a + 1) n ++ x ∷ []) (shift a n))
  where
    shift : (a n : ℕ) → a + 1 + n ≡ a + suc n
    shift a n = omega arith

pub range_more : (a n : ℕ) → range_with_len a (n + 1) ≡ range_with_len a n ++ (a + n) ∷ []
range_more a n = ap (range_with_len a) (plus_one n) ∙ range_suc a n
  where
    plus_one : (n : ℕ) → n + 1 ≡ suc n
    plus_one n = omega arith

-- each number of a range, after one more
pub map_more : {X : Type 0} (f : ℕ → X) (xs : List X) (n : ℕ) → xs ≡ map f (range_with_len 0 n) → xs ++ f n ∷ [] ≡ map f (range_with_len 0 (n + 1))
map_more f xs n is =
    ap (λ ys. ys ++ f n ∷ []) is ∙ ap (λ k. map f (range_with_len 0 n) ++ f k ∷ []) (plus n)
    ∙ sym (map-append f (range_with_len 0 n) ((0 + n) ∷ [])) ∙ ap (map f) (sym (range_more 0 n))
  where
    plus : (n : ℕ) → n ≡ 0 + n
    plus n = omega arith

none_past : {X : Type 0} (xs : List X) (i : ℕ) → length xs ≤ i → slice_get xs i ≡ None
none_past [] i h = refl
none_past (x ∷ xs) zero h = absurd (omega arith)
none_past (x ∷ xs) (suc i) h = none_past xs i (omega arith)

pub above_none : (supers : List (List ℕ)) (c d : ℕ) → length supers ≤ c → is_above supers c d ≡ false
unfolding is_above
above_none supers c d h = rw (none_past supers c h) refl

pub range_length : (a n : ℕ) → length (range_with_len a n) ≡ n
range_length a zero = refl
range_length a (suc n) = ap (λ k. suc k) (range_length (a + 1) n)

got_range : {X : Type 0} (g : ℕ → X) (a n c : ℕ) → c < n → slice_get (map g (range_with_len a n)) c ≡ Some (g (a + c))
got_range g a zero c h = absurd (omega arith)
got_range g a (suc n) zero h = ap (λ (k : ℕ). Some (g k)) (plus_none a)
  where
    plus_none : (a : ℕ) → a ≡ a + 0
    plus_none a = omega arith
got_range g a (suc n) (suc c) h = got_range g (a + 1) n c (omega arith) ∙ ap (λ (k : ℕ). Some (g k)) (shift a c)
  where
    shift : (a c : ℕ) → a + 1 + c ≡ a + suc c
    shift a c = omega arith

-- a class that is led to is one of the package
pub led_below : (supers : List (List ℕ)) → Inside supers → (d c : ℕ) (path : List ℕ) → c < length supers → IsPath supers c path d → d < length supers
led_below supers all d c [] below at = subst (λ x. x < length supers) at below
led_below supers all d c (b ∷ path) below at = led_below supers all d b path (all c b at.0) at.1

-- the table of all classes above each says who is above whom
pub table_is : (supers : List (List ℕ)) → Inside supers → (c d : ℕ) → is_in (all_above supers) c d ≡ is_above supers c d
table_is supers inside c d = by_place (split c (length supers))
  where
    split : (c n : ℕ) → (c < n) ⊎ (n ≤ c)
    split c zero = inr (omega arith)
    split zero (suc n) = inl (omega arith)
    split (suc c) (suc n) = elim (split c n) [ inl h ↦ inl (omega arith) | inr h ↦ inr (omega arith) ]

    none_less : (n : ℕ) → 0 + n ≡ n
    none_less n = omega arith

    low : c < length supers → is_above supers c d ≡ true → d < length supers
    low h is = let led = above_leads supers c d is in led_below supers inside d c led.0 h led.1

    by_place : (c < length supers) ⊎ (length supers ≤ c) → is_in (all_above supers) c d ≡ is_above supers c d
    by_place (inl h) =
        ap (λ o. option_map_or (list_any (nat_eq d)) o false)
        (got_range (λ k. filter (is_above supers k) (range_with_len 0 (length supers))) 0 (length supers) c h)
        ∙ ap (λ k. list_any (nat_eq d) (filter (is_above supers k) (range_with_len 0 (length supers)))) (none_less c)
        ∙ in_kept (is_above supers c) (length supers) d (low h)
    by_place (inr h) =
        ap (λ o. option_map_or (list_any (nat_eq d)) o false)
        (none_past (all_above supers) c
        (omega (
          arith,
          length-map (range_with_len 0 (length supers)) (λ k. filter (is_above supers k) (range_with_len 0 (length supers))),
          range_length 0 (length supers),
        )))
        ∙ sym (above_none supers c d h)

any_same : (p q : ℕ → Bool) (xs : List ℕ) → ((b : ℕ) → p b ≡ q b) → list_any p xs ≡ list_any q xs
any_same p q [] h = refl
any_same p q (x ∷ xs) h = ap (λ b. b || list_any p xs) (h x) ∙ ap (λ b. q x || b) (any_same p q xs h)

-- what the table says of the supertypes of a class
pub cyclic_at : {X : Type 0} (f : X → List ℕ) (xs : List X) (c : ℕ) (d : X) → Inside (map f xs) → c < length xs
    → list_any (λ b. is_in (all_above (map f xs)) b c) (f (get_or xs c d)) ≡ is_cyclic (map f xs) c
cyclic_at f xs c d inside h =
    any_same (λ b. is_in (all_above (map f xs)) b c) (λ b. is_above (map f xs) b c) (f (get_or xs c d)) (λ b. table_is (map f xs) inside b c)
    ∙ ap (list_any (λ b. is_above (map f xs) b c)) (sym (supers_at f xs c d h))

pub cycle_found : (supers : List (List ℕ)) (c : ℕ) → c < length supers → true ≡ is_cyclic supers c → true ≡ super_cycle supers
cycle_found supers c h is =
    sym (any_at (is_cyclic supers) c (range_with_len 0 (length supers)) (in_range 0 (length supers) c (omega arith) (omega arith)) (sym is))

pub none_more : (p : ℕ → Bool) (n : ℕ) → list_any p (range_with_len 0 n) ≡ false → false ≡ p n → list_any p (range_with_len 0 (n + 1)) ≡ false
none_more p n before new =
    ap (list_any p) (range_more 0 n) ∙ list_any-append p (range_with_len 0 n) ((0 + n) ∷ [])
    ∙ ap (λ b. b || (p (0 + n) || false)) before ∙ ap (λ k. p k || false) (plus n) ∙ ap (λ b. b || false) (sym new)
  where
    plus : (n : ℕ) → 0 + n ≡ n
    plus n = omega arith

pub rising_more : (sets : List (BTreeSet ℕ)) (s : BTreeSet ℕ) (f : ℕ → List ℕ) (n : ℕ) → map (λ s. s.keys) sets ≡ map f (range_with_len 0 n)
    → s.keys ≡ f n → map (λ s. s.keys) (sets ++ s ∷ []) ≡ map f (range_with_len 0 (n + 1))
rising_more sets s f n is here =
    map-append (λ s. s.keys) sets (s ∷ []) ∙ ap (λ k. map (λ s. s.keys) sets ++ k ∷ []) here ∙ map_more f (map (λ s. s.keys) sets) n is

pub past_all : (p : ℕ → Bool) (supers : List (List ℕ)) (n : ℕ) → length supers ≡ n → list_any p (range_with_len 0 n) ≡ false
    → false ≡ list_any p (range_with_len 0 (length supers))
past_all p supers n long none = sym none ∙ ap (λ k. list_any p (range_with_len 0 k)) (sym long)
