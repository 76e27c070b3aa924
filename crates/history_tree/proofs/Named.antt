-- The place of a name in a list, by an index of the first names.
use Rattle.std.proofs.Common.{◌≡◌, ℕ, suc, ◌+◌, ◌<◌, ◌≤◌, ◌∷◌, ◌++◌, ◌||◌, nat_lt, Bool, true, false, cond, List, [], length, map, take, drop, get_or}
use Rattle.std.proofs.Common.{refl, sym, ap, ◌∙◌, arith, ◌-◌}
use Rattle.std.specs.Prelude.{Option, None, Some, is_some, slice_get, not}
use Rattle.std.specs.List.{position, position_or_len, find, list_any}
use Rattle.std.specs.Option.{option_map, option_and_then}
use Rattle.std.specs.Str.{bytes_eq}
use Rattle.std.specs.BTreeMap.{get_by_text}
use Rattle.std.proofs.lemmas.Bool.Decides.{nat_tests}
use Rattle.std.proofs.lemmas.List.{map-append, take-append-drop, take-append-le, length-append, length-drop, length-map, length-take-le, take_all}
use Rattle.ecore_meta.specs.Names.{Name, number_of}
use Rattle.ecore_meta.specs.Values.{or_else}
use Rattle.ecore_meta.proofs.IndexLaws.{entered_more}
use Rattle.ecore_meta.proofs.NameLaws.{turned, number_of-below}
use Rattle.history_tree.specs.declared.names.NameIndex.{NameIndex}
use Rattle.history_tree.specs.Index.{Knows}

lt_suc : (a b : ℕ) → nat_lt (suc a) (suc b) ≡ nat_lt a b
lt_suc a b = grind (arith, nat_tests)

zero_lt : (b : ℕ) → nat_lt 0 (suc b) ≡ true
zero_lt b = grind (arith, nat_tests)

-- ---- the place of the first that passes a test
module _ {X : Type 0} (p : X → Bool) where
  place_next : (x : X) (xs : List X) → position p (x ∷ xs) ≡ cond (p x) (Some 0) (option_map (λ n. suc n) (position p xs))
  place_next x xs = by_test (p x)
    where
      k : ℕ
      k = position_or_len p xs

      one_more : (b : Bool) → cond b (Some (1 + k)) None ≡ option_map (λ (n : ℕ). suc n) (cond b (Some k) None)
      one_more true = ap (λ (n : ℕ). Some n) (omega arith)
      one_more false = refl

      later : cond (nat_lt (1 + k) (suc (length xs))) (Some (1 + k)) None ≡ option_map (λ (n : ℕ). suc n) (cond (nat_lt k (length xs)) (Some k) None)
      later =
          let e : 1 + k ≡ suc k = omega arith in
          ap (λ (n : ℕ). cond (nat_lt n (suc (length xs))) (Some (1 + k)) None) e ∙ ap (λ b. cond b (Some (1 + k)) None) (lt_suc k (length xs))
          ∙ one_more (nat_lt k (length xs))

      by_test : (b : Bool) → cond (nat_lt (cond (not b) (1 + k) 0) (suc (length xs))) (Some (cond (not b) (1 + k) 0)) None ≡ cond b (Some 0)
          (option_map (λ (n : ℕ). suc n) (cond (nat_lt k (length xs)) (Some k) None))
      by_test true = ap (λ b. cond b (Some 0) None) (zero_lt (length xs))
      by_test false = later

  pub find_by_place : (xs : List X) → option_and_then (slice_get xs) (position p xs) ≡ find p xs
  find_by_place [] = refl
  find_by_place (x ∷ xs) =
      ap (option_and_then (slice_get (x ∷ xs))) (place_next x xs) ∙ by_test (p x) (position p xs) ∙ ap (cond (p x) (Some x)) (find_by_place xs)
    where
      by_test : (b : Bool) (o : Option ℕ)
          → option_and_then (slice_get (x ∷ xs)) (cond b (Some 0) (option_map (λ n. suc n) o)) ≡ cond b (Some x) (option_and_then (slice_get xs) o)
      by_test true o = refl
      by_test false None = refl
      by_test false (Some n) = refl

  pub any_by_place : (xs : List X) → is_some (position p xs) ≡ list_any p xs
  any_by_place [] = refl
  any_by_place (x ∷ xs) = ap is_some (place_next x xs) ∙ by_test (p x) (position p xs) ∙ ap (λ b. p x || b) (any_by_place xs)
    where
      by_test : (b : Bool) (o : Option ℕ) → is_some (cond b (Some 0) (option_map (λ n. suc n) o)) ≡ b || is_some o
      by_test true o = refl
      by_test false None = refl
      by_test false (Some n) = refl

-- is it the name of that one
abbrev pub is_named : {X : Type 0} → (X → Name) → Name → X → Bool
is_named name q x = bytes_eq (name x) q

-- the first place of a name is its number in the list of names
pub place_is_number : {X : Type 0} (name : X → Name) (q : Name) (xs : List X) → position (is_named name q) xs ≡ number_of q (map name xs)
place_is_number name q [] = refl
place_is_number name q (x ∷ xs) =
    place_next (is_named name q) x xs
    ∙ ap (λ b. cond b (Some 0) (option_map (λ n. suc n) (position (is_named name q) xs))) (turned (name x) q)
    ∙ ap (λ o. cond (bytes_eq q (name x)) (Some 0) (option_map (λ n. suc n) o)) (place_is_number name q xs)

number_of-append : (q : Name) (xs ys : List Name)
    → number_of q (xs ++ ys) ≡ or_else (number_of q xs) (option_map (λ n. length xs + n) (number_of q ys))
number_of-append q [] ys = none (number_of q ys)
  where
    none : (o : Option ℕ) → o ≡ option_map (λ n. 0 + n) o
    none None = refl
    none (Some n) = ap (λ (m : ℕ). Some m) (omega arith)
number_of-append q (x ∷ xs) ys =
    ap (λ o. cond (bytes_eq q x) (Some 0) (option_map (λ n. suc n) o)) (number_of-append q xs ys) ∙ by_tests (bytes_eq q x) (number_of q xs) (number_of q ys)
  where
    by_tests : (b : Bool) (o p : Option ℕ)
        → cond b (Some 0) (option_map (λ n. suc n) (or_else o (option_map (λ n. length xs + n) p))) ≡ or_else
        (cond b (Some 0) (option_map (λ n. suc n) o)) (option_map (λ n. suc (length xs) + n) p)
    by_tests true o p = refl
    by_tests false (Some m) p = refl
    by_tests false None None = refl
    by_tests false None (Some n) = ap (λ (m : ℕ). Some m) (omega arith)

module _ {X : Type 0} (name : X → Name) (q : Name) (xs : List X) (k : ℕ) (within : k ≤ length xs) where
  parted : number_of q (map name xs) ≡ or_else (number_of q (map name (take k xs))) (option_map (λ n. k + n) (number_of q (map name (drop k xs))))
  parted =
      ap (number_of q) (sym (ap (map name) (take-append-drop k xs)) ∙ map-append name (take k xs) (drop k xs))
      ∙ number_of-append q (map name (take k xs)) (map name (drop k xs))
      ∙ ap (λ (m : ℕ). or_else (number_of q (map name (take k xs))) (option_map (λ n. m + n) (number_of q (map name (drop k xs)))))
      (length-map (take k xs) name ∙ length-take-le k xs within)

  rest : take (length xs - k) (drop k xs) ≡ drop k xs
  rest = let size = length-drop k xs in take_all (length xs - k) (drop k xs) (omega (arith, size))

  -- a name that is among the first
  pub among_first : (n : ℕ) → Some n ≡ number_of q (map name (take k xs)) → Some n ≡ position (is_named name q) xs
  among_first n is =
      ap (λ o. or_else o (option_map (λ n. k + n) (number_of q (map name (drop k xs))))) is
      ∙ sym parted ∙ sym (place_is_number name q xs)

  -- a name that is not
  pub among_later : (o : Option ℕ) → None ≡ number_of q (map name (take k xs)) → o ≡ position (is_named name q) (take (length xs - k) (drop k xs))
      → option_map (λ n. k + n) o ≡ position (is_named name q) xs
  among_later o none is =
      ap (λ p. option_map (λ n. k + n) p) (is ∙ ap (position (is_named name q)) rest ∙ place_is_number name q (drop k xs))
      ∙ ap (λ p. or_else p (option_map (λ n. k + n) (number_of q (map name (drop k xs))))) none
      ∙ sym parted ∙ sym (place_is_number name q xs)

-- the place of a name is in the list
pub place_below : {X : Type 0} (name : X → Name) (q : Name) (xs : List X) (n : ℕ) → Some n ≡ position (is_named name q) xs → n < length xs
place_below name q xs n is =
    let below = number_of-below q (map name xs) n (sym (is ∙ place_is_number name q xs)) in
    let size = length-map xs name in
    omega (arith, below, size)

-- ---- an index of the first names
pub knows_same : {X : Type 0} (name : X → Name) (old new : NameIndex) (xs : List X) → Knows name old xs
    → ((q : Name) → get_by_text new.numbers q ≡ get_by_text old.numbers q) → new.entered ≡ old.entered → Knows name new xs
knows_same name old new xs knows numbers entered =
    (omega (arith, knows.0, entered), λ q. numbers q ∙ knows.1 q ∙ ap (λ (n : ℕ). number_of q (map name (take n xs))) (sym entered))

pub knows_more : {X : Type 0} (name : X → Name) (old new : NameIndex) (xs : List X) (x : Name) (d : X) → old.entered < length xs
    → x ≡ name (get_or xs old.entered d) → Knows name old xs
    → ((q : Name) → get_by_text new.numbers q ≡ or_else (get_by_text old.numbers q) (cond (bytes_eq q x) (Some old.entered) None))
    → new.entered ≡ old.entered + 1 → Knows name new xs
knows_more name old new xs x d low is knows numbers entered = (
  omega (arith, low, entered),
  λ q.
      numbers q
      ∙ ap (λ (o : Option ℕ). or_else o (cond (bytes_eq q x) (Some old.entered) None)) (knows.1 q)
      ∙ entered_more name xs old.entered d low None q x is
      ∙ ap (λ (n : ℕ). number_of q (map name (take n xs))) (sym entered),
)

pub knows_longer : {X : Type 0} (name : X → Name) (index : NameIndex) (xs : List X) (x : X) → Knows name index xs → Knows name index (xs ++ x ∷ [])
knows_longer name index xs x knows =
    let longer = length-append xs (x ∷ []) in
    (omega (arith, knows.0, longer), λ q. knows.1 q ∙ ap (λ ys. number_of q (map name ys)) (sym (take-append-le index.entered xs (x ∷ []) knows.0)))

pub knows_none : {X : Type 0} (name : X → Name) (index : NameIndex) (xs : List X) → index.entered ≡ 0
    → ((q : Name) → get_by_text index.numbers q ≡ None) → Knows name index xs
knows_none name index xs entered none = (omega (arith, entered), λ q. none q ∙ ap (λ (n : ℕ). number_of q (map name (take n xs))) (sym entered))
