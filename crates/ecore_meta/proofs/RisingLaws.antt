-- Lists of numbers that rise.
use Rattle.std.proofs.Common.{◌≡◌, ℕ, zero, suc, ◌+◌, ◌<◌, ◌≤◌, Bool, true, false, List, [], ◌∷◌, ◌||◌, ◌&&◌, refl, sym, ap, subst, ◌∙◌, arith}
use Rattle.std.proofs.Common.{nat_eq, Less, rules}
use Rattle.std.specs.List.{list_any, filter, range_with_len, AllByRecursion}
use Rattle.std.specs.List.Sorted.{IsStrictlySortedBy}
use Rattle.std.specs.Ordering.{nat_cmp}
use Rattle.std.specs.BTreeSet.{BTreeSet, contains}
use Rattle.std.specs.BTreeMap.{is_at}
use Rattle.std.proofs.lemmas.List.Kept.{IsStrictlySortedBy-filter}
use Rattle.std.proofs.lemmas.Map.Views.{any-filter_same}
use Rattle.std.proofs.lemmas.Bool.Decides.{nat_tests}
use Rattle.std.proofs.lemmas.Bool.{or_left, or_right}
use Rattle.ecore_meta.proofs.NumberLaws.{nat_itself, nat_same, or_split, same_bool}

less : (a b : ℕ) → nat_cmp a b ≡ Less → a < b
less a b h = search rules

pub is_less : (a b : ℕ) → a < b → nat_cmp a b ≡ Less
is_less a b h = search rules

pub after : (x d : ℕ) (xs : List ℕ) → AllByRecursion (λ y. nat_cmp x y ≡ Less) xs → list_any (nat_eq d) xs ≡ true → x < d
after x d [] all h = cc
after x d (y ∷ ys) all h = or_split (nat_eq d y) (list_any (nat_eq d) ys) h
    (λ e. subst (λ z. x < z) (sym (nat_same d y e)) (less x y all.0))
    (λ e. after x d ys all.1 e)

-- rising lists with the same members are one
pub same_rising : (xs ys : List ℕ) → IsStrictlySortedBy nat_cmp xs → IsStrictlySortedBy nat_cmp ys
    → ((d : ℕ) → list_any (nat_eq d) xs ≡ list_any (nat_eq d) ys) → xs ≡ ys
unfolding IsStrictlySortedBy
same_rising [] [] r s h = refl
same_rising [] (y ∷ ys) r s h = let e : false ≡ true = h y ∙ or_left (nat_eq y y) _ (nat_itself y) in cc
same_rising (x ∷ xs) [] r s h = let e : true ≡ false = sym (or_left (nat_eq x x) _ (nat_itself x)) ∙ h x in cc
same_rising (x ∷ xs) (y ∷ ys) r s h =
    let same : x ≡ y = first in
    ap (λ z. z ∷ xs) same ∙ ap (λ zs. y ∷ zs)
    (same_rising xs ys r.1 s.1 (λ d. same_bool (list_any (nat_eq d) xs) (list_any (nat_eq d) ys) (forth same d) (back same d)))
  where
    in_second : list_any (nat_eq x) (y ∷ ys) ≡ true
    in_second = sym (h x) ∙ or_left (nat_eq x x) _ (nat_itself x)

    in_first : list_any (nat_eq y) (x ∷ xs) ≡ true
    in_first = h y ∙ or_left (nat_eq y y) _ (nat_itself y)

    first : x ≡ y
    first = or_split (nat_eq x y) (list_any (nat_eq x) ys) in_second
        (λ e. nat_same x y e)
        (λ e. or_split (nat_eq y x) (list_any (nat_eq y) xs) in_first
        (λ f. sym (nat_same y x f))
        (λ f. let a : y < x = after y x ys s.0 e in let b : x < y = after x y xs r.0 f in absurd (omega arith)))

    forth : x ≡ y → (d : ℕ) → list_any (nat_eq d) xs ≡ true → list_any (nat_eq d) ys ≡ true
    forth same d m =
        let a : x < d = after x d xs r.0 m in
        or_split (nat_eq d y) (list_any (nat_eq d) ys) (sym (h d) ∙ or_right (nat_eq d x) _ m)
        (λ e. let b : d ≡ y = nat_same d y e in absurd (omega arith))
        (λ e. e)

    back : x ≡ y → (d : ℕ) → list_any (nat_eq d) ys ≡ true → list_any (nat_eq d) xs ≡ true
    back same d m =
        let a : y < d = after y d ys s.0 m in
        or_split (nat_eq d x) (list_any (nat_eq d) xs) (h d ∙ or_right (nat_eq d y) _ m)
        (λ e. let b : d ≡ x = nat_same d x e in absurd (omega arith))
        (λ e. e)

all_after : (x a n : ℕ) → x < a → AllByRecursion (λ y. nat_cmp x y ≡ Less) (range_with_len a n)
all_after x a zero h = tt
all_after x a (suc n) h = (is_less x a h, all_after x (a + 1) n (omega arith))

pub rising_range : (a n : ℕ) → IsStrictlySortedBy nat_cmp (range_with_len a n)
unfolding IsStrictlySortedBy
rising_range a zero = tt
rising_range a (suc n) = (all_after a (a + 1) n (omega arith), rising_range (a + 1) n)

pub in_range : (a n d : ℕ) → a ≤ d → d < a + n → list_any (nat_eq d) (range_with_len a n) ≡ true
in_range a zero d h k = absurd (omega arith)
in_range a (suc n) d h k = by_first (nat_eq d a) refl (λ e. in_range (a + 1) n d (apart a d h e) (omega arith))
  where
    by_first : (b : Bool) → nat_eq d a ≡ b → (nat_eq d a ≡ false → list_any (nat_eq d) (range_with_len (a + 1) n) ≡ true)
        → b || list_any (nat_eq d) (range_with_len (a + 1) n) ≡ true
    by_first true e more = refl
    by_first false e more = more e

    apart : (a d : ℕ) → a ≤ d → nat_eq d a ≡ false → a + 1 ≤ d
    apart a d h e = grind (arith, nat_tests)

at_is : (d y : ℕ) → is_at (nat_cmp d) y ≡ nat_eq d y
at_is d y = search rules

-- the search of a set of numbers is that among its keys
pub keys_any : (d : ℕ) (ks : List ℕ) → list_any (is_at (nat_cmp d)) ks ≡ list_any (nat_eq d) ks
keys_any d [] = refl
keys_any d (k ∷ ks) = ap (λ b. b || list_any (is_at (nat_cmp d)) ks) (at_is d k) ∙ ap (λ b. nat_eq d k || b) (keys_any d ks)

-- the keys of a set are the numbers below n that it has, in order
pub keys_are : (s : BTreeSet ℕ) (p : ℕ → Bool) (n : ℕ) → IsStrictlySortedBy nat_cmp s.keys → ((d : ℕ) → contains nat_cmp s d ≡ p d)
    → ((d : ℕ) → p d ≡ true → d < n) → s.keys ≡ filter p (range_with_len 0 n)
keys_are s p n rising has below =
    same_rising s.keys (filter p (range_with_len 0 n)) rising (IsStrictlySortedBy-filter nat_cmp p (range_with_len 0 n) (rising_range 0 n))
    (λ d. sym (keys_any d s.keys) ∙ has d ∙ by_test d (p d) refl
    ∙ sym (any-filter_same (nat_eq d) p (p d) (λ k e. ap p (sym (nat_same d k e))) (range_with_len 0 n)))
  where
    by_test : (d : ℕ) (b : Bool) → p d ≡ b → b ≡ b && list_any (nat_eq d) (range_with_len 0 n)
    by_test d true e = sym (in_range 0 n d (omega arith) (omega (arith, below d e)))
    by_test d false e = refl

-- a number is one of those that the test keeps exactly where it passes and is one of the list
pub kept_is : (p : ℕ → Bool) (b : ℕ) (xs : List ℕ) → list_any (nat_eq b) (filter p xs) ≡ p b && list_any (nat_eq b) xs
kept_is p b xs = any-filter_same (nat_eq b) p (p b) (λ k e. ap p (sym (nat_same b k e))) xs

-- a list of numbers that the test keeps has those that pass it
pub in_kept : (p : ℕ → Bool) (n f : ℕ) → (p f ≡ true → f < n) → list_any (nat_eq f) (filter p (range_with_len 0 n)) ≡ p f
in_kept p n f low = kept_is p f (range_with_len 0 n) ∙ by_test (p f) refl
  where
    by_test : (b : Bool) → p f ≡ b → b && list_any (nat_eq f) (range_with_len 0 n) ≡ b
    by_test true e = in_range 0 n f (omega arith) (omega (arith, low e))
    by_test false e = refl
