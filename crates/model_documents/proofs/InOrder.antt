-- Numbers that come in the order of a list, and differ where those of the list do.
use Rattle.std.proofs.Common.{◌≡◌, ℕ, ◌<◌, Bool, true, false, cond, not, List, [], ◌∷◌, ◌++◌, length, nat_eq, refl, ap, subst, sym, ◌∙◌, ◌⊎◌, inl, inr, arith}
use Rattle.std.specs.List.{filter, range_with_len}
use Rattle.std.specs.List.Sorted.{IsStrictlySortedBy}
use Rattle.std.specs.Ordering.{nat_cmp}
use Rattle.std.proofs.lemmas.Bool.{or_left, or_right}
use Rattle.std.proofs.lemmas.List.Kept.{IsStrictlySortedBy-filter}
use Rattle.finite_maps.proofs.Cases.{not_so, true_false}
use Rattle.finite_maps.proofs.EqualLaws.{and_both, and_first, and_second}
use Rattle.ecore_meta.specs.Meta.{Meta, features_of}
use Rattle.ecore_meta.specs.Promised.{ListsDeclared, declared}
use Rattle.ecore_meta.proofs.RisingLaws.{after, rising_range}
use Rattle.model_documents.specs.Fits.{Follows, numbers_differ}
use Rattle.model_documents.proofs.Numbers.{has, not_is, not_not, or_split}

-- the number, or none
abbrev pub OneOrNone : ℕ → List ℕ → Type 0
OneOrNone n ns = (ns ≡ []) ⊎ (ns ≡ n ∷ [])

pub one_first : (n : ℕ) (ns some more : List ℕ) → OneOrNone n some → Follows more ns → Follows (some ++ more) (n ∷ ns)
one_first n ns some more (inl none) later = inl (subst (λ xs. Follows (xs ++ more) ns) (sym none) later)
one_first n ns some more (inr one) later = inr (more, ap (λ xs. xs ++ more) one, later)

-- those that pass a test come in the order of the list
pub filter_follows : (p : ℕ → Bool) (ns : List ℕ) → Follows (filter p ns) ns
filter_follows p [] = refl
filter_follows p (n ∷ ns) = by_test (p n) (filter_follows p ns)
  where
    by_test : (b : Bool) → Follows (filter p ns) ns → Follows (cond b (n ∷ filter p ns) (filter p ns)) (n ∷ ns)
    by_test true later = inr (filter p ns, refl, later)
    by_test false later = inl later

follows_has : (xs ns : List ℕ) (n : ℕ) → Follows xs ns → has xs n ≡ true → has ns n ≡ true
follows_has xs [] n none h = subst (λ ys. has ys n ≡ true) none h
follows_has xs (m ∷ ns) n (inl later) h = or_right (nat_eq n m) (has ns n) (follows_has xs ns n later h)
follows_has xs (m ∷ ns) n (inr more) h =
    elim (or_split (nat_eq n m) (has more.0 n) (subst (λ ys. has ys n ≡ true) more.1 h)) [
      | inl e ↦ or_left (nat_eq n m) (has ns n) e
      | inr e ↦ or_right (nat_eq n m) (has ns n) (follows_has more.0 ns n more.2 e)
    ]

-- some of a list of numbers that differ
pub follows_differ : (xs ns : List ℕ) → Follows xs ns → numbers_differ ns ≡ true → numbers_differ xs ≡ true
follows_differ xs [] none h = ap numbers_differ none
follows_differ xs (m ∷ ns) (inl later) h = follows_differ xs ns later (and_second (not (has ns m)) (numbers_differ ns) h)
follows_differ xs (m ∷ ns) (inr more) h =
    let new : has ns m ≡ false = not_not (has ns m) (and_first (not (has ns m)) (numbers_differ ns) h) in
    ap numbers_differ more.1
    ∙ and_both (not (has more.0 m)) (numbers_differ more.0)
    (not_is (has more.0 m) (not_so (has more.0 m) (λ e. true_false (has ns m) (follows_has more.0 ns m more.2 e) new)))
    (follows_differ more.0 ns more.2 (and_second (not (has ns m)) (numbers_differ ns) h))

-- numbers that rise
rising_differ : (xs : List ℕ) → IsStrictlySortedBy nat_cmp xs → numbers_differ xs ≡ true
unfolding IsStrictlySortedBy
rising_differ [] rising = refl
rising_differ (x ∷ xs) rising =
    and_both (not (has xs x)) (numbers_differ xs) (not_is (has xs x) (not_so (has xs x) (λ h. never (after x x xs rising.0 h)))) (rising_differ xs rising.1)
  where
    never : x < x → ⊥
    never h = absurd (omega (arith, h))

-- the features of a class
pub features_differ : (meta : Meta) → ListsDeclared meta → (c : ℕ) → numbers_differ (features_of meta c) ≡ true
features_differ meta lists c =
    let all = range_with_len 0 (length meta.features) in
    ap numbers_differ (lists c)
    ∙ rising_differ (filter (declared meta c) all) (IsStrictlySortedBy-filter nat_cmp (declared meta c) all (rising_range 0 (length meta.features)))
