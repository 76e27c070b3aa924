-- The features that a class declares, by place, are as many as it has from a number on.
use Rattle.std.proofs.Common.{◌≡◌, ℕ, zero, suc, ◌+◌, ◌<◌, ◌≤◌, false, cond, List, [], ◌∷◌, ◌++◌, refl, ap, ◌∙◌, arith, length, map, nat_eq, rules}
use Rattle.std.specs.List.{enumerate_from, filter, flat_map, range_with_len}
use Rattle.std.proofs.lemmas.List.{append-nil}
use Rattle.ecore_meta.proofs.NumberLaws.{nat_itself}
use Rattle.ecore_drafts.specs.Document.{ClassifierRows, classes_of, own_features, owners_in}
use Rattle.ecore_drafts.specs.declared.rows.ClassifierRow.TheVariants.{Class, Enum, Plain}
use Rattle.ecore_drafts.specs.declared.rows.FeatureRow.{FeatureRow}

-- the same by a count, from a number on
abbrev pub own_features_from : ℕ → ClassifierRows → List (List ℕ)
own_features_from f [] = []
own_features_from f (Class c ∷ rows) = range_with_len f (length c.features) ∷ own_features_from (f + length c.features) rows
own_features_from f (Enum e ∷ rows) = own_features_from f rows
own_features_from f (Plain t ∷ rows) = own_features_from f rows

-- the places at which n stands in a list that begins at place i
abbrev places_from : ℕ → List ℕ → ℕ → List ℕ
places_from i xs n = map (λ (p : ℕ × ℕ). p.0) (filter (λ (p : ℕ × ℕ). nat_eq p.1 n) (enumerate_from i xs))

-- the class of each feature, where the first class has the number n
abbrev owners_from : ℕ → ClassifierRows → List ℕ
owners_from n rows = flat_map owners_in (enumerate_from n (classes_of rows))

apart : (m n : ℕ) → m < n → nat_eq n m ≡ false
apart m n h = search rules

apart_too : (m n : ℕ) → m < n → nat_eq m n ≡ false
apart_too m n h = search rules

-- a part of the list where only n stands
here : (n : ℕ) (fs : List FeatureRow) (i : ℕ) (ys : List ℕ)
    → places_from i (map (λ (f : FeatureRow). n) fs ++ ys) n ≡ range_with_len i (length fs) ++ places_from (i + length fs) ys n
here n [] i ys = ap (λ j. places_from j ys n) (zero_more i)
  where
    zero_more : (i : ℕ) → i ≡ i + 0
    zero_more i = omega arith
here n (f ∷ fs) i ys =
    ap (λ b. map (λ (p : ℕ × ℕ). p.0)
    (cond b ((i, n) ∷ filter (λ (p : ℕ × ℕ). nat_eq p.1 n) (enumerate_from (i + 1) (map (λ (f : FeatureRow). n) fs ++ ys)))
    (filter (λ (p : ℕ × ℕ). nat_eq p.1 n) (enumerate_from (i + 1) (map (λ (f : FeatureRow). n) fs ++ ys))))) (nat_itself n)
    ∙ ap (λ xs. i ∷ xs) (here n fs (i + 1) ys ∙ ap (λ j. range_with_len (i + 1) (length fs) ++ places_from j ys n) (shift i (length fs)))
  where
    shift : (i n : ℕ) → i + 1 + n ≡ i + suc n
    shift i n = omega arith

-- a part of the list where only another number stands
not_here : (m n : ℕ) → nat_eq m n ≡ false → (fs : List FeatureRow) (i : ℕ) (ys : List ℕ)
    → places_from i (map (λ (f : FeatureRow). m) fs ++ ys) n ≡ places_from (i + length fs) ys n
not_here m n h [] i ys = ap (λ j. places_from j ys n) (zero_more i)
  where
    zero_more : (i : ℕ) → i ≡ i + 0
    zero_more i = omega arith
not_here m n h (f ∷ fs) i ys =
    ap (λ b. map (λ (p : ℕ × ℕ). p.0)
    (cond b ((i, m) ∷ filter (λ (p : ℕ × ℕ). nat_eq p.1 n) (enumerate_from (i + 1) (map (λ (f : FeatureRow). m) fs ++ ys)))
    (filter (λ (p : ℕ × ℕ). nat_eq p.1 n) (enumerate_from (i + 1) (map (λ (f : FeatureRow). m) fs ++ ys))))) h
    ∙ not_here m n h fs (i + 1) ys ∙ ap (λ j. places_from j ys n) (shift i (length fs))
  where
    shift : (i n : ℕ) → i + 1 + n ≡ i + suc n
    shift i n = omega arith

-- a class before the first has no features among those from it on
none_before : (m n : ℕ) (rows : ClassifierRows) (i : ℕ) → m < n → places_from i (owners_from n rows) m ≡ []
none_before m n [] i h = refl
none_before m n (Class c ∷ rows) i h =
    not_here n m (apart m n h) c.features i (owners_from (n + 1) rows) ∙ none_before m (n + 1) rows (i + length c.features) (omega arith)
none_before m n (Enum e ∷ rows) i h = none_before m n rows i h
none_before m n (Plain t ∷ rows) i h = none_before m n rows i h

-- two functions that agree from a number on agree on a range
same_range : (g h : ℕ → List ℕ) (a n : ℕ) → ((k : ℕ) → a ≤ k → g k ≡ h k) → map g (range_with_len a n) ≡ map h (range_with_len a n)
same_range g h a zero same = refl
same_range g h a (suc n) same =
    ap (λ x. x ∷ map g (range_with_len (a + 1) n)) (same a (omega arith)) ∙ ap (λ xs. h a ∷ xs) (same_range g h (a + 1) n (λ k le. same k (omega arith)))

own_are : (n i : ℕ) (rows : ClassifierRows) → map (places_from i (owners_from n rows)) (range_with_len n (length (classes_of rows))) ≡ own_features_from i rows
own_are n i [] = refl
own_are n i (Class c ∷ rows) =
    ap (λ x. x ∷ map (places_from i (owners_from n (Class c ∷ rows))) (range_with_len (n + 1) (length (classes_of rows))))
    (here n c.features i (owners_from (n + 1) rows)
    ∙ ap (λ xs. range_with_len i (length c.features) ++ xs) (none_before n (n + 1) rows (i + length c.features) (omega arith))
    ∙ append-nil (range_with_len i (length c.features)))
    ∙ ap (λ xs. range_with_len i (length c.features) ∷ xs)
    (same_range (places_from i (owners_from n (Class c ∷ rows))) (places_from (i + length c.features) (owners_from (n + 1) rows)) (n + 1)
    (length (classes_of rows))
    (λ k le. not_here n k (apart_too n k (omega arith)) c.features i (owners_from (n + 1) rows))
    ∙ own_are (n + 1) (i + length c.features) rows)
own_are n i (Enum e ∷ rows) = own_are n i rows
own_are n i (Plain t ∷ rows) = own_are n i rows

pub own_features_counted : (rows : ClassifierRows) → own_features rows ≡ own_features_from 0 rows
unfolding own_features
own_features_counted rows = own_are 0 0 rows
