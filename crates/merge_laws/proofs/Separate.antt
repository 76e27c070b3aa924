-- No operation is in two buckets: each bucket has the operations of one label.
use Rattle.std.proofs.Common.{◌≡◌, ℕ, zero, suc, ◌<◌, Bool, true, false, List, [], ◌∷◌, ◌++◌, refl, sym, ap, ◌∙◌, ◌||◌, take, drop, length, arith}
use Rattle.std.specs.Prelude.{Option, Some, slice_get}
use Rattle.std.proofs.lemmas.List.Folds.{list_any-append}
use Rattle.finite_maps.proofs.Cases.{not_so}
use Rattle.model_laws.proofs.Exchange.{or_cases}
use Rattle.footprint.specs.declared.bucket.Bucket.{Bucket}
use Rattle.footprint.specs.Buckets.{labels, places, mixed, buckets_below, buckets}
use Rattle.footprint.proofs.Pairs.{or_neither}
use Rattle.merge_laws.specs.Grouping.{is_in, in_theirs, in_mine, AreSeparate}
use Rattle.merge_laws.specs.BucketLaws.{BucketsAreSeparate}
use Rattle.merge_laws.proofs.Rows.{in_places}
use Rattle.merge_laws.proofs.Exact.{label_back}

-- ---- some buckets before others
joined : (bs cs : List Bucket) → AreSeparate bs → ((i : ℕ) → in_theirs i bs ≡ true → in_theirs i cs ≡ false)
    → ((k : ℕ) → in_mine k bs ≡ true → in_mine k cs ≡ false) → AreSeparate cs → AreSeparate (bs ++ cs)
joined [] cs h f g k = k
joined (b ∷ bs) cs h f g k = (
  λ i here. list_any-append (λ c. is_in i c.theirs) bs cs
      ∙ or_neither (in_theirs i bs) (in_theirs i cs) (h.0 i here) (f i (ap (λ t. t || in_theirs i bs) here)),
  λ i here. list_any-append (λ c. is_in i c.mine) bs cs
      ∙ or_neither (in_mine i bs) (in_mine i cs) (h.1 i here) (g i (ap (λ t. t || in_mine i bs) here)),
  joined bs cs h.2 (λ i at. f i (later (is_in i b.theirs) (in_theirs i bs) at)) (λ i at. g i (later (is_in i b.mine) (in_mine i bs) at)) k,
)
  where
    later : (a c : Bool) → c ≡ true → a || c ≡ true
    later true c h = refl
    later false c h = h

-- ---- the positions of one label
one_or : (t : Bool) → t || false ≡ true → t ≡ true
one_or true h = refl
one_or false h = h

mixed_theirs : (xs ys : List ℕ) (i : ℕ) → in_theirs i (mixed xs ys) ≡ true → is_in i xs ≡ true
mixed_theirs [] ys i h = cc
mixed_theirs (x ∷ xs) [] i h = cc
mixed_theirs (x ∷ xs) (y ∷ ys) i h = one_or (is_in i (x ∷ xs)) h

mixed_mine : (xs ys : List ℕ) (i : ℕ) → in_mine i (mixed xs ys) ≡ true → is_in i ys ≡ true
mixed_mine [] ys i h = cc
mixed_mine (x ∷ xs) [] i h = cc
mixed_mine (x ∷ xs) (y ∷ ys) i h = one_or (is_in i (y ∷ ys)) h

mixed_separate : (xs ys : List ℕ) → AreSeparate (mixed xs ys)
mixed_separate [] ys = tt
mixed_separate (x ∷ xs) [] = tt
mixed_separate (x ∷ xs) (y ∷ ys) = (λ i h. refl, λ k h. refl, tt)

at_label : (n : ℕ) (ls : List ℕ) (i : ℕ) → is_in i (places n ls) ≡ true → slice_get ls i ≡ Some n
at_label n ls i h = label_back n (slice_get ls i) (sym (in_places n ls i) ∙ h)

low_theirs : (ts ms : List ℕ) (n i : ℕ) → in_theirs i (buckets_below ts ms n) ≡ true → (l : ℕ) × (l < n) × (slice_get ts i ≡ Some l)
low_theirs ts ms zero i h = cc
low_theirs ts ms (suc n) i h =
    or_cases (in_theirs i (buckets_below ts ms n)) (in_theirs i (mixed (places n ts) (places n ms)))
    (sym (list_any-append (λ c. is_in i c.theirs) (buckets_below ts ms n) (mixed (places n ts) (places n ms))) ∙ h)
    (λ before. let r = low_theirs ts ms n i before in let low = r.1 in (r.0, omega (arith, low), r.2))
    (λ here. (n, omega arith, at_label n ts i (mixed_theirs (places n ts) (places n ms) i here)))

low_mine : (ts ms : List ℕ) (n i : ℕ) → in_mine i (buckets_below ts ms n) ≡ true → (l : ℕ) × (l < n) × (slice_get ms i ≡ Some l)
low_mine ts ms zero i h = cc
low_mine ts ms (suc n) i h =
    or_cases (in_mine i (buckets_below ts ms n)) (in_mine i (mixed (places n ts) (places n ms)))
    (sym (list_any-append (λ c. is_in i c.mine) (buckets_below ts ms n) (mixed (places n ts) (places n ms))) ∙ h)
    (λ before. let r = low_mine ts ms n i before in let low = r.1 in (r.0, omega (arith, low), r.2))
    (λ here. (n, omega arith, at_label n ms i (mixed_mine (places n ts) (places n ms) i here)))

two_labels : (o : Option ℕ) (l n : ℕ) → l < n → o ≡ Some l → o ≡ Some n → ⊥
two_labels o l n low h g = let same : l ≡ n = one (sym h ∙ g) in omega (arith, low, same)
  where
    one : Some l ≡ Some n → l ≡ n
    one e = cc

rows_separate : (ts ms : List ℕ) (n : ℕ) → AreSeparate (buckets_below ts ms n)
rows_separate ts ms zero = tt
rows_separate ts ms (suc n) =
    joined (buckets_below ts ms n) (mixed (places n ts) (places n ms)) (rows_separate ts ms n)
    (λ i before. let r = low_theirs ts ms n i before in
    not_so (in_theirs i (mixed (places n ts) (places n ms))) (λ here.
    two_labels (slice_get ts i) r.0 n r.1 r.2 (at_label n ts i (mixed_theirs (places n ts) (places n ms) i here))))
    (λ i before. let r = low_mine ts ms n i before in
    not_so (in_mine i (mixed (places n ts) (places n ms))) (λ here.
    two_labels (slice_get ms i) r.0 n r.1 r.2 (at_label n ms i (mixed_mine (places n ts) (places n ms) i here))))
    (mixed_separate (places n ts) (places n ms))

pub buckets_are_separate : BucketsAreSeparate
unfolding buckets
buckets_are_separate meta theirs mine =
    rows_separate (take (length theirs) (labels meta (theirs ++ mine))) (drop (length theirs) (labels meta (theirs ++ mine))) (length theirs)
