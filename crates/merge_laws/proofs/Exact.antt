-- The buckets are the classes with operations of both sides.
use Rattle.std.proofs.Common.{◌≡◌, ℕ, zero, suc, ◌+◌, ◌<◌, ◌≤◌, Bool, true, false, List, [], ◌∷◌, ◌++◌, refl, sym, ap, subst, ◌∙◌, ◌&&◌, ◌||◌, take}
use Rattle.std.proofs.Common.{drop, length, arith, length-append}
use Rattle.std.proofs.lemmas.List.{length-map}
use Rattle.std.specs.Prelude.{Option, None, Some, slice_get}
use Rattle.std.proofs.lemmas.Option.{slice_get_within}
use Rattle.std.proofs.lemmas.List.Folds.{list_any-append}
use Rattle.finite_maps.proofs.EqualLaws.{and_first, and_second, nat_equality}
use Rattle.model_laws.proofs.Exchange.{or_cases}
use Rattle.ecore_meta.specs.Meta.{Meta}
use Rattle.model_state.specs.declared.operation.Operation.{Operation}
use Rattle.footprint.specs.declared.bucket.Bucket.{Bucket}
use Rattle.footprint.specs.Buckets.{labels, places, mixed, buckets_below, buckets}
use Rattle.merge_laws.specs.Grouping.{is_in, shares}
use Rattle.merge_laws.specs.Classes.{AllMixed, AreClasses}
use Rattle.merge_laws.specs.BucketLaws.{BucketsAreClasses}
use Rattle.merge_laws.proofs.Labels.{moved, labelled}
use Rattle.merge_laws.proofs.Rows.{left_at, take_at, drop_at, has_label, in_places, rows_theirs, rows_mine, rows_share}
use Rattle.merge_laws.proofs.Linked.{linked_label, labels_linked}

-- ---- rows
mixed_both : (xs ys : List ℕ) → AllMixed (mixed xs ys)
mixed_both [] ys = tt
mixed_both (x ∷ xs) [] = tt
mixed_both (x ∷ xs) (y ∷ ys) = (more x xs, more y ys, tt)
  where
    more : (z : ℕ) (zs : List ℕ) → 0 < suc (length zs)
    more z zs = omega arith

both_join : (bs cs : List Bucket) → AllMixed bs → AllMixed cs → AllMixed (bs ++ cs)
both_join [] cs h g = g
both_join (b ∷ bs) cs h g = (h.0, h.1, both_join bs cs h.2 g)

rows_both : (ts ms : List ℕ) (n : ℕ) → AllMixed (buckets_below ts ms n)
rows_both ts ms zero = tt
rows_both ts ms (suc n) = both_join (buckets_below ts ms n) (mixed (places n ts) (places n ms)) (rows_both ts ms n) (mixed_both (places n ts) (places n ms))

mixed_back : (xs ys : List ℕ) (i k : ℕ) → shares (mixed xs ys) i k ≡ true → (is_in i xs ≡ true) × (is_in k ys ≡ true)
mixed_back [] ys i k h = cc
mixed_back (x ∷ xs) [] i k h = cc
mixed_back (x ∷ xs) (y ∷ ys) i k h =
    let one : is_in i (x ∷ xs) && is_in k (y ∷ ys) ≡ true = first_of_one (is_in i (x ∷ xs) && is_in k (y ∷ ys)) h in
    (and_first (is_in i (x ∷ xs)) (is_in k (y ∷ ys)) one, and_second (is_in i (x ∷ xs)) (is_in k (y ∷ ys)) one)
  where
    first_of_one : (t : Bool) → t || false ≡ true → t ≡ true
    first_of_one true h = refl
    first_of_one false h = h

pub label_back : (l : ℕ) (o : Option ℕ) → has_label l o ≡ true → o ≡ Some l
label_back l None h = cc
label_back l (Some m) h = ap Some (nat_equality.exact m l h)

rows_back : (ts ms : List ℕ) (n i k : ℕ) → shares (buckets_below ts ms n) i k ≡ true → (l : ℕ) × (slice_get ts i ≡ Some l) × (slice_get ms k ≡ Some l)
rows_back ts ms zero i k h = cc
rows_back ts ms (suc n) i k h =
    or_cases (shares (buckets_below ts ms n) i k) (shares (mixed (places n ts) (places n ms)) i k)
    (sym (list_any-append (λ b. is_in i b.theirs && is_in k b.mine) (buckets_below ts ms n) (mixed (places n ts) (places n ms))) ∙ h)
    (λ before. rows_back ts ms n i k before)
    (λ here.
    let r = mixed_back (places n ts) (places n ms) i k here in
    (n, label_back n (slice_get ts i) (sym (in_places n ts i) ∙ r.0), label_back n (slice_get ms k) (sym (in_places n ms k) ∙ r.1)))

-- ---- the two sides
pub take_low : (n : ℕ) (ls : List ℕ) (i l : ℕ) → slice_get (take n ls) i ≡ Some l → i < n
take_low zero ls i l h = cc
take_low (suc n) [] i l h = cc
take_low (suc n) (m ∷ ls) zero l h = omega arith
take_low (suc n) (m ∷ ls) (suc i) l h = let r = take_low n ls i l h in omega (arith, r)

pub at_place : {A : Type 0} (xs : List A) (i : ℕ) → i < length xs → (x : A) × (slice_get xs i ≡ Some x)
at_place [] i h = absurd (omega (arith, h))
at_place (x ∷ xs) zero h = (x, refl)
at_place (x ∷ xs) (suc i) h = at_place xs i (omega (arith, h))

pub labels_length : (meta : Meta) (os : List Operation) → length (labels meta os) ≡ length os
unfolding labels
labels_length meta [] = refl
labels_length meta (o ∷ os) = ap suc (length-map (labels meta os) (moved meta o os) ∙ labels_length meta os)

module _ (meta : Meta) (theirs mine : List Operation) where
  all : List ℕ
  all = labels meta (theirs ++ mine)

  labels_within : (k l : ℕ) → slice_get all k ≡ Some l → k < length (theirs ++ mine)
  unfolding all
  labels_within k l h = subst (λ n. k < n) (labels_length meta (theirs ++ mine)) (slice_get_within (labels meta (theirs ++ mine)) k l h)

  pub are_classes : AreClasses meta theirs mine (buckets meta theirs mine)
  unfolding buckets all
  are_classes = record {
    mixed = rows_both (take (length theirs) all) (drop (length theirs) all) (length theirs);
    linked = λ i k h.
        let r = rows_back (take (length theirs) all) (drop (length theirs) all) (length theirs) i k h in
        let low = take_low (length theirs) all i r.0 r.1 in
        let at_k : slice_get all (length theirs + k) ≡ Some r.0 = sym (drop_at (length theirs) all k) ∙ r.2 in
        let inside = labels_within (length theirs + k) r.0 at_k in (
          low,
          my_place k inside,
          labels_linked meta (theirs ++ mine) i (length theirs + k) r.0 (sym (take_at (length theirs) all i low) ∙ r.1) at_k,
        );
    shared = λ i k low high on.
        let a = at_place theirs i low in
        let l = labelled meta (theirs ++ mine) i a.0 (left_at theirs mine i a.0 a.1) in
        rows_share (take (length theirs) all) (drop (length theirs) all) (length theirs) i k l.0 (below l.0 i (length theirs) l.2 low)
        (take_at (length theirs) all i low ∙ l.1)
        (drop_at (length theirs) all k ∙ (sym (linked_label meta (theirs ++ mine) i (length theirs + k) on) ∙ l.1));
    whole_theirs = λ i j low high on. rows_theirs (take (length theirs) all) (drop (length theirs) all) (length theirs) i j
        (take_at (length theirs) all i low ∙ (linked_label meta (theirs ++ mine) i j on ∙ sym (take_at (length theirs) all j high)));
    whole_mine = λ i j low high on. rows_mine (take (length theirs) all) (drop (length theirs) all) (length theirs) i j
        (drop_at (length theirs) all i ∙ (linked_label meta (theirs ++ mine) (length theirs + i) (length theirs + j) on ∙ sym (drop_at (length theirs) all j)));
  }
    where
      below : (l i n : ℕ) → l ≤ i → i < n → l < n
      below l i n h g = omega (arith, h, g)

      my_place : (k : ℕ) → length theirs + k < length (theirs ++ mine) → k < length mine
      my_place k h = let e = length-append theirs mine in omega (arith, h, e)

pub buckets_are_classes : BucketsAreClasses
buckets_are_classes meta theirs mine = are_classes meta theirs mine
