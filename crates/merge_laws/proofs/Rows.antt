-- The buckets, by the labels of the two sides.
use Rattle.std.proofs.Common.{◌≡◌, ℕ, zero, suc, ◌+◌, ◌<◌, ◌≤◌, Bool, true, false, cond, List, [], ◌∷◌, ◌++◌, refl, sym, ap, subst, ◌∙◌, ◌&&◌, ◌||◌}
use Rattle.std.proofs.Common.{map, take, drop, length, nat_eq, arith, rules, inl, inr}
use Rattle.std.specs.Prelude.{Option, None, Some, slice_get}
use Rattle.std.proofs.lemmas.Bool.{cases_lt, or_left, or_right}
use Rattle.std.proofs.lemmas.Option.{slice_get_within}
use Rattle.std.proofs.lemmas.List.Folds.{list_any-append}
use Rattle.finite_maps.proofs.EqualLaws.{and_both, nat_equality}
use Rattle.ecore_meta.specs.Meta.{Meta}
use Rattle.model_state.specs.declared.operation.Operation.{Operation}
use Rattle.footprint.specs.declared.bucket.Bucket.{Bucket}
use Rattle.footprint.specs.Buckets.{labels, places, mixed, buckets_below, buckets}
use Rattle.merge_laws.specs.Grouping.{is_in, SameTheirs, SameMine, shares, GroupInterfering}
use Rattle.merge_laws.specs.BucketLaws.{BucketsGroupInterfering}
use Rattle.merge_laws.proofs.Labels.{labelled, labels_close}

-- ---- positions in lists
pub left_at : {A : Type 0} (xs ys : List A) (i : ℕ) (x : A) → slice_get xs i ≡ Some x → slice_get (xs ++ ys) i ≡ Some x
left_at [] ys i x h = cc
left_at (z ∷ xs) ys zero x h = h
left_at (z ∷ xs) ys (suc i) x h = left_at xs ys i x h

pub right_at : {A : Type 0} (xs ys : List A) (k : ℕ) → slice_get (xs ++ ys) (length xs + k) ≡ slice_get ys k
right_at [] ys k = let e : 0 + k ≡ k = omega arith in ap (slice_get ys) e
right_at (z ∷ xs) ys k = let e : suc (length xs) + k ≡ suc (length xs + k) = omega arith in ap (slice_get (z ∷ (xs ++ ys))) e ∙ right_at xs ys k

pub take_at : (n : ℕ) (ls : List ℕ) (i : ℕ) → i < n → slice_get (take n ls) i ≡ slice_get ls i
take_at zero ls i h = absurd (omega (arith, h))
take_at (suc n) [] i h = refl
take_at (suc n) (l ∷ ls) zero h = refl
take_at (suc n) (l ∷ ls) (suc i) h = take_at n ls i (omega (arith, h))

pub drop_at : (n : ℕ) (ls : List ℕ) (k : ℕ) → slice_get (drop n ls) k ≡ slice_get ls (n + k)
drop_at zero ls k = let e : 0 + k ≡ k = omega arith in sym (ap (slice_get ls) e)
drop_at (suc n) [] k = refl
drop_at (suc n) (l ∷ ls) k = let e : suc n + k ≡ suc (n + k) = omega arith in drop_at n ls k ∙ sym (ap (slice_get (l ∷ ls)) e)

-- ---- positions with a label
abbrev pub has_label : ℕ → Option ℕ → Bool
has_label l None = false
has_label l (Some m) = nat_eq m l

eq_suc : (a b : ℕ) → nat_eq (suc a) (suc b) ≡ nat_eq a b
eq_suc a b = search rules

zero_suc : (b : ℕ) → nat_eq 0 (suc b) ≡ false
zero_suc b = search rules

suc_zero : (a : ℕ) → nat_eq (suc a) 0 ≡ false
suc_zero a = search rules

zero_out : (xs : List ℕ) → is_in 0 (map suc xs) ≡ false
zero_out [] = refl
zero_out (x ∷ xs) = ap (λ b. b || is_in 0 (map suc xs)) (zero_suc x) ∙ zero_out xs

suc_in : (i : ℕ) (xs : List ℕ) → is_in (suc i) (map suc xs) ≡ is_in i xs
suc_in i [] = refl
suc_in i (x ∷ xs) = λ t. eq_suc i x t || suc_in i xs t

pub in_places : (l : ℕ) (ls : List ℕ) (i : ℕ) → is_in i (places l ls) ≡ has_label l (slice_get ls i)
in_places l [] i = refl
in_places l (m ∷ ms) zero =
    elim (nat_eq m l) as (λ t. is_in 0 (cond t (0 ∷ map suc (places l ms)) (map suc (places l ms))) ≡ t) [ true ↦ refl | false ↦ zero_out (places l ms) ]
in_places l (m ∷ ms) (suc i) =
    elim (nat_eq m l) as (λ t. is_in (suc i) (cond t (0 ∷ map suc (places l ms)) (map suc (places l ms))) ≡ is_in i (places l ms)) [
      | true ↦ ap (λ b. b || is_in (suc i) (map suc (places l ms))) (suc_zero i) ∙ suc_in i (places l ms)
      | false ↦ suc_in i (places l ms)
    ]
    ∙ in_places l ms i

-- ---- the rows
theirs_join : (bs cs : List Bucket) (i j : ℕ) → SameTheirs bs i j → SameTheirs cs i j → SameTheirs (bs ++ cs) i j
theirs_join [] cs i j h g = g
theirs_join (b ∷ bs) cs i j h g = (h.0, theirs_join bs cs i j h.1 g)

mine_join : (bs cs : List Bucket) (i j : ℕ) → SameMine bs i j → SameMine cs i j → SameMine (bs ++ cs) i j
mine_join [] cs i j h g = g
mine_join (b ∷ bs) cs i j h g = (h.0, mine_join bs cs i j h.1 g)

mixed_theirs : (xs ys : List ℕ) (i j : ℕ) → is_in i xs ≡ is_in j xs → SameTheirs (mixed xs ys) i j
mixed_theirs [] ys i j h = tt
mixed_theirs (x ∷ xs) [] i j h = tt
mixed_theirs (x ∷ xs) (y ∷ ys) i j h = (h, tt)

mixed_mine : (xs ys : List ℕ) (i j : ℕ) → is_in i ys ≡ is_in j ys → SameMine (mixed xs ys) i j
mixed_mine [] ys i j h = tt
mixed_mine (x ∷ xs) [] i j h = tt
mixed_mine (x ∷ xs) (y ∷ ys) i j h = (h, tt)

mixed_shares : (xs ys : List ℕ) (i k : ℕ) → is_in i xs ≡ true → is_in k ys ≡ true → shares (mixed xs ys) i k ≡ true
mixed_shares [] ys i k h g = cc
mixed_shares (x ∷ xs) [] i k h g = cc
mixed_shares (x ∷ xs) (y ∷ ys) i k h g = ap (λ b. b || false) (and_both (is_in i (x ∷ xs)) (is_in k (y ∷ ys)) h g)

pub rows_theirs : (ts ms : List ℕ) (n i j : ℕ) → slice_get ts i ≡ slice_get ts j → SameTheirs (buckets_below ts ms n) i j
rows_theirs ts ms zero i j h = tt
rows_theirs ts ms (suc n) i j h = theirs_join (buckets_below ts ms n) (mixed (places n ts) (places n ms)) i j (rows_theirs ts ms n i j h)
    (mixed_theirs (places n ts) (places n ms) i j (in_places n ts i ∙ ap (has_label n) h ∙ sym (in_places n ts j)))

pub rows_mine : (ts ms : List ℕ) (n i j : ℕ) → slice_get ms i ≡ slice_get ms j → SameMine (buckets_below ts ms n) i j
rows_mine ts ms zero i j h = tt
rows_mine ts ms (suc n) i j h = mine_join (buckets_below ts ms n) (mixed (places n ts) (places n ms)) i j (rows_mine ts ms n i j h)
    (mixed_mine (places n ts) (places n ms) i j (in_places n ms i ∙ ap (has_label n) h ∙ sym (in_places n ms j)))

pub rows_share : (ts ms : List ℕ) (n i k l : ℕ) → l < n → slice_get ts i ≡ Some l → slice_get ms k ≡ Some l → shares (buckets_below ts ms n) i k ≡ true
rows_share ts ms zero i k l low h g = absurd (omega (arith, low))
rows_share ts ms (suc n) i k l low h g =
    list_any-append (λ b. is_in i b.theirs && is_in k b.mine) (buckets_below ts ms n) (mixed (places n ts) (places n ms))
    ∙ elim (cases_lt l n) as (λ _. shares (buckets_below ts ms n) i k || shares (mixed (places n ts) (places n ms)) i k ≡ true) [
      | inl below ↦ or_left (shares (buckets_below ts ms n) i k) (shares (mixed (places n ts) (places n ms)) i k) (rows_share ts ms n i k l below h g)
      | inr above ↦
          let is : l ≡ n = omega (arith, low, above) in
          let own : nat_eq l n ≡ true = subst (λ x. nat_eq l x ≡ true) is (nat_equality.own l) in
          or_right (shares (buckets_below ts ms n) i k) (shares (mixed (places n ts) (places n ms)) i k)
          (mixed_shares (places n ts) (places n ms) i k (in_places n ts i ∙ ap (has_label n) h ∙ own) (in_places n ms k ∙ ap (has_label n) g ∙ own))
    ]

-- ---- the two sides
module _ (meta : Meta) (theirs mine : List Operation) where
  their_label : (i : ℕ) (a : Operation) → slice_get theirs i ≡ Some a
      → slice_get (take (length theirs) (labels meta (theirs ++ mine))) i ≡ slice_get (labels meta (theirs ++ mine)) i
  their_label i a h = take_at (length theirs) (labels meta (theirs ++ mine)) i (slice_get_within theirs i a h)

  my_label : (k : ℕ) → slice_get (drop (length theirs) (labels meta (theirs ++ mine))) k ≡ slice_get (labels meta (theirs ++ mine)) (length theirs + k)
  my_label k = drop_at (length theirs) (labels meta (theirs ++ mine)) k

  mine_at : (k : ℕ) (b : Operation) → slice_get mine k ≡ Some b → slice_get (theirs ++ mine) (length theirs + k) ≡ Some b
  mine_at k b h = right_at theirs mine k ∙ h

  pub parts : GroupInterfering meta theirs mine (buckets meta theirs mine)
  unfolding buckets
  parts = record {
    among_theirs = λ i j a b h g is.
        rows_theirs (take (length theirs) (labels meta (theirs ++ mine))) (drop (length theirs) (labels meta (theirs ++ mine))) (length theirs) i j
        (their_label i a h ∙ labels_close meta (theirs ++ mine) i j a b (left_at theirs mine i a h) (left_at theirs mine j b g) is ∙ sym (their_label j b g));
    among_mine = λ i j a b h g is.
        rows_mine (take (length theirs) (labels meta (theirs ++ mine))) (drop (length theirs) (labels meta (theirs ++ mine))) (length theirs) i j
        (my_label i ∙ labels_close meta (theirs ++ mine) (length theirs + i) (length theirs + j) a b (mine_at i a h) (mine_at j b g) is ∙ sym (my_label j));
    across = λ i k a b h g is.
        let l = labelled meta (theirs ++ mine) i a (left_at theirs mine i a h) in
        let low = slice_get_within theirs i a h in
        let down : l.0 < length theirs = below l.0 i (length theirs) l.2 low in
        rows_share (take (length theirs) (labels meta (theirs ++ mine))) (drop (length theirs) (labels meta (theirs ++ mine))) (length theirs) i k l.0 down
        (their_label i a h ∙ l.1)
        (my_label k ∙ sym (labels_close meta (theirs ++ mine) i (length theirs + k) a b (left_at theirs mine i a h) (mine_at k b g) is) ∙ l.1);
  }
    where
      below : (l i n : ℕ) → l ≤ i → i < n → l < n
      below l i n h g = omega (arith, h, g)

pub buckets_are_parts : BucketsGroupInterfering
buckets_are_parts meta theirs mine = parts meta theirs mine
