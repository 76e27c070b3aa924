-- The buckets stand in the order of their first operations, and their positions rise.
use Rattle.std.proofs.Common.{◌≡◌, ℕ, zero, suc, ◌<◌, ◌≤◌, true, false, cond, List, [], ◌∷◌, ◌++◌, refl, sym, ap, subst, ◌∙◌, ◌||◌, map, take, drop}
use Rattle.std.proofs.Common.{length, nat_eq, arith}
use Rattle.std.specs.Prelude.{Some, slice_get}
use Rattle.std.proofs.lemmas.Option.{slice_get_within}
use Rattle.finite_maps.proofs.EqualLaws.{nat_equality}
use Rattle.model_laws.proofs.Exchange.{or_cases}
use Rattle.ecore_meta.specs.Meta.{Meta}
use Rattle.model_state.specs.declared.operation.Operation.{Operation}
use Rattle.footprint.specs.declared.bucket.Bucket.{Bucket}
use Rattle.footprint.specs.Buckets.{labels, places, mixed, buckets_below, buckets}
use Rattle.merge_laws.specs.Grouping.{is_in}
use Rattle.merge_laws.specs.Order.{Above, Rising, AllRising, firsts, InOrder}
use Rattle.merge_laws.specs.BucketLaws.{BucketsInOrder}
use Rattle.merge_laws.proofs.Labels.{some_same, labelled}
use Rattle.merge_laws.proofs.Rows.{take_at, has_label, in_places}
use Rattle.merge_laws.proofs.Linked.{own_label}
use Rattle.merge_laws.proofs.Exact.{label_back, take_low, labels_length, at_place}

-- ---- rising lists
above_suc : (x : ℕ) (ys : List ℕ) → Above x ys → Above (suc x) (map suc ys)
above_suc x [] h = tt
above_suc x (y ∷ ys) h = (less x y h.0, above_suc x ys h.1)
  where
    less : (x y : ℕ) → x < y → suc x < suc y
    less x y h = omega (arith, h)

above_zero : (ys : List ℕ) → Above 0 (map suc ys)
above_zero [] = tt
above_zero (y ∷ ys) = (less y, above_zero ys)
  where
    less : (y : ℕ) → 0 < suc y
    less y = omega arith

rising_suc : (ys : List ℕ) → Rising ys → Rising (map suc ys)
rising_suc [] h = tt
rising_suc (y ∷ ys) h = (above_suc y ys h.0, rising_suc ys h.1)

places_rising : (l : ℕ) (ms : List ℕ) → Rising (places l ms)
places_rising l [] = tt
places_rising l (m ∷ ms) =
    elim (nat_eq m l) as (λ t. Rising (cond t (0 ∷ map suc (places l ms)) (map suc (places l ms)))) [
      | true ↦ (above_zero (places l ms), rising_suc (places l ms) (places_rising l ms))
      | false ↦ rising_suc (places l ms) (places_rising l ms)
    ]

-- a member of a rising list is no less than its first
above_in : (x i : ℕ) (xs : List ℕ) → Above x xs → is_in i xs ≡ true → x ≤ i
above_in x i [] h g = cc
above_in x i (y ∷ xs) h g = or_cases (nat_eq i y) (is_in i xs) g
    (λ e. least x y i h.0 (nat_equality.exact i y e))
    (λ later. above_in x i xs h.1 later)
  where
    least : (x y i : ℕ) → x < y → i ≡ y → x ≤ i
    least x y i h e = omega (arith, h, e)

first_least : (x i : ℕ) (xs : List ℕ) → Rising (x ∷ xs) → is_in i (x ∷ xs) ≡ true → x ≤ i
first_least x i xs h g = or_cases (nat_eq i x) (is_in i xs) g (λ e. least x i (nat_equality.exact i x e)) (λ later. above_in x i xs h.0 later)
  where
    least : (x i : ℕ) → i ≡ x → x ≤ i
    least x i e = omega (arith, e)

-- ---- rows
mixed_rising : (xs ys : List ℕ) → Rising xs → Rising ys → AllRising (mixed xs ys)
mixed_rising [] ys h g = tt
mixed_rising (x ∷ xs) [] h g = tt
mixed_rising (x ∷ xs) (y ∷ ys) h g = (h, g, tt)

all_join : (bs cs : List Bucket) → AllRising bs → AllRising cs → AllRising (bs ++ cs)
all_join [] cs h g = g
all_join (b ∷ bs) cs h g = (h.0, h.1, all_join bs cs h.2 g)

rows_rising : (ts ms : List ℕ) (n : ℕ) → AllRising (buckets_below ts ms n)
rows_rising ts ms zero = tt
rows_rising ts ms (suc n) =
    all_join (buckets_below ts ms n) (mixed (places n ts) (places n ms)) (rows_rising ts ms n)
    (mixed_rising (places n ts) (places n ms) (places_rising n ts) (places_rising n ms))

-- ---- their order
Below : ℕ → List ℕ → Type 0
Below n [] = Unit {0}
Below n (x ∷ xs) = (x < n) × Below n xs

below_more : (n : ℕ) (xs : List ℕ) → Below n xs → Below (suc n) xs
unfolding Below
below_more n [] h = tt
below_more n (x ∷ xs) h = (less x n h.0, below_more n xs h.1)
  where
    less : (x n : ℕ) → x < n → x < suc n
    less x n h = omega (arith, h)

below_last : (n : ℕ) (xs : List ℕ) → Below n xs → Below (suc n) (xs ++ n ∷ [])
unfolding Below
below_last n [] h = (omega arith, tt)
below_last n (x ∷ xs) h = (less x n h.0, below_last n xs h.1)
  where
    less : (x n : ℕ) → x < n → x < suc n
    less x n h = omega (arith, h)

above_last : (x n : ℕ) (xs : List ℕ) → Above x xs → x < n → Above x (xs ++ n ∷ [])
above_last x n [] h g = (g, tt)
above_last x n (y ∷ xs) h g = (h.0, above_last x n xs h.1 g)

rising_last : (n : ℕ) (xs : List ℕ) → Rising xs → Below n xs → Rising (xs ++ n ∷ [])
unfolding Below
rising_last n [] h g = (tt, tt)
rising_last n (x ∷ xs) h g = (above_last x n xs h.0 g.0, rising_last n xs h.1 g.1)

firsts_join : (bs cs : List Bucket) → firsts (bs ++ cs) ≡ firsts bs ++ firsts cs
firsts_join [] cs = refl
firsts_join (b ∷ bs) cs = go (take 1 b.theirs) (firsts (bs ++ cs)) (firsts bs) (firsts cs) (firsts_join bs cs)
  where
    go : (hs all xs ys : List ℕ) → all ≡ xs ++ ys → hs ++ all ≡ (hs ++ xs) ++ ys
    go [] all xs ys h = h
    go (z ∷ hs) all xs ys h = ap (λ l. z ∷ l) (go hs all xs ys h)

-- each label is the position of an operation with that label, and no later than any
Own : List ℕ → Type 0
Own ts = (i l : ℕ) → slice_get ts i ≡ Some l → (slice_get ts l ≡ Some l) × (l ≤ i)

first_is : (ts : List ℕ) → Own ts → (n x : ℕ) (xs : List ℕ) → places n ts ≡ x ∷ xs → x ≡ n
unfolding Own
first_is ts own n x xs h =
    let here : is_in x (places n ts) ≡ true = ap (is_in x) h ∙ ap (λ b. b || is_in x xs) (nat_equality.own x) in
    let at = own x n (label_back n (slice_get ts x) (sym (in_places n ts x) ∙ here)) in
    let mine : is_in n (x ∷ xs) ≡ true = sym (ap (is_in n) h) ∙ (in_places n ts n ∙ (ap (has_label n) at.0 ∙ nat_equality.own n)) in
    let low = first_least x n xs (subst Rising h (places_rising n ts)) mine in
    same x n low at.1
  where
    same : (x n : ℕ) → x ≤ n → n ≤ x → x ≡ n
    same x n h g = omega (arith, h, g)

-- a mixed component has the one first position, or there is none
mixed_first : (ts : List ℕ) → Own ts → (n : ℕ) (xs ys : List ℕ) → places n ts ≡ xs → {G : Type 0} → (firsts (mixed xs ys) ≡ [] → G)
    → (firsts (mixed xs ys) ≡ n ∷ [] → G) → G
mixed_first ts own n [] ys h none one = none refl
mixed_first ts own n (x ∷ xs) [] h none one = none refl
mixed_first ts own n (x ∷ xs) (y ∷ ys) h none one = one (ap (λ z. z ∷ []) (first_is ts own n x xs h))

append_none : (xs ys : List ℕ) → ys ≡ [] → xs ++ ys ≡ xs
append_none [] ys h = h
append_none (x ∷ xs) ys h = ap (λ l. x ∷ l) (append_none xs ys h)

rows_order : (ts ms : List ℕ) → Own ts → (n : ℕ) → Rising (firsts (buckets_below ts ms n)) × Below n (firsts (buckets_below ts ms n))
unfolding Below
rows_order ts ms own zero = (tt, tt)
rows_order ts ms own (suc n) =
    let r = rows_order ts ms own n in
    let f = firsts (buckets_below ts ms n) in
    let cut = firsts_join (buckets_below ts ms n) (mixed (places n ts) (places n ms)) in
    mixed_first ts own n (places n ts) (places n ms) refl
    (λ none. subst (λ l. Rising l × Below (suc n) l) (sym (cut ∙ append_none f (firsts (mixed (places n ts) (places n ms))) none)) (r.0, below_more n f r.1))
    (λ one. subst (λ l. Rising l × Below (suc n) l) (sym (cut ∙ ap (λ l. f ++ l) one)) (rising_last n f r.0 r.1, below_last n f r.1))

module _ (meta : Meta) (theirs mine : List Operation) where
  own_take : Own (take (length theirs) (labels meta (theirs ++ mine)))
  unfolding Own
  own_take i l h =
      let n = length theirs in
      let all = labels meta (theirs ++ mine) in
      let low = take_low n all i l h in
      let at : slice_get all i ≡ Some l = sym (take_at n all i low) ∙ h in
      let p = at_place (theirs ++ mine) i (within i l at) in
      let r = labelled meta (theirs ++ mine) i p.0 p.1 in
      let small : l ≤ i = subst (λ x. x ≤ i) (some_same r.0 l (sym r.1 ∙ at)) r.2 in
      (take_at n all l (less l i n small low) ∙ own_label meta (theirs ++ mine) i l at, small)
    where
      less : (l i n : ℕ) → l ≤ i → i < n → l < n
      less l i n h g = omega (arith, h, g)

      within : (i l : ℕ) → slice_get (labels meta (theirs ++ mine)) i ≡ Some l → i < length (theirs ++ mine)
      within i l h = subst (λ n. i < n) (labels_length meta (theirs ++ mine)) (slice_get_within (labels meta (theirs ++ mine)) i l h)

  pub in_order : InOrder (buckets meta theirs mine)
  unfolding buckets
  in_order = record {
    rising = rows_rising (take (length theirs) (labels meta (theirs ++ mine))) (drop (length theirs) (labels meta (theirs ++ mine))) (length theirs);
    order = (rows_order (take (length theirs) (labels meta (theirs ++ mine))) (drop (length theirs) (labels meta (theirs ++ mine))) own_take (length theirs)).0;
  }

pub buckets_in_order : BucketsInOrder
buckets_in_order meta theirs mine = in_order meta theirs mine
