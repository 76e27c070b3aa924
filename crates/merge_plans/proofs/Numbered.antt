-- The places in buckets are places of operations.
use Rattle.std.proofs.Common.{◌≡◌, ◌≤◌, ◌<◌, ℕ, zero, suc, ◌+◌, ◌-◌, ◌^◌, nat_eq, Bool, true, false, cond, List, [], ◌∷◌, ◌++◌, map, length, take}
use Rattle.std.proofs.Common.{drop, ◌∙◌, arith, length-append}
use Rattle.std.specs.Prelude.{All}
use Rattle.std.specs.List.{AllByRecursion}
use Rattle.std.proofs.lemmas.List.Elements.{All-from_recursion}
use Rattle.ecore_meta.specs.Meta.{Meta}
use Rattle.model_state.specs.declared.operation.Operation.{Operation}
use Rattle.footprint.specs.declared.bucket.Bucket.{Bucket}
use Rattle.footprint.specs.Buckets.{buckets, labels, mixed, places, buckets_below}
use Rattle.merge_laws.proofs.Exact.{labels_length}

-- numbers below a bound
abbrev pub AreBelow : ℕ → List ℕ → Type 0
AreBelow n xs = AllByRecursion (λ i. i < n) xs

-- one more of each is below one more
below_suc : (n : ℕ) (xs : List ℕ) → AreBelow n xs → AreBelow (suc n) (map suc xs)
below_suc n [] all = tt
below_suc n (x ∷ xs) all = (omega (arith, all.0), below_suc n xs all.1)

-- a greater bound is one too
below_more : (n k : ℕ) (xs : List ℕ) → n ≤ k → AreBelow n xs → AreBelow k xs
below_more n k [] le all = tt
below_more n k (x ∷ xs) le all = (omega (arith, all.0, le), below_more n k xs le all.1)

places_by : (b : Bool) (n : ℕ) (xs : List ℕ) → AreBelow n xs → AreBelow (suc n) (cond b (0 ∷ map suc xs) (map suc xs))
places_by true n xs all = (omega arith, below_suc n xs all)
places_by false n xs all = below_suc n xs all

-- the places of a label are places of the list
places_below : (l : ℕ) (ms : List ℕ) → AreBelow (length ms) (places l ms)
places_below l [] = tt
places_below l (m ∷ ms) = places_by (nat_eq m l) (length ms) (places l ms) (places_below l ms)

-- ---- buckets
-- a bucket of places below two bounds
abbrev pub IsBelow : ℕ → ℕ → Bucket → Type 0
IsBelow n k b = AreBelow n b.theirs × AreBelow k b.mine

mixed_below : (n k : ℕ) (xs ys : List ℕ) → AreBelow n xs → AreBelow k ys → AllByRecursion (IsBelow n k) (mixed xs ys)
mixed_below n k [] ys first second = tt
mixed_below n k (x ∷ xs) [] first second = tt
mixed_below n k (x ∷ xs) (y ∷ ys) first second = ((first, second), tt)

both : {X : Type 0} (P : X → Type 0) (xs ys : List X) → AllByRecursion P xs → AllByRecursion P ys → AllByRecursion P (xs ++ ys)
both P [] ys first second = second
both P (x ∷ xs) ys first second = (first.0, both P xs ys first.1 second)

rows_below : (ts ms : List ℕ) (n : ℕ) → AllByRecursion (IsBelow (length ts) (length ms)) (buckets_below ts ms n)
rows_below ts ms zero = tt
rows_below ts ms (suc n) =
    both (IsBelow (length ts) (length ms)) (buckets_below ts ms n) (mixed (places n ts) (places n ms)) (rows_below ts ms n)
    (mixed_below (length ts) (length ms) (places n ts) (places n ms) (places_below n ts) (places_below n ms))

take_short : (n : ℕ) (xs : List ℕ) → length (take n xs) ≤ n
take_short zero xs = omega arith
take_short (suc n) [] = omega arith
take_short (suc n) (x ∷ xs) = omega (arith, take_short n xs)

drop_short : (n : ℕ) (xs : List ℕ) (k : ℕ) → length xs ≡ n + k → length (drop n xs) ≡ k
drop_short zero xs k is = omega (arith, is)
drop_short (suc n) [] k is = absurd (omega (arith, is))
drop_short (suc n) (x ∷ xs) k is = drop_short n xs k (omega (arith, is))

-- numbers that have a further one of 64 bits
abbrev pub HasNumbers : Bucket → Type 0
HasNumbers b = All (λ i. i < 2 ^ 64 - 1) b.theirs × All (λ i. i < 2 ^ 64 - 1) b.mine

numbered_each : (n k : ℕ) (bs : List Bucket) → n ≤ 2 ^ 64 - 1 → k ≤ 2 ^ 64 - 1 → AllByRecursion (IsBelow n k) bs → AllByRecursion HasNumbers bs
numbered_each n k [] first second all = tt
numbered_each n k (b ∷ bs) first second all = (
  (
    All-from_recursion (λ i. i < 2 ^ 64 - 1) b.theirs (below_more n (2 ^ 64 - 1) b.theirs first all.0.0),
    All-from_recursion (λ i. i < 2 ^ 64 - 1) b.mine (below_more k (2 ^ 64 - 1) b.mine second all.0.1),
  ),
  numbered_each n k bs first second all.1,
)

-- so do the places in the buckets of two packages whose lengths have 64 bits
pub numbered : (meta : Meta) (theirs mine : List Operation) → length theirs < 2 ^ 64 → length mine < 2 ^ 64 → All HasNumbers (buckets meta theirs mine)
unfolding buckets
numbered meta theirs mine first second =
    let n = length theirs in
    let ls = labels meta (theirs ++ mine) in
    let all = rows_below (take n ls) (drop n ls) n in
    let size : length ls ≡ n + length mine = labels_length meta (theirs ++ mine) ∙ length-append theirs mine in
    All-from_recursion HasNumbers (buckets_below (take n ls) (drop n ls) n)
    (numbered_each (length (take n ls)) (length (drop n ls)) (buckets_below (take n ls) (drop n ls) n) (omega (arith, take_short n ls, first))
    (omega (arith, drop_short n ls (length mine) size, second)) all)
