-- Where either side is empty there is no bucket.
use Rattle.std.proofs.Common.{◌≡◌, ℕ, zero, suc, ◌≤◌, List, [], ◌∷◌, ◌++◌, refl, ap, ◌∙◌, length, take, drop, arith, append-nil}
use Rattle.ecore_meta.specs.Meta.{Meta}
use Rattle.model_state.specs.declared.operation.Operation.{Operation}
use Rattle.footprint.specs.Buckets.{labels, mixed, places, buckets_below, buckets}
use Rattle.merge_laws.proofs.Exact.{labels_length}

pub drop_past : {A : Type 0} (xs : List A) (n : ℕ) → length xs ≤ n → drop n xs ≡ []
drop_past [] zero h = refl
drop_past [] (suc n) h = refl
drop_past (x ∷ xs) zero h = absurd (omega (arith, h))
drop_past (x ∷ xs) (suc n) h = drop_past xs n (omega (arith, h))

mixed_none : (xs : List ℕ) → mixed xs [] ≡ []
mixed_none [] = refl
mixed_none (x ∷ xs) = refl

rows_none : (ts : List ℕ) (n : ℕ) → buckets_below ts [] n ≡ []
rows_none ts zero = refl
rows_none ts (suc n) = ap (λ bs. bs ++ mixed (places n ts) []) (rows_none ts n) ∙ mixed_none (places n ts)

pub no_theirs : (meta : Meta) (ts ms : List Operation) → length ts ≡ 0 → [] ≡ buckets meta ts ms
unfolding buckets
no_theirs meta [] ms none = refl
no_theirs meta (t ∷ ts) ms none = absurd (omega (arith, none))

pub no_mine : (meta : Meta) (ts ms : List Operation) → length ms ≡ 0 → buckets meta ts ms ≡ []
unfolding buckets
no_mine meta ts [] none =
    let n = length ts in
    let ls = labels meta (ts ++ []) in
    let size = labels_length meta (ts ++ []) in
    let same = ap length (append-nil ts) in
    ap (λ right. buckets_below (take n ls) right n) (drop_past ls n (omega (arith, size, same))) ∙ rows_none (take n ls) n
no_mine meta ts (m ∷ ms) none = absurd (omega (arith, none))
