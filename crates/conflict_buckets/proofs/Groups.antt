-- Rows by what the code keeps.
use Rattle.std.proofs.Common.{◌≡◌, ℕ, ◌≤◌, List, ◌++◌, ap, ◌∙◌, take, drop, length, arith, length-append}
use Rattle.ecore_meta.specs.Meta.{Meta}
use Rattle.model_state.specs.declared.operation.Operation.{Operation}
use Rattle.footprint.specs.declared.cell.Print.{Print}
use Rattle.footprint.specs.Prints.{shown, printed}
use Rattle.footprint.proofs.Printed.{as_many}
use Rattle.footprint.specs.Buckets.{labels, buckets_below, buckets}

pub rows_are : (meta : Meta) (ts ms : List Operation) (found view left right : List ℕ) (n : ℕ) → view ≡ found → found ≡ labels meta (ts ++ ms)
    → left ≡ take n view → right ≡ drop n view → length left ≡ n → n ≡ length ts → buckets_below left right (length left) ≡ buckets meta ts ms
unfolding buckets
rows_are meta ts ms found view left right n v is l r size long =
    let all = v ∙ is in
    λ i. buckets_below ((l ∙ (λ t. take (long t) (all t))) i) ((r ∙ (λ t. drop (long t) (all t))) i) ((size ∙ long) i)

-- where the labels of theirs end
pub split_low : (meta : Meta) (ts ms : List Operation) (prints view : List Print) (found seen : List ℕ) (n : ℕ)
    → shown prints ≡ printed meta (ts ++ ms) → view ≡ prints → length found ≡ length view → seen ≡ found → n ≡ length ts → n ≤ length seen
split_low meta ts ms prints view found seen n is v size s long =
    let many = as_many meta prints (ts ++ ms) is in
    let all = length-append ts ms in
    let e = ap length v in
    let f = ap length s in
    omega (arith, many, all, e, f, size, long)
