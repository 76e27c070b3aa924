-- What the sides drop, one bucket more.
use Rattle.std.proofs.Common.{◌≡◌, ℕ, suc, ◌+◌, ◌<◌, ◌≤◌, zero, Bool, true, false, ◌||◌, List, [], ◌∷◌, refl, sym, ap, ◌∙◌, drop, length, get_or}
use Rattle.std.proofs.Common.{arith, drop-cons}
use Rattle.std.proofs.Math.Bool.{or_assoc}
use Rattle.footprint.specs.declared.bucket.Bucket.{Bucket}
use Rattle.merge_laws.specs.declared.side.Side.{Side}
use Rattle.merge_laws.specs.declared.side.Side.TheVariants.{Mine, Theirs}
use Rattle.merge_laws.specs.Merge.{drops_theirs, drops_mine}
use Rattle.merge_choices.specs.BucketDrops.{bucket_theirs, bucket_mine}
use Rattle.merge_choices.specs.Flags.{is_flagged, Flagged, AreFlags}

at_place : {A : Type 0} (xs : List A) (k : ℕ) (a : A) → k < length xs → a ≡ get_or xs k a → drop k xs ≡ a ∷ drop (k + 1) xs
at_place xs k a low is = let e : suc k ≡ k + 1 = omega arith in drop-cons xs k a low ∙ (λ t. sym is t ∷ drop (e t) xs)

pub get_any : {A : Type 0} (xs : List A) (k : ℕ) (d e : A) → k < length xs → get_or xs k d ≡ get_or xs k e
get_any [] k d e low = absurd (omega (arith, low))
get_any (x ∷ xs) zero d e low = refl
get_any (x ∷ xs) (suc k) d e low = get_any xs k d e (omega (arith, low))

past : {A : Type 0} (xs : List A) (n : ℕ) → length xs ≤ n → drop n xs ≡ []
past [] zero h = refl
past [] (suc n) h = refl
past (x ∷ xs) zero h = absurd (omega (arith, h))
past (x ∷ xs) (suc n) h = past xs n (omega (arith, h))

or_none : (b : Bool) → b || false ≡ b
or_none true = refl
or_none false = refl

-- flags of so many places, which with what the rest drops are all that is dropped
pub record FlagsSoFar (flags : List Bool) (size : ℕ) (rest whole : ℕ → Bool) : Type 0 where
  pub size_is : length flags ≡ size
  pub with_rest : (i : ℕ) → i < size → is_flagged flags i || rest i ≡ whole i

-- one bucket more
more : (old new : List Bool) (size : ℕ) (here rest later whole : ℕ → Bool) → FlagsSoFar old size rest whole → Flagged old new here
    → ((i : ℕ) → rest i ≡ here i || later i) → FlagsSoFar new size later whole
more old new size here rest later whole so_far set next = record {
  size_is = set.size ∙ so_far.size_is;
  with_rest = λ i low.
      ap (λ b. b || later i) (set.flags i (omega (arith, low, so_far.size_is)))
      ∙ or_assoc (is_flagged old i) (here i) (later i)
      ∙ ap (λ b. is_flagged old i || b) (sym (next i))
      ∙ so_far.with_rest i low;
}

module _ (bs : List Bucket) (ls : List Side) (k : ℕ) (b : Bucket) (l : Side) (low : k < length bs) (low_sides : k < length ls)
    (b_is : b ≡ get_or bs k b) (l_is : l ≡ get_or ls k l) where
  theirs_next : (i : ℕ) → drops_theirs (drop k bs) (drop k ls) i ≡ bucket_theirs b l i || drops_theirs (drop (k + 1) bs) (drop (k + 1) ls) i
  theirs_next i = (λ t. drops_theirs (at_place bs k b low b_is t) (at_place ls k l low_sides l_is t) i) ∙ by l
    where
      by : (l : Side) → drops_theirs (b ∷ drop (k + 1) bs) (l ∷ drop (k + 1) ls) i ≡ bucket_theirs b l i || drops_theirs (drop (k + 1) bs) (drop (k + 1) ls) i
      by Mine = refl
      by Theirs = refl

  mine_next : (i : ℕ) → drops_mine (drop k bs) (drop k ls) i ≡ bucket_mine b l i || drops_mine (drop (k + 1) bs) (drop (k + 1) ls) i
  mine_next i = (λ t. drops_mine (at_place bs k b low b_is t) (at_place ls k l low_sides l_is t) i) ∙ by l
    where
      by : (l : Side) → drops_mine (b ∷ drop (k + 1) bs) (l ∷ drop (k + 1) ls) i ≡ bucket_mine b l i || drops_mine (drop (k + 1) bs) (drop (k + 1) ls) i
      by Mine = refl
      by Theirs = refl

  pub theirs_more : (old new : List Bool) (size : ℕ) → FlagsSoFar old size (drops_theirs (drop k bs) (drop k ls)) (drops_theirs bs ls)
      → Flagged old new (bucket_theirs b l) → FlagsSoFar new size (drops_theirs (drop (k + 1) bs) (drop (k + 1) ls)) (drops_theirs bs ls)
  theirs_more old new size so_far set =
      more old new size (bucket_theirs b l) (drops_theirs (drop k bs) (drop k ls)) (drops_theirs (drop (k + 1) bs) (drop (k + 1) ls))
      (drops_theirs bs ls) so_far set theirs_next

  pub mine_more : (old new : List Bool) (size : ℕ) → FlagsSoFar old size (drops_mine (drop k bs) (drop k ls)) (drops_mine bs ls)
      → Flagged old new (bucket_mine b l) → FlagsSoFar new size (drops_mine (drop (k + 1) bs) (drop (k + 1) ls)) (drops_mine bs ls)
  mine_more old new size so_far set =
      more old new size (bucket_mine b l) (drops_mine (drop k bs) (drop k ls)) (drops_mine (drop (k + 1) bs) (drop (k + 1) ls))
      (drops_mine bs ls) so_far set mine_next

-- none is left
pub theirs_end : (bs : List Bucket) (ls : List Side) (k : ℕ) (flags : List Bool) (size : ℕ) → length bs ≤ k
    → FlagsSoFar flags size (drops_theirs (drop k bs) (drop k ls)) (drops_theirs bs ls) → AreFlags flags size (drops_theirs bs ls)
theirs_end bs ls k flags size high so_far = record {
  size = so_far.size_is;
  flags = λ i low. sym (ap (λ l. is_flagged flags i || drops_theirs l (drop k ls) i) (past bs k high) ∙ or_none (is_flagged flags i)) ∙ so_far.with_rest i low;
}

pub mine_end : (bs : List Bucket) (ls : List Side) (k : ℕ) (flags : List Bool) (size : ℕ) → length bs ≤ k
    → FlagsSoFar flags size (drops_mine (drop k bs) (drop k ls)) (drops_mine bs ls) → AreFlags flags size (drops_mine bs ls)
mine_end bs ls k flags size high so_far = record {
  size = so_far.size_is;
  flags = λ i low. sym (ap (λ l. is_flagged flags i || drops_mine l (drop k ls) i) (past bs k high) ∙ or_none (is_flagged flags i)) ∙ so_far.with_rest i low;
}
