-- What is kept and dropped, one operation more.
use Rattle.std.proofs.Common.{◌≡◌, ℕ, zero, suc, ◌+◌, ◌<◌, Bool, true, false, cond, List, [], ◌∷◌, ◌++◌, refl, sym, ap, ◌∙◌, drop, length, get_or}
use Rattle.std.proofs.Common.{arith, append_assoc, drop-cons}
use Rattle.model_state.specs.declared.operation.Operation.{Operation}
use Rattle.merge_laws.specs.Merge.{kept, dropped}
use Rattle.merge_choices.specs.Flags.{is_flagged, AreFlags}

from_zero : (p : ℕ → Bool) (j : ℕ) → p (0 + j) ≡ p j
from_zero p j = let e : 0 + j ≡ j = omega arith in ap p e

pub kept_start : (p : ℕ → Bool) (ops : List Operation) → kept (λ j. p (0 + j)) ops ≡ kept p ops
kept_start p ops = λ t. kept (λ j. from_zero p j t) ops

pub dropped_start : (p : ℕ → Bool) (ops : List Operation) → dropped (λ j. p (0 + j)) ops ≡ dropped p ops
dropped_start p ops = λ t. dropped (λ j. from_zero p j t) ops

next : (p : ℕ → Bool) (i j : ℕ) → p (i + suc j) ≡ p ((i + 1) + j)
next p i j = let e : i + suc j ≡ (i + 1) + j = omega arith in ap p e

own : (p : ℕ → Bool) (i : ℕ) → p (i + 0) ≡ p i
own p i = let e : i + 0 ≡ i = omega arith in ap p e

-- the operation at i, and the rest
at_place : (ops : List Operation) (i : ℕ) (a : Operation) → i < length ops → a ≡ get_or ops i a → drop i ops ≡ a ∷ drop (i + 1) ops
at_place ops i a low is = let e : suc i ≡ i + 1 = omega arith in drop-cons ops i a low ∙ (λ t. sym is t ∷ drop (e t) ops)

module _ (p : ℕ → Bool) (ops out : List Operation) (i : ℕ) (a : Operation) (low : i < length ops) (is : a ≡ get_or ops i a) where
  kept_cut : (b : Bool) → p i ≡ b
      → kept (λ j. p (i + j)) (drop i ops) ≡ cond b (kept (λ j. p ((i + 1) + j)) (drop (i + 1) ops)) (a ∷ kept (λ j. p ((i + 1) + j)) (drop (i + 1) ops))
  kept_cut b test = ap (kept (λ j. p (i + j))) (at_place ops i a low is)
      ∙ (λ t. cond ((own p i ∙ test) t) (kept (λ j. next p i j t) (drop (i + 1) ops)) (a ∷ kept (λ j. next p i j t) (drop (i + 1) ops)))

  dropped_cut : (b : Bool) → p i ≡ b
      → dropped (λ j. p (i + j)) (drop i ops) ≡ cond b (a ∷ dropped (λ j. p ((i + 1) + j)) (drop (i + 1) ops))
      (dropped (λ j. p ((i + 1) + j)) (drop (i + 1) ops))
  dropped_cut b test = ap (dropped (λ j. p (i + j))) (at_place ops i a low is)
      ∙ (λ t. cond ((own p i ∙ test) t) (a ∷ dropped (λ j. next p i j t) (drop (i + 1) ops)) (dropped (λ j. next p i j t) (drop (i + 1) ops)))

  pub keeps_one : (whole : List Operation) → p i ≡ false → out ++ kept (λ j. p (i + j)) (drop i ops) ≡ whole
      → (out ++ a ∷ []) ++ kept (λ j. p ((i + 1) + j)) (drop (i + 1) ops) ≡ whole
  keeps_one whole test h = append_assoc out (a ∷ []) (kept (λ j. p ((i + 1) + j)) (drop (i + 1) ops)) ∙ sym (ap (λ l. out ++ l) (kept_cut false test)) ∙ h

  pub keeps_none : (whole : List Operation) → p i ≡ true → out ++ kept (λ j. p (i + j)) (drop i ops) ≡ whole
      → out ++ kept (λ j. p ((i + 1) + j)) (drop (i + 1) ops) ≡ whole
  keeps_none whole test h = sym (ap (λ l. out ++ l) (kept_cut true test)) ∙ h

  pub drops_one : (whole : List Operation) → p i ≡ true → out ++ dropped (λ j. p (i + j)) (drop i ops) ≡ whole
      → (out ++ a ∷ []) ++ dropped (λ j. p ((i + 1) + j)) (drop (i + 1) ops) ≡ whole
  drops_one whole test h = append_assoc out (a ∷ []) (dropped (λ j. p ((i + 1) + j)) (drop (i + 1) ops)) ∙ sym (ap (λ l. out ++ l) (dropped_cut true test)) ∙ h

  pub drops_none : (whole : List Operation) → p i ≡ false → out ++ dropped (λ j. p (i + j)) (drop i ops) ≡ whole
      → out ++ dropped (λ j. p ((i + 1) + j)) (drop (i + 1) ops) ≡ whole
  drops_none whole test h = sym (ap (λ l. out ++ l) (dropped_cut false test)) ∙ h

pub at_index : (ops : List Operation) (i : ℕ) → i < length ops → (a : Operation) × (a ≡ get_or ops i a)
at_index [] i h = absurd (omega (arith, h))
at_index (o ∷ ops) zero h = (o, refl)
at_index (o ∷ ops) (suc i) h = at_index ops i (omega (arith, h))

-- ---- tests that agree at each place of the list
pub dropped_same : (p q : ℕ → Bool) (ops : List Operation) → ((i : ℕ) → i < length ops → p i ≡ q i) → dropped p ops ≡ dropped q ops
dropped_same p q [] same = refl
dropped_same p q (o ∷ os) same =
    let here = same 0 (omega arith) in
    let more = dropped_same (λ i. p (suc i)) (λ i. q (suc i)) os (λ i low. same (suc i) (omega (arith, low))) in
    λ t. cond (here t) (o ∷ more t) (more t)

pub kept_same : (p q : ℕ → Bool) (ops : List Operation) → ((i : ℕ) → i < length ops → p i ≡ q i) → kept p ops ≡ kept q ops
kept_same p q [] same = refl
kept_same p q (o ∷ os) same =
    let here = same 0 (omega arith) in
    let more = kept_same (λ i. p (suc i)) (λ i. q (suc i)) os (λ i low. same (suc i) (omega (arith, low))) in
    λ t. cond (here t) (more t) (o ∷ more t)

-- by flags for the places
pub flags_dropped : (flags : List Bool) (count : ℕ) (test : ℕ → Bool) (ops : List Operation) → AreFlags flags count test → count ≡ length ops
    → dropped (is_flagged flags) ops ≡ dropped test ops
flags_dropped flags count test ops are size = dropped_same (is_flagged flags) test ops (λ i low. are.flags i (omega (arith, low, size)))

pub flags_kept : (flags : List Bool) (count : ℕ) (test : ℕ → Bool) (ops : List Operation) → AreFlags flags count test → count ≡ length ops
    → kept (is_flagged flags) ops ≡ kept test ops
flags_kept flags count test ops are size = kept_same (is_flagged flags) test ops (λ i low. are.flags i (omega (arith, low, size)))
