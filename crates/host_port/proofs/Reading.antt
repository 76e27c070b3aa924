-- A read past the end of a file.
use Rattle.std.proofs.Common.{◌≡◌, inl, inr, ℕ, ◌+◌, ◌-◌, ◌<◌, ◌≤◌, min, List, ◌++◌, length, take, drop, get_or, refl, sym, ◌∙◌, ap, arith, length-append}
use Rattle.std.specs.Prelude.{replicate}
use Rattle.std.proofs.lemmas.Bool.{cases_lt}
use Rattle.std.proofs.lemmas.List.{ext_get_or, length-take, length-drop, length-replicate, get_or-take, get_or-drop, get_or-replicate}
use Rattle.std.proofs.lemmas.List.{get_or_append_left, get_or-append_right}
use Rattle.host_port.specs.Talk.{padded}

module _ (file : List ℕ) (at n : ℕ) where
  long : length (padded file (at + n)) ≡ length file + (at + n - length file)
  long = length-append file (replicate (at + n - length file) 0) ∙ ap (λ (k : ℕ). length file + k) (length-replicate (at + n - length file) 0)

  -- a place in the file, and one after it
  padded_in : (i : ℕ) → at + i < length file → get_or (padded file (at + n)) (at + i) 0 ≡ get_or file (at + i) 0
  padded_in i low = get_or_append_left file (replicate (at + n - length file) 0) 0 (at + i) low

  padded_past : (i : ℕ) → i < n → length file ≤ at + i → get_or (padded file (at + n)) (at + i) 0 ≡ 0
  padded_past i below past =
      get_or-append_right file (replicate (at + n - length file) 0) (length file) (at + i) 0 refl past
      ∙ get_or-replicate (at + n - length file) (at + i - length file) 0 0 (omega (arith, below, past))

  module _ (start count : ℕ) (start_is : start ≡ min at (length file)) (count_is : count ≡ min (length file - start) n) where
    read : List ℕ
    read = take count (drop start file) ++ drop count (replicate n 0)

    front : length (take count (drop start file)) ≡ count
    front = omega (arith, length-take count (drop start file), length-drop start file, count_is)

    read_in : (i : ℕ) → i < count → get_or (take count (drop start file) ++ drop count (replicate n 0)) i 0 ≡ get_or file (at + i) 0
    read_in i low =
        get_or_append_left (take count (drop start file)) (drop count (replicate n 0)) 0 i (omega (arith, front, low))
        ∙ get_or-take count (drop start file) i 0 low ∙ get_or-drop start file i 0
        ∙ ap (λ (k : ℕ). get_or file k 0) (let e : start + i ≡ at + i = omega (arith, start_is, count_is, low) in e)

    read_past : (i : ℕ) → count ≤ i → i < n → get_or (take count (drop start file) ++ drop count (replicate n 0)) i 0 ≡ 0
    read_past i behind below =
        get_or-append_right (take count (drop start file)) (drop count (replicate n 0)) count i 0 front behind
        ∙ get_or-drop count (replicate n 0) (i - count) 0 ∙ get_or-replicate n (count + (i - count)) 0 0 (omega (arith, behind, below))

    pub read_is : take count (drop start file) ++ drop count (replicate n 0) ≡ take n (drop at (padded file (at + n)))
    read_is =
        let whole : length (take count (drop start file) ++ drop count (replicate n 0)) ≡ n =
        omega (
          arith,
          length-append {A = ℕ} (take count (drop start file)) (drop count (replicate n 0)),
          front,
          length-drop {A = ℕ} count (replicate n 0),
          length-replicate {A = ℕ} n 0,
          count_is,
        ) in
        let other : length (take n (drop at (padded file (at + n)))) ≡ n =
        omega (arith, length-take n (drop at (padded file (at + n))), length-drop at (padded file (at + n)), long) in
        ext_get_or 0 _ (take n (drop at (padded file (at + n)))) (whole ∙ sym other)
        (λ i low.
        let below : i < n = omega (arith, low, whole) in
        let right : get_or (take n (drop at (padded file (at + n)))) i 0 ≡ get_or (padded file (at + n)) (at + i) 0 =
        get_or-take n (drop at (padded file (at + n))) i 0 below ∙ get_or-drop at (padded file (at + n)) i 0 in
        elim (cases_lt i count) [
          | inl here ↦ read_in i here ∙ sym (right ∙ padded_in i (omega (arith, here, count_is, start_is)))
          | inr past ↦ read_past i past below ∙ sym (right ∙ padded_past i below (omega (arith, past, below, count_is, start_is)))
        ])

pub read_padded : (file : List ℕ) (at n start count : ℕ) (rest copied filled : List ℕ) → start ≡ min at (length file) → rest ≡ drop start file
    → count ≡ min (length rest) n
    → copied ≡ take count rest → filled ≡ replicate n 0 → copied ++ drop count filled ≡ take n (drop at (padded file (at + n)))
read_padded file at n start count rest copied filled start_is rest_is count_is copied_is filled_is =
    ap (λ (l : List ℕ). l ++ drop count filled) (copied_is ∙ ap (λ (l : List ℕ). take count l) rest_is)
    ∙ ap (λ (l : List ℕ). take count (drop start file) ++ drop count l) filled_is
    ∙ read_is file at n start count start_is (omega (arith, count_is, ap length rest_is, length-drop start file))
