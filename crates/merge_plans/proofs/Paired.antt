-- The first of some numbers that passes a test.
use Rattle.std.proofs.Common.{◌≡◌, ℕ, suc, ◌+◌, ◌<◌, Bool, true, false, List, length, drop, Some, refl, ◌∙◌, ap, arith}
use Rattle.std.specs.List.{find}
use Rattle.std.proofs.Math.ListN.{get_or}
use Rattle.std.proofs.Math.Seq.{drop-cons}

module _ (p : ℕ → Bool) (xs : List ℕ) (i d : ℕ) (within : i < length xs) where
  pub found_here : find p xs ≡ find p (drop i xs) → p (get_or xs i d) ≡ true → find p xs ≡ Some (get_or xs i d)
  found_here so_far is = so_far ∙ ap (find p) (drop-cons xs i d within) ∙ rw is refl

  pub found_later : find p xs ≡ find p (drop i xs) → p (get_or xs i d) ≡ false → find p xs ≡ find p (drop (i + 1) xs)
  found_later so_far is =
      let next : suc i ≡ i + 1 = omega arith in
      so_far ∙ ap (find p) (drop-cons xs i d within) ∙ rw is (ap (λ n. find p (drop n xs)) next)
