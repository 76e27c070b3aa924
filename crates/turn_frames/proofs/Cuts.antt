-- A list that is cut at the first of its items that passes a test.
use Rattle.std.proofs.Common.{◌≡◌, ℕ, zero, suc, ◌+◌, ◌<◌, ◌≤◌, Bool, true, false, not, ◌||◌, List, [], ◌∷◌, ◌++◌, length, take, drop, get_or}
use Rattle.std.proofs.Common.{refl, ◌∙◌, ap, arith}
use Rattle.std.proofs.lemmas.List.{take_at, length-take}
use Rattle.std.proofs.lemmas.List.Sums.{split_at_first, passes_at_first, prefix_len-le-length}
use Rattle.std.specs.List.{list_any, position_or_len, before_first, after_first}

pub neither : (a b : Bool) → (a || b) ≡ false → (a ≡ false) × (b ≡ false)
neither true b e = cc
neither false b e = (refl, e)

module _ {X : Type 0} (p : X → Bool) where
  -- the first that passes stands after those that don't
  pub position_at : (xs : List X) (y : X) (ys : List X) → list_any p xs ≡ false → p y ≡ true → position_or_len p (xs ++ y ∷ ys) ≡ length xs
  position_at [] y ys none is = rw is refl
  position_at (x ∷ xs) y ys none is =
      let k = neither (p x) (list_any p xs) none in
      rw k.0 (let more = position_at xs y ys k.1 is in omega (arith, more))

  pub drop_past : (xs : List X) (y : X) (ys : List X) (m : ℕ) → m ≡ length xs + 1 → drop m (xs ++ y ∷ ys) ≡ ys
  drop_past [] y ys zero is = absurd (omega (arith, is))
  drop_past [] y ys (suc m) is = let none : m ≡ 0 = omega (arith, is) in ap (λ (k : ℕ). drop k ys) none
  drop_past (x ∷ xs) y ys zero is = absurd (omega (arith, is))
  drop_past (x ∷ xs) y ys (suc m) is = drop_past xs y ys m (omega (arith, is))

  pub before_at : (xs : List X) (y : X) (ys : List X) → list_any p xs ≡ false → p y ≡ true → before_first p (xs ++ y ∷ ys) ≡ xs
  before_at xs y ys none is = ap (λ (n : ℕ). take n (xs ++ y ∷ ys)) (position_at xs y ys none is) ∙ take_at xs (y ∷ ys) (length xs) refl

  pub after_at : (xs : List X) (y : X) (ys : List X) → list_any p xs ≡ false → p y ≡ true → after_first p (xs ++ y ∷ ys) ≡ ys
  after_at xs y ys none is = drop_past xs y ys (position_or_len p (xs ++ y ∷ ys) + 1) (ap (λ (n : ℕ). n + 1) (position_at xs y ys none is))

  pub position_within : (xs : List X) → position_or_len p xs ≤ length xs
  position_within xs = prefix_len-le-length (λ x. not (p x)) xs

  -- where one passes, the list is what stands before it, it, and what stands after it
  pub cut_at : (xs : List X) (d : X) → length (before_first p xs) < length xs
      → (xs ≡ before_first p xs ++ (get_or xs (position_or_len p xs) d ∷ after_first p xs)) × (p (get_or xs (position_or_len p xs) d) ≡ true)
  cut_at xs d within =
      let inside : position_or_len p xs < length xs = omega (arith, within, length-take (position_or_len p xs) xs, position_within xs) in
      (split_at_first p xs d inside, passes_at_first p xs d inside)
