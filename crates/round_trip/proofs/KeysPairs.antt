-- The names of the keys of an object rise.
use Rattle.std.proofs.Common.{◌≡◌, true, false, cond, List, [], ◌∷◌, subst, rules}
use Rattle.std.specs.declared.cmp.Ordering.{Ordering}
use Rattle.std.specs.Ordering.{is_lt}
use Rattle.std.specs.List.{AllByRecursion}
use Rattle.std.specs.Str.{bytes_eq}
use Rattle.std.proofs.lemmas.Slice.Eq.{bytes_eq-Decides}
use Rattle.finite_maps.specs.Sorts.{put_in, in_order}
use Rattle.edit_steps.proofs.Lists.{all-in_order, all-put_in}
use Rattle.ecore_meta.specs.Names.{Name}

pub bytes_same : (x y : Name) → bytes_eq x y ≡ true → x ≡ y
bytes_same x y h = search (rules, bytes_eq-Decides)

pub bytes_own : (x : Name) → bytes_eq x x ≡ true
bytes_own x = search (rules, bytes_eq-Decides)

pub bytes_differ : (x y : Name) → bytes_eq x y ≡ false → x ≡ y → ⊥
bytes_differ x y h e = let own : bytes_eq x y ≡ true = subst (λ z. bytes_eq x z ≡ true) e (bytes_own x) in cc

-- each two of a list are related
module _ {A : Type 0} (P : A → A → Type 0) where
  abbrev pub Pairs : List A → Type 0
  Pairs [] = Unit {0}
  Pairs (x ∷ xs) = AllByRecursion (P x) xs × Pairs xs

  module _ (turn : (x y : A) → P x y → P y x) (cmp : A → A → Ordering) where
    pairs_put : (x : A) (ys : List A) → AllByRecursion (P x) ys → Pairs ys → Pairs (put_in cmp x ys)
    pairs_put x [] all pairs = (tt, tt)
    pairs_put x (y ∷ ys) all pairs =
        elim (is_lt (cmp y x)) as (λ b. Pairs (cond {A = List A} b (y ∷ put_in cmp x ys) (x ∷ y ∷ ys))) [
          | true ↦ (all-put_in cmp (P y) x ys (turn x y all.0) pairs.0, pairs_put x ys all.1 pairs.1)
          | false ↦ (all, pairs)
        ]

    pub pairs_in_order : (xs : List A) → Pairs xs → Pairs (in_order cmp xs)
    pairs_in_order [] pairs = tt
    pairs_in_order (x ∷ xs) pairs = pairs_put x (in_order cmp xs) (all-in_order cmp (P x) xs pairs.0) (pairs_in_order xs pairs.1)
