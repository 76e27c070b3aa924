-- Loops that keep the items that pass a test.
use Rattle.std.proofs.Common.{◌≡◌, Bool, true, false, cond, List, [], ◌∷◌, ◌++◌, ap, map}
use Rattle.std.specs.List.{filter}

module _ {A X Y : Type 0} (h : X → Y) (p : X → Bool) (shows : A → X) where
  before : (b : Bool) (y : Y) (xs zs : List X) → map h xs ≡ map h zs ++ y ∷ [] → (z : X)
      → map h (cond {A = List X} b (z ∷ xs) xs) ≡ map h (cond {A = List X} b (z ∷ zs) zs) ++ y ∷ []
  before true y xs zs e z = ap (λ l. h z ∷ l) e
  before false y xs zs e z = e

  same_before : (b : Bool) (xs zs : List X) → map h xs ≡ map h zs → (z : X) → map h (cond {A = List X} b (z ∷ xs) xs) ≡ map h (cond {A = List X} b (z ∷ zs) zs)
  same_before true xs zs e z = ap (λ l. h z ∷ l) e
  same_before false xs zs e z = e

  -- one item more that passes
  pub kept_more : (xs : List A) (x : A) → p (shows x) ≡ true → map h (filter p (map shows (xs ++ x ∷ []))) ≡ map h (filter p (map shows xs)) ++ h (shows x) ∷ []
  kept_more [] x e = ap (λ b. map h (cond {A = List X} b (shows x ∷ []) [])) e
  kept_more (z ∷ xs) x e = before (p (shows z)) (h (shows x)) _ _ (kept_more xs x e) (shows z)

  -- one item more that does not
  pub kept_less : (xs : List A) (x : A) → p (shows x) ≡ false → map h (filter p (map shows (xs ++ x ∷ []))) ≡ map h (filter p (map shows xs))
  kept_less [] x e = ap (λ b. map h (cond {A = List X} b (shows x ∷ []) [])) e
  kept_less (z ∷ xs) x e = same_before (p (shows z)) _ _ (kept_less xs x e) (shows z)
