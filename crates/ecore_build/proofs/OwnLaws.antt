-- The list of a class in a table that holds the lists of all.
use Rattle.std.proofs.Common.{◌≡◌, ℕ, zero, suc, ◌<◌, ◌≤◌, List, [], ◌∷◌, refl, ap, arith, length, get_or, map}
use Rattle.ecore_build.specs.Faults.{own_of}

-- no class has the number
pub own_past : {X : Type 0} (f : X → List ℕ) (xs : List X) (k : ℕ) → length xs ≤ k → [] ≡ own_of (map f xs) k
own_past f [] k h = refl
own_past f (x ∷ xs) zero h = absurd (omega arith)
own_past f (x ∷ xs) (suc k) h = own_past f xs k (omega arith)

-- what stands at the class's place
pub own_here : {X : Type 0} (f : X → List ℕ) (xs : List X) (k : ℕ) (d : X) → k < length xs → d ≡ get_or xs k d → f d ≡ own_of (map f xs) k
own_here f [] k d h e = absurd (omega arith)
own_here f (x ∷ xs) zero d h e = ap f e
own_here f (x ∷ xs) (suc k) d h e = own_here f xs k d (omega arith) e
