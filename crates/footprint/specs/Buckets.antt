-- The buckets of two packages, as a function.
use Rattle.std.specs.Prelude.{ℕ, zero, suc, Bool, false, List, [], ◌∷◌, ◌++◌, map, take, drop, length, nat_eq, cond, ◌&&◌, ◌||◌}
use Rattle.ecore_meta.specs.Meta.{Meta}
use Rattle.model_state.specs.declared.operation.Operation.{Operation}
use Rattle.footprint.specs.Interference.{interferes}
use Rattle.footprint.specs.declared.bucket.Bucket.{Bucket}

-- an operation that has the label interferes with o
abbrev pub hits : Meta → Operation → List Operation → List ℕ → ℕ → Bool
hits meta o [] ls l = false
hits meta o (p ∷ ps) [] l = false
hits meta o (p ∷ ps) (m ∷ ls) l = (nat_eq m l && interferes meta o p) || hits meta o ps ls l

-- each operation's label is the position of the first operation of its component: an operation takes in the components that it interferes with
unfoldable pub labels : Meta → List Operation → List ℕ
labels meta [] = []
labels meta (o ∷ os) = 0 ∷ map (λ l. cond (hits meta o os (labels meta os) l) 0 (suc l)) (labels meta os)

-- the positions with the label, rising
abbrev pub places : ℕ → List ℕ → List ℕ
places l [] = []
places l (m ∷ ms) = cond (nat_eq m l) (0 ∷ map suc (places l ms)) (map suc (places l ms))

-- a component with operations of both sides
abbrev pub mixed : List ℕ → List ℕ → List Bucket
mixed [] ys = []
mixed (x ∷ xs) [] = []
mixed (x ∷ xs) (y ∷ ys) = record { theirs = x ∷ xs; mine = y ∷ ys } ∷ []

-- the mixed components whose first operation stands below a position, in order
abbrev pub buckets_below : List ℕ → List ℕ → ℕ → List Bucket
buckets_below ts ms zero = []
buckets_below ts ms (suc n) = buckets_below ts ms n ++ mixed (places n ts) (places n ms)

-- the mixed components of theirs and then mine, in the order of their first operations
unfoldable pub buckets : Meta → List Operation → List Operation → List Bucket
buckets meta theirs mine =
    let n = length theirs in
    let ls = labels meta (theirs ++ mine) in
    buckets_below (take n ls) (drop n ls) n
