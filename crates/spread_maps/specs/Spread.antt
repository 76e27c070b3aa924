-- Maps that are read off another map, key by key.
use Rattle.std.specs.Prelude.{Bool, List, [], ◌∷◌, ◌++◌, map, length, nat_eq, Option, None, Some}
use Rattle.std.specs.Option.{option_map}
use Rattle.std.specs.declared.cmp.Ordering.{Ordering}
use Rattle.std.specs.FinMap.{FinMap, get, entries, keys, empty}
use Rattle.finite_maps.specs.Maps.{set}

-- the map that answers as f does, at these keys
abbrev pub tabulate : {K X : Type 0} (R : K → K → Ordering) → (K → Option X) → List K → FinMap R X
tabulate R f [] = empty
tabulate R f (k ∷ ks) = set (tabulate R f ks) k (f k)

-- each key with what h reads of its value
abbrev pub mapped : {K N X : Type 0} {R : K → K → Ordering} → (N → X) → FinMap R N → FinMap R X
mapped {R = R} h m = tabulate R (λ k. option_map h (get m k)) (keys m)

-- what a part of a node has at a key
abbrev pub inner : {N L X : Type 0} {Q : L → L → Ordering} → (N → FinMap Q X) → Option N → L → Option X
inner part None l = None
inner part (Some n) l = get (part n) l

-- the keys that the parts have, each joined with its node's
abbrev pub inner_keys : {E N L X K : Type 0} {Q : L → L → Ordering} → (E → L → K) → (N → FinMap Q X) → List (E × N) → List K
inner_keys both part [] = []
inner_keys {K = K} both part (e ∷ es) = map {B = K} (λ y. both e.0 y.0) (entries (part e.1)) ++ inner_keys both part es

-- how a key is joined of two
pub record Joined (E L K : Type 0) : Type 0 where
  -- the node's key
  pub first : K → E
  -- the key in the node's part
  pub second : K → L
  -- the key of the two
  pub both : E → L → K

-- the parts of all nodes as one map
abbrev pub spread : {E N L X K : Type 0} {P : E → E → Ordering} {Q : L → L → Ordering} (R : K → K → Ordering) → Joined E L K → (N → FinMap Q X)
    → FinMap P N → FinMap R X
spread R j part m = tabulate R (λ k. inner part (get m (j.first k)) (j.second k)) (inner_keys j.both part (entries m))

-- the map has no entry
abbrev pub is_bare : {K X : Type 0} {R : K → K → Ordering} → FinMap R X → Bool
is_bare m = nat_eq (length (entries m)) 0
