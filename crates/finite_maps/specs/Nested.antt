-- Ordered maps of ordered maps, as one finite map whose keys are pairs.
use Rattle.std.specs.Prelude.{List, [], ◌∷◌, Option, None, Some}
use Rattle.std.specs.declared.cmp.Ordering.{Ordering}
use Rattle.std.specs.Ordering.{eq_by_cmp, ordering_then}
use Rattle.std.specs.FinMap.{FinMap, empty, insert}
use Rattle.std.specs.BTreeMap.{BTreeMap}
use Rattle.finite_maps.specs.Sorts.{without}

-- two keys, the first deciding first
abbrev pub pair_cmp : {K L : Type 0} → (K → K → Ordering) → (L → L → Ordering) → K × L → K × L → Ordering
pair_cmp R S x y = ordering_then (R x.0 y.0) (S x.1 y.1)

-- the map with the entries at the key k
abbrev pub over : {K L X : Type 0} {R : K × L → K × L → Ordering} → K → List (L × X) → FinMap R X → FinMap R X
over k [] m = m
over k (x ∷ xs) m = insert (over k xs m) (k, x.0) x.1

-- the entries of inner maps, each under the pair of its two keys
abbrev pub joined : {K L X : Type 0} (R : K → K → Ordering) (S : L → L → Ordering) → List (K × BTreeMap L X) → FinMap (pair_cmp R S) X
joined R S [] = empty
joined R S (e ∷ es) = over e.0 e.1.entries (without (λ k. eq_by_cmp R e.0 k.0) (joined R S es))

-- what an ordered map of ordered maps holds
abbrev pub nested : {K L X : Type 0} (R : K → K → Ordering) (S : L → L → Ordering) → BTreeMap K (BTreeMap L X) → FinMap (pair_cmp R S) X
nested R S m = joined R S m.entries

-- what the inner map holds, where there is one
abbrev pub inner_get : {L X : Type 0} → (BTreeMap L X → Option X) → Option (BTreeMap L X) → Option X
inner_get f None = None
inner_get f (Some m) = f m
