-- What the table of an index keeps: for each feature of an element the versions that wrote it.
use Rattle.std.specs.Prelude.{◌≡◌, ℕ, zero, suc, ◌<◌, Bool, false, cond, nat_lt, nat_eq, List, [], ◌∷◌, ◌++◌, Option, None, Some, All, slice_get, length, ◌-◌}
use Rattle.std.specs.List.{filter}
use Rattle.std.specs.Option.{option_map_or}
use Rattle.std.specs.Ordering.{nat_cmp}
use Rattle.std.specs.FinMap.{keys}
use Rattle.std.specs.FinSet.{from_list}
use Rattle.std.specs.BTreeMap as ordered_map
use Rattle.std.specs.BTreeMap.{BTreeMap}
use Rattle.std.specs.declared.vec.Vec.{Vec}
use Rattle.std.specs.declared.alloc.Global.{Global}
use Rattle.finite_maps.specs.Nested.{nested, inner_get}
use Rattle.model_state.specs.Keys.{IdBytes, id_cmp}
use Rattle.history_tree.specs.Laws.{Rises}
use Rattle.history_tree.specs.MergeBase.{is_among}
use Rattle.change_index.specs.Written.{Pairs}

-- an element's rows: the versions that wrote each of its features
abbrev pub Rows : Type 0
Rows = BTreeMap ℕ (Vec ℕ Global)

-- the rows of elements
abbrev pub Table : Type 0
Table = BTreeMap IdBytes Rows

-- the numbers that a list has, where there is one
abbrev pub numbers : Option (Vec ℕ Global) → List ℕ
numbers None = []
numbers (Some v) = v.items

-- the versions that wrote a feature, in an element's rows
abbrev pub row : Rows → ℕ → List ℕ
row rows f = numbers (ordered_map.get nat_cmp rows f)

-- the versions that wrote a feature of an element
abbrev pub listed : Table → IdBytes → ℕ → List ℕ
listed table e f = numbers (inner_get (λ rows. ordered_map.get nat_cmp rows f) (ordered_map.get id_cmp table e))

-- the features whose lists have the version
unfoldable pub pairs_at : Table → ℕ → Pairs
pairs_at table u = from_list (filter (λ k. is_among (listed table k.0 k.1) u) (keys (nested id_cmp nat_cmp table)))

-- the same for each version below the bound
unfoldable pub pairs_below : Table → ℕ → List Pairs
pairs_below table zero = []
pairs_below table (suc n) = pairs_below table n ++ pairs_at table n ∷ []

-- each list rises, and has versions below the bound alone
abbrev pub AreRows : Table → ℕ → Type 0
AreRows table n = (e : IdBytes) (f : ℕ) → Rises (listed table e f) × All (λ u. u < n) (listed table e f)

-- the numbers of the list that are below a bound
abbrev pub below : ℕ → List ℕ → List ℕ
below v us = filter (λ u. nat_lt u v) us

-- does the list end with that number
abbrev pub ends_with : ℕ → List ℕ → Bool
ends_with v us = option_map_or (λ u. nat_eq u v) (slice_get us (length us - 1)) false

-- the list with the number at its end, once
abbrev pub pushed : ℕ → List ℕ → List ℕ
pushed v us = cond (ends_with v us) us (us ++ v ∷ [])

-- a test of features of elements
abbrev pub Test : Type 0
Test = IdBytes → ℕ → Bool

-- each list has the versions below v that it had, and where the test fails all
pub record Keeps (old new : Table) (v : ℕ) (test : Test) : Type 0 where
  pub below : (e : IdBytes) (f : ℕ) → below v (listed new e f) ≡ below v (listed old e f)
  pub others : (e : IdBytes) (f : ℕ) → test e f ≡ false → listed new e f ≡ listed old e f

-- the lists of the features that pass the test end with v now
abbrev pub Puts : Table → Table → ℕ → Test → Type 0
Puts old new v test = (e : IdBytes) (f : ℕ) → listed new e f ≡ cond (test e f) (pushed v (listed old e f)) (listed old e f)

-- the lists of the features that pass the test have their numbers below v alone
abbrev pub Cuts : Table → Table → ℕ → Test → Type 0
Cuts old new v test = (e : IdBytes) (f : ℕ) → listed new e f ≡ cond (test e f) (below v (listed old e f)) (listed old e f)
