-- Labels as they are spread from operation to operation.
use Rattle.std.specs.Prelude.{◌≡◌, ℕ, suc, ◌+◌, ◌<◌, ◌≤◌, Bool, true, false, List, [], ◌∷◌, Some, length, get_or, slice_get}
use Rattle.std.specs.List.{Contains}
use Rattle.ecore_meta.specs.Meta.{Meta}
use Rattle.model_state.specs.declared.operation.Operation.{Operation}
use Rattle.footprint.specs.declared.cell.Print.{Print}
use Rattle.footprint.specs.Prints.{shown, printed}
use Rattle.merge_laws.specs.Classes.{Linked}
use Rattle.cell_index.specs.Near.{prints_interfere}

-- the operations at the two positions interfere
pub record Meets (prints : List Print) (i k : ℕ) : Type 0 where
  pub one : Print
  pub other : Print
  pub first : slice_get prints i ≡ Some one
  pub second : slice_get prints k ≡ Some other
  pub meets : prints_interfere one other ≡ true

-- how many flags are not set
abbrev pub unset : List Bool → ℕ
unset [] = 0
unset (true ∷ flags) = unset flags
unset (false ∷ flags) = suc (unset flags)

-- the operations that the prints are of have the two positions linked
abbrev pub AreLinked : List Print → ℕ → ℕ → Type 0
AreLinked prints i k = (meta : Meta) (ops : List Operation) → shown prints ≡ printed meta ops → Linked meta ops i k

-- The labels so far. An operation is reached once it has its label for good, and until then its label is its own position. `order` has those
-- reached, one after another: what interferes with the first `at` of them is reached too, and has their label; the others are labelled
-- `start`, and all before `start` are reached.
pub record AreSpread (prints : List Print) (start at : ℕ) (labels : List ℕ) (reached : List Bool) (order : List ℕ) : Type 0 where
  pub labels_size : length labels ≡ length prints
  pub reached_size : length reached ≡ length prints
  pub count : length order + unset reached ≡ length prints
  pub low : (k : ℕ) → k < length prints → get_or labels k 0 ≤ k
  pub linked : (k : ℕ) → k < length prints → AreLinked prints (get_or labels k 0) k
  pub ordered : (k : ℕ) → get_or reached k false ≡ true → Contains order k
  pub below : (m : ℕ) → m < length order → (get_or order m 0 < length prints) × (get_or reached (get_or order m 0) false ≡ true)
  pub within : at ≤ length order
  pub done : (m k : ℕ) → m < at → Meets prints (get_or order m 0) k → (get_or reached k false ≡ true) × (get_or labels k 0 ≡ get_or labels (get_or order m 0) 0)
  pub waiting : (m : ℕ) → at ≤ m → m < length order → get_or labels (get_or order m 0) 0 ≡ start
  pub before : (k : ℕ) → k < start → get_or reached k false ≡ true

-- what was reached still is, and stands where it stood
pub record Further (reached more : List Bool) (order longer : List ℕ) : Type 0 where
  pub kept : (k : ℕ) → get_or reached k false ≡ true → get_or more k false ≡ true
  pub stands : (m : ℕ) → m < length order → (m < length longer) × (get_or longer m 0 ≡ get_or order m 0)
