-- What tidying keeps while operations are added one after another.
use Rattle.std.specs.Prelude.{◌≡◌, ℕ, Bool, true, false, List, [], ◌∷◌, ◌++◌, Option, None, Some, length, set, get_or}
use Rattle.ecore_meta.specs.Meta.{Meta}
use Rattle.model_state.specs.declared.operation.Operation.{Operation}
use Rattle.footprint.specs.declared.cell.Print.{Print}
use Rattle.footprint.specs.Interference.{op_writes, op_reads}
use Rattle.cell_index.specs.Standing.{touch, LastHit, IsLast}
use Rattle.merge_laws.specs.Rules.{met, Settles}
use Rattle.merge_laws.specs.Tidy.{onto, Settled}

-- the operation, if any, as a list
abbrev pub list_of : Option Operation → List Operation
list_of None = []
list_of (Some o) = o ∷ []

-- the operations that stand; those that are not added yet all do
abbrev pub standing_of : List Bool → List Operation → List Operation
standing_of [] ops = ops
standing_of (true ∷ stands) [] = []
standing_of (false ∷ stands) [] = []
standing_of (true ∷ stands) (o ∷ ops) = o ∷ standing_of stands ops
standing_of (false ∷ stands) (o ∷ ops) = standing_of stands ops

-- the operations interfere, or neither writes anything
abbrev pub touches : Meta → Operation → Operation → Bool
touches meta a b = touch (op_writes meta a) (op_reads a) (op_writes meta b) (op_reads b)

-- none of the operations touches b
abbrev pub Apart : Meta → Operation → List Operation → Type 0
Apart meta b [] = Unit {0}
Apart meta b (y ∷ ys) = (touches meta b y ≡ false) × Apart meta b ys

-- a rule applies to the operations of two positions, the earlier of which is the last that touches the later, and leaves what is given
pub record RuleAt (stands : List Bool) (prints : List Print) (ops : List Operation) (at i : ℕ) (left : Option Operation) : Type 0 where
  pub last : (p : Print) → p ≡ get_or prints at p → LastHit stands prints p at i
  pub rule : (a b : Operation) → a ≡ get_or ops i a → b ≡ get_or ops at b → met a b ≡ Some (list_of left)

-- no rule applies to the operation of the position and the last that touches it, or none does
pub record NoRuleAt (stands : List Bool) (prints : List Print) (ops : List Operation) (at : ℕ) : Type 0 where
  pub o : Option ℕ
  pub last : (p : Print) → p ≡ get_or prints at p → IsLast stands prints p at o
  pub none : (i : ℕ) (a b : Operation) → o ≡ Some i → a ≡ get_or ops i a → b ≡ get_or ops at b → met a b ≡ None

-- of the operations that were added, no rule applies to those that stand
pub record Calm (meta : Meta) (stands : List Bool) (ops : List Operation) : Type 0 where
  pub come : List Operation
  pub rest : List Operation
  pub is : ops ≡ come ++ rest
  pub many : length stands ≡ length come
  pub settled : Settled meta (onto (standing_of stands come) [])

-- An operation stands at the position. No rule applies to the others that were added and stand, and none of those after the position
-- touches it.
pub record Ready (meta : Meta) (stands : List Bool) (ops : List Operation) (at : ℕ) : Type 0 where
  pub first : List Bool
  pub second : List Bool
  pub front : List Operation
  pub b : Operation
  pub back : List Operation
  pub rest : List Operation
  pub stands_is : stands ≡ first ++ (true ∷ second)
  pub ops_is : ops ≡ front ++ (b ∷ (back ++ rest))
  pub many : length first ≡ length front
  pub more : length second ≡ length back
  pub place : length front ≡ at
  pub settled : Settled meta (onto (standing_of first front ++ standing_of second back) [])
  pub apart : Apart meta b (standing_of second back)

-- what the second list settles to, the first settles to
abbrev pub Leads : Meta → List Operation → List Operation → Type 0
Leads meta p q = (r : List Operation) → Settles meta q r → Settles meta p r

-- what stands where the operation of a position is removed, and with it, where nothing is left, an earlier one
abbrev pub stands_out : List Bool → ℕ → ℕ → Option Operation → List Bool
stands_out stands i at None = set (set stands at false) i false
stands_out stands i at (Some c) = set stands at false

-- the operations, with what is left in its place
abbrev pub ops_out : List Operation → ℕ → Option Operation → List Operation
ops_out ops i None = ops
ops_out ops i (Some c) = set ops i c

-- the position of what is left
abbrev pub place_left : ℕ → Option Operation → Option ℕ
place_left i None = None
place_left i (Some c) = Some i
