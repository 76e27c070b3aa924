-- Which features of which elements a package writes.
use Rattle.std.specs.Prelude.{ℕ, Bool, false, ◌&&◌, nat_eq, List, [], ◌∷◌, ◌++◌}
use Rattle.std.specs.List.{list_any}
use Rattle.std.specs.FinSet.{FinSet, from_list, code}
use Rattle.std.specs.Coded.{Coded, coded×, coded_ℕ, coded_list}
use Rattle.finite_maps.specs.Equal.{text_eq}
use Rattle.ecore_meta.specs.Meta.{Meta}
use Rattle.model_state.specs.Keys.{IdBytes, AttrKey, attr_cmp}
use Rattle.model_state.specs.declared.operation.Operation.{Operation}
use Rattle.model_laws.specs.Cells.{Cell, OfKind, OfPlace, OfRank, OfAttr, OfRow, OfWhole, About}
use Rattle.footprint.specs.Interference.{op_writes}

-- is the cell of that feature of that element: its values, one of its references, or all of them
abbrev pub is_of : IdBytes → ℕ → Cell → Bool
is_of e f (OfKind a) = false
is_of e f (OfPlace a) = false
is_of e f (OfRank a) = false
is_of e f (OfAttr a g) = text_eq a e && nat_eq g f
is_of e f (OfRow a g b) = text_eq a e && nat_eq g f
is_of e f (OfWhole a g) = text_eq a e && nat_eq g f
is_of e f (About a) = false

-- does one of the cells belong to that feature of that element
abbrev pub has_of : IdBytes → ℕ → List Cell → Bool
has_of e f cells = list_any (is_of e f) cells

-- does an operation of the package write a cell of that feature of that element
abbrev pub wrote : Meta → List Operation → IdBytes → ℕ → Bool
wrote meta ops e f = list_any (λ o. has_of e f (op_writes meta o)) ops

-- does one of the lists of cells that are written have a cell of that feature of that element
abbrev pub wrote_by : List (List Cell × List Cell) → IdBytes → ℕ → Bool
wrote_by printed e f = list_any (λ p. has_of e f p.0) printed

-- pairs of an element and a feature, as a set
abbrev pub Pairs : Type 0
Pairs = FinSet attr_cmp

-- the code of such sets
abbrev pub pairs_code : Coded Pairs
pairs_code = code (coded× (coded_list coded_ℕ) coded_ℕ)

-- the feature that a cell is of, if it is of one
abbrev pub pair_of : Cell → List AttrKey
pair_of (OfKind a) = []
pair_of (OfPlace a) = []
pair_of (OfRank a) = []
pair_of (OfAttr a g) = (a, g) ∷ []
pair_of (OfRow a g b) = (a, g) ∷ []
pair_of (OfWhole a g) = (a, g) ∷ []
pair_of (About a) = []

-- the features that cells are of
abbrev pub pairs_of : List Cell → List AttrKey
pairs_of [] = []
pairs_of (c ∷ cs) = pair_of c ++ pairs_of cs

-- the features whose cells operations write
abbrev pub pairs_all : Meta → List Operation → List AttrKey
pairs_all meta [] = []
pairs_all meta (o ∷ os) = pairs_of (op_writes meta o) ++ pairs_all meta os

-- the written pairs of a package
unfoldable pub written : Meta → List Operation → Pairs
written meta ops = from_list (pairs_all meta ops)
