-- Cells: what steps write and read.
use Rattle.std.specs.Prelude.{◌≡◌, ℕ, Bool, true, false, List, [], ◌∷◌, ◌++◌, map, Option, None, Some, is_some, nat_eq, ◌&&◌}
use Rattle.std.specs.List.{list_any}
use Rattle.std.specs.Option.{option_map_or}
use Rattle.std.specs.FinMap.{get}
use Rattle.finite_maps.specs.Equal.{text_eq}
use Rattle.ecore_meta.specs.Meta.{Meta}
use Rattle.model_state.specs.declared.step.Place.{Place}
use Rattle.model_state.specs.declared.step.Place.TheVariants.{Root, Inside}
use Rattle.model_state.specs.declared.step.Step.{Step}
use Rattle.model_state.specs.declared.step.Step.TheVariants.{Put, Ins, Del, Shift, Link, Unlink, RerankRow, New, Gone, Move, RerankPlace}
use Rattle.model_state.specs.Keys.{IdBytes}
use Rattle.model_state.specs.Typing.{bounded_kind, is_containment, kind_of, upper_of, opposite_of}
use Rattle.model_state.specs.State.{State, place_eq, is_inside}

-- OfKind, OfPlace, OfRank, OfAttr, OfRow, OfWhole are cells; About e is all that hangs on e
pub data Cell : Type 0 where
  OfKind : IdBytes → Cell
  OfPlace : IdBytes → Cell
  OfRank : IdBytes → Cell
  OfAttr : IdBytes → ℕ → Cell
  OfRow : IdBytes → ℕ → IdBytes → Cell
  OfWhole : IdBytes → ℕ → Cell
  About : IdBytes → Cell

-- a plain reference with a finite upper bound
abbrev pub is_bounded : Meta → ℕ → Bool
is_bounded meta f = bounded_kind (kind_of meta f)

-- a containment with a finite upper bound
abbrev pub is_finite : Meta → ℕ → Bool
is_finite meta f = is_containment (kind_of meta f) && is_some (upper_of meta f)

-- equal cells
abbrev pub cell_eq : Cell → Cell → Bool
cell_eq (OfKind a) (OfKind b) = text_eq a b
cell_eq (OfPlace a) (OfPlace b) = text_eq a b
cell_eq (OfRank a) (OfRank b) = text_eq a b
cell_eq (OfAttr a f) (OfAttr b g) = text_eq a b && nat_eq f g
cell_eq (OfRow a f x) (OfRow b g y) = text_eq a b && nat_eq f g && text_eq x y
cell_eq (OfWhole a f) (OfWhole b g) = text_eq a b && nat_eq f g
cell_eq (About a) (About b) = text_eq a b
cell_eq c d = false

-- the cell is one of these
abbrev pub has : List Cell → Cell → Bool
has cs c = list_any (cell_eq c) cs

-- the element stands in the place
abbrev pub stands_in : Place → Option Place → Bool
stands_in p o = option_map_or (place_eq p) o false

-- the element stands inside the other
abbrev pub stands_inside : IdBytes → Option Place → Bool
stands_inside e o = option_map_or (is_inside e) o false

-- what two states may have in common at a cell
abbrev pub Agree : Meta → State → State → Cell → Type 0
Agree meta m n (OfKind e) = get m.kind e ≡ get n.kind e
Agree meta m n (OfPlace e) = get m.place e ≡ get n.place e
Agree meta m n (OfRank e) = get m.prank e ≡ get n.prank e
Agree meta m n (OfAttr e f) = get m.attr (e, f) ≡ get n.attr (e, f)
Agree meta m n (OfRow a f b) = is_bounded meta f ≡ false → get m.row (a, f, b) ≡ get n.row (a, f, b)
Agree meta m n (OfWhole a f) =
    (is_bounded meta f ≡ true → (b : IdBytes) → get m.row (a, f, b) ≡ get n.row (a, f, b))
    × (is_finite meta f ≡ true → (x : IdBytes) → stands_in (Inside a f) (get m.place x) ≡ stands_in (Inside a f) (get n.place x))
Agree meta m n (About e) =
    ((f : ℕ) → get m.attr (e, f) ≡ get n.attr (e, f)) × ((f : ℕ) (b : IdBytes) → get m.row (e, f, b) ≡ get n.row (e, f, b))
    × ((a : IdBytes) (f : ℕ) → get m.row (a, f, e) ≡ get n.row (a, f, e))
    × ((x : IdBytes) → stands_inside e (get m.place x) ≡ stands_inside e (get n.place x))

-- the cell of one end of a row
abbrev pub side : Meta → IdBytes → ℕ → IdBytes → Cell
side meta a f b = elim (is_bounded meta f) [ true ↦ OfWhole a f | false ↦ OfRow a f b ]

-- the cell of the other end, where there is an opposite
abbrev pub mirror_side : Meta → Option ℕ → IdBytes → IdBytes → List Cell
mirror_side meta None a b = []
mirror_side meta (Some g) a b = side meta b g a ∷ []

-- the cell of a place's list, where it has a finite bound
abbrev pub place_list : Meta → Place → List Cell
place_list meta Root = []
place_list meta (Inside a f) = elim (is_finite meta f) [ true ↦ OfWhole a f ∷ [] | false ↦ [] ]

-- the parent of a place as a list, empty for the root
abbrev pub parents_of : Place → List IdBytes
parents_of Root = []
parents_of (Inside a f) = a ∷ []

-- the cells that a step writes
abbrev pub step_writes : Meta → Step → List Cell
step_writes meta (Put e f old new) = OfAttr e f ∷ []
step_writes meta (Link a f ra b rb) = side meta a f b ∷ mirror_side meta (opposite_of meta f) a b
step_writes meta (Unlink a f ra b rb) = side meta a f b ∷ mirror_side meta (opposite_of meta f) a b
step_writes meta (New e class place rank) = OfKind e ∷ OfPlace e ∷ OfRank e ∷ place_list meta place
step_writes meta (Gone e class place rank) = OfKind e ∷ OfPlace e ∷ OfRank e ∷ place_list meta place
step_writes meta (RerankPlace e old new) = OfRank e ∷ []
step_writes meta (Move e from from_rank to to_rank above_from above_to) = OfPlace e ∷ OfRank e ∷ (place_list meta from ++ place_list meta to)
step_writes meta (Ins e f at v) = OfAttr e f ∷ []
step_writes meta (Del e f at v) = OfAttr e f ∷ []
step_writes meta (RerankRow a f b old new) = side meta a f b ∷ []
step_writes meta (Shift e f from to) = OfAttr e f ∷ []

-- the elements whose class a step reads
abbrev pub kinds_read : Step → List IdBytes
kinds_read (Put e f old new) = e ∷ []
kinds_read (Ins e f at v) = e ∷ []
kinds_read (Del e f at v) = e ∷ []
kinds_read (Shift e f from to) = e ∷ []
kinds_read (Link a f ra b rb) = a ∷ b ∷ []
kinds_read (Unlink a f ra b rb) = a ∷ b ∷ []
kinds_read (RerankRow a f b old new) = a ∷ b ∷ []
kinds_read (New e class place rank) = parents_of place
kinds_read (Gone e class place rank) = parents_of place
kinds_read (Move e from from_rank to to_rank above_from above_to) = e ∷ (parents_of from ++ parents_of to)
kinds_read (RerankPlace e old new) = []

-- the elements whose class a step writes
abbrev pub kinds_written : Step → List IdBytes
kinds_written (Put e f old new) = []
kinds_written (Ins e f at v) = []
kinds_written (Del e f at v) = []
kinds_written (Shift e f from to) = []
kinds_written (Link a f ra b rb) = []
kinds_written (Unlink a f ra b rb) = []
kinds_written (RerankRow a f b old new) = []
kinds_written (New e class place rank) = e ∷ []
kinds_written (Gone e class place rank) = e ∷ []
kinds_written (Move e from from_rank to to_rank above_from above_to) = []
kinds_written (RerankPlace e old new) = []

-- the other cells that it reads
abbrev pub others_read : Step → List Cell
others_read (Put e f old new) = []
others_read (Ins e f at v) = []
others_read (Del e f at v) = []
others_read (Shift e f from to) = []
others_read (Link a f ra b rb) = []
others_read (Unlink a f ra b rb) = []
others_read (RerankRow a f b old new) = []
others_read (New e class place rank) = []
others_read (Gone e class place rank) = []
others_read (Move e from from_rank to to_rank above_from above_to) = map OfPlace (above_from ++ above_to)
others_read (RerankPlace e old new) = OfPlace e ∷ []

-- the cells that a step reads
abbrev pub step_reads : Step → List Cell
step_reads s = map OfKind (kinds_read s) ++ others_read s

-- what a step stands on: its cells, and all that hangs on the elements that are created or deleted
abbrev pub needs : Meta → Step → List Cell
needs meta s = step_reads s ++ (map About (kinds_written s) ++ step_writes meta s)

-- what a step may change: the cells that it writes, and all that hangs on the elements whose class it reads or writes
abbrev pub may_change : Meta → Step → List Cell
may_change meta s = step_writes meta s ++ map About (kinds_read s ++ kinds_written s)

-- what some steps stand on
abbrev pub needs_all : Meta → List Step → List Cell
needs_all meta [] = []
needs_all meta (s ∷ ss) = needs meta s ++ needs_all meta ss

-- what some steps may change
abbrev pub may_change_all : Meta → List Step → List Cell
may_change_all meta [] = []
may_change_all meta (s ∷ ss) = may_change meta s ++ may_change_all meta ss

-- the two states agree at each of the cells
abbrev pub AgreeAt : Meta → State → State → List Cell → Type 0
AgreeAt meta m n cs = (c : Cell) → has cs c ≡ true → Agree meta m n c

-- the cells that some steps write
abbrev pub writes_all : Meta → List Step → List Cell
writes_all meta [] = []
writes_all meta (s ∷ ss) = step_writes meta s ++ writes_all meta ss

-- the cells that some steps read
abbrev pub reads_all : List Step → List Cell
reads_all [] = []
reads_all (s ∷ ss) = step_reads s ++ reads_all ss

-- no cell written by one is written or read by the other
pub record AreDisjoint (meta : Meta) (ps qs : List Step) : Type 0 where
  pub written : (c : Cell) → has (writes_all meta ps) c ≡ true → has (writes_all meta qs) c ≡ false
  pub first_read : (c : Cell) → has (writes_all meta qs) c ≡ true → has (reads_all ps) c ≡ false
  pub second_read : (c : Cell) → has (writes_all meta ps) c ≡ true → has (reads_all qs) c ≡ false
