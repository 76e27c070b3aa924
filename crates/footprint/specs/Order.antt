-- The order of cells, and the positions of cells by it.
use Rattle.std.specs.Prelude.{◌≡◌, ℕ, ◌<◌, Bool, false, List, length, slice_get}
use Rattle.std.specs.Cmp.Lexicographic.{slice_cmp}
use Rattle.std.specs.List.{list_any}
use Rattle.std.specs.List.Sorted.{IsSortedBy}
use Rattle.std.specs.Option.{option_cmp, option_map_or}
use Rattle.std.specs.Ordering.{nat_cmp, ordering_then, is_lt}
use Rattle.std.specs.declared.cmp.Ordering.{Ordering}
use Rattle.footprint.specs.declared.cell.Cell.{Cell as Held}
use Rattle.footprint.specs.declared.cell.Cell.TheVariants.{Kind, Place, Rank, Attr, Row, Whole}

-- the number of a cell's sort
abbrev pub sort : Held → ℕ
sort (Kind e) = 0
sort (Place e) = 1
sort (Rank e) = 2
sort (Attr e f) = 3
sort (Row a f b) = 4
sort (Whole a f) = 5

-- cells of one sort by what they are of, and others by their sorts
abbrev pub held_cmp : Held → Held → Ordering
held_cmp (Kind a) (Kind b) = slice_cmp nat_cmp a b
held_cmp (Place a) (Place b) = slice_cmp nat_cmp a b
held_cmp (Rank a) (Rank b) = slice_cmp nat_cmp a b
held_cmp (Attr a f) (Attr b g) = ordering_then (slice_cmp nat_cmp a b) (nat_cmp f g)
held_cmp (Row a f x) (Row b g y) = ordering_then (slice_cmp nat_cmp a b) (ordering_then (nat_cmp f g) (slice_cmp nat_cmp x y))
held_cmp (Whole a f) (Whole b g) = ordering_then (slice_cmp nat_cmp a b) (nat_cmp f g)
held_cmp c d = nat_cmp (sort c) (sort d)

-- the cells at two positions
abbrev pub place_cmp : List Held → ℕ → ℕ → Ordering
place_cmp list i j = option_cmp held_cmp (slice_get list i) (slice_get list j)

-- the cell at the position passes the test
abbrev pub passes_at : (Held → Bool) → List Held → ℕ → Bool
passes_at test list i = option_map_or test (slice_get list i) false

-- Where there are positions, they rise by their cells. A test passes at one of them exactly where it passes a cell of the list.
abbrev pub IsOrder : List Held → List ℕ → Type 0
IsOrder list order = 0 < length order
    → IsSortedBy (λ i j. is_lt (place_cmp list i j)) order × ((test : Held → Bool) → list_any (passes_at test list) order ≡ list_any test list)
