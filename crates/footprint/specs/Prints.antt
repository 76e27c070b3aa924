-- Cells as the code holds them.
use Rattle.std.specs.Prelude.{Bool, List, map}
use Rattle.std.specs.List.{list_any}
use Rattle.model_laws.specs.Cells.{Cell, cell_eq, OfKind, OfPlace, OfRank, OfAttr, OfRow, OfWhole}
use Rattle.ecore_meta.specs.Meta.{Meta}
use Rattle.model_state.specs.declared.operation.Operation.{Operation}
use Rattle.footprint.specs.Interference.{op_writes, op_reads}
use Rattle.footprint.specs.declared.cell.Print.{Print}
use Rattle.footprint.specs.declared.cell.Cell.{Cell as Held}
use Rattle.footprint.specs.declared.cell.Cell.TheVariants.{Kind, Place, Rank, Attr, Row, Whole}

-- the cell that is held
abbrev pub seen : Held → Cell
seen (Kind e) = OfKind e
seen (Place e) = OfPlace e
seen (Rank e) = OfRank e
seen (Attr e f) = OfAttr e f
seen (Row a f b) = OfRow a f b
seen (Whole a f) = OfWhole a f

-- the cells that are held
unfoldable pub cells : List Held → List Cell
cells list = map seen list

-- the cell is one of those that are held
abbrev pub holds : List Held → Cell → Bool
holds list c = list_any (λ h. cell_eq c (seen h)) list

-- a cell that the one list holds is held by the other
abbrev pub hold_one : List Held → List Held → Bool
hold_one list other = list_any (λ h. holds other (seen h)) list

-- the cells of prints, those written and those read
unfoldable pub shown : List Print → List (List Cell × List Cell)
shown prints = map (λ p. (cells p.writes, cells p.reads)) prints

-- the cells of operations, those written and those read
unfoldable pub printed : Meta → List Operation → List (List Cell × List Cell)
printed meta ops = map (λ o. (op_writes meta o, op_reads o)) ops
