-- The cells of operations, and which operations interfere.
use Rattle.std.specs.Prelude.{◌≡◌, Bool, false, List, [], ◌∷◌, ◌||◌}
use Rattle.std.specs.List.{list_any}
use Rattle.ecore_meta.specs.Meta.{Meta}
use Rattle.model_state.specs.declared.operation.Operation.{Operation}
use Rattle.model_state.specs.Packages.{steps_of, steps_all}
use Rattle.model_laws.specs.Cells.{Cell, has, writes_all, reads_all}

-- the cells that the steps of an operation write
abbrev pub op_writes : Meta → Operation → List Cell
op_writes meta o = writes_all meta (steps_of o)

-- the cells that the steps of an operation read
abbrev pub op_reads : Operation → List Cell
op_reads o = reads_all (steps_of o)

-- the cells that the operations of a package write
abbrev pub package_writes : Meta → List Operation → List Cell
package_writes meta p = writes_all meta (steps_all p)

-- a cell of the one list is in the other
abbrev pub meets : List Cell → List Cell → Bool
meets xs ys = list_any (has ys) xs

-- of what two operations write and read: a cell that one writes is written or read by the other
abbrev pub cells_interfere : List Cell → List Cell → List Cell → List Cell → Bool
cells_interfere writes reads other_writes other_reads = meets writes other_writes || (meets writes other_reads || meets other_writes reads)

-- a cell that one of the operations writes is written or read by the other
unfoldable pub interferes : Meta → Operation → Operation → Bool
interferes meta o p = cells_interfere (op_writes meta o) (op_reads o) (op_writes meta p) (op_reads p)

-- no operation of the list interferes with o
abbrev pub Free : Meta → Operation → List Operation → Type 0
Free meta o [] = Unit {0}
Free meta o (p ∷ ps) = (interferes meta o p ≡ false) × Free meta o ps

-- no operation of the one list interferes with one of the other
abbrev pub NoPair : Meta → List Operation → List Operation → Type 0
NoPair meta [] ps = Unit {0}
NoPair meta (o ∷ os) ps = Free meta o ps × NoPair meta os ps
