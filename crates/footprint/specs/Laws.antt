-- What is promised of cells, of interference and of operations that don't interfere.
use Rattle.std.specs.Prelude.{◌≡◌, true, false, List, [], ◌∷◌, ◌++◌, ◌||◌, ◌⊎◌, Some}
use Rattle.ecore_meta.specs.Meta.{Meta}
use Rattle.model_state.specs.declared.step.Step.{Step}
use Rattle.model_state.specs.State.{State}
use Rattle.model_state.specs.Steps.{Can, fault, writes, apply}
use Rattle.model_state.specs.Good.{Good, Sound}
use Rattle.model_state.specs.declared.operation.Operation.{Operation}
use Rattle.model_state.specs.Packages.{steps_of, fold_package}
use Rattle.model_laws.specs.Cells.{Cell, has, Agree, step_writes, AreDisjoint}
use Rattle.footprint.specs.Interference.{op_writes, op_reads, package_writes, cells_interfere, interferes, NoPair}
use Rattle.footprint.specs.Same.{IsCell, Same}

-- a step that can be taken leaves each cell that it does not write
abbrev pub StepLeavesOthers : Type 0
StepLeavesOthers = (meta : Meta) (m : State) → Good meta m → (s : Step) → Can meta m s → (c : Cell) → IsCell c → has (step_writes meta s) c ≡ false
    → Agree meta m (apply meta m s) c

-- an operation that can be applied leaves each cell that it does not write
abbrev pub OperationLeavesOthers : Type 0
OperationLeavesOthers = (meta : Meta) → Sound meta → (m n : State) → Good meta m → (o : Operation) → fold_package meta m (o ∷ []) ≡ Some n
    → (c : Cell) → IsCell c → has (op_writes meta o) c ≡ false → Agree meta m n c

-- so does a package leave each cell that none of its operations writes
abbrev pub PackageLeavesOthers : Type 0
PackageLeavesOthers = (meta : Meta) → Sound meta → (m n : State) → Good meta m → (p : List Operation) → fold_package meta m p ≡ Some n
    → (c : Cell) → IsCell c → has (package_writes meta p) c ≡ false → Agree meta m n c

-- states that agree at each cell are equal
abbrev pub StatesAreTheirCells : Type 0
StatesAreTheirCells = (meta : Meta) (m n : State) → ((c : Cell) → IsCell c → Agree meta m n c) → m ≡ n

-- In states that are the same for an operation, a step of it meets the same fault or none and writes the same. It leaves states
-- that are the same for it.
abbrev pub StepGoesByCells : Type 0
StepGoesByCells = (meta : Meta) (m n : State) → Good meta m → Good meta n → (o : Operation) → Same meta m n o → (earlier later : List Step) (s : Step)
    → steps_of o ≡ earlier ++ (s ∷ later)
    → (fault meta m s ≡ fault meta n s) × (writes meta m s ≡ writes meta n s) × (Can meta m s → Same meta (apply meta m s) (apply meta n s) o)

-- an operation leaves a state that is the same for one that it does not interfere with
abbrev pub OthersLeaveSame : Type 0
OthersLeaveSame = (meta : Meta) → Sound meta → (m n : State) → Good meta m → (o p : Operation) → interferes meta o p ≡ false
    → fold_package meta m (p ∷ []) ≡ Some n → Same meta m n o

-- two operations interfere, whichever of them is named first
abbrev pub InterferenceIsSymmetric : Type 0
InterferenceIsSymmetric = (meta : Meta) (o p : Operation) → interferes meta o p ≡ interferes meta p o

-- the operations interfere where the cells that they write and read do
abbrev pub InterferenceIsOfCells : Type 0
InterferenceIsOfCells = (meta : Meta) (o p : Operation) → interferes meta o p ≡ cells_interfere (op_writes meta o) (op_reads o) (op_writes meta p) (op_reads p)

-- two operations do not interfere exactly where no cell that one writes is written or read by the other
abbrev pub InterferenceIsExact : Type 0
InterferenceIsExact = (meta : Meta) (o p : Operation)
    → (interferes meta o p ≡ false → AreDisjoint meta (steps_of o) (steps_of p))
    × (AreDisjoint meta (steps_of o) (steps_of p) → interferes meta o p ≡ false)

-- one of the operations writes the cell, and the other writes or reads it
abbrev pub MeetAt : Meta → Operation → Operation → Cell → Type 0
MeetAt meta o p c = ((has (op_writes meta o) c ≡ true) × (has (op_writes meta p) c || has (op_reads p) c ≡ true))
    ⊎ ((has (op_writes meta p) c ≡ true) × (has (op_writes meta o) c || has (op_reads o) c ≡ true))

-- two operations that interfere meet at a cell
abbrev pub InterferenceHasACell : Type 0
InterferenceHasACell = (meta : Meta) (o p : Operation) → interferes meta o p ≡ true → (c : Cell) × MeetAt meta o p c

-- two operations that do not interfere commute
abbrev pub OperationsExchange : Type 0
OperationsExchange = (meta : Meta) → Sound meta → (o p : Operation) (m k : State) → Good meta m → interferes meta o p ≡ false
    → fold_package meta m (o ∷ p ∷ []) ≡ Some k → fold_package meta m (p ∷ o ∷ []) ≡ Some k

-- packages without an interfering pair commute
abbrev pub PackagesExchange : Type 0
PackagesExchange = (meta : Meta) → Sound meta → (p q : List Operation) (m k : State) → Good meta m → NoPair meta p q
    → fold_package meta m (p ++ q) ≡ Some k → fold_package meta m (q ++ p) ≡ Some k

-- packages without an interfering pair that both apply to a state give one state in either order
abbrev pub PackagesSideBySide : Type 0
PackagesSideBySide = (meta : Meta) → Sound meta → (p q : List Operation) (m n k : State) → Good meta m → NoPair meta p q
    → fold_package meta m p ≡ Some n → fold_package meta m q ≡ Some k
    → (l : State) × (fold_package meta m (p ++ q) ≡ Some l) × (fold_package meta m (q ++ p) ≡ Some l)
