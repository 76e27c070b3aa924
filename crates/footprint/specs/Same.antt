-- What it means that two states are the same for an operation.
use Rattle.std.specs.Prelude.{◌≡◌, true}
use Rattle.ecore_meta.specs.Meta.{Meta}
use Rattle.model_state.specs.Keys.{IdBytes}
use Rattle.model_state.specs.State.{State}
use Rattle.model_state.specs.declared.operation.Operation.{Operation}
use Rattle.model_laws.specs.Cells.{Cell, OfKind, About, has, Agree, AgreeAt}
use Rattle.footprint.specs.Interference.{op_writes, op_reads}

-- a cell, and not all that hangs on an element
abbrev pub IsCell : Cell → Type 0
IsCell (About e) = ⊥
IsCell c = Unit {0}

-- the states agree at each cell that the operation writes or reads, and in all that hangs on an element whose class it writes
pub record Same (meta : Meta) (m n : State) (o : Operation) : Type 0 where
  pub written : AgreeAt meta m n (op_writes meta o)
  pub read : AgreeAt meta m n (op_reads o)
  pub about : (e : IdBytes) → has (op_writes meta o) (OfKind e) ≡ true → Agree meta m n (About e)
