-- What is left of a turn's script.
use Rattle.std.specs.Prelude.{ℕ, Bool}
use Rattle.host_port.specs.Cut.{Script}

-- the items that are left, with what ends them, the offset of the next one, and whether a call has failed
pub record Left : Type 0 where
  pub script : Script
  pub offset : ℕ
  pub failed : Bool
