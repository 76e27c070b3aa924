-- What contracts see of a store that is being opened, and of a session.
use Rattle.std.specs.Prelude.{ℕ, Bool}
use Rattle.plain_repository.specs.State.{State}

-- the repository that the events read so far make, the offset where the next record may stand, and whether the closed gate was found
pub record OpeningState : Type 0 where
  pub state : State
  pub next : ℕ
  pub ended : Bool

-- the repository in memory, the offset of the journal's end, and whether an append to it failed
pub record SessionState : Type 0 where
  pub state : State
  pub end : ℕ
  pub broken : Bool
