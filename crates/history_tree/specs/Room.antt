-- A history, and the room for further versions, branches and tags.
use Rattle.std.specs.Prelude.{ℕ}
use Rattle.history_tree.specs.History.{History}

-- the most versions, branches or tags of a history, which 32 bits number
abbrev pub most_numbered : ℕ
most_numbered = 4294967295

-- a history, and how many versions, branches and tags it takes without further memory
pub record HistoryState : Type 0 where
  pub history : History
  pub spare : ℕ
