-- The column at which a line is refused that spells no command.
use Rattle.std.specs.Prelude.{◌≡◌, ◌↔◌, ℕ, ◌+◌, ◌-◌, ◌<◌, ◌≤◌, List, length, take, drop, Err}
use Rattle.std.specs.List.{before_first}
use Rattle.script_lang.specs.declared.command.Command.{Command}
use Rattle.script_lang.specs.Words.{is_space}
use Rattle.script_lang.specs.Command.{command_of}
use Rattle.script_lang.specs.Spelling.{IsLine, Spells}

-- what stands at a column, from 1, up to the next space or to the line's end
abbrev pub word_there : ℕ → List ℕ → List ℕ
word_there column line = before_first is_space (drop (column - 1) line)

-- the other line has the same bytes before the column and the same word there; where this one has ended before it, so has the other
pub record IsSameThrough (column : ℕ) (line other : List ℕ) : Type 0 where
  pub before : take (column - 1) other ≡ take (column - 1) line
  pub word : word_there column other ≡ word_there column line
  pub ends : length line < column → length other < column

-- the other line has the words that stand before the column: it is the same through the column before, where there is one
abbrev pub HasWordsBefore : ℕ → List ℕ → List ℕ → Type 0
HasWordsBefore column line other = (before : ℕ) → 1 ≤ before → column ≡ before + 1 → IsSameThrough before line other

-- the words before the column fit, and the word there doesn't: some command's line has the words before it, and none is the same through it
pub record FitsUpTo (column : ℕ) (line : List ℕ) : Type 0 where
  pub first : 1 ≤ column
  pub last : column ≤ length line + 1
  pub before : (other : List ℕ) × (command : Command) × Spells other command × HasWordsBefore column line other
  pub there : (other : List ℕ) (command : Command) → Spells other command → IsSameThrough column line other → ⊥

-- a line is refused at a column exactly where its words fit up to it
abbrev pub ColumnsAreFirst : Type 0
ColumnsAreFirst = (line : List ℕ) (column : ℕ) → IsLine line → (command_of line ≡ Err column ↔ FitsUpTo column line)

-- each line that is the same through that word is refused at the same column
abbrev pub SameLinesAreRefusedAlike : Type 0
SameLinesAreRefusedAlike =
    (line other : List ℕ) (column : ℕ) → command_of line ≡ Err column → IsSameThrough column line other → command_of other ≡ Err column
