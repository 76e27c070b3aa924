-- What an index of prints keeps, and what is near a print by it.
use Rattle.std.specs.Prelude.{◌≡◌, ℕ, zero, suc, ◌<◌, ◌%◌, Bool, true, List, [], ◌∷◌, length, get_or}
use Rattle.std.specs.List.{Contains}
use Rattle.std.specs.declared.vec.Vec.{Vec}
use Rattle.std.specs.declared.alloc.Global.{Global}
use Rattle.footprint.specs.declared.cell.Cell.{Cell as Held}
use Rattle.footprint.specs.declared.cell.Print.{Print}
use Rattle.footprint.specs.Interference.{cells_interfere}
use Rattle.footprint.specs.Prints.{seen, cells}
use Rattle.cell_index.specs.Keys.{cell_key}
use Rattle.cell_index.specs.declared.listing.CellIndex.{CellIndex}

-- the operations of the prints interfere
abbrev pub prints_interfere : Print → Print → Bool
prints_interfere p q = cells_interfere (cells p.writes) (cells p.reads) (cells q.writes) (cells q.reads)

-- the operation at the place interferes with that of the print
pub record IsMet (prints : List Print) (p : Print) (k : ℕ) : Type 0 where
  pub low : k < length prints
  pub meets : prints_interfere p (get_or prints k p) ≡ true

-- so do those at all the places
abbrev pub AllMet : List Print → Print → List ℕ → Type 0
AllMet prints p places = (k : ℕ) → Contains places k → IsMet prints p k

-- the list at the slot
abbrev pub list_at : List (Vec ℕ Global) → ℕ → List ℕ
list_at [] s = []
list_at (v ∷ vs) zero = v.items
list_at (v ∷ vs) (suc s) = list_at vs s

-- the list of the cell's slot
abbrev pub row_of : List (Vec ℕ Global) → Held → List ℕ
row_of table h = list_at table (cell_key (seen h) % length table)

-- the place stands in the list of each cell
abbrev pub Listed : List (Vec ℕ Global) → List Held → ℕ → Type 0
Listed table list k = (h : Held) → Contains list h → Contains (row_of table h) k

-- as many lists, each with what it had
pub record Wider (old new : List (Vec ℕ Global)) : Type 0 where
  pub size : length new ≡ length old
  pub kept : (s k : ℕ) → Contains (list_at old s) k → Contains (list_at new s) k

-- the places of the prints stand in the lists of the cells that they write, and of those that they read
pub record Indexes (index : CellIndex) (prints : List Print) : Type 0 where
  pub some_writers : 0 < length index.writers.items
  pub some_readers : 0 < length index.readers.items
  pub writers : (k : ℕ) (p : Print) → k < length prints → p ≡ get_or prints k p → Listed index.writers.items p.writes k
  pub readers : (k : ℕ) (p : Print) → k < length prints → p ≡ get_or prints k p → Listed index.readers.items p.reads k
