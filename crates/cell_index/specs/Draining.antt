-- What is taken out of an index, and what stays there.
use Rattle.std.specs.Prelude.{◌≡◌, ◌⊎◌, ℕ, ◌<◌, Bool, false, List, length, get_or}
use Rattle.std.specs.List.{Contains}
use Rattle.std.specs.declared.vec.Vec.{Vec}
use Rattle.std.specs.declared.alloc.Global.{Global}
use Rattle.footprint.specs.declared.cell.Cell.{Cell as Held}
use Rattle.footprint.specs.declared.cell.Print.{Print}
use Rattle.cell_index.specs.Near.{list_at, row_of, Listed, IsMet, AllMet}
use Rattle.cell_index.specs.declared.listing.CellIndex.{CellIndex}

-- no operation at the places interferes with that of the print
abbrev pub NoneMet : List Print → Print → List ℕ → Type 0
NoneMet prints p places = (k : ℕ) → Contains places k → IsMet prints p k → ⊥

-- each of the places that has no flag is put into the one list where its operation interferes, else into the other
pub record AreSorted (prints : List Print) (p : Print) (flags : List Bool) (places met more rest longer : List ℕ) : Type 0 where
  pub met_kept : (k : ℕ) → Contains met k → Contains more k
  pub rest_kept : (k : ℕ) → Contains rest k → Contains longer k
  pub all_met : AllMet prints p met → AllMet prints p more
  pub none_met : NoneMet prints p rest → NoneMet prints p longer
  pub sorted : (k : ℕ) → Contains places k → get_or flags k false ≡ false → Contains more k ⊎ Contains longer k

-- as many lists, which leave out only places that have a flag, and others that interfere and are taken
pub record IsDrained (prints : List Print) (p : Print) (flags : List Bool) (old new : List (Vec ℕ Global)) (met more : List ℕ) : Type 0 where
  pub size : length new ≡ length old
  pub met_kept : (k : ℕ) → Contains met k → Contains more k
  pub all_met : AllMet prints p met → AllMet prints p more
  pub lists : (s k : ℕ) → Contains (list_at old s) k → get_or flags k false ≡ false → Contains more k ⊎ Contains (list_at new s) k

-- of the places in the lists of the cells, those that have no flag and interfere are taken
abbrev pub HasMet : List Print → Print → List Bool → List (Vec ℕ Global) → List Held → List ℕ → Type 0
HasMet prints p flags table cells met = (h : Held) → Contains cells h → (k : ℕ) → Contains (row_of table h) k → get_or flags k false ≡ false
    → IsMet prints p k → Contains met k

-- the places that have no flag and aren't taken stand in the lists of the cells that their operations write, and of those that they read
pub record ListsUnflagged (index : CellIndex) (prints : List Print) (flags : List Bool) (taken : List ℕ) : Type 0 where
  pub some_writers : 0 < length index.writers.items
  pub some_readers : 0 < length index.readers.items
  pub writers : (k : ℕ) (p : Print) → k < length prints → p ≡ get_or prints k p → get_or flags k false ≡ false → (Contains taken k → ⊥)
      → Listed index.writers.items p.writes k
  pub readers : (k : ℕ) (p : Print) → k < length prints → p ≡ get_or prints k p → get_or flags k false ≡ false → (Contains taken k → ⊥)
      → Listed index.readers.items p.reads k
