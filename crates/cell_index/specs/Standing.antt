-- What an index of operations that are added and removed keeps, and which operations touch.
use Rattle.std.specs.Prelude.{◌≡◌, ℕ, ◌<◌, ◌≤◌, Bool, true, false, ◌||◌, ◌&&◌, List, [], ◌∷◌, length, get_or, Option, MatchOption}
use Rattle.std.specs.List.{Contains}
use Rattle.std.specs.declared.vec.Vec.{Vec}
use Rattle.std.specs.declared.alloc.Global.{Global}
use Rattle.model_laws.specs.Cells.{Cell}
use Rattle.footprint.specs.declared.cell.Print.{Print}
use Rattle.footprint.specs.Interference.{cells_interfere}
use Rattle.footprint.specs.Prints.{cells}
use Rattle.cell_index.specs.Near.{list_at, Listed}
use Rattle.cell_index.specs.declared.staying.Standing.{Standing}

-- is there no cell
abbrev pub is_none : List Cell → Bool
is_none [] = true
is_none (c ∷ cs) = false

-- of what two operations write and read: they interfere, or neither writes anything
abbrev pub touch : List Cell → List Cell → List Cell → List Cell → Bool
touch writes reads other_writes other_reads = cells_interfere writes reads other_writes other_reads || (is_none writes && is_none other_writes)

-- the operations of the prints touch
abbrev pub prints_touch : Print → Print → Bool
prints_touch p q = touch (cells p.writes) (cells p.reads) (cells q.writes) (cells q.reads)

-- the place is below another, and an operation stands there that touches the one of the print
pub record Hit (stands : List Bool) (prints : List Print) (p : Print) (below k : ℕ) : Type 0 where
  pub low : k < below
  pub there : get_or stands k false ≡ true
  pub near : prints_touch p (get_or prints k p) ≡ true

-- the last such place
pub record LastHit (stands : List Bool) (prints : List Print) (p : Print) (below k : ℕ) : Type 0 where
  pub hit : Hit stands prints p below k
  pub last : (j : ℕ) → k < j → Hit stands prints p below j → ⊥

-- the last such place, if there is one
abbrev pub IsLast : List Bool → List Print → Print → ℕ → Option ℕ → Type 0
IsLast stands prints p below o = MatchOption o ((j : ℕ) → Hit stands prints p below j → ⊥) (LastHit stands prints p below)

-- the numbers rise, from the one bound to the other
abbrev pub Rise : ℕ → ℕ → List ℕ → Type 0
Rise low high [] = low ≤ high
Rise low high (x ∷ xs) = (low ≤ x) × Rise x high xs

-- the numbers of each list of the table rise up to the bound
abbrev pub Rising : List (Vec ℕ Global) → ℕ → Type 0
Rising table high = (s : ℕ) → Rise 0 high (list_at table s)

-- as many lists, still rising, each with what it had; the place alone may be gone
pub record Without (old new : List (Vec ℕ Global)) (k : ℕ) : Type 0 where
  pub size : length new ≡ length old
  pub kept : (s j : ℕ) → (j ≡ k → ⊥) → Contains (list_at old s) j → Contains (list_at new s) j
  pub rising : (high : ℕ) → Rising old high → Rising new high

-- Each operation that stands is in the lists of the cells that it writes, and of those that it reads. Or it is in that of the
-- operations that write nothing.
pub record ListsStanding (standing : Standing) (prints : List Print) : Type 0 where
  pub some_writers : 0 < length standing.index.writers.items
  pub some_readers : 0 < length standing.index.readers.items
  pub many : length standing.stands.items ≤ length prints
  pub rising_writers : Rising standing.index.writers.items (length standing.stands.items)
  pub rising_readers : Rising standing.index.readers.items (length standing.stands.items)
  pub rising_idle : Rise 0 (length standing.stands.items) standing.idle.items
  pub writers : (k : ℕ) (p : Print) → get_or standing.stands.items k false ≡ true → p ≡ get_or prints k p → Listed standing.index.writers.items p.writes k
  pub readers : (k : ℕ) (p : Print) → get_or standing.stands.items k false ≡ true → p ≡ get_or prints k p → Listed standing.index.readers.items p.reads k
  pub idle : (k : ℕ) (p : Print) → get_or standing.stands.items k false ≡ true → p ≡ get_or prints k p → is_none (cells p.writes) ≡ true
      → Contains standing.idle.items k
