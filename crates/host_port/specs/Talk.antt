-- A host whose input depends on what was printed.
use Rattle.std.specs.Prelude.{ℕ, ◌-◌, Bool, true, false, List, [], ◌∷◌, ◌++◌, length, drop, map, replicate, Vec}
use Rattle.std.specs.declared.alloc.Global.{Global}
use Rattle.std.specs.declared.vec.IntoIter.{IntoIter}
use Rattle.std.specs.Vec.Iter.{into_iter_items}
use Rattle.host_port.specs.Host.{Told}

-- the rest of the piece under way, the pieces after it, and whether something was printed since the last `take`
pub record Talk : Type 0 where
  pub part : List ℕ
  pub later : List (List ℕ)
  pub heard : Bool

-- what a `take` begins with: the rest of a piece, or the next piece once something was printed, or nothing
abbrev pub turn : List ℕ → List (List ℕ) → Bool → Talk
turn (byte ∷ bytes) later heard = record { part = byte ∷ bytes; later = later; heard = false }
turn [] later false = record { part = []; later = later; heard = false }
turn [] [] true = record { part = []; later = []; heard = false }
turn [] (piece ∷ later) true = record { part = piece; later = later; heard = false }

-- the dialogue after a `take` of n bytes
abbrev pub taken_on : Talk → ℕ → Talk
taken_on talk n = record talk { part = drop n talk.part }

-- the pieces that are still to come
abbrev pub pieces_in : IntoIter (Vec ℕ Global) Global → List (List ℕ)
pieces_in pieces = map (λ v. v.items) (into_iter_items pieces)

-- a file that is lengthened with zeros to an offset
abbrev pub padded : List ℕ → ℕ → List ℕ
padded file to = file ++ replicate (to - length file) 0

-- a host that reports nothing but its faults
abbrev pub nothing_told : ℕ → ℕ → ℕ → Told
nothing_told takes says disks = record {
  tells = false;
  clock = 0;
  disk = λ t. record { now = []; stable = []; loose = [] };
  said = λ t. [];
  taken = [];
  left = [];
  take_faults = takes;
  say_faults = says;
  disk_faults = disks;
}
