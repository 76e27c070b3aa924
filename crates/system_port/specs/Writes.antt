-- How far a request to write has come.
use Rattle.std.specs.Prelude.{◌≡◌, ℕ, zero, suc, ◌+◌, ◌≤◌, List, [], ◌∷◌, ◌++◌, length, take, drop}
use Rattle.host_port.specs.Host.{Disk, overwritten}

-- The file once a request to write the bytes from an offset on is begun, and so many of them are written. A crash may leave
-- any bytes in the range of the request, from its beginning on.
abbrev pub begun : Disk → ℕ → List ℕ → ℕ → Disk
begun first at bytes done = record {
  now = overwritten first.now at (take done bytes);
  stable = first.stable;
  loose = first.loose ++ record { from = at; to = at + length bytes } ∷ [];
}

-- the file between two calls for one request, of whose bytes so many are written: before the first call it is the file of before
abbrev pub under_way : Disk → ℕ → List ℕ → ℕ → Disk
under_way first at bytes zero = first
under_way first at bytes (suc done) = begun first at bytes (suc done)

-- What one call makes of the file that writes so many more bytes of a request. The first call makes the range one that a crash may
-- leave with any bytes; those after it only write on.
abbrev pub written_on : Disk → ℕ → List ℕ → ℕ → ℕ → Disk
written_on disk at bytes zero n = begun disk at bytes n
written_on disk at bytes (suc done) n = record {
  now = overwritten disk.now (at + suc done) (take n (drop (suc done) bytes));
  stable = disk.stable;
  loose = disk.loose;
}

-- a file that is written to in this way, in calls of any number of bytes, is what is asked of a system
abbrev pub ShortWritesGoOn : Type 0
ShortWritesGoOn =
    (first : Disk) (at : ℕ) (bytes : List ℕ) (done n : ℕ) → at ≤ length first.now → done + n ≤ length bytes
    → written_on (under_way first at bytes done) at bytes done n ≡ begun first at bytes (done + n)
