-- What a host over a system reports, and what it keeps of the file.
use Rattle.std.specs.Prelude.{◌≡◌, ℕ, List, length, take, drop, IsTrue, Option, IfSome}
use Rattle.host_port.specs.Host.{Told, disk_now}

-- all that the system reports, with the host's own counts of faults
abbrev pub counting : Told → ℕ → ℕ → ℕ → Told
counting told takes says disks = record told { take_faults = takes; say_faults = says; disk_faults = disks }

-- the length that is known is the file's
abbrev pub HasLength : Told → Option ℕ → Type 0
HasLength told len = IfSome len (λ n. IsTrue told.tells → n ≡ length (disk_now told).now)

-- so many of these bytes are the file's, from an offset on
abbrev pub HasBytes : Told → ℕ → List ℕ → ℕ → Type 0
HasBytes told from bytes count = IsTrue told.tells → take count bytes ≡ take count (drop from (disk_now told).now)
