-- What a crash may leave while commands run. 'stands x events' says that the bytes x of a file stand for these events.
use Rattle.std.specs.Prelude.{◌≡◌, ◌⊎◌, ℕ, ◌-◌, ◌≤◌, List, ◌++◌, Option, length, take}
use Rattle.host_port.specs.Host.{Disk, CrashLeaves}
use Rattle.command_runs.specs.Runs.{listed}

-- the file stands for the first events and some of those that were made since: at least so many, and none in part
pub record StandsForAtLeast {E : Type 0} (stands : List ℕ → List E → Type 0) (first made : List E) (least : ℕ) (x : List ℕ) : Type 0 where
  pub count : ℕ
  pub least_is : least ≤ count
  pub most_is : count ≤ length made
  pub stands_for : stands x (first ++ take count made)

-- At a moment of a run, where before is what was printed before it. Whatever a crash leaves stands for the first events and some
-- of those made, with all that are answered by then. How many these are at least is a function of how much was printed.
abbrev pub IsRunning : {E : Type 0} → (List ℕ → List E → Type 0) → List E → List E → (ℕ → ℕ) → List ℕ → Disk → List ℕ → Type 0
IsRunning stands first made least before disk said = CrashLeaves (StandsForAtLeast stands first made (least (length said - length before))) disk

-- the same; or the disk is still that of the entry, with what it held unsynced, and nothing is printed
abbrev pub IsOpenedRunning : {E : Type 0} → Disk → (List ℕ → List E → Type 0) → List E → List E → (ℕ → ℕ) → List ℕ → Disk → List ℕ → Type 0
IsOpenedRunning entry stands first made least before disk said = ((disk ≡ entry) × (said ≡ before)) ⊎ IsRunning stands first made least before disk said

-- at a moment of one command: nothing of its reply is printed yet, or whatever a crash leaves has its event
abbrev pub IsStepping : {E : Type 0} → (List ℕ → List E → Type 0) → List E → Option E → List ℕ → Disk → List ℕ → Type 0
IsStepping stands first event before disk said = CrashLeaves (λ x. (stands x first × (said ≡ before)) ⊎ stands x (first ++ listed event)) disk
