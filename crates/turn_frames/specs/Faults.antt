-- The faults that a turn's script may end by.
use Rattle.std.specs.Prelude.{ℕ, ◌<◌, ◌≤◌, Bool, List, length, Option, Some, None}
use Rattle.host_port.specs.Cut.{script_of}
use Rattle.host_port.specs.Limits.{input_limit}
use Rattle.host_port.specs.declared.lines.LineFault.{LineFault}
use Rattle.host_port.specs.declared.lines.LineFault.TheVariants as faults

-- one of the first four, at a place in so many bytes or right after them
abbrev pub IsWithin : ℕ → LineFault → Type 0
IsWithin n (faults.LineTooLong at) = at ≤ n
IsWithin n (faults.BlockTooLong at) = at ≤ n
IsWithin n (faults.NotText at) = at ≤ n
IsWithin n (faults.UnendedBlock at) = at ≤ n
IsWithin n (faults.InputTooLong at) = ⊥
IsWithin n faults.Failed = ⊥
IsWithin n faults.Memory = ⊥

-- such a fault, or none
abbrev pub IfFault : ℕ → Option LineFault → Type 0
IfFault n None = Unit {0}
IfFault n (Some fault) = IsWithin n fault

-- a script of fewer bytes than an input may have ends by one of the first four faults, or by none
abbrev pub FaultsAreWithin : Type 0
FaultsAreWithin = (takes : List ℕ → Bool) (bytes : List ℕ) → length bytes < input_limit → IfFault (length bytes) (script_of takes bytes).fault
