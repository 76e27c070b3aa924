-- Which refusal of an edit a fault of a call names.
use Rattle.edit_steps.specs.declared.fault.EditFault.{EditFault}
use Rattle.edit_steps.specs.declared.fault.EditFault.TheVariants as faults
use Rattle.edit_steps.specs.declared.move_fault.MoveFault.{MoveFault}
use Rattle.edit_steps.specs.declared.move_fault.MoveFault.TheVariants.{WouldCycle, Bound, WrongType, NoEntry, Memory}

-- the fault of an edit that a fault of a call is
abbrev pub edit_fault_of_move : MoveFault → EditFault
edit_fault_of_move WouldCycle = faults.WouldCycle
edit_fault_of_move Bound = faults.Bound
edit_fault_of_move WrongType = faults.WrongType
edit_fault_of_move NoEntry = faults.NoEntry
edit_fault_of_move Memory = faults.Memory
