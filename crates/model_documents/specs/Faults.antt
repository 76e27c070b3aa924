-- The numbers of faults.
use Rattle.std.specs.Prelude.{ℕ}
use Rattle.model_documents.specs.declared.fault.ModelFault.{ModelFault}
use Rattle.model_documents.specs.declared.fault.ModelFault.TheVariants.{NotJson, NoClass, Abstract, NoFeature, BadValue, BadRef, DupId, BadId, Bound}
use Rattle.model_documents.specs.declared.fault.ModelFault.TheVariants.{WrongType, Memory}

-- the number of a fault in a reply
abbrev pub model_fault_number : ModelFault → ℕ
model_fault_number NotJson = 1
model_fault_number NoClass = 2
model_fault_number Abstract = 3
model_fault_number NoFeature = 4
model_fault_number BadValue = 5
model_fault_number BadRef = 6
model_fault_number DupId = 7
model_fault_number BadId = 8
model_fault_number Bound = 9
model_fault_number WrongType = 10
model_fault_number Memory = 11
