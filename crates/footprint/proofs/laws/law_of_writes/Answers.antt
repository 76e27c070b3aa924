-- A step leaves what it does not write, and so does a run of steps.
use Rattle.footprint.proofs.Alike.{step_leaves_others, operation_leaves_others, package_leaves_others, states_are_their_cells}
use Rattle.footprint.proofs.laws.law_of_writes.Goals as goal

pub returns-clause-step : goal.returns-clause-step
returns-clause-step c = step_leaves_others

pub returns-clause-operation : goal.returns-clause-operation
returns-clause-operation c = operation_leaves_others

pub returns-clause-package : goal.returns-clause-package
returns-clause-package c = package_leaves_others

pub returns-clause-whole : goal.returns-clause-whole
returns-clause-whole c = states_are_their_cells
