use Rattle.model_laws.proofs.Reversals.{packages_undone, packages_keep, package_twice, operation_twice}
use Rattle.model_laws.proofs.laws.law_of_reversals.Goals as goal

pub returns-clause-undoes : goal.returns-clause-undoes
returns-clause-undoes c = packages_undone

pub returns-clause-keeps : goal.returns-clause-keeps
returns-clause-keeps c = packages_keep

pub returns-clause-packages_twice : goal.returns-clause-packages_twice
returns-clause-packages_twice c = package_twice

pub returns-clause-operations_twice : goal.returns-clause-operations_twice
returns-clause-operations_twice c = operation_twice
