-- The laws follow from those of lists of steps.
use Rattle.footprint.proofs.Runs.{operations_exchange, packages_exchange, packages_side_by_side}
use Rattle.footprint.proofs.laws.law_of_exchange.Goals as goal

pub returns-clause-operations : goal.returns-clause-operations
returns-clause-operations c = operations_exchange

pub returns-clause-packages : goal.returns-clause-packages
returns-clause-packages c = packages_exchange

pub returns-clause-side_by_side : goal.returns-clause-side_by_side
returns-clause-side_by_side c = packages_side_by_side
