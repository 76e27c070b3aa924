-- The laws follow from what each step needs and touches.
use Rattle.model_laws.proofs.Apart.{exchange_holds, side_by_side}
use Rattle.model_laws.proofs.laws.law_of_step_exchange.Goals as goal

pub returns-clause-exchange : goal.returns-clause-exchange
returns-clause-exchange c = exchange_holds

pub returns-clause-side_by_side : goal.returns-clause-side_by_side
returns-clause-side_by_side c = side_by_side
