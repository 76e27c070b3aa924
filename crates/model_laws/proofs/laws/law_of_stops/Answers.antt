-- The laws hold by induction on the steps.
use Rattle.model_laws.proofs.Stops.{stop_is_first, first_is_stop, no_stop_leads, leads_no_stop, stop_is_fault}
use Rattle.model_laws.proofs.laws.law_of_stops.Goals as goal

pub returns-clause-first : goal.returns-clause-first
returns-clause-first c = stop_is_first

pub returns-clause-only : goal.returns-clause-only
returns-clause-only c = first_is_stop

pub returns-clause-leads : goal.returns-clause-leads
returns-clause-leads c = no_stop_leads

pub returns-clause-none : goal.returns-clause-none
returns-clause-none c = leads_no_stop

pub returns-clause-fault : goal.returns-clause-fault
returns-clause-fault c = stop_is_fault
