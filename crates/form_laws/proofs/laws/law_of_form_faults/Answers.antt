-- The law holds by the exact reading of packages and of events.
use Rattle.form_laws.proofs.Wholes.{whole_faults}
use Rattle.form_laws.proofs.Packages.{package_exact}
use Rattle.form_laws.proofs.Events.{event_exact}
use Rattle.form_laws.proofs.laws.law_of_form_faults.Goals as goal

pub returns-clause-package_fields : goal.returns-clause-package_fields
returns-clause-package_fields c = package_exact.encoded

pub returns-clause-packages : goal.returns-clause-packages
returns-clause-packages c = whole_faults package_exact

pub returns-clause-event_fields : goal.returns-clause-event_fields
returns-clause-event_fields c = event_exact.encoded

pub returns-clause-events : goal.returns-clause-events
returns-clause-events c = whole_faults event_exact
