use Rattle.byte_form.proofs.FieldLemmas.{apart}
use Rattle.op_reading.specs.Packages.{package_at}
use Rattle.op_form.specs.Packages.{package_encoding}
use Rattle.op_reading.specs.Events.{event_at}
use Rattle.op_form.specs.Events.{event_encoding}
use Rattle.op_form.specs.Formed.{IsPackage, IsEvent}
use Rattle.op_reading.proofs.Codes.{whole_again, whole_spelled, more_left}
use Rattle.op_reading.proofs.PackageCodes.{package_codes}
use Rattle.op_reading.proofs.EventCodes.{event_codes}
use Rattle.op_reading.proofs.EventCodes.{events_tested}
use Rattle.op_reading.proofs.laws.law_of_encodings.Goals as goal

pub returns-clause-packages_again : goal.returns-clause-packages_again
returns-clause-packages_again c = whole_again package_codes

pub returns-clause-packages_spelled : goal.returns-clause-packages_spelled
returns-clause-packages_spelled c = whole_spelled package_codes

pub returns-clause-packages_left : goal.returns-clause-packages_left
returns-clause-packages_left c = more_left package_codes

pub returns-clause-packages_apart : goal.returns-clause-packages_apart
returns-clause-packages_apart c = apart IsPackage package_encoding package_at package_codes.again

pub returns-clause-events_again : goal.returns-clause-events_again
returns-clause-events_again c = whole_again event_codes

pub returns-clause-events_spelled : goal.returns-clause-events_spelled
returns-clause-events_spelled c = whole_spelled event_codes

pub returns-clause-events_left : goal.returns-clause-events_left
returns-clause-events_left c = more_left event_codes

pub returns-clause-events_apart : goal.returns-clause-events_apart
returns-clause-events_apart c = apart IsEvent event_encoding event_at event_codes.again

pub returns-clause-events_tested : goal.returns-clause-events_tested
returns-clause-events_tested c = events_tested
