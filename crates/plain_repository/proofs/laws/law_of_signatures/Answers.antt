-- By cases on the event, and by induction on the events.
use Rattle.plain_repository.proofs.Signing.{upgrades_stay, new_versions_are_signed, signed_since_upgrade, old_stores_read_on}
use Rattle.plain_repository.proofs.laws.law_of_signatures.Goals as goal

pub returns-clause-stays : goal.returns-clause-stays
returns-clause-stays c = upgrades_stay

pub returns-clause-signed : goal.returns-clause-signed
returns-clause-signed c = new_versions_are_signed

pub returns-clause-since : goal.returns-clause-since
returns-clause-since c = signed_since_upgrade

pub returns-clause-old : goal.returns-clause-old
returns-clause-old c = old_stores_read_on
