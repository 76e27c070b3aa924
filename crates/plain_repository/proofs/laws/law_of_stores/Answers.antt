use Rattle.plain_repository.proofs.Stores.{same_events, same_damage, damaged_for_none}
use Rattle.plain_repository.proofs.Deciding.{each_file}
use Rattle.plain_repository.proofs.laws.law_of_stores.Goals as goal

pub returns-clause-either : goal.returns-clause-either
returns-clause-either c = each_file

pub returns-clause-meaning : goal.returns-clause-meaning
returns-clause-meaning c = same_events

pub returns-clause-offset : goal.returns-clause-offset
returns-clause-offset c = same_damage

pub returns-clause-none : goal.returns-clause-none
returns-clause-none c = damaged_for_none
