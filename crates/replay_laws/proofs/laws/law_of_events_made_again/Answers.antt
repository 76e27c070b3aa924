-- By cases on the event: each has the command that its line spells.
use Rattle.replay_laws.proofs.Known.{nothing_is_unknown}
use Rattle.replay_laws.proofs.Remade.{events_are_made_again}
use Rattle.replay_laws.proofs.laws.law_of_events_made_again.Goals as goal

pub returns-clause-again : goal.returns-clause-again
returns-clause-again c = events_are_made_again

pub returns-clause-known : goal.returns-clause-known
returns-clause-known c = nothing_is_unknown
