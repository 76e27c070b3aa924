-- By induction on the events, and by the law of printed items.
use Rattle.replay_laws.proofs.Replaying.{scripts_replay, stores_replay}
use Rattle.replay_laws.proofs.laws.law_of_replay.Goals as goal

pub returns-clause-scripts : goal.returns-clause-scripts
returns-clause-scripts c = scripts_replay

pub returns-clause-stores : goal.returns-clause-stores
returns-clause-stores c = stores_replay
