use Rattle.store_replay.proofs.Moving.{stores_are_made_again}
use Rattle.store_replay.proofs.laws.law_of_moved_stores.Goals as goal

pub returns : goal.returns
returns c = stores_are_made_again
