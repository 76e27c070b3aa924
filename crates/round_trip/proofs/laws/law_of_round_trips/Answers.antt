use Rattle.round_trip.proofs.Coming.{texts_come_back}
use Rattle.round_trip.proofs.laws.law_of_round_trips.Goals as goal

pub returns : goal.returns
returns c = texts_come_back
