use Rattle.round_trip.proofs.ReadingTold.{texts_are_told}
use Rattle.round_trip.proofs.laws.law_of_reading.Goals as goal

pub returns : goal.returns
returns c = texts_are_told
