use Rattle.round_trip.proofs.Bringing.{tellings_are_shown}
use Rattle.round_trip.proofs.laws.law_of_descriptions.Goals as goal

pub returns : goal.returns
returns c = tellings_are_shown
