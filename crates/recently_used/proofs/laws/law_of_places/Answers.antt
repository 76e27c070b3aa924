use Rattle.recently_used.proofs.Places.{no_more}
use Rattle.recently_used.proofs.laws.law_of_places.Goals as goal

pub returns : goal.returns
returns c = record { few = no_more }
