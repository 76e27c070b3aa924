use Rattle.round_trip.proofs.ReadingTrees.{text_reads}
use Rattle.round_trip.proofs.laws.law_of_reading_back.Goals as goal

pub returns : goal.returns
returns c = text_reads
