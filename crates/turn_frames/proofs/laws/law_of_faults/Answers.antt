use Rattle.turn_frames.proofs.FaultLaws.{faults_are_within}
use Rattle.turn_frames.proofs.laws.law_of_faults.Goals as goal

pub returns : goal.returns
returns c = record { within = faults_are_within }
