use Rattle.state_steps.proofs.Built.{steps_build}
use Rattle.state_steps.proofs.laws.law_of_whole.Goals as goal

pub returns : goal.returns
returns c = steps_build
