use Rattle.edit_steps.proofs.Creates.{create_meets}
use Rattle.edit_steps.proofs.laws.law_of_creation.Goals as goal

pub returns : goal.returns
returns c = create_meets
