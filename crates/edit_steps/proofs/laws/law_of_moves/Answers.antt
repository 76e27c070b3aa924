use Rattle.edit_steps.proofs.MoveEdits.{move_within_meets, move_to_meets}
use Rattle.edit_steps.proofs.laws.law_of_moves.Goals as goal

pub returns-clause-within : goal.returns-clause-within
returns-clause-within c = move_within_meets

pub returns-clause-to_another : goal.returns-clause-to_another
returns-clause-to_another c = move_to_meets
