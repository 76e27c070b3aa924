use Rattle.edit_steps.proofs.ManyEdits.{insert_meets, remove_meets, shift_meets, clear_meets}
use Rattle.edit_steps.proofs.laws.law_of_many_value_edits.Goals as goal

pub returns-clause-insert : goal.returns-clause-insert
returns-clause-insert c = insert_meets

pub returns-clause-remove : goal.returns-clause-remove
returns-clause-remove c = remove_meets

pub returns-clause-shift : goal.returns-clause-shift
returns-clause-shift c = shift_meets

pub returns-clause-clear : goal.returns-clause-clear
returns-clause-clear c = clear_meets
