-- By the positions of each bucket.
use Rattle.merge_laws.proofs.ChoiceLaws.{letters_are_sides, theirs_go_by_letters, mine_go_by_letters, updates_go_by_letters, merges_go_by_letters}
use Rattle.merge_laws.proofs.choice_laws.law_of_choices.Goals as goal

pub returns-clause-letters : goal.returns-clause-letters
returns-clause-letters c = letters_are_sides

pub returns-clause-theirs : goal.returns-clause-theirs
returns-clause-theirs c = theirs_go_by_letters

pub returns-clause-mine : goal.returns-clause-mine
returns-clause-mine c = mine_go_by_letters

pub returns-clause-updates : goal.returns-clause-updates
returns-clause-updates c = updates_go_by_letters

pub returns-clause-merges : goal.returns-clause-merges
returns-clause-merges c = merges_go_by_letters
