-- The last of the operations with one more is that one.
use Rattle.plain_repository.proofs.Undoing.{undo_gives_back}
use Rattle.plain_repository.proofs.laws.law_of_undoing.Goals as goal

pub returns : goal.returns
returns c = record { back = undo_gives_back }
