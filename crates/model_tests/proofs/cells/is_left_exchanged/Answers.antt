-- the steps lead to this model
use Rattle.model_tests.proofs.cells.is_left_exchanged.Goals as goal

pub is_left_after-requires-clause-possible : goal.is_left_after-requires-clause-possible
is_left_after-requires-clause-possible c = c.requires.possible _ c.in_ok-exchanged.ensures.run
