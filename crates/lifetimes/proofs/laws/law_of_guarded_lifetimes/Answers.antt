-- By what may come of runs.
use Rattle.lifetimes.proofs.Guarded.{readers_lives, writers_lives}
use Rattle.lifetimes.proofs.laws.law_of_guarded_lifetimes.Goals as goal

pub returns-clause-readers : goal.returns-clause-readers
returns-clause-readers c = readers_lives

pub returns-clause-writers : goal.returns-clause-writers
returns-clause-writers c = writers_lives
