-- By induction on the runs.
use Rattle.lifetimes.proofs.Lives.{files_at_rest_are_safe, lives_keep_events}
use Rattle.lifetimes.proofs.laws.law_of_lifetimes.Goals as goal

pub returns-clause-safe : goal.returns-clause-safe
returns-clause-safe c = files_at_rest_are_safe

pub returns-clause-lives : goal.returns-clause-lives
returns-clause-lives c = lives_keep_events
