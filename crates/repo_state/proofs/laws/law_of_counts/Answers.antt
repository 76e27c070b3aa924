use Rattle.repo_state.proofs.Counted.{workspaces_are_few}
use Rattle.repo_state.proofs.laws.law_of_counts.Goals as goal

pub returns : goal.returns
returns c = record { few = workspaces_are_few }
