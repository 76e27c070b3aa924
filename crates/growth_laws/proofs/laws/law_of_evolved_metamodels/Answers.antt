-- The laws hold step by step.
use Rattle.growth_laws.proofs.Runs.{extension_evolves, growth_keeps_good, growth_keeps_steps, growth_keeps_runs}
use Rattle.growth_laws.proofs.laws.law_of_evolved_metamodels.Goals as goal

pub returns-clause-extension : goal.returns-clause-extension
returns-clause-extension c = extension_evolves

pub returns-clause-good : goal.returns-clause-good
returns-clause-good c = growth_keeps_good

pub returns-clause-steps : goal.returns-clause-steps
returns-clause-steps c = growth_keeps_steps

pub returns-clause-runs : goal.returns-clause-runs
returns-clause-runs c = growth_keeps_runs
