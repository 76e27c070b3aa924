use Rattle.repo_state.specs.Keeping.{plain_of}
use Rattle.repo_answers.proofs.deciding.models.recall_settled.Goals as goal

pub returns-clause-model : goal.returns-clause-model
returns-clause-model c = (c.requires.model c.args._begun.now.meta (plain_of c.args._workspace.now) c.requires.meta c.requires.there).0

pub returns-clause-good : goal.returns-clause-good
returns-clause-good c = (c.requires.model c.args._begun.now.meta (plain_of c.args._workspace.now) c.requires.meta c.requires.there).1
