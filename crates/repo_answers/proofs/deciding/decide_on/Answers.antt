use Rattle.std.proofs.Common.{ap}
use Rattle.repo_answers.specs.Needs.{model_for}
use Rattle.repo_answers.proofs.Needed.{of_workspace}
use Rattle.repo_answers.proofs.deciding.decide_on.Goals as goal

pub decide_edit-requires-clause-model : goal.decide_edit-requires-clause-model
decide_edit-requires-clause-model c = of_workspace c.args.repo.now c.args.command.now c.in-Edit.ws c.args.model (ap model_for c.in-Edit.is) c.requires.model

pub decide_import-requires-clause-model : goal.decide_import-requires-clause-model
decide_import-requires-clause-model c =
    of_workspace c.args.repo.now c.args.command.now c.in-Import.ws c.args.model (ap model_for c.in-Import.is) c.requires.model

pub decide_show-requires-clause-model : goal.decide_show-requires-clause-model
decide_show-requires-clause-model c = of_workspace c.args.repo.now c.args.command.now c.in-Show.ws c.args.model (ap model_for c.in-Show.is) c.requires.model

pub decide_validate-requires-clause-model : goal.decide_validate-requires-clause-model
decide_validate-requires-clause-model c =
    of_workspace c.args.repo.now c.args.command.now c.in-Validate.ws c.args.model (ap model_for c.in-Validate.is) c.requires.model
