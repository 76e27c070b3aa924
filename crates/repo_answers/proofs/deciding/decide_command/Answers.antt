use Rattle.std.proofs.Common.{sym, subst}
use Rattle.plain_repository.specs.State.{State}
use Rattle.repo_state.specs.Working.{IsWorkingModel}
use Rattle.repo_answers.proofs.deciding.decide_command.Goals as goal
use Rattle.model_state.specs.State as models

pub decide_over-decision-requires-clause-model : goal.decide_over-decision-requires-clause-model
decide_over-decision-requires-clause-model c =
    subst (λ (s : State). IsWorkingModel s c.in-Some.ws c.in_ok-model.model) (sym c.take_model.ensures.same) c.in_ok-model.ensures.model

pub keep_model-requires-clause-model : goal.keep_model-requires-clause-model
keep_model-requires-clause-model c =
    subst (λ (m : models.State). IsWorkingModel c.take_model.new.self c.in-Some.ws m) (sym c.decide_over-decision.ensures.model)
    (subst (λ (s : State). IsWorkingModel s c.in-Some.ws c.in_ok-model.model) (sym c.take_model.ensures.same) c.in_ok-model.ensures.model)
