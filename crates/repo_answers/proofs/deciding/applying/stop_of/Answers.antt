use Rattle.std.proofs.Common.{sym, subst}
use Rattle.plain_repository.specs.State.{State}
use Rattle.repo_answers.specs.Needs.{IsStop}
use Rattle.repo_state.specs.Working.{IsWorkingModel}
use Rattle.model_state.specs.State as models
use Rattle.repo_answers.proofs.deciding.applying.stop_of.Goals as goal

pub stop_on-requires-clause-model : goal.stop_on-requires-clause-model
stop_on-requires-clause-model c =
    subst (λ (s : State). IsWorkingModel s c.args.ws c.in_ok-model.model) (sym c.take_model.ensures.same) c.in_ok-model.ensures.model

pub keep_model-requires-clause-model : goal.keep_model-requires-clause-model
keep_model-requires-clause-model c =
    subst (λ (m : models.State). IsWorkingModel c.take_model.new.self c.args.ws m) (sym c.in_ok-stop.ensures.same)
    (subst (λ (s : State). IsWorkingModel s c.args.ws c.in_ok-model.model) (sym c.take_model.ensures.same) c.in_ok-model.ensures.model)

pub returns-clause-stop : goal.returns-clause-stop
returns-clause-stop c = subst (λ (s : State). IsStop s c.args.ws c.args.«package».now c.in_ok-stop.stop) c.take_model.ensures.same c.in_ok-stop.ensures.stop
