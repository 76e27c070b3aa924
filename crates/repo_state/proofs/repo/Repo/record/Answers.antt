use Rattle.std.proofs.Common.{sym, subst}
use Rattle.model_state.specs.State as models
use Rattle.plain_repository.specs.State.{State}
use Rattle.repo_state.specs.Working.{IsWorkingModel}
use Rattle.repo_state.proofs.repo.Repo.record.Goals as goal

pub advance-requires-clause-model : goal.advance-requires-clause-model
advance-requires-clause-model c =
    subst (λ (t : State). IsWorkingModel t c.args.ws c.in_ok-model.model) (sym c.take_model.ensures.same) c.in_ok-model.ensures.model
