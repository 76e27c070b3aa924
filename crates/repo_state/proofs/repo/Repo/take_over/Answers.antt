use Rattle.std.proofs.Common.{sym, subst}
use Rattle.plain_repository.specs.State.{State}
use Rattle.repo_state.specs.Working.{IsWorkingModel}
use Rattle.repo_state.proofs.repo.Repo.take_over.Goals as goal

pub led_over-requires-clause-model : goal.led_over-requires-clause-model
led_over-requires-clause-model c =
    subst (λ (s : State). IsWorkingModel s c.in_ok-from.from c.in_ok-model.model) (sym c.take_kept.ensures.same) c.in_ok-model.ensures.model
