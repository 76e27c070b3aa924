use Rattle.std.proofs.Common.{◌≡◌, true, is_some, sym, subst}
use Rattle.plain_repository.specs.State.{State, workspace_of}
use Rattle.repo_state.specs.Cached.{HasEncodings}
use Rattle.repo_state.specs.Working.{IsWorkingModel}
use Rattle.repo_state.proofs.repo.Repo.model_at.Goals as goal

pub model_found-requires-clause-there : goal.model_found-requires-clause-there
model_found-requires-clause-there c = subst (λ (s : State). is_some (workspace_of s c.args.ws) ≡ true) (sym c.touch.ensures.same) c.requires.there

pub model_found-requires-clause-forms : goal.model_found-requires-clause-forms
model_found-requires-clause-forms c = subst (λ (s : State). HasEncodings s c.args.pool.now c.args.cache.now) (sym c.touch.ensures.same) c.requires.forms

pub returns-in_err-model-clause-forms : goal.returns-in_err-model-clause-forms
returns-in_err-model-clause-forms c =
    subst (λ (s : State). HasEncodings s c.model_found.new.pool c.model_found.new.cache) c.touch.ensures.same c.model_found.ensures.forms

pub returns-in_err-weigh-clause-forms : goal.returns-in_err-weigh-clause-forms
returns-in_err-weigh-clause-forms c =
    subst (λ (s : State). HasEncodings s c.model_found.new.pool c.model_found.new.cache) c.touch.ensures.same c.model_found.ensures.forms

pub returns-clause-model : goal.returns-clause-model
returns-clause-model c = subst (λ (s : State). IsWorkingModel s c.args.ws c.in_ok-model.model) c.touch.ensures.same c.in_ok-model.ensures.model

pub returns-clause-forms : goal.returns-clause-forms
returns-clause-forms c =
    subst (λ (s : State). HasEncodings s c.model_found.new.pool c.model_found.new.cache) c.touch.ensures.same c.model_found.ensures.forms
