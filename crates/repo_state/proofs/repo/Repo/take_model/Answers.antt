-- What a second try finds is what the first one found.
use Rattle.std.proofs.Common.{◌≡◌, ◌∙◌, true, is_some, sym, subst}
use Rattle.std.specs.Prelude.{IfOk}
use Rattle.plain_repository.specs.State.{State, workspace_of}
use Rattle.version_states.proofs.Caching.{uses_on}
use Rattle.repo_state.specs.Cached.{HasEncodings}
use Rattle.repo_state.specs.Working.{IsWorkingModel}
use Rattle.repo_state.proofs.Caching.{may_again}
use Rattle.repo_state.proofs.repo.Repo.take_model.Goals as goal

pub model_at-requires-2-clause-there : goal.model_at-requires-2-clause-there
model_at-requires-2-clause-there c =
    subst (λ (s : State). is_some (workspace_of s c.args.ws) ≡ true) (sym (c.let_others_go.ensures.same ∙ c.model_at.ensures.same)) c.requires.there

pub model_at-requires-2-clause-usable : goal.model_at-requires-2-clause-usable
model_at-requires-2-clause-usable c =
    may_again c.args.pool.now c.model_at.new.pool c.args.cache.now c.model_at.new.cache c.requires.usable c.model_at.ensures.uses

pub model_at-requires-2-clause-forms : goal.model_at-requires-2-clause-forms
model_at-requires-2-clause-forms c =
    subst (λ (s : State). HasEncodings s c.model_at.new.pool c.model_at.new.cache) (sym (c.let_others_go.ensures.same ∙ c.model_at.ensures.same))
    c.model_at.ensures.forms

pub returns-clause-model : goal.returns-clause-model
returns-clause-model c =
    subst (λ (s : State). IfOk c.model_at-2.result (λ m. IsWorkingModel s c.args.ws m)) (c.let_others_go.ensures.same ∙ c.model_at.ensures.same)
    c.model_at-2.ensures.model

pub returns-clause-uses : goal.returns-clause-uses
returns-clause-uses c =
    uses_on c.args.pool.now c.model_at.new.pool c.model_at-2.new.pool c.args.cache.now c.model_at.new.cache c.model_at-2.new.cache
    c.model_at.ensures.uses c.model_at-2.ensures.uses

pub returns-clause-forms : goal.returns-clause-forms
returns-clause-forms c =
    subst (λ (s : State). HasEncodings s c.model_at-2.new.pool c.model_at-2.new.cache) (c.let_others_go.ensures.same ∙ c.model_at.ensures.same)
    c.model_at-2.ensures.forms
