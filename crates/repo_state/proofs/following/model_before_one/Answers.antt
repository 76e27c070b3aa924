use Rattle.std.proofs.Common.{List, [], ◌∷◌, ◌++◌, ◌∙◌, ap, subst, sym}
use Rattle.model_state.specs.declared.operation.Operation.{Operation}
use Rattle.version_states.specs.Taking.{LedTo}
use Rattle.repo_state.proofs.following.model_before_one.Goals as goal

pub model_before-requires-clause-led : goal.model_before-requires-clause-led
model_before-requires-clause-led c =
    subst (λ (os : List Operation). LedTo c.args.meta.now os c.args.model)
    (sym (c.in-Ok.ensures.ok ∙ ap (λ (l : List Operation). l ++ c.args.operation ∷ []) c.new-package.ensures)) c.requires.led
