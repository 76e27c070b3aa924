-- The working model that a command needs is that of the workspace that it names.
use Rattle.std.proofs.Common.{◌≡◌, ℕ, Option, None, Some, Bor, sym, ◌∙◌, subst}
use Rattle.std.specs.Prelude.{IfSome}
use Rattle.std.proofs.lemmas.Option.{same_Some}
use Rattle.script_lang.specs.declared.command.Command.{Command}
use Rattle.plain_repository.specs.State.{State}
use Rattle.repo_answers.specs.Needs.{IsModelFor, model_for}
use Rattle.repo_state.specs.Working.{IsWorkingModel}
use Rattle.model_state.specs.State as models

-- the model at hand, where there is one, is that of the workspace that the command names
pub of_workspace : (s : State) (command : Command) (ws : ℕ) (m : Option (Bor models.State)) → model_for command ≡ Some ws
    → IfSome m (λ m. IsModelFor s command m.now) → IfSome m (λ m. IsWorkingModel s ws m.now)
of_workspace s command ws None is model = tt
of_workspace s command ws (Some m) is model = model ws is

-- the working model of the workspace that the command names is the one that it needs
pub for_command : (s t : State) (command : Command) (ws : ℕ) (m : models.State) → t ≡ s → model_for command ≡ Some ws → IsWorkingModel s ws m
    → IsModelFor t command m
for_command s t command ws m same is model = λ n named.
    subst (λ (s : State). IsWorkingModel s n m) (sym same) (subst (λ (k : ℕ). IsWorkingModel s k m) (same_Some ws n (sym is ∙ named)) model)
