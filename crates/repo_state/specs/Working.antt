-- A model that is the working model of a workspace.
use Rattle.std.specs.Prelude.{◌≡◌, ℕ, Some}
use Rattle.ecore_meta.specs.Meta.{Meta}
use Rattle.model_state.specs.Good.{Good}
use Rattle.plain_repository.specs.State.{State, Workspace, workspace_of, model_of}
use Rattle.model_state.specs.State as models

-- the model is the working model of the workspace of that number, and good
abbrev pub IsWorkingModel : State → ℕ → models.State → Type 0
IsWorkingModel s ws m = (meta : Meta) (w : Workspace) → s.meta ≡ Some meta → workspace_of s ws ≡ Some w → (m ≡ model_of meta s.history w) × Good meta m
