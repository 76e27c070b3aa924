-- What the making of an event tests.
use Rattle.std.specs.Prelude.{◌≡◌, ℕ, Bool, List, ◌∷◌, Option, Some, false}
use Rattle.ecore_meta.specs.Meta.{Meta}
use Rattle.model_state.specs.Good.{Good}
use Rattle.model_state.specs.Packages.{fold_package}
use Rattle.model_state.specs.declared.operation.Operation.{Operation}
use Rattle.plain_repository.specs.Edits.{takes}
use Rattle.plain_repository.specs.State.{State, Workspace, workspace_of, model_of}
use Rattle.model_state.specs.State as models

-- there are a metamodel, the workspace and operations, as many as the workspace takes
abbrev pub can_take : Option Meta → Option Workspace → List Operation → Bool
can_take (Some meta) (Some w) (o ∷ operations) = takes w.composite (o ∷ operations)
can_take meta w operations = false

-- the operations lead from the working model of the workspace of that number to a model, which is good
abbrev pub LeadTo : State → ℕ → List Operation → models.State → Type 0
LeadTo s ws operations m = (meta : Meta) (w : Workspace) → s.meta ≡ Some meta → workspace_of s ws ≡ Some w
    → (fold_package meta (model_of meta s.history w) operations ≡ Some m) × Good meta m
