-- What all in order gives: where a workspace stands, and that what is recorded can be taken.
use Rattle.std.proofs.Common.{◌≡◌, ℕ, ◌<◌, true, length, Some, is_some, ap}
use Rattle.ecore_meta.specs.Meta.{Meta}
use Rattle.history_tree.specs.States.{state_folded, state_of}
use Rattle.state_form.specs.Spelled.{IsSpelled}
use Rattle.plain_repository.specs.State.{State, Workspace, workspace_of, folded}
use Rattle.plain_repository.specs.Orderly.{IsOrderly}
use Rattle.plain_repository.specs.Laws.{IsThere}
use Rattle.plain_repository.proofs.Reached.{models_are_defined, versions_are_defined, versions_are_spelled, workspaces_stand}

pub is_there : (s : State) (meta : Meta) (ws : ℕ) (w : Workspace) → IsOrderly s → s.meta ≡ Some meta → workspace_of s ws ≡ Some w → IsThere s meta w
is_there s meta ws w orderly begun there = record { in_state = record { orderly = orderly; begun = begun }; ws = ws; there = there }

-- the state of each version is defined
pub version_leads : (s : State) (meta : Meta) → IsOrderly s → s.meta ≡ Some meta → (v : ℕ) → v < length s.history.versions
    → is_some (state_folded meta s.history v) ≡ true
version_leads s meta orderly begun v below = ap is_some (versions_are_defined s meta (record { orderly = orderly; begun = begun }) v below)

-- and has an encoding
pub version_spelled : (s : State) (meta : Meta) → IsOrderly s → s.meta ≡ Some meta → (v : ℕ) → v < length s.history.versions
    → IsSpelled meta (state_of meta s.history v)
version_spelled s meta orderly begun v below = versions_are_spelled s meta (record { orderly = orderly; begun = begun }) v below

pub base_spelled : (s : State) (meta : Meta) (w : Workspace) → IsThere s meta w → IsSpelled meta (state_of meta s.history w.base)
base_spelled s meta w there = version_spelled s meta there.in_state.orderly there.in_state.begun w.base (workspaces_stand s meta w there).base

-- so is that of a base
pub base_leads : (s : State) (meta : Meta) (w : Workspace) → IsThere s meta w → is_some (state_folded meta s.history w.base) ≡ true
base_leads s meta w there = version_leads s meta there.in_state.orderly there.in_state.begun w.base (workspaces_stand s meta w there).base

-- and each working model
pub model_leads : (s : State) (meta : Meta) (w : Workspace) → IsThere s meta w → is_some (folded meta s.history w) ≡ true
model_leads s meta w there = ap is_some (models_are_defined s meta w there)
