-- The workspace of an event that could be made is there.
use Rattle.std.proofs.Common.{◌≡◌, refl, ℕ, true, List, Option, Some, None, is_some}
use Rattle.std.specs.Prelude.{◌&&◌}
use Rattle.ecore_meta.specs.Meta.{Meta}
use Rattle.model_state.specs.Names.{is_name}
use Rattle.op_form.specs.declared.event.Event.TheVariants.{Begin, Branch, Commit, Discard, Drop, End, Signed, Undo}
use Rattle.plain_repository.specs.State.{State, is_closed, is_open, workspace_of}
use Rattle.plain_repository.specs.Commits.{can_commit, is_new_branch}
use Rattle.plain_repository.specs.Events.{playable_with}
use Rattle.plain_repository.specs.Local.{can_discard, can_undo}
use Rattle.plain_repository.proofs.Encodings.{and_right}
use Rattle.repo_state.proofs.Could.{tested}

pub begin_there : (s : State) (m : Option Meta) (ws : ℕ) (name : List ℕ) → playable_with s m (Begin ws name) ≡ true → is_some (workspace_of s ws) ≡ true
begin_there s None ws name could = absurd cc
begin_there s (Some meta) ws name could = tested is_closed refl (workspace_of s ws) (and_right (is_name name) (is_closed (workspace_of s ws)) could)

pub end_there : (s : State) (m : Option Meta) (ws : ℕ) → playable_with s m (End ws) ≡ true → is_some (workspace_of s ws) ≡ true
end_there s None ws could = absurd cc
end_there s (Some meta) ws could = tested is_open refl (workspace_of s ws) could

pub undo_there : (s : State) (m : Option Meta) (ws : ℕ) → playable_with s m (Undo ws) ≡ true → is_some (workspace_of s ws) ≡ true
undo_there s None ws could = absurd cc
undo_there s (Some meta) ws could = tested can_undo refl (workspace_of s ws) could

pub discard_there : (s : State) (m : Option Meta) (ws : ℕ) → playable_with s m (Discard ws) ≡ true → is_some (workspace_of s ws) ≡ true
discard_there s None ws could = absurd cc
discard_there s (Some meta) ws could = tested can_discard refl (workspace_of s ws) could

pub commit_there : (s : State) (m : Option Meta) (ws : ℕ) (message : List ℕ) → playable_with s m (Commit ws message) ≡ true → is_some (workspace_of s ws) ≡ true
commit_there s None ws message could = absurd cc
commit_there s (Some meta) ws message could = tested (can_commit s.history) refl (workspace_of s ws) could

pub signed_there : (s : State) (m : Option Meta) (ws : ℕ) (author : List ℕ) (moment : ℕ) (message : List ℕ)
    → playable_with s m (Signed ws author moment message) ≡ true → is_some (workspace_of s ws) ≡ true
signed_there s None ws author moment message could = absurd cc
signed_there s (Some meta) ws author moment message could =
    tested (can_commit s.history) refl (workspace_of s ws) (and_right (is_name author) (can_commit s.history (workspace_of s ws)) could)

pub branch_there : (s : State) (m : Option Meta) (ws : ℕ) (name : List ℕ) → playable_with s m (Branch ws name) ≡ true → is_some (workspace_of s ws) ≡ true
branch_there s None ws name could = absurd cc
branch_there s (Some meta) ws name could =
    tested is_closed refl (workspace_of s ws) (and_right (is_name name && is_new_branch s.history name) (is_closed (workspace_of s ws)) could)

pub drop_there : (s : State) (m : Option Meta) (ws : ℕ) → playable_with s m (Drop ws) ≡ true → is_some (workspace_of s ws) ≡ true
drop_there s None ws could = absurd cc
drop_there s (Some meta) ws could = could
