-- What holds of a part of the state with each change, by what may become of that part; and which events are the first.
use Rattle.std.proofs.Common.{◌≡◌, ℕ, List, [], ◌∷◌, ◌++◌, length, false, Option, None, Some, refl}
use Rattle.std.specs.Prelude.{IsTrue, option_map}
use Rattle.std.specs.Option.{option_map_or}
use Rattle.ecore_meta.specs.Meta.{Meta}
use Rattle.op_form.specs.declared.event.Event.{Event}
use Rattle.op_form.specs.declared.event.Event.TheVariants.{Init, Checkout, Edit, Begin, End, Undo, Discard, Tidy, Commit, Branch, Tag, Update, Merge}
use Rattle.op_form.specs.declared.event.Event.TheVariants.{Drop, Evolve, Upgrade, Signed}
use Rattle.history_tree.specs.declared.version.Signature.{Signature}
use Rattle.history_tree.specs.History.{History, with_version, with_branch, with_tag}
use Rattle.plain_repository.specs.State.{State, Workspace, untouched, workspace_of, changed_by_number}
use Rattle.plain_repository.specs.Commits.{version_of, committed, with_commit, moved_onto, with_new_branch}
use Rattle.plain_repository.specs.Metamodels.{is_metamodel}
use Rattle.plain_repository.specs.Changes.{Change, Begins, Extends, Upgrades, Opens, Drops, Within, Makes, Branches, Tags, first_text, applied}
use Rattle.plain_repository.specs.Changes.{workspace_with}
use Rattle.plain_repository.specs.Events.{change_of, playable_with}

-- once there is a metamodel, none that could be made brings the first
pub is_later : (s : State) (meta : Meta) (e : Event) → IsTrue (playable_with s (Some meta) e) → first_text (change_of e) ≡ None
is_later s meta (Init text) could = absurd cc
is_later s meta (Checkout version branch) could = refl
is_later s meta (Edit ws operations) could = refl
is_later s meta (Begin ws name) could = refl
is_later s meta (End ws) could = refl
is_later s meta (Undo ws) could = refl
is_later s meta (Discard ws) could = refl
is_later s meta (Tidy ws) could = refl
is_later s meta (Commit ws message) could = refl
is_later s meta (Branch ws name) could = refl
is_later s meta (Tag name version) could = refl
is_later s meta (Update ws letters) could = refl
is_later s meta (Merge ws branch letters) could = refl
is_later s meta (Drop ws) could = refl
is_later s meta (Evolve text) could = refl
is_later s meta Upgrade could = refl
is_later s meta (Signed ws author moment message) could = refl

-- before there is one, what could be made brings it
pub record IsFirst (change : Change) : Type 0 where
  pub text : List ℕ
  pub is : change ≡ Begins text
  pub reads : IsTrue (is_metamodel text)

pub is_first : (change : Change) → IsTrue (option_map_or is_metamodel (first_text change) false) → IsFirst change
is_first (Begins text) could = record { text = text; is = refl; reads = could }
is_first (Extends text) could = absurd cc
is_first Upgrades could = absurd cc
is_first (Opens version branch) could = absurd cc
is_first (Drops ws) could = absurd cc
is_first (Within ws change) could = absurd cc
is_first (Makes ws signature message) could = absurd cc
is_first (Branches ws name) could = absurd cc
is_first (Tags name version) could = absurd cc

-- ---- by what may become of a part of the state
-- what holds of the history as it is, and with a version, a branch or a tag more, holds of it with each change but the first
module _ (s : State) (P : History → Type 0) (same : P s.history) (branches : (name : List ℕ) (start : ℕ) → P (with_branch s.history name start))
    (tags : (name : List ℕ) (version : ℕ) → P (with_tag s.history name version)) where
  pub by_history : (change : Change) → first_text change ≡ None
      → ((ws : ℕ) (signature : Option Signature) (message : List ℕ) → change ≡ Makes ws signature message → (w : Workspace)
      → P (with_version s.history (version_of w signature message)))
      → P (applied change s).history
  by_history (Begins text) later makes = absurd cc
  by_history (Extends text) later makes = same
  by_history Upgrades later makes = same
  by_history (Opens version branch) later makes = same
  by_history (Drops ws) later makes = same
  by_history (Within ws change) later makes = same
  by_history (Makes ws signature message) later makes = by (workspace_of s ws)
    where
      by : (o : Option Workspace) → P (with_commit ws signature message o s).history
      by None = same
      by (Some w) = makes ws signature message refl w
  by_history (Branches ws name) later makes = by (workspace_of s ws)
    where
      by : (o : Option Workspace) → P (with_new_branch ws name o s).history
      by None = same
      by (Some w) = branches name w.base
  by_history (Tags name version) later makes = tags name version

-- what holds of the workspaces as they are, with one more, and with one changed, holds of them with each change
module _ (s : State) (P : List (Option Workspace) → Type 0) (same : P s.workspaces) (more : (w : Workspace) → P (s.workspaces ++ Some w ∷ [])) where
  pub by_workspaces : (change : Change)
      → ((ws : ℕ) (of : Option Workspace → Option Workspace) → workspace_with change ≡ Some ws → of None ≡ None → P (changed_by_number of s.workspaces ws))
      → P (applied change s).workspaces
  by_workspaces (Begins text) changed = same
  by_workspaces (Extends text) changed = same
  by_workspaces Upgrades changed = same
  by_workspaces (Opens version branch) changed = more (untouched branch version)
  by_workspaces (Drops ws) changed = changed ws (λ o. None) refl refl
  by_workspaces (Within ws change) changed = changed ws (option_map (change s)) refl refl
  by_workspaces (Makes ws signature message) changed = by (workspace_of s ws)
    where
      by : (o : Option Workspace) → P (with_commit ws signature message o s).workspaces
      by None = same
      by (Some w) = changed ws (option_map (committed (length s.history.versions))) refl refl
  by_workspaces (Branches ws name) changed = by (workspace_of s ws)
    where
      by : (o : Option Workspace) → P (with_new_branch ws name o s).workspaces
      by None = same
      by (Some w) = changed ws (option_map (moved_onto (length s.history.branches))) refl refl
  by_workspaces (Tags name version) changed = same
