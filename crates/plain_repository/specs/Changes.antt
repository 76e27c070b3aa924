-- What an event may change: nine shapes, of which each event has one.
use Rattle.std.specs.Prelude.{ℕ, not, List, Bool, true, false, Option, Some, None}
use Rattle.ecore_meta.specs.Meta.{Meta}
use Rattle.history_tree.specs.declared.version.Signature.{Signature}
use Rattle.plain_repository.specs.State.{State, Workspace, workspace_of, with_changed}
use Rattle.plain_repository.specs.Metamodels.{initialized, grown, with_grown}
use Rattle.plain_repository.specs.Checkouts.{with_checkout, with_drop}
use Rattle.plain_repository.specs.Commits.{with_commit, with_upgrade, with_new_branch, with_new_tag}

-- what changes beside the numbers that every event raises
pub data Change : Type 0 where
  -- there is the metamodel of the text, and version 0 on `trunk`
  Begins : List ℕ → Change
  -- the metamodel is extended to that of the text
  Extends : List ℕ → Change
  -- each later version is signed
  Upgrades : Change
  -- there is a workspace more, at a version, on a branch
  Opens : ℕ → ℕ → Change
  -- a workspace is there no more
  Drops : ℕ → Change
  -- a workspace is changed, by what stands in the state, and nothing beside it
  Within : ℕ → (State → Workspace → Workspace) → Change
  -- the history has the version more that a workspace makes, with its signature, if any, and its message
  Makes : ℕ → Option Signature → List ℕ → Change
  -- the history has the branch more that a workspace begins, with its name
  Branches : ℕ → List ℕ → Change
  -- the history has the tag more of a name and a version
  Tags : List ℕ → ℕ → Change

-- the state with the change
abbrev pub applied : Change → State → State
applied (Begins text) s = initialized text s
applied (Extends text) s = with_grown text s
applied Upgrades s = with_upgrade s
applied (Opens version branch) s = with_checkout version branch s
applied (Drops ws) s = with_drop ws s
applied (Within ws change) s = with_changed (change s) ws s
applied (Makes ws signature message) s = with_commit ws signature message (workspace_of s ws) s
applied (Branches ws name) s = with_new_branch ws name (workspace_of s ws) s
applied (Tags name version) s = with_new_tag name version s

-- the metamodel that is there with the change, where there is one before it
abbrev pub meta_with : Change → Meta → Meta
meta_with (Begins text) meta = meta
meta_with (Extends text) meta = grown text meta
meta_with Upgrades meta = meta
meta_with (Opens version branch) meta = meta
meta_with (Drops ws) meta = meta
meta_with (Within ws change) meta = meta
meta_with (Makes ws signature message) meta = meta
meta_with (Branches ws name) meta = meta
meta_with (Tags name version) meta = meta

-- the workspace that the change is of, if it is of one
abbrev pub workspace_with : Change → Option ℕ
workspace_with (Begins text) = None
workspace_with (Extends text) = None
workspace_with Upgrades = None
workspace_with (Opens version branch) = None
workspace_with (Drops ws) = Some ws
workspace_with (Within ws change) = Some ws
workspace_with (Makes ws signature message) = Some ws
workspace_with (Branches ws name) = Some ws
workspace_with (Tags name version) = None

-- what signatures have to do with a change
pub data Signing : Type 0 where
  -- nothing
  Apart : Signing
  -- each later version is signed
  Turns : Signing
  -- a version is made, signed or not
  Signs : Bool → Signing

-- a version is signed where it has a signature
abbrev pub signs : Option Signature → Signing
signs None = Signs false
signs (Some signature) = Signs true

-- what they have to do with each change
abbrev pub signing_of : Change → Signing
signing_of (Begins text) = Apart
signing_of (Extends text) = Apart
signing_of Upgrades = Turns
signing_of (Opens version branch) = Apart
signing_of (Drops ws) = Apart
signing_of (Within ws change) = Apart
signing_of (Makes ws signature message) = signs signature
signing_of (Branches ws name) = Apart
signing_of (Tags name version) = Apart

-- does it suit a store that is upgraded, or one that is not
abbrev pub suits_store : Bool → Signing → Bool
suits_store upgraded Apart = true
suits_store upgraded Turns = not upgraded
suits_store upgraded (Signs true) = upgraded
suits_store upgraded (Signs false) = not upgraded

-- does each later version have a signature from there on
abbrev pub turns : Signing → Bool
turns Apart = false
turns Turns = true
turns (Signs signed) = false

-- does it come with signatures
abbrev pub comes_with_signatures : Signing → Bool
comes_with_signatures Apart = false
comes_with_signatures Turns = true
comes_with_signatures (Signs signed) = signed

-- the text of the metamodel that the change begins with, if it is the first
abbrev pub first_text : Change → Option (List ℕ)
first_text (Begins text) = Some text
first_text (Extends text) = None
first_text Upgrades = None
first_text (Opens version branch) = None
first_text (Drops ws) = None
first_text (Within ws change) = None
first_text (Makes ws signature message) = None
first_text (Branches ws name) = None
first_text (Tags name version) = None
