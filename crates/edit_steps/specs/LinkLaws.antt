-- The steps of a call that is not refused can be taken one by one. They lead to the model that the edit is to leave.
use Rattle.std.specs.Prelude.{◌≡◌, ℕ, Option, None, Some, true, unwrap_or, length}
use Rattle.ecore_meta.specs.Meta.{Meta}
use Rattle.model_state.specs.Keys.{IdBytes}
use Rattle.model_state.specs.State.{State}
use Rattle.model_state.specs.Steps.{fold}
use Rattle.model_state.specs.Good.{Good, Sound}
use Rattle.model_state.specs.Listing.{targets}
use Rattle.edit_steps.specs.References.{holds_one, set_ref_after, set_ref_made, link_after, link_made, unlink_after, unlink_made, reorder_after, reorder_made}
use Rattle.edit_steps.specs.Refusals.{set_ref_refusal, link_refusal, unlink_refusal, reorder_refusal}

-- a reference is set, with its mirror, and what they displace is removed
abbrev pub SetRefLeads : Type 0
SetRefLeads = (meta : Meta) → Sound meta → (m : State) → Good meta m → (a : IdBytes) (f : ℕ) (b : IdBytes) → holds_one meta f ≡ true
    → set_ref_refusal meta m a f b ≡ None
    → fold meta m (set_ref_made meta m.row a f b) ≡ Some (record m { row = set_ref_after meta a f b m.row })

-- two elements are linked, with the mirror, and what it displaces is removed
abbrev pub LinkLeads : Type 0
LinkLeads = (meta : Meta) → Sound meta → (m : State) → Good meta m → (a : IdBytes) (f : ℕ) (b : IdBytes) (at : Option ℕ) → link_refusal meta m a f b at ≡ None
    → let k = unwrap_or at (length (targets m.row a f)) in fold meta m (link_made meta m.row a f b k) ≡ Some (record m { row = link_after meta a f b k m.row })

-- a reference is removed, with its mirror
abbrev pub UnlinkLeads : Type 0
UnlinkLeads = (meta : Meta) → Sound meta → (m : State) → Good meta m → (a : IdBytes) (f : ℕ) (b : IdBytes) → unlink_refusal m a f b ≡ None
    → fold meta m (unlink_made meta m.row a f b) ≡ Some (record m { row = unlink_after meta a f b m.row })

-- a reference stands at another index
abbrev pub ReorderLeads : Type 0
ReorderLeads = (meta : Meta) → Sound meta → (m : State) → Good meta m → (a : IdBytes) (f : ℕ) (b : IdBytes) (k : ℕ) → reorder_refusal m a f b k ≡ None
    → fold meta m (reorder_made m.row a f b k) ≡ Some (record m { row = reorder_after a f b k m.row })
