-- What stays where an element is deleted, by the containers of each element.
use Rattle.std.specs.Prelude.{◌≡◌, ℕ, Bool, not, cond, ◌&&◌, ◌∷◌, None}
use Rattle.std.specs.FinMap.{get}
use Rattle.model_state.specs.Keys.{IdBytes}
use Rattle.model_state.specs.State.{State, is_live}
use Rattle.edit_steps.specs.Containers.{containers_of}
use Rattle.edit_steps.specs.MoveRefusals.{place_of}
use Rattle.edit_steps.specs.Subtree.{is_among}

-- the element is there, is not e, and doesn't have e among its containers
abbrev pub stays : State → IdBytes → IdBytes → Bool
stays m e y = is_live m y && not (is_among (y ∷ containers_of m (place_of m y)) e)

-- What stays is there as it was, and nothing else. That is the class, place and rank of an element and its values, and a
-- reference where both its ends stay.
pub record Keeps (before after : State) (e : IdBytes) : Type 0 where
  pub live : (y : IdBytes) → is_live after y ≡ stays before e y
  pub class : (y : IdBytes) → get after.kind y ≡ cond (stays before e y) (get before.kind y) None
  pub place : (y : IdBytes) → get after.place y ≡ cond (stays before e y) (get before.place y) None
  pub rank : (y : IdBytes) → get after.prank y ≡ cond (stays before e y) (get before.prank y) None
  pub values : (y : IdBytes) (f : ℕ) → get after.attr (y, f) ≡ cond (stays before e y) (get before.attr (y, f)) None
  pub reference : (y : IdBytes) (f : ℕ) (z : IdBytes) → get after.row (y, f, z) ≡ cond (stays before e y && stays before e z) (get before.row (y, f, z)) None
