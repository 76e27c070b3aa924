-- The laws of the text of a model.
use Rattle.std.specs.Prelude.{◌≡◌, ℕ}
use Rattle.std.specs.FinMap.{get}
use Rattle.ecore_meta.specs.Meta.{Meta}
use Rattle.model_state.specs.declared.step.Place.{Place}
use Rattle.model_state.specs.Good.{Good}
use Rattle.model_state.specs.Keys.{IdBytes}
use Rattle.model_state.specs.State.{State}
use Rattle.model_state.specs.Listing.{values_at}
use Rattle.model_texts.specs.Tree.{child_ids, object_of, target_ids, text, whole}

-- two states have the same classes and values, and the same lists in the same order
pub record Alike (m n : State) : Type 0 where
  pub kinds : m.kind ≡ n.kind
  pub values : (e : IdBytes) (f : ℕ) → values_at m e f ≡ values_at n e f
  pub targets : (a : IdBytes) (f : ℕ) → target_ids m a f ≡ target_ids n a f
  pub children : (p : Place) → child_ids m p ≡ child_ids n p

-- they have one text, whatever their ranks
abbrev pub TextIsOfLists : Type 0
TextIsOfLists = (meta : Meta) (m n : State) → Alike m n → text meta m ≡ text meta n

-- each element's object holds the objects of those inside it, whole
abbrev pub IsNested : Meta → State → Type 0
IsNested meta m = (e : IdBytes) → whole meta m e ≡ object_of meta m (whole meta m) e (get m.kind e)

-- no element of a good state stands deeper than the text goes
abbrev pub TextIsWhole : Type 0
TextIsWhole = (meta : Meta) (m : State) → Good meta m → IsNested meta m
