-- Edits of many-valued attributes: the model after each, defined without steps, and the steps.
use Rattle.std.specs.Prelude.{◌≡◌, ℕ, ◌+◌, true, false, cond, List, [], ◌∷◌, ◌++◌, length, nat_le, nat_lt, ◌&&◌, slice_get}
use Rattle.std.specs.List.{insert, remove, list_any}
use Rattle.std.specs.Option.{option_map_or}
use Rattle.std.specs.FinMap.{get}
use Rattle.finite_maps.specs.Equal.{list_eq}
use Rattle.finite_maps.specs.Maps.{set, is_below}
use Rattle.ecore_meta.specs.Meta.{Meta}
use Rattle.ecore_meta.specs.declared.meta.Value.{Value}
use Rattle.model_state.specs.declared.step.Step.{Step}
use Rattle.model_state.specs.declared.step.Step.TheVariants.{Ins, Del, Shift}
use Rattle.model_state.specs.Keys.{IdBytes}
use Rattle.model_state.specs.Typing.{value_eq, kind_of, upper_of, is_many, is_unique, many_fits}
use Rattle.model_state.specs.Lists.{entry_of, shifted}
use Rattle.model_state.specs.State.{State}
use Rattle.model_state.specs.Steps.{class_has}
use Rattle.model_state.specs.Ranks.{most_entries}
use Rattle.model_state.specs.Listing.{values_at}

-- the attribute has these values
abbrev pub with_values : State → IdBytes → ℕ → List Value → State
with_values m e f vs = record m { attr = set m.attr (e, f) (entry_of vs) }

-- ---- a value is inserted at an index
-- one value more
abbrev pub insert_after : State → IdBytes → ℕ → ℕ → Value → State
insert_after m e f k v = with_values m e f (insert (values_at m e f) k v)

-- one step
abbrev pub insert_made : IdBytes → ℕ → ℕ → Value → List Step
insert_made e f k v = Ins e f k v ∷ []

-- ---- the value at an index is removed
-- one value less
abbrev pub remove_after : State → IdBytes → ℕ → ℕ → State
remove_after m e f k = with_values m e f (remove (values_at m e f) k)

-- one step, which names the value
abbrev pub remove_made : State → IdBytes → ℕ → ℕ → List Step
remove_made m e f k = option_map_or (λ v. Del e f k v ∷ []) (slice_get (values_at m e f) k) []

-- ---- the value at an index is taken out and put at another
-- the same values in another order
abbrev pub shift_after : State → IdBytes → ℕ → ℕ → ℕ → State
shift_after m e f from to = with_values m e f (shifted (values_at m e f) from to)

-- one step, and none where the list stays the same
abbrev pub shift_made : State → IdBytes → ℕ → ℕ → ℕ → List Step
shift_made m e f from to = cond (list_eq value_eq (shifted (values_at m e f) from to) (values_at m e f)) [] (Shift e f from to ∷ [])

-- ---- all values are removed
-- the attribute is not set
abbrev pub clear_after : State → IdBytes → ℕ → State
clear_after m e f = with_values m e f []

-- a step for each of the values, of which the first stands at n, the last first
abbrev pub dels : IdBytes → ℕ → ℕ → List Value → List Step
dels e f n [] = []
dels e f n (v ∷ vs) = dels e f (n + 1) vs ++ Del e f n v ∷ []

-- a step for each value, the last first
abbrev pub clear_made : State → IdBytes → ℕ → List Step
clear_made m e f = dels e f 0 (values_at m e f)

-- ---- where an edit is not refused
-- a many-valued attribute of a live element
abbrev pub IsMany : Meta → State → IdBytes → ℕ → Type 0
IsMany meta m e f = (class_has meta (get m.kind e) f ≡ true) × (is_many (kind_of meta f) ≡ true)

-- a value may be inserted at the index k
pub record MayInsert (meta : Meta) (m : State) (e : IdBytes) (f : ℕ) (k : ℕ) (v : Value) : Type 0 where
  pub many : IsMany meta m e f
  pub typed : many_fits meta (kind_of meta f) v ≡ true
  pub within : nat_le k (length (values_at m e f)) ≡ true
  pub once : is_unique (kind_of meta f) && list_any (value_eq v) (values_at m e f) ≡ false
  pub room : is_below (length (values_at m e f)) (upper_of meta f) ≡ true
  pub few : nat_lt (length (values_at m e f)) most_entries ≡ true
