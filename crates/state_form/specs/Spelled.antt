-- States of which each id, number and value that steps name has an encoding.
use Rattle.std.specs.Prelude.{◌≡◌, ℕ, true, List}
use Rattle.std.specs.FinMap.{FinMap, get}
use Rattle.std.specs.List.{AllByRecursion}
use Rattle.std.specs.declared.cmp.Ordering.{Ordering}
use Rattle.ecore_meta.specs.Meta.{Meta}
use Rattle.ecore_meta.specs.declared.meta.Value.{Value}
use Rattle.model_state.specs.Keys.{IdBytes, AttrKey, RowKey}
use Rattle.model_state.specs.State.{State}
use Rattle.model_state.specs.Typing.{opposite_of}
use Rattle.op_form.specs.Formed.{IsU32, IsU64, IsIdText, IsGiven, IsValue, IsPlace}
use Rattle.state_steps.specs.Whole.{is_less}

-- what holds of each entry of a map
abbrev pub Each : {K X : Type 0} {R : K → K → Ordering} → (K → X → Type 0) → FinMap R X → Type 0
Each Holds map = (k : _) → IsGiven (Holds k) (get map k)

-- an element of a class
abbrev pub IsClassed : IdBytes → ℕ → Type 0
IsClassed e class = IsIdText e × IsU32 class

-- an attribute of an element, with its values
abbrev pub AreValues : AttrKey → List Value → Type 0
AreValues k values = IsIdText k.0 × (IsU32 k.1 × AllByRecursion IsValue values)

-- a reference that has no opposite, or one of a greater number, has an encoding; a pair's steps name that one alone
abbrev pub LeadsSpelled : Meta → ℕ → Type 0
LeadsSpelled meta f = is_less f (opposite_of meta f) ≡ true → IsU32 f

-- a reference from an element to an element, with its rank
abbrev pub IsRow : Meta → RowKey → ℕ → Type 0
IsRow meta k rank = IsIdText k.0 × (LeadsSpelled meta k.1 × (IsIdText k.2 × IsU64 rank))

-- each map has such entries alone
pub record IsSpelled (meta : Meta) (m : State) : Type 0 where
  pub kinds : Each IsClassed m.kind
  pub places : Each (λ e. IsPlace) m.place
  pub ranks : Each (λ e. IsU64) m.prank
  pub values : Each AreValues m.attr
  pub rows : Each (IsRow meta) m.row
