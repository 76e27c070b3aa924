-- The laws of steps and of lists of steps.
use Rattle.std.specs.Prelude.{◌≡◌, List, None, Some, slice_get, take}
use Rattle.std.specs.Option.{option_map}
use Rattle.ecore_meta.specs.Meta.{Meta}
use Rattle.model_state.specs.declared.step.Step.{Step}
use Rattle.model_state.specs.State.{State, nothing}
use Rattle.model_state.specs.declared.step.ApplyFault.{ApplyFault}
use Rattle.model_state.specs.Steps.{fault, fault_along, first_stop, fold, rev_all}
use Rattle.model_state.specs.Good.{Good, Sound}
use Rattle.model_laws.specs.Cells.{AreDisjoint}

-- what steps did, their reversals in reversed order undo
abbrev pub ReversalUndoes : Type 0
ReversalUndoes = (meta : Meta) → Sound meta → (m n : State) → Good meta m → (steps : List Step) → fold meta m steps ≡ Some n
    → fold meta n (rev_all steps) ≡ Some m

-- steps keep the invariant
abbrev pub StepsKeepGood : Type 0
StepsKeepGood = (meta : Meta) → Sound meta → (m n : State) → Good meta m → (steps : List Step) → fold meta m steps ≡ Some n → Good meta n

-- two runs whose cells are disjoint commute
abbrev pub ExchangeHolds : Type 0
ExchangeHolds = (meta : Meta) → Sound meta → (ps qs : List Step) (m n k : State) → Good meta m → AreDisjoint meta ps qs → fold meta m ps ≡ Some n
    → fold meta n qs ≡ Some k
    → (l : State) × (fold meta m qs ≡ Some l) × (fold meta l ps ≡ Some k)

-- two runs whose cells are disjoint and that can both be made can be made one after the other
abbrev pub SideBySide : Type 0
SideBySide = (meta : Meta) → Sound meta → (ps qs : List Step) (m n k : State) → Good meta m → AreDisjoint meta ps qs → fold meta m ps ≡ Some n
    → fold meta m qs ≡ Some k
    → (l : State) × (fold meta n qs ≡ Some l) × (fold meta k ps ≡ Some l)

-- the empty state meets the invariant
abbrev pub StartsGood : Type 0
StartsGood = (meta : Meta) → Good meta nothing

-- the steps before that place can be taken one by one, and the one there can't be taken then, for that fault
pub record Stops (meta : Meta) (m : State) (steps : List Step) (x : ApplyFault) : Type 0 where
  pub before : State
  pub step : Step
  pub taken : fold meta m (take x.at steps) ≡ Some before
  pub here : slice_get steps x.at ≡ Some step
  pub cannot : fault meta before step ≡ Some x.fault

-- the first stop is such a place
abbrev pub StopIsFirst : Type 0
StopIsFirst = (meta : Meta) (m : State) (steps : List Step) (x : ApplyFault) → first_stop meta m steps ≡ Some x → Stops meta m steps x

-- and such a place is the first stop
abbrev pub FirstIsStop : Type 0
FirstIsStop = (meta : Meta) (m : State) (steps : List Step) (x : ApplyFault) → Stops meta m steps x → first_stop meta m steps ≡ Some x

-- where there is none, all steps can be taken
abbrev pub NoStopLeads : Type 0
NoStopLeads = (meta : Meta) (m : State) (steps : List Step) → first_stop meta m steps ≡ None → (n : State) × (fold meta m steps ≡ Some n)

-- where all can be taken, there is none
abbrev pub LeadsNoStop : Type 0
LeadsNoStop = (meta : Meta) (m n : State) (steps : List Step) → fold meta m steps ≡ Some n → first_stop meta m steps ≡ None

-- its fault is that of the first step that can't be taken
abbrev pub StopIsFault : Type 0
StopIsFault = (meta : Meta) (m : State) (steps : List Step) → option_map (λ x. x.fault) (first_stop meta m steps) ≡ fault_along meta m steps
