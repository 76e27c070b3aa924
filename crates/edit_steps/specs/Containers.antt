-- The containers of a place, as a function of the model.
use Rattle.std.specs.Prelude.{ℕ, zero, suc, List, [], ◌∷◌, length, Option, None, Some}
use Rattle.std.specs.FinMap.{get}
use Rattle.model_state.specs.declared.step.Place.{Place}
use Rattle.model_state.specs.declared.step.Place.TheVariants.{Root, Inside}
use Rattle.model_state.specs.Keys.{IdBytes}
use Rattle.model_state.specs.Listing.{ids}
use Rattle.model_state.specs.State.{State}

-- the innermost n of the containers of a place, the innermost first
abbrev pub containers_within : State → ℕ → Option Place → List IdBytes
containers_within m zero p = []
containers_within m (suc n) None = []
containers_within m (suc n) (Some Root) = []
containers_within m (suc n) (Some (Inside a f)) = a ∷ containers_within m n (get m.place a)

-- all of them: there are no more than live elements, and the parent itself
abbrev pub containers_of : State → Place → List IdBytes
containers_of m p = containers_within m (suc (length (ids m))) (Some p)
