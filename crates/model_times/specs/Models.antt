-- Models side by side.
use Rattle.std.specs.Prelude.{List, All}
use Rattle.ecore_meta.specs.Meta.{Meta}
use Rattle.model_state.specs.State.{State}
use Rattle.model_state.specs.Good.{Good}

-- each of the models shows a good state
abbrev pub AreGood : {M : Type 0} → Meta → (M → State) → List M → Type 0
AreGood meta state models = All (λ m. Good meta (state m)) models
