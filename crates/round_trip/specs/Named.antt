-- What holds of the names of a model.
use Rattle.std.specs.Prelude.{◌≡◌, true}
use Rattle.model_state.specs.Ident.{is_id}
use Rattle.model_state.specs.Keys.{IdBytes}
use Rattle.model_state.specs.State.{State, is_live}

-- each element's name has the form of an id; so it is in each working model of the repository, by the law of working models
abbrev pub HasIds : State → Type 0
HasIds m = (e : IdBytes) → is_live m e ≡ true → is_id e ≡ true
