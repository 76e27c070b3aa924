-- The containers of an element.
use Rattle.std.specs.Prelude.{◌≡◌, List, [], ◌∷◌, Option, None, Some}
use Rattle.std.specs.FinMap.{FinMap, get}
use Rattle.model_state.specs.declared.step.Place.{Place}
use Rattle.model_state.specs.declared.step.Place.TheVariants.{Root, Inside}
use Rattle.model_state.specs.Keys.{IdBytes, id_cmp}

-- the elements in xs are the containers of the place, the innermost first
abbrev pub IsChain : FinMap id_cmp Place → Option Place → List IdBytes → Type 0
IsChain place None xs = ⊥
IsChain place (Some Root) [] = Unit {0}
IsChain place (Some Root) (x ∷ xs) = ⊥
IsChain place (Some (Inside a f)) [] = ⊥
IsChain place (Some (Inside a f)) (x ∷ xs) = (x ≡ a) × IsChain place (get place x) xs

-- the element that a place is inside
abbrev pub parent_of : Place → Option IdBytes
parent_of Root = None
parent_of (Inside a f) = Some a
