-- An element with all that it contains, in order.
use Rattle.std.specs.Prelude.{ℕ, zero, suc, Bool, ◌&&◌, List, [], ◌∷◌, ◌++◌, length, Option}
use Rattle.std.specs.List.{filter, list_any}
use Rattle.std.specs.FinMap.{get}
use Rattle.finite_maps.specs.Equal.{text_eq}
use Rattle.ecore_meta.specs.Meta.{Meta}
use Rattle.ecore_meta.specs.declared.meta.Kind.{Kind}
use Rattle.model_state.specs.declared.step.Place.TheVariants.{Inside}
use Rattle.model_state.specs.Keys.{IdBytes}
use Rattle.model_state.specs.Listing.{children, ids}
use Rattle.model_state.specs.State.{State}
use Rattle.model_state.specs.Steps.{class_has}
use Rattle.model_state.specs.Typing.{kind_of, is_containment}
use Rattle.edit_steps.specs.Standing.{ids_of}

-- the numbers below n
abbrev pub numbers : ℕ → List ℕ
numbers zero = []
numbers (suc n) = numbers n ++ n ∷ []

-- the features of a class whose kind passes a test, by number
abbrev pub features_of : Meta → (Kind → Bool) → Option ℕ → List ℕ
features_of meta p c = filter (λ f. class_has meta c f && p (kind_of meta f)) (numbers (length meta.features))

-- the children of some features of an element, feature by feature
abbrev pub children_by : State → IdBytes → List ℕ → List IdBytes
children_by m e [] = []
children_by m e (f ∷ fs) = ids_of (children m.place m.prank (Inside e f)) ++ children_by m e fs

-- the children of an element: those of its containments, by number
abbrev pub children_of : Meta → State → IdBytes → List IdBytes
children_of meta m e = children_by m e (features_of meta is_containment (get m.kind e))

-- what a function gives of each item, one after another
abbrev pub each : (IdBytes → List IdBytes) → List IdBytes → List IdBytes
each h [] = []
each h (x ∷ xs) = h x ++ each h xs

-- an element with what it contains down to n levels: the element, and then the same of its children in order, a level less
abbrev pub levels : Meta → State → ℕ → IdBytes → List IdBytes
levels meta m zero e = []
levels meta m (suc n) e = e ∷ each (levels meta m n) (children_of meta m e)

-- The subtree of an element: the element, and then the subtrees of its children in order. It has one level more at most than
-- there are live elements.
abbrev pub subtree_of : Meta → State → IdBytes → List IdBytes
subtree_of meta m e = levels meta m (suc (length (ids m))) e

-- the element is in the list
abbrev pub is_among : List IdBytes → IdBytes → Bool
is_among xs e = list_any (text_eq e) xs
