-- The steps that take a state apart, and the steps that build it from the empty one.
use Rattle.std.specs.Prelude.{◌≡◌, ℕ, ◌+◌, Bool, true, cond, map, unwrap_or, nat_lt, List, [], ◌∷◌, ◌++◌, Option, None, Some}
use Rattle.std.specs.List.{filter}
use Rattle.std.specs.FinMap.{get}
use Rattle.ecore_meta.specs.Meta.{Meta}
use Rattle.ecore_meta.specs.declared.meta.Value.{Value}
use Rattle.model_state.specs.declared.entry.Entry.{Entry}
use Rattle.model_state.specs.declared.step.Place.TheVariants.{Root}
use Rattle.model_state.specs.declared.step.Step.{Step}
use Rattle.model_state.specs.declared.step.Step.TheVariants.{Put, Ins, New}
use Rattle.model_state.specs.Keys.{IdBytes, AttrKey}
use Rattle.model_state.specs.Good.{Good, Sound}
use Rattle.model_state.specs.Listing.{targets, children, rank_at, values_at}
use Rattle.model_state.specs.State.{State, nothing}
use Rattle.model_state.specs.Steps.{fold}
use Rattle.model_state.specs.Typing.{opposite_of, is_plain, is_attr, kind_of}
use Rattle.edit_steps.specs.Attributes.{single_value}
use Rattle.edit_steps.specs.Rows.{Rows, unlinks, link_step, mirror_rank}
use Rattle.edit_steps.specs.Deletes.{slots_of, values_made, gone_made, holds_values}
use Rattle.edit_steps.specs.Subtree.{each, subtree_of}
use Rattle.edit_steps.specs.Standing.{ids_of}

-- the elements at the root, in order
abbrev pub roots_of : State → List IdBytes
roots_of m = ids_of (children m.place m.prank Root)

-- all elements, each before those inside it
abbrev pub elements_of : Meta → State → List IdBytes
elements_of meta m = each (subtree_of meta m) (roots_of m)

-- the number is less, where there is another
abbrev pub is_less : ℕ → Option ℕ → Bool
is_less f None = true
is_less f (Some g) = nat_lt f g

-- the feature has no opposite, or one of a greater number
abbrev pub leads : Meta → AttrKey → Bool
leads meta s = is_less s.1 (opposite_of meta s.1)

-- the references of elements that lead their pairs
abbrev pub links_of : Meta → State → List IdBytes → List AttrKey
links_of meta m xs = filter (leads meta) (slots_of meta m is_plain xs)

-- the targets of each of these are unlinked
abbrev pub unlinked : Meta → Rows → List AttrKey → List Step
unlinked meta row [] = []
unlinked meta row (s ∷ ss) = unlinks row (opposite_of meta s.1) s.0 s.1 (targets row s.0 s.1) ++ unlinked meta row ss

-- the steps that take a state apart: its references are removed, then its values, then its elements are deleted, the last first
abbrev pub unmade : Meta → State → List Step
unmade meta m =
    let xs = elements_of meta m in
    unlinked meta m.row (links_of meta m xs) ++ (values_made meta m (slots_of meta m holds_values xs) ++ gone_made m xs)

-- ---- the steps that build a state
-- an element is created where it stands
abbrev pub birth : State → IdBytes → Step
birth m x = New x (unwrap_or (get m.kind x) 0) (unwrap_or (get m.place x) Root) (rank_at m.prank x)

-- one step for each element
abbrev pub births : State → List IdBytes → List Step
births m xs = map (birth m) xs

-- a single attribute gets its value, where it has one
abbrev pub put_first : AttrKey → Option Value → List Step
put_first s None = []
put_first s (Some v) = Put s.0 s.1 None (Some v) ∷ []

-- a step for each value, of which the first is inserted at n
abbrev pub inserts : IdBytes → ℕ → ℕ → List Value → List Step
inserts e f n [] = []
inserts e f n (v ∷ vs) = Ins e f n v ∷ inserts e f (n + 1) vs

-- an attribute gets its values
abbrev pub filled : Meta → State → AttrKey → List Step
filled meta m s = cond (is_attr (kind_of meta s.1)) (put_first s (single_value (get m.attr s))) (inserts s.0 s.1 0 (values_at m s.0 s.1))

-- each of these attributes gets its values, the last first
abbrev pub all_filled : Meta → State → List AttrKey → List Step
all_filled meta m [] = []
all_filled meta m (s ∷ ss) = all_filled meta m ss ++ filled meta m s

-- entries of a feature of an element are linked, the last first
abbrev pub linked : Rows → Option ℕ → IdBytes → ℕ → List Entry → List Step
linked row o a f [] = []
linked row o a f (x ∷ xs) = linked row o a f xs ++ link_step o a f x.rank x.id (mirror_rank row o a x.id) ∷ []

-- the targets of each of these references that leads its pair are linked, the last first
abbrev pub all_linked : Meta → Rows → List AttrKey → List Step
all_linked meta row [] = []
all_linked meta row (s ∷ ss) = all_linked meta row ss ++ cond (leads meta s) (linked row (opposite_of meta s.1) s.0 s.1 (targets row s.0 s.1)) []

-- one step for each element, parents first, one for each value, and one for each reference with its mirror
abbrev pub as_steps : Meta → State → List Step
as_steps meta m =
    let xs = elements_of meta m in
    births m xs ++ (all_filled meta m (slots_of meta m holds_values xs) ++ all_linked meta m.row (slots_of meta m is_plain xs))

-- the steps of a state build it from the empty one
abbrev pub StepsBuild : Type 0
StepsBuild = (meta : Meta) → Sound meta → (m : State) → Good meta m → fold meta nothing (as_steps meta m) ≡ Some m
