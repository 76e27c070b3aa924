-- The steps: when each may be taken, what it does, and its reversal.
use Rattle.std.specs.Prelude.{◌≡◌, ℕ, ◌+◌, Bool, true, false, List, [], ◌∷◌, ◌++◌, Option, None, Some, is_some, nat_eq, nat_lt, nat_le, not, ◌&&◌}
use Rattle.std.specs.Prelude.{cond, length, slice_get}
use Rattle.std.specs.List.{list_any, insert, remove}
use Rattle.model_state.specs.Lists.{entry_of, values_of, shifted}
use Rattle.std.specs.FinMap.{FinMap, get}
use Rattle.finite_maps.specs.Maps.{is_below}
use Rattle.finite_maps.specs.Equal.{option_eq, list_eq, text_eq}
use Rattle.ecore_meta.specs.Meta.{Meta}
use Rattle.ecore_meta.specs.declared.meta.Value.{Value}
use Rattle.model_state.specs.declared.step.Place.{Place}
use Rattle.model_state.specs.declared.step.Place.TheVariants.{Root, Inside}
use Rattle.model_state.specs.declared.step.Step.{Step}
use Rattle.model_state.specs.declared.step.Step.TheVariants.{Put, Ins, Del, Shift, Link, Unlink, RerankRow, New, Gone, Move, RerankPlace}
use Rattle.model_state.specs.declared.step.StepFault.{StepFault}
use Rattle.model_state.specs.declared.step.ApplyFault.{ApplyFault}
use Rattle.model_state.specs.declared.step.StepFault.TheVariants.{NotThere, There, OldDiffers, Bound, WrongType, Chain, NotEmpty, BadStep}
use Rattle.model_state.specs.Keys.{IdBytes, id_cmp}
use Rattle.model_state.specs.Typing.{is_plain, is_many, is_unique, many_fits, upper_of, has_feature, kind_of, row_upper, child_upper, opposite_of}
use Rattle.model_state.specs.Typing.{links, contains_to, is_concrete, is_default, attr_fits, is_attr, value_eq}
use Rattle.model_state.specs.State.{State, place_eq, is_live, child_count, row_count, value_count, link_count, inner_count, Writes, no_writes, written}
use Rattle.model_state.specs.Ranks.{most_entries}

-- a test, and the fault where it fails
abbrev pub Test : Type 0
Test = Bool × StepFault

-- the fault of the first test that fails
abbrev pub first_fault : List Test → Option StepFault
first_fault [] = None
first_fault (t ∷ ts) = cond t.0 (first_fault ts) (Some t.1)

-- a feature of the class of a live element
abbrev pub class_has : Meta → Option ℕ → ℕ → Bool
class_has meta None f = false
class_has meta (Some c) f = has_feature meta c f

-- f is a plain feature of the one class, to elements of the other
abbrev pub may_link : Meta → Option ℕ → ℕ → Option ℕ → Bool
may_link meta (Some c) f (Some d) = links meta c f d
may_link meta c f d = false

-- the place is the root or an element that is live
abbrev pub place_live : State → Place → Bool
place_live m Root = true
place_live m (Inside a f) = is_live m a

-- an element of the class may stand in the place
abbrev pub may_stand : Meta → State → ℕ → Place → Bool
may_stand meta m c Root = true
may_stand meta m c (Inside a f) = class_has meta (get m.kind a) f && contains_to meta (kind_of meta f) c

-- the place has room for one more
abbrev pub has_room : Meta → State → Place → Bool
has_room meta m Root = true
has_room meta m (Inside a f) = is_below (child_count m (Inside a f)) (child_upper meta f)

-- a value that is not set, or one of the attribute
abbrev pub value_fits : Meta → ℕ → Option Value → Bool
value_fits meta f None = true
value_fits meta f (Some v) = attr_fits meta (kind_of meta f) v

-- a value that is not set, or one that is not the default of the attribute
abbrev pub not_default : Meta → ℕ → Option Value → Bool
not_default meta f None = true
not_default meta f (Some v) = not (is_default (kind_of meta f) v)

-- a single value as the entry of its attribute
abbrev pub single : Option Value → Option (List Value)
single None = None
single (Some v) = Some (v ∷ [])

-- the mirror's rank is given exactly where there is an opposite, of no lesser number
abbrev pub mirror_given : Option ℕ → ℕ → Option ℕ → Bool
mirror_given None f None = true
mirror_given None f (Some r) = false
mirror_given (Some g) f None = false
mirror_given (Some g) f (Some r) = not (nat_lt g f)

-- the opposite's list has room for one more
abbrev pub mirror_room : Meta → State → Option ℕ → IdBytes → Bool
mirror_room meta m None b = true
mirror_room meta m (Some g) b = is_below (row_count m b g) (row_upper meta g)

-- the mirror has the rank
abbrev pub mirror_at : State → Option ℕ → IdBytes → IdBytes → Option ℕ → Bool
mirror_at m None a b r = true
mirror_at m (Some g) a b r = option_eq nat_eq (get m.row (b, g, a)) r

-- an element of the class, if it is one, may stand in the place
abbrev pub may_move : Meta → State → Option ℕ → Place → Bool
may_move meta m None p = false
may_move meta m (Some c) p = may_stand meta m c p

-- the elements are the containers of the place, the innermost first
abbrev pub chain_is : FinMap id_cmp Place → Option Place → List IdBytes → Bool
chain_is place None xs = false
chain_is place (Some Root) [] = true
chain_is place (Some Root) (x ∷ xs) = false
chain_is place (Some (Inside a f)) [] = false
chain_is place (Some (Inside a f)) (x ∷ xs) = text_eq x a && chain_is place (get place x) xs

-- the tests of a step in order
abbrev pub tests : Meta → State → Step → List Test
tests meta m (Put e f old new) =
    (is_live m e, NotThere)
    ∷ (class_has meta (get m.kind e) f, WrongType)
    ∷ (is_attr (kind_of meta f), WrongType)
    ∷ (value_fits meta f old, WrongType)
    ∷ (value_fits meta f new, WrongType)
    ∷ (not (option_eq value_eq old new), BadStep)
    ∷ (not_default meta f old, BadStep)
    ∷ (not_default meta f new, BadStep)
    ∷ (option_eq (list_eq value_eq) (get m.attr (e, f)) (single old), OldDiffers)
    ∷ []
tests meta m (New e class place rank) =
    (not (is_live m e), There)
    ∷ (place_live m place, NotThere)
    ∷ (is_concrete meta class, WrongType)
    ∷ (may_stand meta m class place, WrongType)
    ∷ (has_room meta m place, Bound)
    ∷ []
tests meta m (Gone e class place rank) =
    (is_live m e, NotThere)
    ∷ (option_eq nat_eq (get m.kind e) (Some class), OldDiffers)
    ∷ (option_eq place_eq (get m.place e) (Some place), OldDiffers)
    ∷ (option_eq nat_eq (get m.prank e) (Some rank), OldDiffers)
    ∷ (nat_eq (value_count m e) 0, NotEmpty)
    ∷ (nat_eq (link_count m e) 0, NotEmpty)
    ∷ (nat_eq (inner_count m e) 0, NotEmpty)
    ∷ []
tests meta m (Link a f ra b rb) =
    (is_live m a, NotThere)
    ∷ (is_live m b, NotThere)
    ∷ (may_link meta (get m.kind a) f (get m.kind b), WrongType)
    ∷ (mirror_given (opposite_of meta f) f rb, BadStep)
    ∷ (not (is_some (get m.row (a, f, b))), There)
    ∷ (is_below (row_count m a f) (row_upper meta f), Bound)
    ∷ (mirror_room meta m (opposite_of meta f) b, Bound)
    ∷ []
tests meta m (Unlink a f ra b rb) =
    (is_live m a, NotThere)
    ∷ (is_live m b, NotThere)
    ∷ (may_link meta (get m.kind a) f (get m.kind b), WrongType)
    ∷ (mirror_given (opposite_of meta f) f rb, BadStep)
    ∷ (is_some (get m.row (a, f, b)), NotThere)
    ∷ (option_eq nat_eq (get m.row (a, f, b)) (Some ra), OldDiffers)
    ∷ (mirror_at m (opposite_of meta f) a b rb, OldDiffers)
    ∷ []
tests meta m (RerankPlace e old new) =
    (is_live m e, NotThere)
    ∷ (not (nat_eq old new), BadStep)
    ∷ (option_eq nat_eq (get m.prank e) (Some old), OldDiffers)
    ∷ []
tests meta m (Move e from from_rank to to_rank above_from above_to) =
    (is_live m e, NotThere)
    ∷ (option_eq place_eq (get m.place e) (Some from), OldDiffers)
    ∷ (option_eq nat_eq (get m.prank e) (Some from_rank), OldDiffers)
    ∷ (not (place_eq from to), BadStep)
    ∷ (place_live m to, NotThere)
    ∷ (may_move meta m (get m.kind e) to, WrongType)
    ∷ (chain_is m.place (Some from) above_from, Chain)
    ∷ (chain_is m.place (Some to) above_to, Chain)
    ∷ (not (list_any (text_eq e) above_to), Chain)
    ∷ (has_room meta m to, Bound)
    ∷ []
tests meta m (Ins e f at v) =
    (is_live m e, NotThere)
    ∷ (class_has meta (get m.kind e) f, WrongType)
    ∷ (is_many (kind_of meta f), WrongType)
    ∷ (many_fits meta (kind_of meta f) v, WrongType)
    ∷ (nat_le at (length (values_of (get m.attr (e, f)))), BadStep)
    ∷ (not (is_unique (kind_of meta f) && list_any (value_eq v) (values_of (get m.attr (e, f)))), There)
    ∷ (is_below (length (values_of (get m.attr (e, f)))) (upper_of meta f), Bound)
    ∷ (nat_lt (length (values_of (get m.attr (e, f)))) most_entries, Bound)
    ∷ []
tests meta m (Del e f at v) =
    (is_live m e, NotThere)
    ∷ (class_has meta (get m.kind e) f, WrongType)
    ∷ (is_many (kind_of meta f), WrongType)
    ∷ (many_fits meta (kind_of meta f) v, WrongType)
    ∷ (nat_lt at (length (values_of (get m.attr (e, f)))), BadStep)
    ∷ (option_eq value_eq (slice_get (values_of (get m.attr (e, f))) at) (Some v), OldDiffers)
    ∷ []
tests meta m (RerankRow a f b old new) =
    (is_live m a, NotThere)
    ∷ (class_has meta (get m.kind a) f, WrongType)
    ∷ (is_plain (kind_of meta f), WrongType)
    ∷ (is_some (get m.row (a, f, b)), NotThere)
    ∷ (not (nat_eq old new), BadStep)
    ∷ (option_eq nat_eq (get m.row (a, f, b)) (Some old), OldDiffers)
    ∷ []
tests meta m (Shift e f from to) =
    (is_live m e, NotThere)
    ∷ (class_has meta (get m.kind e) f, WrongType)
    ∷ (is_many (kind_of meta f), WrongType)
    ∷ (not (nat_eq from to), BadStep)
    ∷ (nat_lt from (length (values_of (get m.attr (e, f)))), BadStep)
    ∷ (nat_lt to (length (values_of (get m.attr (e, f)))), BadStep)
    ∷ []

-- the fault of the first test of a step that fails
abbrev pub fault : Meta → State → Step → Option StepFault
fault meta m s = first_fault (tests meta m s)

-- the step can be taken
abbrev pub Can : Meta → State → Step → Type 0
Can meta m s = fault meta m s ≡ None

-- the mirror of a row
abbrev pub mirror_write : Option ℕ → IdBytes → IdBytes → Option ℕ → List ((IdBytes × ℕ × IdBytes) × Option ℕ)
mirror_write None a b r = []
mirror_write (Some g) a b r = ((b, g, a), r) ∷ []

-- what a step writes
abbrev pub writes : Meta → State → Step → Writes
writes meta m (Put e f old new) = record no_writes { attr = ((e, f), single new) ∷ [] }
writes meta m (New e class place rank) = record no_writes { kind = (e, Some class) ∷ []; place = (e, Some place) ∷ []; prank = (e, Some rank) ∷ [] }
writes meta m (Gone e class place rank) = record no_writes { kind = (e, None) ∷ []; place = (e, None) ∷ []; prank = (e, None) ∷ [] }
writes meta m (Link a f ra b rb) = record no_writes { row = ((a, f, b), Some ra) ∷ mirror_write (opposite_of meta f) a b rb }
writes meta m (Unlink a f ra b rb) = record no_writes { row = ((a, f, b), None) ∷ mirror_write (opposite_of meta f) a b None }
writes meta m (RerankPlace e old new) = record no_writes { prank = (e, Some new) ∷ [] }
writes meta m (Move e from from_rank to to_rank above_from above_to) = record no_writes { place = (e, Some to) ∷ []; prank = (e, Some to_rank) ∷ [] }
writes meta m (Ins e f at v) = record no_writes { attr = ((e, f), entry_of (insert (values_of (get m.attr (e, f))) at v)) ∷ [] }
writes meta m (Del e f at v) = record no_writes { attr = ((e, f), entry_of (remove (values_of (get m.attr (e, f))) at)) ∷ [] }
writes meta m (RerankRow a f b old new) = record no_writes { row = ((a, f, b), Some new) ∷ [] }
writes meta m (Shift e f from to) = record no_writes { attr = ((e, f), entry_of (shifted (values_of (get m.attr (e, f))) from to)) ∷ [] }

-- the state after a step
abbrev pub apply : Meta → State → Step → State
apply meta m s = written m (writes meta m s)

-- the step that undoes a step
abbrev pub rev : Step → Step
rev (Put e f old new) = Put e f new old
rev (Ins e f at v) = Del e f at v
rev (Del e f at v) = Ins e f at v
rev (Shift e f from to) = Shift e f to from
rev (Link a f ra b rb) = Unlink a f ra b rb
rev (Unlink a f ra b rb) = Link a f ra b rb
rev (RerankRow a f b old new) = RerankRow a f b new old
rev (New e class place rank) = Gone e class place rank
rev (Gone e class place rank) = New e class place rank
rev (Move e from from_rank to to_rank above_from above_to) = Move e to to_rank from from_rank above_to above_from
rev (RerankPlace e old new) = RerankPlace e new old

-- the reversals in reversed order
abbrev pub rev_all : List Step → List Step
rev_all [] = []
rev_all (s ∷ ss) = rev_all ss ++ rev s ∷ []

-- the steps one by one, where each can be taken in its turn
abbrev pub fold : Meta → State → List Step → Option State
fold meta m [] = Some m
fold meta m (s ∷ ss) = elim (fault meta m s) [ None ↦ fold meta (apply meta m s) ss | Some _ ↦ None ]

-- the fault of the first of the steps that can't be taken in its turn
abbrev pub fault_along : Meta → State → List Step → Option StepFault
fault_along meta m [] = None
fault_along meta m (s ∷ ss) = elim (fault meta m s) [ None ↦ fault_along meta (apply meta m s) ss | Some e ↦ Some e ]

-- the same fault, so many places further on
abbrev pub further_on : ℕ → Option ApplyFault → Option ApplyFault
further_on n None = None
further_on n (Some x) = Some (record { at = n + x.at; fault = x.fault })

-- the first of the steps that can't be taken in its turn: its place, from 0, and its fault
abbrev pub first_stop : Meta → State → List Step → Option ApplyFault
first_stop meta m [] = None
first_stop meta m (s ∷ ss) = elim (fault meta m s) [ None ↦ further_on 1 (first_stop meta (apply meta m s) ss) | Some e ↦ Some (record { at = 0; fault = e }) ]
