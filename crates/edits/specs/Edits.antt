-- Edits as they are given: the effect of each on a model, or why it is refused; the model after it; and what is recorded.
use Rattle.std.specs.Prelude.{ℕ, Bool, not, ◌&&◌, nat_le, nat_lt, List, [], ◌∷◌, length, Option, None, Some, is_some, ok_or, unwrap_or, Result, Ok}
use Rattle.std.specs.Prelude.{Err, if◌then◌else◌}
use Rattle.std.specs.List.{list_any}
use Rattle.std.specs.FinMap.{get}
use Rattle.finite_maps.specs.Maps.{is_below}
use Rattle.ecore_meta.specs.Meta.{Meta, class_named, feature_named}
use Rattle.ecore_meta.specs.declared.meta.Kind.{Kind}
use Rattle.ecore_meta.specs.declared.meta.Kind.TheVariants.{Attr, AttrMany, Bounded, Free, Contains, Container, Skip}
use Rattle.ecore_meta.specs.declared.meta.Scalar.{Scalar}
use Rattle.ecore_meta.specs.declared.meta.Scalar.TheVariants as types
use Rattle.ecore_meta.specs.declared.meta.Value.{Value}
use Rattle.ecore_meta.specs.declared.meta.Value.TheVariants.{Text}
use Rattle.model_state.specs.declared.operation.OpKind.{OpKind}
use Rattle.model_state.specs.declared.operation.OpKind.TheVariants as kinds
use Rattle.model_state.specs.declared.operation.Operation.{Operation}
use Rattle.model_state.specs.declared.operation.Operation.TheVariants.{Simple}
use Rattle.model_state.specs.declared.step.Place.{Place}
use Rattle.model_state.specs.declared.step.Place.TheVariants as places
use Rattle.model_state.specs.declared.step.Step.{Step}
use Rattle.model_state.specs.Ident.{is_id}
use Rattle.model_state.specs.Keys.{IdBytes}
use Rattle.model_state.specs.State.{State, is_live}
use Rattle.model_state.specs.Typing.{value_eq, kind_of, upper_of, is_concrete, is_plain, is_containment}
use Rattle.edits.specs.declared.edit.Edit.{Edit}
use Rattle.edits.specs.declared.edit.Edit.TheVariants.{Create, Delete, Set, Unset, Add, Remove, Shift, Link, Unlink, Reorder, Move}
use Rattle.edits.specs.declared.edit.Destination.{Destination}
use Rattle.edits.specs.declared.edit.Destination.TheVariants.{Root, Inside}
use Rattle.edits.specs.declared.edit.Recorded.{Recorded}
use Rattle.edit_steps.specs.declared.fault.EditFault.{EditFault}
use Rattle.edit_steps.specs.declared.fault.EditFault.TheVariants.{NoElement, IdInUse, BadId, NoClass, Abstract, NoFeature, WrongKind, BadValue, Bound}
use Rattle.edit_steps.specs.declared.fault.EditFault.TheVariants.{AlreadyThere, NoEntry}
use Rattle.edit_steps.specs.References.{holds_one, set_ref_after, set_ref_made, link_after, link_made, unlink_after, unlink_made, unset_after}
use Rattle.edit_steps.specs.References.{unset_made, reorder_after, reorder_made}
use Rattle.edit_steps.specs.Refusals.{set_ref_refusal, link_index, link_refusal, unlink_refusal, reorder_refusal}
use Rattle.edit_steps.specs.Places.{create_after, create_made}
use Rattle.edit_steps.specs.Attributes.{taken, put_after, put_made}
use Rattle.edit_steps.specs.ManyValues.{insert_after, insert_made, remove_after, remove_made, shift_after, shift_made, clear_after, clear_made}
use Rattle.edit_steps.specs.declared.move_fault.MoveFault.{MoveFault}
use Rattle.edit_steps.specs.EditFaults.{edit_fault_of_move}
use Rattle.edit_steps.specs.MoveRefusals.{create_refusal, move_refusal, place_of}
use Rattle.edit_steps.specs.Moves.{move_after, move_made}
use Rattle.edit_steps.specs.Deletes.{delete_after, delete_made}
use Rattle.edits.specs.FreshIds.{id_or_fresh}
use Rattle.edit_steps.specs.Containers.{containers_of}
use Rattle.model_state.specs.Ranks.{most_entries}
use Rattle.model_state.specs.Listing.{values_at}

-- which value of a type a text is, where it is one
abbrev pub ValueReading : Type 0
ValueReading = Scalar → List ℕ → Option Value

-- the effect of an edit, with its names looked up and its value read
pub data Effect : Type 0 where
  -- an element of a class is created, last in a place
  Creates : IdBytes → ℕ → Place → Effect
  -- an element is put into a place, at an index of the others there, None for their end
  Moves : IdBytes → Place → Option ℕ → Effect
  -- an element is deleted with its subtree
  Deletes : IdBytes → Effect
  -- a single attribute has the value, or none
  Puts : IdBytes → ℕ → Option Value → Effect
  -- a many-valued attribute has no value
  Clears : IdBytes → ℕ → Effect
  -- a value is inserted into a many-valued attribute at an index
  Inserts : IdBytes → ℕ → ℕ → Value → Effect
  -- the value of such an attribute at an index is removed
  Removes : IdBytes → ℕ → ℕ → Effect
  -- the value of such an attribute at an index is taken out and put at another
  Shifts : IdBytes → ℕ → ℕ → ℕ → Effect
  -- a plain reference has the target alone
  Refers : IdBytes → ℕ → IdBytes → Effect
  -- a plain reference has no target
  Forgets : IdBytes → ℕ → Effect
  -- the target is inserted into a plain reference, at an index
  Links : IdBytes → ℕ → IdBytes → ℕ → Effect
  -- the target of a plain reference is removed
  Unlinks : IdBytes → ℕ → IdBytes → Effect
  -- the target of a plain reference stands at an index
  Reorders : IdBytes → ℕ → IdBytes → ℕ → Effect

-- ---- the effect of an edit, or its first refusal
-- the class of the live element of that id; a word that is no id names no element
abbrev pub class_at : State → IdBytes → Option ℕ
class_at m word = if is_id word then get m.kind word else None

-- the feature of that name of an element, by its class
abbrev pub feature_at : Meta → Option ℕ → IdBytes → Result ℕ EditFault
feature_at meta None name = Err NoElement
feature_at meta (Some class) name = ok_or (feature_named meta class name) NoFeature

-- the containment of an element, where the feature is one
abbrev pub place_inside : Meta → IdBytes → Result ℕ EditFault → Result Place EditFault
place_inside meta a (Err fault) = Err fault
place_inside meta a (Ok f) = if not (is_containment (kind_of meta f)) then Err WrongKind else Ok (places.Inside a f)

-- the place where an element is to stand, or why there is none
abbrev pub place_at : Meta → State → Destination → Result Place EditFault
place_at meta m Root = Ok places.Root
place_at meta m (Inside parent feature) = place_inside meta parent (feature_at meta (class_at m parent) feature)

-- the effect where the place takes the element
abbrev pub unless_full : Option MoveFault → Result Effect EditFault → Result Effect EditFault
unless_full None effect = effect
unless_full (Some fault) effect = Err (edit_fault_of_move fault)

-- the id is of the form and not live
abbrev pub new_effect : State → ℕ → Place → IdBytes → Result Effect EditFault
new_effect m class place id =
    if not (is_id id) then Err BadId
    else if is_live m id then Err IdInUse
    else Ok (Creates id class place)

-- the place is one, and takes an element of the class
abbrev pub create_in : Meta → State → ℕ → Result Place EditFault → IdBytes → Result Effect EditFault
create_in meta m class (Err fault) id = Err fault
create_in meta m class (Ok place) id = unless_full (create_refusal meta m class place) (new_effect m class place id)

-- the class is one and is not abstract
abbrev pub create_effect : Meta → State → Option ℕ → Destination → IdBytes → Result Effect EditFault
create_effect meta m None to id = Err NoClass
create_effect meta m (Some class) to id = if not (is_concrete meta class) then Err Abstract else create_in meta m class (place_at meta m to) id

-- the place is one, and takes the element at the index
abbrev pub move_in : Meta → State → IdBytes → Result Place EditFault → Option ℕ → Result Effect EditFault
move_in meta m e (Err fault) at = Err fault
move_in meta m e (Ok place) at = unless_full (move_refusal meta m e place (containers_of m place) at) (Ok (Moves e place at))

-- the element is live
abbrev pub move_effect : Meta → State → IdBytes → Destination → Option ℕ → Result Effect EditFault
move_effect meta m e to at = if not (is_some (class_at m e)) then Err NoElement else move_in meta m e (place_at meta m to) at

-- the element is live
abbrev pub delete_effect : State → IdBytes → Result Effect EditFault
delete_effect m e = if not (is_some (class_at m e)) then Err NoElement else Ok (Deletes e)

-- a default is held as not set
abbrev pub put_effect : Meta → IdBytes → ℕ → Option Value → Result Effect EditFault
put_effect meta e f None = Err BadValue
put_effect meta e f (Some v) = Ok (Puts e f (taken meta f v))

-- the effect where no test refuses it
abbrev pub unless_refused : Option EditFault → Effect → Result Effect EditFault
unless_refused None effect = Ok effect
unless_refused (Some fault) effect = Err fault

-- the id that a value names a target by: a text
abbrev pub target_in : Option Value → Option IdBytes
target_in (Some (Text id)) = Some id
target_in value = None

-- the value is a text, the id of a live element, which the reference may have
abbrev pub refer_effect : Meta → State → IdBytes → ℕ → Option IdBytes → Result Effect EditFault
refer_effect meta m a f None = Err BadValue
refer_effect meta m a f (Some b) =
    if not (is_some (class_at m b)) then Err NoElement
    else unless_refused (set_ref_refusal meta m a f b) (Refers a f b)

-- The feature is a single attribute, and the text a value of its type. Or it is a plain reference of upper bound 1, and the text
-- names its target.
abbrev pub set_effect : ValueReading → Meta → State → IdBytes → ℕ → Kind → List ℕ → Result Effect EditFault
set_effect reading meta m e f (Attr scalar default) text = put_effect meta e f (reading scalar text)
set_effect reading meta m e f (AttrMany scalar unique) text = Err WrongKind
set_effect reading meta m e f (Bounded target opposite) text =
    if not (holds_one meta f) then Err WrongKind else refer_effect meta m e f (target_in (reading types.Text text))
set_effect reading meta m e f (Free target opposite) text = Err WrongKind
set_effect reading meta m e f (Contains target opposite) text = Err WrongKind
set_effect reading meta m e f (Container target opposite) text = Err WrongKind
set_effect reading meta m e f Skip text = Err WrongKind

-- the feature is an attribute or a plain reference
abbrev pub unset_effect : IdBytes → ℕ → Kind → Result Effect EditFault
unset_effect e f (Attr scalar default) = Ok (Puts e f None)
unset_effect e f (AttrMany scalar unique) = Ok (Clears e f)
unset_effect e f (Bounded target opposite) = Ok (Forgets e f)
unset_effect e f (Free target opposite) = Ok (Forgets e f)
unset_effect e f (Contains target opposite) = Err WrongKind
unset_effect e f (Container target opposite) = Err WrongKind
unset_effect e f Skip = Err WrongKind

-- What is given, where a list of values takes one more. The value is not held yet where each is held once. There is room for it
-- under the upper bound, and fewer than most_entries values are there.
abbrev pub accepts : {T : Type 0} → Bool → Option ℕ → List Value → Value → T → Result T EditFault
accepts unique upper vs v given =
    if unique && list_any (value_eq v) vs then Err AlreadyThere
    else if not (is_below (length vs) upper) then Err Bound
    else if not (nat_lt (length vs) most_entries) then Err Bound
    else Ok given

-- there is a value, which the list takes
abbrev pub insert_effect : IdBytes → ℕ → Bool → Option ℕ → List Value → ℕ → Option Value → Result Effect EditFault
insert_effect e f unique upper vs k None = Err BadValue
insert_effect e f unique upper vs k (Some v) = accepts unique upper vs v (Inserts e f k v)

-- the feature is a many-valued attribute, the index is one of its values or their end, and the text is a value of its type
abbrev pub add_effect : ValueReading → Meta → State → IdBytes → ℕ → Kind → Option ℕ → List ℕ → Result Effect EditFault
add_effect reading meta m e f (Attr scalar default) at text = Err WrongKind
add_effect reading meta m e f (AttrMany scalar unique) at text =
    let vs = values_at m e f in
    let k = unwrap_or at (length vs) in
    if not (nat_le k (length vs)) then Err NoEntry
    else insert_effect e f unique (upper_of meta f) vs k (reading scalar text)
add_effect reading meta m e f (Bounded target opposite) at text = Err WrongKind
add_effect reading meta m e f (Free target opposite) at text = Err WrongKind
add_effect reading meta m e f (Contains target opposite) at text = Err WrongKind
add_effect reading meta m e f (Container target opposite) at text = Err WrongKind
add_effect reading meta m e f Skip at text = Err WrongKind

-- the feature is a many-valued attribute, and the index that of a value
abbrev pub remove_effect : State → IdBytes → ℕ → Kind → ℕ → Result Effect EditFault
remove_effect m e f (Attr scalar default) k = Err WrongKind
remove_effect m e f (AttrMany scalar unique) k = if not (nat_lt k (length (values_at m e f))) then Err NoEntry else Ok (Removes e f k)
remove_effect m e f (Bounded target opposite) k = Err WrongKind
remove_effect m e f (Free target opposite) k = Err WrongKind
remove_effect m e f (Contains target opposite) k = Err WrongKind
remove_effect m e f (Container target opposite) k = Err WrongKind
remove_effect m e f Skip k = Err WrongKind

-- the feature is a many-valued attribute, and both indices those of values
abbrev pub shift_effect : State → IdBytes → ℕ → Kind → ℕ → ℕ → Result Effect EditFault
shift_effect m e f (Attr scalar default) from to = Err WrongKind
shift_effect m e f (AttrMany scalar unique) from to =
    if not (nat_lt from (length (values_at m e f))) then Err NoEntry
    else if not (nat_lt to (length (values_at m e f))) then Err NoEntry
    else Ok (Shifts e f from to)
shift_effect m e f (Bounded target opposite) from to = Err WrongKind
shift_effect m e f (Free target opposite) from to = Err WrongKind
shift_effect m e f (Contains target opposite) from to = Err WrongKind
shift_effect m e f (Container target opposite) from to = Err WrongKind
shift_effect m e f Skip from to = Err WrongKind

-- a plain reference whose upper bound isn't 1
abbrev pub is_listed : Meta → ℕ → Kind → Bool
is_listed meta f kind = is_plain kind && not (holds_one meta f)

-- the feature is such a reference, the target a live element, and the list takes it at the index, None for the end
abbrev pub link_effect : Meta → State → IdBytes → ℕ → Kind → IdBytes → Option ℕ → Result Effect EditFault
link_effect meta m a f kind b at =
    if not (is_listed meta f kind) then Err WrongKind
    else if not (is_some (class_at m b)) then Err NoElement
    else unless_refused (link_refusal meta m a f b at) (Links a f b (link_index m a f at))

-- the feature is such a reference, and has the target; a word that is no id names no target
abbrev pub unlink_effect : Meta → State → IdBytes → ℕ → Kind → IdBytes → Result Effect EditFault
unlink_effect meta m a f kind b =
    if not (is_listed meta f kind) then Err WrongKind
    else if not (is_id b) then Err NoEntry
    else unless_refused (unlink_refusal m a f b) (Unlinks a f b)

-- the feature is such a reference, has the target, and the index is one of its list
abbrev pub reorder_effect : Meta → State → IdBytes → ℕ → Kind → IdBytes → ℕ → Result Effect EditFault
reorder_effect meta m a f kind b k =
    if not (is_listed meta f kind) then Err WrongKind
    else if not (is_id b) then Err NoEntry
    else unless_refused (reorder_refusal m a f b k) (Reorders a f b k)

-- what comes of the feature, where there is one
abbrev pub of_feature : Meta → Result ℕ EditFault → (ℕ → Kind → Result Effect EditFault) → Result Effect EditFault
of_feature meta (Err fault) effect = Err fault
of_feature meta (Ok f) effect = effect f (kind_of meta f)

-- the effect of an edit in a workspace of that number, or the first of its refusals
unfoldable pub effect_of : ValueReading → Meta → State → ℕ → Edit → Result Effect EditFault
effect_of reading meta m ws (Create class destination id) = create_effect meta m (class_named meta class) destination (id_or_fresh m ws id)
effect_of reading meta m ws (Delete id) = delete_effect m id
effect_of reading meta m ws (Set id feature value) =
    of_feature meta (feature_at meta (class_at m id) feature) (λ f kind. set_effect reading meta m id f kind value)
effect_of reading meta m ws (Unset id feature) = of_feature meta (feature_at meta (class_at m id) feature) (λ f kind. unset_effect id f kind)
effect_of reading meta m ws (Add id feature at value) =
    of_feature meta (feature_at meta (class_at m id) feature) (λ f kind. add_effect reading meta m id f kind at value)
effect_of reading meta m ws (Remove id feature index) = of_feature meta (feature_at meta (class_at m id) feature) (λ f kind. remove_effect m id f kind index)
effect_of reading meta m ws (Shift id feature from to) = of_feature meta (feature_at meta (class_at m id) feature) (λ f kind. shift_effect m id f kind from to)
effect_of reading meta m ws (Link id feature target index) =
    of_feature meta (feature_at meta (class_at m id) feature) (λ f kind. link_effect meta m id f kind target index)
effect_of reading meta m ws (Unlink id feature target) =
    of_feature meta (feature_at meta (class_at m id) feature) (λ f kind. unlink_effect meta m id f kind target)
effect_of reading meta m ws (Reorder id feature target index) =
    of_feature meta (feature_at meta (class_at m id) feature) (λ f kind. reorder_effect meta m id f kind target index)
effect_of reading meta m ws (Move id destination index) = move_effect meta m id destination index

-- ---- the model after an effect, defined without steps
-- what each effect leaves
abbrev pub after_effect : Meta → State → Effect → State
after_effect meta m (Creates e class place) = create_after m e class place
after_effect meta m (Moves e place at) = move_after m e place at
after_effect meta m (Deletes e) = delete_after meta m e
after_effect meta m (Puts e f v) = put_after m e f v
after_effect meta m (Clears e f) = clear_after m e f
after_effect meta m (Inserts e f k v) = insert_after m e f k v
after_effect meta m (Removes e f k) = remove_after m e f k
after_effect meta m (Shifts e f from to) = shift_after m e f from to
after_effect meta m (Refers a f b) = record m { row = set_ref_after meta a f b m.row }
after_effect meta m (Forgets a f) = record m { row = unset_after meta a f m.row }
after_effect meta m (Links a f b k) = record m { row = link_after meta a f b k m.row }
after_effect meta m (Unlinks a f b) = record m { row = unlink_after meta a f b m.row }
after_effect meta m (Reorders a f b k) = record m { row = reorder_after a f b k m.row }

-- ---- the steps of an effect, and what is recorded
-- the steps of each effect
abbrev pub effect_steps : Meta → State → Effect → List Step
effect_steps meta m (Creates e class place) = create_made m e class place
effect_steps meta m (Moves e place at) = move_made m e place at (containers_of m (place_of m e)) (containers_of m place)
effect_steps meta m (Deletes e) = delete_made meta m e
effect_steps meta m (Puts e f v) = put_made m e f v
effect_steps meta m (Clears e f) = clear_made m e f
effect_steps meta m (Inserts e f k v) = insert_made e f k v
effect_steps meta m (Removes e f k) = remove_made m e f k
effect_steps meta m (Shifts e f from to) = shift_made m e f from to
effect_steps meta m (Refers a f b) = set_ref_made meta m.row a f b
effect_steps meta m (Forgets a f) = unset_made meta m.row a f
effect_steps meta m (Links a f b k) = link_made meta m.row a f b k
effect_steps meta m (Unlinks a f b) = unlink_made meta m.row a f b
effect_steps meta m (Reorders a f b k) = reorder_made m.row a f b k

-- the kind of its operation
abbrev pub operation_kind : Effect → OpKind
operation_kind (Creates e class place) = kinds.Create
operation_kind (Moves e place at) = kinds.Move
operation_kind (Deletes e) = kinds.Delete
operation_kind (Puts e f v) = kinds.Attribute
operation_kind (Clears e f) = kinds.ManyAttribute
operation_kind (Inserts e f k v) = kinds.ManyAttribute
operation_kind (Removes e f k) = kinds.ManyAttribute
operation_kind (Shifts e f from to) = kinds.ManyAttribute
operation_kind (Refers e f b) = kinds.Reference
operation_kind (Forgets e f) = kinds.Reference
operation_kind (Links e f b k) = kinds.Reference
operation_kind (Unlinks e f b) = kinds.Reference
operation_kind (Reorders e f b k) = kinds.Reference

-- the id of the element that is created
abbrev pub new_id : Effect → Option IdBytes
new_id (Creates e class place) = Some e
new_id effect = None

-- no step makes no operation
abbrev pub operation_of : OpKind → List Step → Option Operation
operation_of kind [] = None
operation_of kind (s ∷ ss) = Some (Simple kind (s ∷ ss))

-- an operation of the steps, and the id
abbrev pub recording : Meta → State → Effect → Recorded
recording meta m effect = record { operation = operation_of (operation_kind effect) (effect_steps meta m effect); id = new_id effect }

-- what is recorded of an effect, or the refusal
abbrev pub recording_of : Meta → State → Result Effect EditFault → Result Recorded EditFault
recording_of meta m (Err fault) = Err fault
recording_of meta m (Ok effect) = Ok (recording meta m effect)

-- what is recorded of an edit in a workspace of that number, or the first of its refusals
unfoldable pub recorded_of : ValueReading → Meta → State → ℕ → Edit → Result Recorded EditFault
recorded_of reading meta m ws edit = recording_of meta m (effect_of reading meta m ws edit)
