-- Which values have an encoding, as definitions and as tests.
use Rattle.std.specs.Prelude.{◌≡◌, ℕ, ℤ, pos, negsuc, ◌<◌, ◌≤◌, ◌^◌, nat_le, nat_lt, Bool, true, ◌&&◌, List, length, All, FitsSigned, Option, Some, None}
use Rattle.std.specs.Int.{w64}
use Rattle.std.specs.List.{list_all}
use Rattle.std.specs.Str.{is_utf8}
use Rattle.byte_form.specs.Laws.{IsShortText}
use Rattle.ecore_meta.specs.declared.meta.Value.{Value as MetaValue}
use Rattle.ecore_meta.specs.declared.meta.Value.TheVariants.{Text, Flag, Whole, Literal}
use Rattle.model_state.specs.Ident.{is_id}
use Rattle.model_state.specs.Names.{is_name}
use Rattle.model_state.specs.declared.step.Place.{Place}
use Rattle.model_state.specs.declared.step.Place.TheVariants.{Root, Inside}
use Rattle.model_state.specs.declared.step.Step.{Step}
use Rattle.model_state.specs.declared.step.Step.TheVariants.{Put, Ins, Del, Shift, Link, Unlink, RerankRow, New, Gone, Move, RerankPlace}
use Rattle.model_state.specs.declared.operation.Operation.{Operation}
use Rattle.model_state.specs.declared.operation.Operation.TheVariants.{Simple, Composite}
use Rattle.op_form.specs.declared.event.Event.{Event}
use Rattle.op_form.specs.Rows.{Format, Nothing, Number, LongNumber, AnyText, OfPackage, Then, Value, by_row}

-- ---- definitions
-- a number of 32 bits
abbrev pub IsU32 : ℕ → Type 0
IsU32 n = n < 2 ^ 32

-- a number of 64 bits
abbrev pub IsU64 : ℕ → Type 0
IsU64 n = n < 2 ^ 64

-- a text that is an id
abbrev pub IsIdText : List ℕ → Type 0
IsIdText text = is_id text ≡ true

-- a text that is a name
abbrev pub IsNameText : List ℕ → Type 0
IsNameText text = is_name text ≡ true

-- a value of the kind, or none
abbrev pub IsGiven : {X : Type 0} → (X → Type 0) → Option X → Type 0
IsGiven Is None = Unit {0}
IsGiven Is (Some x) = Is x

-- a list of fewer than 2 ^ 32 items of a kind
abbrev pub IsList : {X : Type 0} → (X → Type 0) → List X → Type 0
IsList Is xs = (length xs < 2 ^ 32) × All Is xs

-- such a list with at least one
abbrev pub IsSomeList : {X : Type 0} → (X → Type 0) → List X → Type 0
IsSomeList Is xs = (1 ≤ length xs) × (length xs < 2 ^ 32) × All Is xs

-- a value that has an encoding
abbrev pub IsValue : MetaValue → Type 0
IsValue (Text t) = IsShortText t
IsValue (Flag b) = Unit {0}
IsValue (Whole z) = FitsSigned w64 z
IsValue (Literal n) = IsU32 n

-- a place that has an encoding
abbrev pub IsPlace : Place → Type 0
IsPlace Root = Unit {0}
IsPlace (Inside parent feature) = IsIdText parent × IsU32 feature

-- a step that has an encoding
abbrev pub IsStep : Step → Type 0
IsStep (Put e f old new) = IsIdText e × (IsU32 f × (IsGiven IsValue old × IsGiven IsValue new))
IsStep (Ins e f at v) = IsIdText e × (IsU32 f × (IsU32 at × IsValue v))
IsStep (Del e f at v) = IsIdText e × (IsU32 f × (IsU32 at × IsValue v))
IsStep (Shift e f from to) = IsIdText e × (IsU32 f × (IsU32 from × IsU32 to))
IsStep (Link a f ra b rb) = IsIdText a × (IsU32 f × (IsU64 ra × (IsIdText b × IsGiven IsU64 rb)))
IsStep (Unlink a f ra b rb) = IsIdText a × (IsU32 f × (IsU64 ra × (IsIdText b × IsGiven IsU64 rb)))
IsStep (RerankRow a f b old new) = IsIdText a × (IsU32 f × (IsIdText b × (IsU64 old × IsU64 new)))
IsStep (New e class place rank) = IsIdText e × (IsU32 class × (IsPlace place × IsU64 rank))
IsStep (Gone e class place rank) = IsIdText e × (IsU32 class × (IsPlace place × IsU64 rank))
IsStep (Move e from from_rank to to_rank above_from above_to) =
    IsIdText e × (IsPlace from × (IsU64 from_rank × (IsPlace to × (IsU64 to_rank × (IsList IsIdText above_from × IsList IsIdText above_to)))))
IsStep (RerankPlace e old new) = IsIdText e × (IsU64 old × IsU64 new)

-- an operation that has an encoding
abbrev pub IsOperation : Operation → Type 0
IsOperation (Simple kind steps) = Unit {0} × IsSomeList IsStep steps
IsOperation (Composite name steps) = IsNameText name × IsSomeList IsStep steps

-- a package that has an encoding
abbrev pub IsPackage : List Operation → Type 0
IsPackage operations = IsList IsOperation operations

-- fields that have an encoding
abbrev pub AreFields : (format : Format) → Value format → Type 0
AreFields Nothing x = Unit {0}
AreFields Number n = IsU32 n
AreFields LongNumber n = IsU64 n
AreFields AnyText text = IsShortText text
AreFields OfPackage operations = IsPackage operations
AreFields (Then first second) x = AreFields first x.0 × AreFields second x.1

-- an event that has an encoding
abbrev pub IsEvent : Event → Type 0
IsEvent event = by_row (λ tag format x. AreFields format x) event

-- ---- tests
-- a number of 32 bits
abbrev pub is_u32 : ℕ → Bool
is_u32 n = nat_lt n (2 ^ 32)

-- a number of 64 bits
abbrev pub is_u64 : ℕ → Bool
is_u64 n = nat_lt n (2 ^ 64)

-- a signed number of 64 bits
abbrev pub is_i64 : ℤ → Bool
is_i64 (pos n) = nat_lt n (2 ^ 63)
is_i64 (negsuc n) = nat_lt n (2 ^ 63)

-- a text of fewer than 2 ^ 32 bytes
abbrev pub is_short_text : List ℕ → Bool
is_short_text text = is_u32 (length text) && is_utf8 text

-- a value that passes the test, or none
abbrev pub is_given : {X : Type 0} → (X → Bool) → Option X → Bool
is_given test None = true
is_given test (Some x) = test x

-- a list of fewer than 2 ^ 32 items of a kind
abbrev pub is_list : {X : Type 0} → (X → Bool) → List X → Bool
is_list test xs = is_u32 (length xs) && list_all test xs

-- such a list with at least one
abbrev pub is_some_list : {X : Type 0} → (X → Bool) → List X → Bool
is_some_list test xs = nat_le 1 (length xs) && is_u32 (length xs) && list_all test xs

-- is there an encoding of the value
unfoldable pub is_value : MetaValue → Bool
is_value (Text t) = is_short_text t
is_value (Flag b) = true
is_value (Whole z) = is_i64 z
is_value (Literal n) = is_u32 n

-- is there an encoding of the place
unfoldable pub is_place : Place → Bool
is_place Root = true
is_place (Inside parent feature) = is_id parent && is_u32 feature

-- is there an encoding of the step
unfoldable pub is_step : Step → Bool
is_step (Put e f old new) = is_id e && is_u32 f && is_given is_value old && is_given is_value new
is_step (Ins e f at v) = is_id e && is_u32 f && is_u32 at && is_value v
is_step (Del e f at v) = is_id e && is_u32 f && is_u32 at && is_value v
is_step (Shift e f from to) = is_id e && is_u32 f && is_u32 from && is_u32 to
is_step (Link a f ra b rb) = is_id a && is_u32 f && is_u64 ra && is_id b && is_given is_u64 rb
is_step (Unlink a f ra b rb) = is_id a && is_u32 f && is_u64 ra && is_id b && is_given is_u64 rb
is_step (RerankRow a f b old new) = is_id a && is_u32 f && is_id b && is_u64 old && is_u64 new
is_step (New e class place rank) = is_id e && is_u32 class && is_place place && is_u64 rank
is_step (Gone e class place rank) = is_id e && is_u32 class && is_place place && is_u64 rank
is_step (Move e from from_rank to to_rank above_from above_to) =
    is_id e && is_place from && is_u64 from_rank && is_place to && is_u64 to_rank && is_list is_id above_from && is_list is_id above_to
is_step (RerankPlace e old new) = is_id e && is_u64 old && is_u64 new

-- of any kind, with at least one step; a composite under a name
unfoldable pub is_operation : Operation → Bool
is_operation (Simple kind steps) = is_some_list is_step steps
is_operation (Composite name steps) = is_name name && is_some_list is_step steps

-- fewer than 2 ^ 32 such operations
unfoldable pub is_package : List Operation → Bool
is_package operations = is_list is_operation operations

-- is there an encoding of the fields
abbrev pub are_fields : (format : Format) → Value format → Bool
are_fields Nothing x = true
are_fields Number n = is_u32 n
are_fields LongNumber n = is_u64 n
are_fields AnyText text = is_short_text text
are_fields OfPackage operations = is_package operations
are_fields (Then first second) x = are_fields first x.0 && are_fields second x.1

-- is there an encoding of the event
unfoldable pub is_event : Event → Bool
is_event event = by_row (λ tag format x. are_fields format x) event
