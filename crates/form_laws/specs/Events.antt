-- The fields of packages and events, in the order of their encodings.
use Rattle.std.specs.Prelude.{ℕ, List, [], ◌∷◌, ◌++◌, length, Bool, true, false, Option, Some, None}
use Rattle.std.specs.Int.{w64, cast_unsigned}
use Rattle.ecore_meta.specs.declared.meta.Value.{Value}
use Rattle.ecore_meta.specs.declared.meta.Value.TheVariants as values
use Rattle.model_state.specs.declared.step.Place.{Place}
use Rattle.model_state.specs.declared.step.Place.TheVariants.{Root, Inside}
use Rattle.model_state.specs.declared.step.Step.{Step}
use Rattle.model_state.specs.declared.step.Step.TheVariants.{Put, Ins, Del, Shift, Link, Unlink, RerankRow, New, Gone, Move, RerankPlace}
use Rattle.model_state.specs.declared.operation.OpKind.{OpKind}
use Rattle.model_state.specs.declared.operation.Operation.{Operation}
use Rattle.model_state.specs.declared.operation.Operation.TheVariants.{Simple, Composite}
use Rattle.op_form.specs.Packages.{kind_byte}
use Rattle.op_form.specs.declared.event.Event.{Event}
use Rattle.op_form.specs.declared.event.Event.TheVariants.{Init, Checkout, Edit, Begin, End, Undo, Discard, Tidy, Commit, Branch, Tag, Update, Merge}
use Rattle.op_form.specs.declared.event.Event.TheVariants.{Drop, Evolve, Upgrade, Signed}
use Rattle.form_laws.specs.Fields.{Field, Byte, Number, LongNumber, Text}

-- of a number of four bytes
abbrev pub number_fields : ℕ → List Field
number_fields n = Number n ∷ []

-- of a number of eight bytes
abbrev pub long_fields : ℕ → List Field
long_fields n = LongNumber n ∷ []

-- of a text
abbrev pub text_fields : List ℕ → List Field
text_fields text = Text text ∷ []

-- of a value or none
abbrev pub option_fields : {X : Type 0} → (X → List Field) → Option X → List Field
option_fields fields None = Byte 0 ∷ []
option_fields fields (Some x) = Byte 1 ∷ fields x

-- of items, one after another
abbrev pub items_fields : {X : Type 0} → (X → List Field) → List X → List Field
items_fields fields [] = []
items_fields fields (x ∷ xs) = fields x ++ items_fields fields xs

-- of a list
abbrev pub list_fields : {X : Type 0} → (X → List Field) → List X → List Field
list_fields fields xs = Number (length xs) ∷ items_fields fields xs

-- of a flag
abbrev pub flag_fields : Bool → List Field
flag_fields true = Byte 1 ∷ []
flag_fields false = Byte 0 ∷ []

-- of a value
unfoldable pub value_fields : Value → List Field
value_fields (values.Text text) = Byte 1 ∷ text_fields text
value_fields (values.Flag b) = Byte 2 ∷ flag_fields b
value_fields (values.Whole z) = Byte 3 ∷ long_fields (cast_unsigned w64 z)
value_fields (values.Literal n) = Byte 4 ∷ number_fields n

-- of a place
unfoldable pub place_fields : Place → List Field
place_fields Root = Byte 0 ∷ []
place_fields (Inside parent feature) = Byte 1 ∷ (text_fields parent ++ number_fields feature)

-- of a step
unfoldable pub step_fields : Step → List Field
step_fields (Put e f old new) = Byte 1 ∷ (text_fields e ++ (number_fields f ++ (option_fields value_fields old ++ option_fields value_fields new)))
step_fields (Ins e f at v) = Byte 2 ∷ (text_fields e ++ (number_fields f ++ (number_fields at ++ value_fields v)))
step_fields (Del e f at v) = Byte 3 ∷ (text_fields e ++ (number_fields f ++ (number_fields at ++ value_fields v)))
step_fields (Shift e f from to) = Byte 4 ∷ (text_fields e ++ (number_fields f ++ (number_fields from ++ number_fields to)))
step_fields (Link a f ra b rb) = Byte 5 ∷ (text_fields a ++ (number_fields f ++ (long_fields ra ++ (text_fields b ++ option_fields long_fields rb))))
step_fields (Unlink a f ra b rb) =
    Byte 6 ∷ (text_fields a ++ (number_fields f ++ (long_fields ra ++ (text_fields b ++ option_fields long_fields rb))))
step_fields (RerankRow a f b old new) = Byte 7 ∷ (text_fields a ++ (number_fields f ++ (text_fields b ++ (long_fields old ++ long_fields new))))
step_fields (New e class offset rank) = Byte 8 ∷ (text_fields e ++ (number_fields class ++ (place_fields offset ++ long_fields rank)))
step_fields (Gone e class offset rank) = Byte 9 ∷ (text_fields e ++ (number_fields class ++ (place_fields offset ++ long_fields rank)))
step_fields (Move e from from_rank to to_rank above_from above_to) =
    Byte 10 ∷ (text_fields e ++ (place_fields from ++ (long_fields from_rank ++ (place_fields to ++ (long_fields to_rank
    ++ (list_fields text_fields above_from ++ list_fields text_fields above_to))))))
step_fields (RerankPlace e old new) = Byte 11 ∷ (text_fields e ++ (long_fields old ++ long_fields new))

-- of a kind
abbrev pub kind_fields : OpKind → List Field
kind_fields kind = Byte (kind_byte kind) ∷ []

-- of an operation
unfoldable pub operation_fields : Operation → List Field
operation_fields (Simple kind steps) = Byte 1 ∷ (kind_fields kind ++ list_fields step_fields steps)
operation_fields (Composite name steps) = Byte 2 ∷ (text_fields name ++ list_fields step_fields steps)

-- of a package
unfoldable pub package_fields : List Operation → List Field
package_fields operations = list_fields operation_fields operations

-- of an event
unfoldable pub event_fields : Event → List Field
event_fields (Init text) = Byte 1 ∷ text_fields text
event_fields (Checkout version branch) = Byte 2 ∷ (number_fields version ++ number_fields branch)
event_fields (Edit ws operations) = Byte 3 ∷ (number_fields ws ++ package_fields operations)
event_fields (Begin ws name) = Byte 4 ∷ (number_fields ws ++ text_fields name)
event_fields (End ws) = Byte 5 ∷ number_fields ws
event_fields (Undo ws) = Byte 6 ∷ number_fields ws
event_fields (Discard ws) = Byte 7 ∷ number_fields ws
event_fields (Tidy ws) = Byte 8 ∷ number_fields ws
event_fields (Commit ws message) = Byte 9 ∷ (number_fields ws ++ text_fields message)
event_fields (Branch ws name) = Byte 10 ∷ (number_fields ws ++ text_fields name)
event_fields (Tag name version) = Byte 11 ∷ (text_fields name ++ number_fields version)
event_fields (Update ws choices) = Byte 12 ∷ (number_fields ws ++ text_fields choices)
event_fields (Merge ws branch choices) = Byte 13 ∷ (number_fields ws ++ (number_fields branch ++ text_fields choices))
event_fields (Drop ws) = Byte 14 ∷ number_fields ws
event_fields (Evolve text) = Byte 15 ∷ text_fields text
event_fields Upgrade = Byte 16 ∷ []
event_fields (Signed ws author moment message) = Byte 17 ∷ (number_fields ws ++ (text_fields author ++ (long_fields moment ++ text_fields message)))
