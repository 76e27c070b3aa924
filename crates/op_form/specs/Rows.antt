-- Events as rows: a byte for the kind, and the fields in their order. One line an event.
use Rattle.std.specs.Prelude.{ℕ, List}
use Rattle.model_state.specs.declared.operation.Operation.{Operation}
use Rattle.op_form.specs.declared.event.Event.{Event}
use Rattle.op_form.specs.declared.event.Event.TheVariants.{Init, Checkout, Edit, Begin, End, Undo, Discard, Tidy, Commit, Branch, Tag, Update, Merge}
use Rattle.op_form.specs.declared.event.Event.TheVariants.{Drop, Evolve, Upgrade, Signed}

-- the kinds of fields: none, a number of four bytes or of eight, a text, a package, and one after another
pub data Format : Type 0 where
  Nothing : Format
  Number : Format
  LongNumber : Format
  AnyText : Format
  OfPackage : Format
  Then : Format → Format → Format

-- the values of such fields
abbrev pub Value : Format → Type 0
Value Nothing = Unit {0}
Value Number = ℕ
Value LongNumber = ℕ
Value AnyText = List ℕ
Value OfPackage = List Operation
Value (Then first second) = Value first × Value second

-- the table of events: what is given of the byte of its kind and of its fields
abbrev pub by_row {ℓ} : {R : Type ℓ} → ((tag : ℕ) (format : Format) → Value format → R) → Event → R
by_row give (Init text) = give 1 AnyText text
by_row give (Checkout version branch) = give 2 (Then Number Number) (version, branch)
by_row give (Edit ws operations) = give 3 (Then Number OfPackage) (ws, operations)
by_row give (Begin ws name) = give 4 (Then Number AnyText) (ws, name)
by_row give (End ws) = give 5 Number ws
by_row give (Undo ws) = give 6 Number ws
by_row give (Discard ws) = give 7 Number ws
by_row give (Tidy ws) = give 8 Number ws
by_row give (Commit ws message) = give 9 (Then Number AnyText) (ws, message)
by_row give (Branch ws name) = give 10 (Then Number AnyText) (ws, name)
by_row give (Tag name version) = give 11 (Then AnyText Number) (name, version)
by_row give (Update ws letters) = give 12 (Then Number AnyText) (ws, letters)
by_row give (Merge ws branch letters) = give 13 (Then Number (Then Number AnyText)) (ws, (branch, letters))
by_row give (Drop ws) = give 14 Number ws
by_row give (Evolve text) = give 15 AnyText text
by_row give Upgrade = give 16 Nothing tt
by_row give (Signed ws author moment message) = give 17 (Then Number (Then AnyText (Then LongNumber AnyText))) (ws, (author, (moment, message)))
