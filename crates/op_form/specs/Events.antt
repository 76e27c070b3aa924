-- The encodings of events: a byte for the kind, and the fields in their order.
use Rattle.std.specs.Prelude.{ℕ, List, [], ◌∷◌, ◌++◌}
use Rattle.byte_form.specs.Fields.{text_encoding, u32_encoding, u64_encoding}
use Rattle.op_form.specs.declared.event.Event.{Event}
use Rattle.op_form.specs.Packages.{package_encoding}
use Rattle.op_form.specs.Rows.{Format, Nothing, Number, LongNumber, AnyText, OfPackage, Then, Value, by_row}

-- the encoding of fields
abbrev pub fields_encoding : (format : Format) → Value format → List ℕ
fields_encoding Nothing x = []
fields_encoding Number n = u32_encoding n
fields_encoding LongNumber n = u64_encoding n
fields_encoding AnyText text = text_encoding text
fields_encoding OfPackage operations = package_encoding operations
fields_encoding (Then first second) x = fields_encoding first x.0 ++ fields_encoding second x.1

-- the encoding of an event
unfoldable pub event_encoding : Event → List ℕ
event_encoding event = by_row (λ tag format x. tag ∷ fields_encoding format x) event
