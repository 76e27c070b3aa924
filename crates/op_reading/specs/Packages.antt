-- Operations and packages, as they are read.
use Rattle.std.specs.Prelude.{ℕ, ◌==◌, List, Option, Some, None, Result, Ok, Err, if◌then◌else◌}
use Rattle.byte_form.specs.Rest.{Rest}
use Rattle.byte_form.specs.Fields.{◌>>=◌}
use Rattle.model_state.specs.Names.{is_name}
use Rattle.model_state.specs.declared.operation.OpKind.{OpKind}
use Rattle.model_state.specs.declared.operation.OpKind.TheVariants as kinds
use Rattle.model_state.specs.declared.operation.Operation.{Operation}
use Rattle.model_state.specs.declared.operation.Operation.TheVariants.{Simple, Composite}
use Rattle.op_reading.specs.declared.fault.FormFault.{FormFault}
use Rattle.op_reading.specs.declared.fault.FormFault.TheVariants.{NotForm}
use Rattle.op_reading.specs.Reading.{Reading, made, ◌⊗◌, u8_at, any_text_at, some_at, list_at}
use Rattle.op_reading.specs.Values.{tested_text}
use Rattle.op_reading.specs.Steps.{step_at}

-- a kind of simple operations by its byte, from 1 to 6
abbrev pub kind_of : ℕ → Option OpKind
kind_of byte =
    if byte == 1 then Some kinds.Create
    else if byte == 2 then Some kinds.Delete
    else if byte == 3 then Some kinds.Attribute
    else if byte == 4 then Some kinds.ManyAttribute
    else if byte == 5 then Some kinds.Reference
    else if byte == 6 then Some kinds.Move
    else None

-- the kind, where the byte is one's
abbrev pub kind_from : ℕ → Option OpKind → Rest → Result (OpKind × Rest) FormFault
kind_from offset None r = Err (NotForm offset)
kind_from offset (Some kind) r = Ok (kind, r)

-- the next byte, as a kind
unfoldable pub kind_at : Reading OpKind
kind_at r = u8_at r >>= λ byte. kind_from r.offset (kind_of byte.0) byte.1

-- the name of a composite is a text of a name's form
unfoldable pub name_at : Reading (List ℕ)
name_at r = any_text_at r >>= tested_text is_name r.offset

-- a simple operation: its kind and its steps
unfoldable pub simple_at : Reading Operation
simple_at r = made (λ t. Simple t.0 t.1) ((kind_at ⊗ some_at step_at) r)

-- a composite: its name and its steps
unfoldable pub composite_at : Reading Operation
composite_at r = made (λ t. Composite t.0 t.1) ((name_at ⊗ some_at step_at) r)

-- an operation: a byte 1, the kind and the steps, or a byte 2, the name and the steps
abbrev pub operation_of : ℕ → ℕ × Rest → Result (Operation × Rest) FormFault
operation_of offset tag =
    if tag.0 == 1 then simple_at tag.1
    else if tag.0 == 2 then composite_at tag.1
    else Err (NotForm offset)

-- an operation, by its first byte
unfoldable pub operation_at : Reading Operation
operation_at r = u8_at r >>= operation_of r.offset

-- a package is a list of operations
unfoldable pub package_at : Reading (List Operation)
package_at r = list_at operation_at r
