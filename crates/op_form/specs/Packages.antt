-- The encodings of operations and packages.
use Rattle.std.specs.Prelude.{ℕ, List, [], ◌∷◌, ◌++◌}
use Rattle.byte_form.specs.Fields.{text_encoding}
use Rattle.model_state.specs.declared.operation.OpKind.{OpKind}
use Rattle.model_state.specs.declared.operation.OpKind.TheVariants as kinds
use Rattle.model_state.specs.declared.operation.Operation.{Operation}
use Rattle.model_state.specs.declared.operation.Operation.TheVariants.{Simple, Composite}
use Rattle.op_form.specs.Lists.{list_encoding}
use Rattle.op_form.specs.Steps.{step_encoding}

-- the byte of a kind
abbrev pub kind_byte : OpKind → ℕ
kind_byte kinds.Create = 1
kind_byte kinds.Delete = 2
kind_byte kinds.Attribute = 3
kind_byte kinds.ManyAttribute = 4
kind_byte kinds.Reference = 5
kind_byte kinds.Move = 6

-- the encoding of a kind
abbrev pub kind_encoding : OpKind → List ℕ
kind_encoding kind = kind_byte kind ∷ []

-- the encoding of an operation
unfoldable pub operation_encoding : Operation → List ℕ
operation_encoding (Simple kind steps) = 1 ∷ (kind_encoding kind ++ list_encoding step_encoding steps)
operation_encoding (Composite name steps) = 2 ∷ (text_encoding name ++ list_encoding step_encoding steps)

-- the encoding of a package
unfoldable pub package_encoding : List Operation → List ℕ
package_encoding operations = list_encoding operation_encoding operations
