-- Equal packages.
use Rattle.std.specs.Prelude.{Bool, true, false, List, ◌&&◌}
use Rattle.finite_maps.specs.Equal.{list_eq, text_eq}
use Rattle.model_state.specs.declared.operation.OpKind.{OpKind}
use Rattle.model_state.specs.declared.operation.OpKind.TheVariants.{Create, Delete, Attribute, ManyAttribute, Reference, Move}
use Rattle.model_state.specs.declared.operation.Operation.{Operation}
use Rattle.model_state.specs.declared.operation.Operation.TheVariants.{Simple, Composite}
use Rattle.merge_laws.specs.Joins.{steps_eq}

-- the same kind
abbrev pub kind_eq : OpKind → OpKind → Bool
kind_eq Create Create = true
kind_eq Delete Delete = true
kind_eq Attribute Attribute = true
kind_eq ManyAttribute ManyAttribute = true
kind_eq Reference Reference = true
kind_eq Move Move = true
kind_eq kind other = false

-- equal operations: simple ones of one kind, or composites of one name, with equal steps
abbrev pub operation_eq : Operation → Operation → Bool
operation_eq (Simple kind steps) (Simple other later) = kind_eq kind other && steps_eq steps later
operation_eq (Composite name steps) (Composite other later) = text_eq name other && steps_eq steps later
operation_eq o p = false

-- equal packages: of equal operations in the same order
abbrev pub package_eq : List Operation → List Operation → Bool
package_eq = list_eq operation_eq
