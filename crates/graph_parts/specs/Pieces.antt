-- A list of values: few in one list, or many in pieces.
use Rattle.std.specs.Prelude.{List, Option, None, Some, Box}
use Rattle.std.specs.List.{flat_map}
use Rattle.std.specs.Coded.{Coded, coded_list}
use Rattle.ecore_meta.specs.declared.meta.Value.{Value}
use Rattle.ecore_meta.specs.contracts.meta.Value as value_type

-- the values of the pieces, one piece after the other
abbrev pub joined : List (List Value) → List Value
joined ps = flat_map (λ p. p) ps

-- what is held: few values, or those of the pieces
abbrev pub held : {Z : Type 0} → List Value → Option (Box (List Value) Z) → List Value
held vs None = vs
held vs (Some many) = many.value

-- the code of a list of values
abbrev pub list_code : Coded (List Value)
list_code = coded_list value_type.the_row.coded
