-- A list of one value, compared with a value.
use Rattle.std.proofs.Common.{◌≡◌, List, [], ◌∷◌, refl, sym, length, arith}
use Rattle.std.specs.Prelude.{Some, slice_get}
use Rattle.std.proofs.Math.Bool.{and-true}
use Rattle.finite_maps.specs.Equal.{option_eq, list_eq}
use Rattle.ecore_meta.specs.declared.meta.Value.{Value}
use Rattle.model_state.specs.Typing.{value_eq}

pub one_value : (vs : List Value) (v : Value) → length vs ≡ 1 → option_eq value_eq (slice_get vs 0) (Some v) ≡ list_eq value_eq vs (v ∷ [])
one_value [] v one = absurd (omega (arith, one))
one_value (x ∷ []) v one = sym (and-true (value_eq x v))
one_value (x ∷ y ∷ vs) v one = absurd (omega (arith, one))
