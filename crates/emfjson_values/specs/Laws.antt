-- The laws of values and their texts.
use Rattle.std.specs.Prelude.{◌≡◌, ℕ, true, List, Some}
use Rattle.ecore_meta.specs.Meta.{Meta}
use Rattle.ecore_meta.specs.Named.{TextsAreApart}
use Rattle.ecore_meta.specs.Typing.{fits}
use Rattle.ecore_meta.specs.declared.meta.Scalar.{Scalar}
use Rattle.ecore_meta.specs.declared.meta.Value.{Value}
use Rattle.emfjson_values.specs.Values.{value_of, value_text}

-- a value that is read is of the type
abbrev pub ReadValuesFit : Type 0
ReadValuesFit = (meta : Meta) (s : Scalar) (text : List ℕ) (v : Value) → value_of meta s text ≡ Some v → fits meta s v ≡ true

-- what is written for a value of the type is read again as that value
abbrev pub WrittenValuesAreRead : Type 0
WrittenValuesAreRead = (meta : Meta) → TextsAreApart meta → (s : Scalar) (v : Value) → fits meta s v ≡ true → value_of meta s (value_text meta s v) ≡ Some v
