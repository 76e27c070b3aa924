-- The encodings of flags, values and places.
use Rattle.std.specs.Prelude.{ℕ, List, [], ◌∷◌, ◌++◌, Bool, true, false}
use Rattle.std.specs.Int.{w64, cast_unsigned}
use Rattle.byte_form.specs.Fields.{text_encoding, u32_encoding, u64_encoding}
use Rattle.ecore_meta.specs.declared.meta.Value.{Value}
use Rattle.ecore_meta.specs.declared.meta.Value.TheVariants.{Text, Flag, Whole, Literal}
use Rattle.model_state.specs.declared.step.Place.{Place}
use Rattle.model_state.specs.declared.step.Place.TheVariants.{Root, Inside}

-- the encoding of a flag
abbrev pub flag_encoding : Bool → List ℕ
flag_encoding true = 1 ∷ []
flag_encoding false = 0 ∷ []

-- the encoding of a value
unfoldable pub value_encoding : Value → List ℕ
value_encoding (Text t) = 1 ∷ text_encoding t
value_encoding (Flag b) = 2 ∷ flag_encoding b
value_encoding (Whole z) = 3 ∷ u64_encoding (cast_unsigned w64 z)
value_encoding (Literal n) = 4 ∷ u32_encoding n

-- the encoding of a place
unfoldable pub place_encoding : Place → List ℕ
place_encoding Root = 0 ∷ []
place_encoding (Inside parent feature) = 1 ∷ (text_encoding parent ++ u32_encoding feature)
