-- Ids, values and places, as they are read.
use Rattle.std.specs.Prelude.{ℕ, ◌==◌, List, Bool, true, false, Result, Ok, Err, if◌then◌else◌}
use Rattle.std.specs.Int.{w64, cast_signed}
use Rattle.byte_form.specs.Rest.{Rest}
use Rattle.byte_form.specs.Fields.{◌>>=◌}
use Rattle.ecore_meta.specs.declared.meta.Value.{Value}
use Rattle.ecore_meta.specs.declared.meta.Value.TheVariants.{Text, Flag, Whole, Literal}
use Rattle.model_state.specs.Ident.{is_id}
use Rattle.model_state.specs.declared.step.Place.{Place}
use Rattle.model_state.specs.declared.step.Place.TheVariants.{Root, Inside}
use Rattle.op_reading.specs.declared.fault.FormFault.{FormFault}
use Rattle.op_reading.specs.declared.fault.FormFault.TheVariants.{NotForm}
use Rattle.op_reading.specs.Reading.{Reading, made, ◌⊗◌, u8_at, u32_at, u64_at, any_text_at}

-- a text that passes a test; where it fails, the text can't be read
abbrev pub tested_text : (List ℕ → Bool) → ℕ → List ℕ × Rest → Result (List ℕ × Rest) FormFault
tested_text test offset text = if test text.0 then Ok text else Err (NotForm offset)

-- an id is a text of its form
unfoldable pub id_at : Reading (List ℕ)
id_at r = any_text_at r >>= tested_text is_id r.offset

-- a byte 0 or 1
abbrev pub flag_of : ℕ → ℕ × Rest → Result (Value × Rest) FormFault
flag_of offset byte = if byte.0 == 0 then Ok (Flag false, byte.1) else if byte.0 == 1 then Ok (Flag true, byte.1) else Err (NotForm offset)

-- the next byte, as a flag
unfoldable pub flag_at : Reading Value
flag_at r = u8_at r >>= flag_of r.offset

-- a value: its kind's byte, and a text, a flag, a number in two's complement or a literal's number
abbrev pub value_of : ℕ → ℕ × Rest → Result (Value × Rest) FormFault
value_of offset kind =
    if kind.0 == 1 then made (λ t. Text t) (any_text_at kind.1)
    else if kind.0 == 2 then flag_at kind.1
    else if kind.0 == 3 then made (λ n. Whole (cast_signed w64 n)) (u64_at kind.1)
    else if kind.0 == 4 then made (λ n. Literal n) (u32_at kind.1)
    else Err (NotForm offset)

-- a value, by its kind's byte
unfoldable pub value_at : Reading Value
value_at r = u8_at r >>= value_of r.offset

-- a place: a byte 0, or a byte 1, the parent's id and the feature's number
abbrev pub place_of : ℕ → ℕ × Rest → Result (Place × Rest) FormFault
place_of offset kind =
    if kind.0 == 0 then Ok (Root, kind.1)
    else if kind.0 == 1 then made (λ t. Inside t.0 t.1) ((id_at ⊗ u32_at) kind.1)
    else Err (NotForm offset)

-- a place, by its first byte
unfoldable pub place_at : Reading Place
place_at r = u8_at r >>= place_of r.offset
