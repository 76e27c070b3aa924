-- Ids, values and places: their faults.
use Rattle.std.proofs.Common.{◌≡◌, ℕ, suc, ◌<◌, ◌≤◌, ◌^◌, FitsSigned, [], ◌∷◌, Bool, true, false, nat_lt, drop, codes, refl, ap, arith}
use Rattle.std.specs.Int.{w64, cast_signed, cast_unsigned}
use Rattle.std.proofs.lemmas.Bool.{leb-true}
use Rattle.std.proofs.lemmas.Int.{of_z-to_z}
use Rattle.byte_form.proofs.FieldLemmas.{not_less}
use Rattle.ecore_meta.specs.declared.meta.Value.{Value}
use Rattle.ecore_meta.specs.declared.meta.Value.TheVariants as values
use Rattle.model_state.specs.Ident.{is_id}
use Rattle.model_state.specs.declared.step.Place.{Place}
use Rattle.model_state.specs.declared.step.Place.TheVariants.{Root, Inside}
use Rattle.op_reading.specs.Values.{id_at, flag_at, value_at, place_at}
use Rattle.op_form.specs.Values.{flag_encoding, value_encoding, place_encoding}
use Rattle.op_form.specs.Formed.{IsValue, IsPlace}
use Rattle.op_reading.proofs.ValueCodes.{id_codes, value_codes, place_codes}
use Rattle.form_laws.specs.Fields.{Byte, fields_encoding}
use Rattle.form_laws.specs.Events.{text_fields, long_fields, flag_fields, value_fields, place_fields}
use Rattle.form_laws.proofs.Faults.{Exact, u32_exact, u64_exact}
use Rattle.form_laws.proofs.Texts.{text_exact, tested_faults}
use Rattle.form_laws.proofs.Parts.{both_exact, IsTagged, Row, known, lone, tagged_faults}

pub id_exact : Exact id_codes text_fields
unfolding id_at
id_exact = record {
  sample = codes "a";
  has = refl;
  encoded = text_exact.encoded;
  faults = λ bytes offset are fault e. tested_faults is_id (codes "a") refl bytes offset are fault e;
}

signed_fits : (n : ℕ) → n < 2 ^ 64 → FitsSigned w64 (cast_signed w64 n)
signed_fits n lt = by (nat_lt n (2 ^ 63)) refl
  where
    by : (b : Bool) → nat_lt n (2 ^ 63) ≡ b → FitsSigned w64 (cast_signed w64 n)
    by true e = rw e (record { sfits = leb-true (suc n) (2 ^ 63) e })
    by false e = let high : 2 ^ 63 ≤ n = not_less n (2 ^ 63) e in rw e (record { sfits = omega (arith, high, lt) })

-- a flag, behind its kind's byte
abbrev flag_lone : ℕ → Value → Row (IsTagged IsValue value_fields 2) (λ y. drop 1 (value_fields y))
flag_lone tag v = lone (IsTagged IsValue value_fields 2) (λ y. drop 1 (value_fields y)) tag v

flag_row : Row IsValue value_fields
unfolding flag_at value_fields
flag_row = record {
  tag = 2;
  read = flag_at;
  faults = λ bytes offset are fault e.
      tagged_faults (flag_lone 0 (values.Flag false) ∷ flag_lone 1 (values.Flag true) ∷ []) (values.Flag false) (tt, refl) 0 [] refl bytes offset are fault e;
}

flag_encoded : (b : Bool) → flag_encoding b ≡ fields_encoding (flag_fields b)
flag_encoded true = refl
flag_encoded false = refl

value_encoded : (v : Value) → value_encoding v ≡ fields_encoding (value_fields v)
unfolding value_encoding value_fields
value_encoded (values.Text text) = ap (λ bs. 1 ∷ bs) (text_exact.encoded text)
value_encoded (values.Flag b) = ap (λ bs. 2 ∷ bs) (flag_encoded b)
value_encoded (values.Whole z) = ap (λ bs. 3 ∷ bs) (u64_exact.encoded (cast_unsigned w64 z))
value_encoded (values.Literal n) = ap (λ bs. 4 ∷ bs) (u32_exact.encoded n)

pub value_exact : Exact value_codes value_fields
unfolding value_at value_fields flag_row
value_exact = record {
  sample = values.Flag false;
  has = tt;
  encoded = value_encoded;
  faults = λ bytes offset are fault e.
      tagged_faults (
      known text_exact IsValue value_fields (λ t. values.Text t) 1 (λ t is. is) (λ t is. refl) ∷
      flag_row ∷
      known u64_exact IsValue value_fields (λ n. values.Whole (cast_signed w64 n)) 3 (λ n is. signed_fits n is)
      (λ n is. ap (λ m. Byte 3 ∷ long_fields m) (of_z-to_z w64 n is)) ∷
      known u32_exact IsValue value_fields (λ n. values.Literal n) 4 (λ n is. is) (λ n is. refl) ∷ []) (values.Flag false) tt 2
      (flag_fields false) refl bytes offset are fault e;
}

place_encoded : (offset : Place) → place_encoding offset ≡ fields_encoding (place_fields offset)
unfolding place_encoding place_fields
place_encoded Root = refl
place_encoded (Inside parent feature) = ap (λ bs. 1 ∷ bs) ((both_exact id_exact u32_exact).encoded (parent, feature))

pub place_exact : Exact place_codes place_fields
unfolding place_at place_fields
place_exact = record {
  sample = Root;
  has = tt;
  encoded = place_encoded;
  faults = λ bytes offset are fault e.
      tagged_faults (
      lone IsPlace place_fields 0 Root ∷
      known (both_exact id_exact u32_exact) IsPlace place_fields (λ t. Inside t.0 t.1) 1 (λ t is. is)
      (λ t is. refl) ∷ []) Root tt 0 [] refl bytes offset are fault e;
}
