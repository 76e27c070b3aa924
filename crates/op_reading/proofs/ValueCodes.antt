-- Ids, values and places: read again, and spelled so.
use Rattle.std.proofs.Common.{◌≡◌, inl, inr, ℕ, zero, suc, ◌+◌, ◌<◌, ◌≤◌, ◌^◌, ℤ, pos, negsuc, FitsSigned, List, [], ◌∷◌, ◌++◌, length, Bool, ◌&&◌}
use Rattle.std.proofs.Common.{true, false, cond, nat_eq, nat_lt, nat_le, Ok, Err, refl, ap, subst, ◌∙◌, arith, IsAscii}
use Rattle.std.specs.Int.{w64, cast_signed, cast_unsigned}
use Rattle.std.proofs.lemmas.Int.{to_z-of_z, of_z-to_z}
use Rattle.std.proofs.lemmas.Bool.{leb-true}
use Rattle.std.proofs.lemmas.Str.{IsUtf8-from_ascii}
use Rattle.std.specs.List.{list_all}
use Rattle.byte_form.specs.Rest.{Rest}
use Rattle.byte_form.specs.Fields.{◌>>=◌, byte_at, text_encoding, u64_encoding}
use Rattle.byte_form.specs.Laws.{at, IsReadAgain, IsSpelledSo, StoodThere, AreBytes, IsShortText}
use Rattle.byte_form.proofs.FieldLemmas.{reached, ok_is, stands, not_less}
use Rattle.ecore_meta.specs.declared.meta.Value.{Value}
use Rattle.ecore_meta.specs.declared.meta.Value.TheVariants.{Text, Flag, Whole, Literal}
use Rattle.model_state.specs.Ident.{is_id, is_id_byte, begins_as_id}
use Rattle.model_state.specs.declared.step.Place.TheVariants.{Root, Inside}
use Rattle.op_reading.specs.declared.fault.FormFault.TheVariants.{NotForm}
use Rattle.op_reading.specs.Reading.{Reading, made, ◌⊗◌, u8_at, u32_at, u64_at, any_text_at}
use Rattle.op_reading.specs.Values.{tested_text, id_at, flag_of, flag_at, value_of, value_at, place_of, place_at}
use Rattle.op_form.specs.Values.{flag_encoding, value_encoding, place_encoding}
use Rattle.op_form.specs.Formed.{IsIdText, IsValue, IsPlace}
use Rattle.op_reading.proofs.Codes.{Codes, both, either, u32_codes, u64_codes, text_codes, made_again, made_spelled, lone_spelled, byte_stood, are_bytes_behind}

-- texts that pass a test, where these are short texts
module _ (test : List ℕ → Bool) (short : (text : List ℕ) → test text ≡ true → IsShortText text) (read : Reading (List ℕ)) where
  pub told_again : (text : List ℕ) → test text ≡ true → (rest : List ℕ) (offset : ℕ)
      → (any_text_at (at (text_encoding text ++ rest) offset) >>= tested_text test offset) ≡ Ok (text, at rest (offset + length (text_encoding text)))
  told_again text is rest offset =
      ap (λ r. r >>= tested_text test offset) (text_codes.again text (short text is) rest offset)
      ∙ ap (λ b. cond b (Ok (text, at rest (offset + length (text_encoding text)))) (Err (NotForm offset))) is

  pub told_spelled : (before : Rest) → AreBytes before.bytes → (text : List ℕ) (after : Rest)
      → (any_text_at before >>= tested_text test before.offset) ≡ Ok (text, after)
      → StoodThere (λ t. test t ≡ true) text_encoding before after text
  told_spelled before bytes text after e =
      let k = reached (any_text_at before) (tested_text test before.offset) (text, after) e in
      elim (either (test k.0.0) (Ok k.0) (Err (NotForm before.offset)) (Ok (text, after)) k.2) [
        | inl h ↦
            let s = text_codes.spelled before bytes k.0.0 k.0.1 k.1 in
            stands (λ t. test t ≡ true) text_encoding before k.0.1 after k.0.0 text (ok_is k.0 (text, after) h.1)
            (record { is = h.0; bytes = s.bytes; offset = s.offset })
        | inr h ↦ cc
      ]

pub and_both : (a b : Bool) → (a && b) ≡ true → (a ≡ true) × (b ≡ true)
and_both true b e = (refl, e)
and_both false b e = cc

low_byte : (b : ℕ) → is_id_byte b ≡ true → b < 128
low_byte b e = grind (arith, e)

ids_are_ascii : (bs : List ℕ) → list_all is_id_byte bs ≡ true → IsAscii bs
ids_are_ascii [] e i = omega arith
ids_are_ascii (b ∷ bs) e zero = low_byte b (and_both (is_id_byte b) (list_all is_id_byte bs) e).0
ids_are_ascii (b ∷ bs) e (suc i) = ids_are_ascii bs (and_both (is_id_byte b) (list_all is_id_byte bs) e).1 i

-- an id is a short text
id_short : (text : List ℕ) → is_id text ≡ true → IsShortText text
id_short text is =
    let k = and_both (nat_le 1 (length text) && nat_le (length text) 128 && list_all is_id_byte text) (begins_as_id text) is in
    let l = and_both (nat_le 1 (length text) && nat_le (length text) 128) (list_all is_id_byte text) k.0 in
    let m = and_both (nat_le 1 (length text)) (nat_le (length text) 128) l.0 in
    (omega (arith, leb-true (length text) 128 m.1), IsUtf8-from_ascii text (ids_are_ascii text l.1))

id_again : IsReadAgain IsIdText text_encoding id_at
unfolding id_at
id_again text is rest offset = told_again is_id id_short id_at text is rest offset

id_spelled : IsSpelledSo IsIdText text_encoding id_at
unfolding id_at
id_spelled before bytes text after e = told_spelled is_id id_short id_at before bytes text after e

pub id_codes : Codes IsIdText text_encoding id_at
id_codes = record { again = id_again; spelled = id_spelled }

unsigned_below : (z : ℤ) → FitsSigned w64 z → cast_unsigned w64 z < 2 ^ 64
unsigned_below (pos n) fits = omega (arith, fits.sfits)
unsigned_below (negsuc n) fits = omega arith

signed_fits : (n : ℕ) → n < 2 ^ 64 → FitsSigned w64 (cast_signed w64 n)
signed_fits n lt = by (nat_lt n (2 ^ 63)) refl
  where
    by : (b : Bool) → nat_lt n (2 ^ 63) ≡ b → FitsSigned w64 (cast_signed w64 n)
    by true e = rw e (record { sfits = leb-true (suc n) (2 ^ 63) e })
    by false e = let high : 2 ^ 63 ≤ n = not_less n (2 ^ 63) e in rw e (record { sfits = omega (arith, high, lt) })

flag_again : (b : Bool) (rest : List ℕ) (offset : ℕ) → flag_at (at (flag_encoding b ++ rest) offset) ≡ Ok (Flag b, at rest (offset + 1))
unfolding flag_at byte_at
flag_again true rest offset = refl
flag_again false rest offset = refl

flag_spelled : (before : Rest) → AreBytes before.bytes → (v : Value) (after : Rest) → flag_at before ≡ Ok (v, after)
    → (b : Bool) × (Flag b ≡ v) × StoodThere (λ b. Unit {0}) flag_encoding before after b
unfolding flag_at
flag_spelled before bytes v after e =
    let k = reached (u8_at before) (flag_of before.offset) (v, after) e in
    let stood = byte_stood before k.0.0 k.0.1 bytes k.1 in
    elim (either (nat_eq k.0.0 0) (Ok (Flag false, k.0.1)) _ (Ok (v, after)) k.2) [
      | inl h ↦
          let pair = ok_is (Flag false, k.0.1) (v, after) h.1 in
          let s = stood 0 h.0 in (
            false,
            ap (λ p. p.0) pair,
            subst (λ r. StoodThere (λ b. Unit {0}) flag_encoding before r false) (ap (λ p. p.1) pair)
                (record { is = tt; bytes = s.bytes; offset = s.offset }),
          )
      | inr h ↦ elim (either (nat_eq k.0.0 1) (Ok (Flag true, k.0.1)) (Err (NotForm before.offset)) (Ok (v, after)) h.1) [
        | inl i ↦
            let pair = ok_is (Flag true, k.0.1) (v, after) i.1 in
            let s = stood 1 i.0 in (
              true,
              ap (λ p. p.0) pair,
              subst (λ r. StoodThere (λ b. Unit {0}) flag_encoding before r true) (ap (λ p. p.1) pair)
                  (record { is = tt; bytes = s.bytes; offset = s.offset }),
            )
        | inr i ↦ cc
      ]
    ]

value_again : IsReadAgain IsValue value_encoding value_at
unfolding value_at value_encoding byte_at
value_again (Text t) is rest offset = made_again text_codes (λ t. Text t) 1 t is rest offset
value_again (Flag b) is rest offset = flag_again b rest (offset + 1) ∙ ap (λ k. Ok (Flag b, at rest k)) (flag_length b offset)
  where
    flag_length : (b : Bool) (offset : ℕ) → (offset + 1) + 1 ≡ offset + length (2 ∷ flag_encoding b)
    flag_length true offset = omega arith
    flag_length false offset = omega arith
value_again (Whole z) is rest offset =
    made_again u64_codes (λ n. Whole (cast_signed w64 n)) 3 (cast_unsigned w64 z) (unsigned_below z is) rest offset
    ∙ ap (λ y. Ok (Whole y, at rest (offset + length (3 ∷ u64_encoding (cast_unsigned w64 z))))) (to_z-of_z w64 z is)
value_again (Literal n) is rest offset = made_again u32_codes (λ n. Literal n) 4 n is rest offset

value_spelled : IsSpelledSo IsValue value_encoding value_at
unfolding value_at value_encoding
value_spelled before bytes v after e =
    let k = reached (u8_at before) (value_of before.offset) (v, after) e in
    let stood = byte_stood before k.0.0 k.0.1 bytes k.1 in
    elim (either (nat_eq k.0.0 1) (made (λ t. Text t) (any_text_at k.0.1)) _ (Ok (v, after)) k.2) [
      | inl h ↦ made_spelled text_codes (λ t. Text t) 1 IsValue value_encoding (λ t is. is) (λ t is. refl) before k.0.1 after v bytes (stood 1 h.0) h.1
      | inr h ↦ elim (either (nat_eq k.0.0 2) (flag_at k.0.1) _ (Ok (v, after)) h.1) [
        | inl i ↦
            let s = stood 2 i.0 in
            let f = flag_spelled k.0.1 (are_bytes_behind (2 ∷ []) k.0.1.bytes (subst AreBytes s.bytes bytes)) v after i.1 in
            subst (λ w. StoodThere IsValue value_encoding before after w) f.1
            (record { is = tt; bytes = s.bytes ∙ ap (λ more. 2 ∷ more) f.2.bytes; offset = omega (arith, s.offset, f.2.offset) })
        | inr i ↦ elim (either (nat_eq k.0.0 3) (made (λ n. Whole (cast_signed w64 n)) (u64_at k.0.1)) _ (Ok (v, after)) i.1) [
          | inl j ↦ made_spelled u64_codes (λ n. Whole (cast_signed w64 n)) 3 IsValue value_encoding (λ n is. signed_fits n is)
              (λ n is. ap (λ m. 3 ∷ u64_encoding m) (of_z-to_z w64 n is)) before k.0.1 after v bytes (stood 3 j.0) j.1
          | inr j ↦ elim (either (nat_eq k.0.0 4) (made (λ n. Literal n) (u32_at k.0.1)) (Err (NotForm before.offset)) (Ok (v, after)) j.1) [
            | inl l ↦ made_spelled u32_codes (λ n. Literal n) 4 IsValue value_encoding (λ n is. is) (λ n is. refl) before k.0.1 after v bytes (stood 4 l.0) l.1
            | inr l ↦ cc
          ]
        ]
      ]
    ]

pub value_codes : Codes IsValue value_encoding value_at
value_codes = record { again = value_again; spelled = value_spelled }

place_again : IsReadAgain IsPlace place_encoding place_at
unfolding place_at place_encoding byte_at
place_again Root is rest offset = refl
place_again (Inside parent feature) is rest offset = made_again (both id_codes u32_codes) (λ t. Inside t.0 t.1) 1 (parent, feature) is rest offset

place_spelled : IsSpelledSo IsPlace place_encoding place_at
unfolding place_at place_encoding
place_spelled before bytes p after e =
    let k = reached (u8_at before) (place_of before.offset) (p, after) e in
    let stood = byte_stood before k.0.0 k.0.1 bytes k.1 in
    elim (either (nat_eq k.0.0 0) (Ok (Root, k.0.1)) _ (Ok (p, after)) k.2) [
      | inl h ↦ lone_spelled IsPlace place_encoding 0 Root tt refl before k.0.1 after p (stood 0 h.0) h.1
      | inr h ↦ elim (either (nat_eq k.0.0 1) (made (λ t. Inside t.0 t.1) ((id_at ⊗ u32_at) k.0.1)) (Err (NotForm before.offset)) (Ok (p, after)) h.1) [
        | inl i ↦ made_spelled (both id_codes u32_codes) (λ t. Inside t.0 t.1) 1 IsPlace place_encoding (λ t is. is)
            (λ t is. refl) before k.0.1 after p bytes (stood 1 i.0) i.1
        | inr i ↦ cc
      ]
    ]

pub place_codes : Codes IsPlace place_encoding place_at
place_codes = record { again = place_again; spelled = place_spelled }
