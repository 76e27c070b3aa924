-- Texts, and texts that pass a test: their faults.
use Rattle.std.proofs.Common.{◌≡◌, ℕ, suc, ◌+◌, ◌<◌, ◌≤◌, ◌^◌, List, [], ◌++◌, length, take, Bool, true, false, cond, nat_lt, Result, Ok, Err, refl}
use Rattle.std.proofs.Common.{sym, ap, subst, ◌∙◌, append-nil, append_assoc, length-append, length-take, take_at, arith}
use Rattle.std.specs.Int.{w32, from_be_bytes, to_be_bytes}
use Rattle.std.specs.Str.{is_utf8}
use Rattle.std.proofs.lemmas.Bool.{leb-true, le-ltb}
use Rattle.std.proofs.lemmas.Str.{IsUtf8-nil}
use Rattle.byte_form.specs.declared.reader.ReadFault.{ReadFault}
use Rattle.byte_form.specs.declared.reader.ReadFault.TheVariants as read_faults
use Rattle.byte_form.specs.Rest.{Rest}
use Rattle.byte_form.specs.Fields.{◌>>=◌, number_at, text_at, past, u32_encoding, text_encoding}
use Rattle.byte_form.specs.Laws.{at, AreBytes, IsShortText}
use Rattle.byte_form.proofs.FieldLemmas.{not_fault, not_less, ok_is, wide32, u32_again, u32_spelled}
use Rattle.op_reading.specs.declared.fault.FormFault.{FormFault}
use Rattle.op_reading.specs.declared.fault.FormFault.TheVariants.{NotForm}
use Rattle.op_reading.specs.Reading.{field, any_text_at}
use Rattle.op_reading.specs.Values.{tested_text}
use Rattle.op_reading.proofs.Codes.{text_codes}
use Rattle.form_laws.specs.Fields.{Text, field_end, IsSameUpTo}
use Rattle.form_laws.specs.Events.{text_fields}
use Rattle.form_laws.proofs.Ends.{same_all, same_past}
use Rattle.form_laws.proofs.Faults.{Fault, Exact, err_is, at_first}

-- a text can't be read at its place, nor what is the same up to its end
pub record TextFails (bytes : List ℕ) (offset : ℕ) (fault : FormFault) : Type 0 where
  pub is : fault ≡ NotForm offset
  pub fails : (other : List ℕ) → IsSameUpTo (field_end (Text []) 0 bytes) bytes other → any_text_at (at other offset) ≡ Err fault

-- the number that was read is that of the first four bytes
number_is : (bytes : List ℕ) (offset n : ℕ) (mid : Rest) → number_at w32 (at bytes offset) ≡ Ok (n, mid) → from_be_bytes w32 (take 4 bytes) ≡ n
unfolding number_at
number_is bytes offset n mid e =
    let k = not_fault (nat_lt (length bytes) 4) (read_faults.Short offset) (Ok (from_be_bytes w32 (take 4 bytes), past (at bytes offset) 4)) (n, mid) e in
    ap (λ p. p.0) (ok_is (from_be_bytes w32 (take 4 bytes), past (at bytes offset) 4) (n, mid) k.1)

-- the number of the first four bytes, or that they are too few
abbrev number_of : ℕ → List ℕ → Bool → Result (ℕ × Rest) ReadFault
number_of offset bytes short = cond short (Err (read_faults.Short offset)) (Ok (from_be_bytes w32 (take 4 bytes), past (at bytes offset) 4))

number_fails : (bytes : List ℕ) (offset : ℕ) (f : ReadFault) → number_at w32 (at bytes offset) ≡ Err f → (length bytes < 4) × (f ≡ read_faults.Short offset)
unfolding number_at
number_fails bytes offset f e = by (nat_lt (length bytes) 4) refl e
  where
    by : (short : Bool) → nat_lt (length bytes) 4 ≡ short
        → number_of offset bytes short ≡ Err f
        → (length bytes < 4) × (f ≡ read_faults.Short offset)
    by true short e = (leb-true (suc (length bytes)) 4 short, err_is (read_faults.Short offset) f e)
    by false long e = cc

-- what stands behind a text's length: the text, or its fault
abbrev text_from : ℕ → ℕ × Rest → Result (List ℕ × Rest) ReadFault
text_from offset n =
    cond (nat_lt (length n.1.bytes) n.0) (Err (read_faults.Short offset))
    (cond (is_utf8 (take n.0 n.1.bytes)) (Ok (take n.0 n.1.bytes, past n.1 n.0)) (Err (read_faults.BadText offset)))

text_is : (r : Rest) → text_at r ≡ (number_at w32 r >>= text_from r.offset)
unfolding text_at
text_is r = refl

-- as many bytes as are the same
enough : (n : ℕ) (xs ys : List ℕ) → take n xs ≡ take n ys → n ≤ length ys → n ≤ length xs
enough n xs ys same le = omega (arith, ap length same, length-take n xs, length-take n ys, le)

pub number_length : (n : ℕ) → length (u32_encoding n) ≡ 4
unfolding u32_encoding
number_length n = wide32.len n

-- the length was read, and the text can't be
module _ (n : ℕ) (small : n < 2 ^ 32) (rest : List ℕ) (offset : ℕ) (fault : FormFault) where
  abbrev TextBehindFails : Type 0
  TextBehindFails = (fault ≡ NotForm offset) × ((bytes other : List ℕ) → bytes ≡ u32_encoding n ++ rest → from_be_bytes w32 (take 4 bytes) ≡ n
      → IsSameUpTo (field_end (Text []) 0 bytes) bytes other → any_text_at (at other offset) ≡ Err fault)

  abbrev behind_length : List ℕ → Bool → Bool → Result (List ℕ × Rest) FormFault
  behind_length more short utf8 =
      field (cond short (Err (read_faults.Short offset))
      (cond utf8 (Ok (take n more, past (at more (offset + length (u32_encoding n))) n)) (Err (read_faults.BadText offset))))

  length_read : (more : List ℕ) → any_text_at (at (u32_encoding n ++ more) offset) ≡ behind_length more (nat_lt (length more) n) (is_utf8 (take n more))
  length_read more = ap field (text_is (at (u32_encoding n ++ more) offset)) ∙ ap (λ r. field (r >>= text_from offset)) (u32_again n small more offset)

  -- as many bytes that are no UTF-8
  no_utf8 : (more : List ℕ) → take n more ≡ take n rest → n ≤ length rest → is_utf8 (take n rest) ≡ false
      → any_text_at (at (u32_encoding n ++ more) offset) ≡ Err (NotForm offset)
  no_utf8 more alike long utf8 =
      let short : nat_lt (length more) n ≡ false = le-ltb _ _ (enough n more rest alike long) in
      length_read more ∙ ap (λ b. behind_length more b (is_utf8 (take n more))) short ∙ ap (behind_length more false) (ap is_utf8 alike ∙ utf8)

  by_utf8 : nat_lt (length rest) n ≡ false → (utf8 : Bool) → is_utf8 (take n rest) ≡ utf8 → behind_length rest false utf8 ≡ Err fault → TextBehindFails
  by_utf8 long true utf8 e = cc
  by_utf8 long false utf8 e =
      let is : fault ≡ NotForm offset = err_is (NotForm offset) fault e in (
        is,
        λ bytes other are_these is_n same.
            let four = number_length n in
            let end : field_end (Text []) 0 bytes ≡ length (u32_encoding n) + n = ap (λ k. 0 + 4 + k) is_n ∙ omega (arith, four) in
            let these : IsSameUpTo (field_end (Text []) 0 bytes) (u32_encoding n ++ rest) other
            = subst (λ bs. IsSameUpTo (field_end (Text []) 0 bytes) bs other) are_these same in
            let m = same_past (u32_encoding n) n (field_end (Text []) 0 bytes) rest other end these in
            let fails = no_utf8 m.0 m.2.before (not_less (length rest) n long) utf8 in
            ap (λ bs. any_text_at (at bs offset)) m.1 ∙ (fails ∙ ap Err (sym is)),
      )

  by_length : (short : Bool) → nat_lt (length rest) n ≡ short → behind_length rest short (is_utf8 (take n rest)) ≡ Err fault → TextBehindFails
  by_length true short e =
      let is : fault ≡ NotForm offset = err_is (NotForm offset) fault e in (
        is,
        λ bytes other are_these is_n same.
            let lt : length rest < n = leb-true (suc (length rest)) n short in
            let end : field_end (Text []) 0 bytes ≡ 4 + n = ap (λ k. 0 + 4 + k) is_n in
            let four = number_length n in
            let long : length bytes ≡ length (u32_encoding n) + length rest = ap length are_these ∙ length-append (u32_encoding n) rest in
            let cut_off : length bytes < field_end (Text []) 0 bytes = omega (arith, end, long, four, lt) in
            ap (λ bs. any_text_at (at bs offset)) (same_all (field_end (Text []) 0 bytes) bytes other cut_off same ∙ are_these) ∙ length_read rest
            ∙ ap (λ b. behind_length rest b (is_utf8 (take n rest))) short ∙ ap Err (sym is),
      )
  by_length false long e = by_utf8 long (is_utf8 (take n rest)) refl e

pub text_fails : (bytes : List ℕ) (offset : ℕ) → AreBytes bytes → (fault : FormFault) → any_text_at (at bytes offset) ≡ Err fault → TextFails bytes offset fault
text_fails bytes offset are fault e = by (number_at w32 (at bytes offset)) refl (sym (ap field (text_is (at bytes offset))) ∙ e)
  where
    by : (r : Result (ℕ × Rest) ReadFault) → number_at w32 (at bytes offset) ≡ r → field (r >>= text_from offset) ≡ Err fault → TextFails bytes offset fault
    by (Err f) number e_from =
        let k = number_fails bytes offset f number in
        let is : f ≡ read_faults.Short offset = k.1 in
        let short : length bytes < field_end (Text []) 0 bytes = omega (arith, k.0) in
        record {
          is = err_is (NotForm offset) fault (sym (ap (λ g. field {X = List ℕ × Rest} (Err g)) is) ∙ e_from);
          fails = λ other same. ap (λ bs. any_text_at (at bs offset)) (same_all (field_end (Text []) 0 bytes) bytes other short same) ∙ e;
        }
    by (Ok n) number e_from =
        let s = u32_spelled (at bytes offset) are n.0 n.1 number in
        let e_there : behind_length n.0 s.is n.1.bytes offset fault n.1.bytes (nat_lt (length n.1.bytes) n.0) (is_utf8 (take n.0 n.1.bytes)) ≡ Err fault
        = ap (λ k. field (text_from offset (n.0, at n.1.bytes k))) (sym s.offset) ∙ e_from in
        let k = by_length n.0 s.is n.1.bytes offset fault (nat_lt (length n.1.bytes) n.0) refl e_there in
        record { is = k.0; fails = λ other same. k.1 bytes other s.bytes (number_is bytes offset n.0 n.1 number) same }

no_text : IsShortText []
no_text = (omega arith, IsUtf8-nil)

text_faults : (bytes : List ℕ) (offset : ℕ) → AreBytes bytes → (fault : FormFault) → any_text_at (at bytes offset) ≡ Err fault
    → Fault IsShortText text_fields any_text_at bytes offset fault
text_faults bytes offset are fault e =
    let t = text_fails bytes offset are fault e in
    at_first IsShortText text_fields any_text_at [] no_text bytes offset fault (Text []) [] refl t.is t.fails

pub text_exact : Exact text_codes text_fields
text_exact = record { sample = []; has = no_text; encoded = λ text. sym (append-nil (text_encoding text)); faults = text_faults }

-- where a text ends that was read
text_end : (text rest : List ℕ) → IsShortText text → field_end (Text []) 0 (text_encoding text ++ rest) ≡ length (text_encoding text) + 0
unfolding text_encoding u32_encoding
text_end text rest is =
    let front : List ℕ = to_be_bytes w32 (length text) in
    let four : length front ≡ 4 = wide32.len (length text) in
    let first : take 4 ((front ++ text) ++ rest) ≡ front = ap (take 4) (append_assoc front text rest) ∙ take_at front (text ++ rest) 4 four in
    ap (λ bs. 0 + 4 + from_be_bytes w32 bs) first ∙ ap (λ k. 0 + 4 + k) (wide32.again (length text) is.0) ∙ omega (arith, length-append front text, four)

-- a text that passes a test, where these are short texts
module _ (test : List ℕ → Bool) (sample : List ℕ) (has : test sample ≡ true) where
  abbrev TestedFault : List ℕ → ℕ → FormFault → Type 0
  TestedFault bytes offset fault = Fault (λ text. test text ≡ true) text_fields (λ r. any_text_at r >>= tested_text test r.offset) bytes offset fault

  -- a text that fails the test, whatever stands behind it
  told : (text more : List ℕ) (offset : ℕ) → IsShortText text → test text ≡ false
      → (any_text_at (at (text_encoding text ++ more) offset) >>= tested_text test offset) ≡ Err (NotForm offset)
  told text more offset is failed =
      ap (λ r. r >>= tested_text test offset) (text_codes.again text is more offset)
      ∙ ap (λ b. cond {A = Result (List ℕ × Rest) FormFault} b (Ok (text, at more (offset + length (text_encoding text)))) (Err (NotForm offset))) failed

  told_fault : (bytes : List ℕ) (offset : ℕ) → AreBytes bytes → (fault : FormFault) (text : List ℕ) (mid : Rest)
      → any_text_at (at bytes offset) ≡ Ok (text, mid)
      → (b : Bool) → test text ≡ b → cond {A = Result (List ℕ × Rest) FormFault} b (Ok (text, mid)) (Err (NotForm offset)) ≡ Err fault
      → TestedFault bytes offset fault
  told_fault bytes offset are fault text mid read true passes e = cc
  told_fault bytes offset are fault text mid read false failed e =
      let is = err_is (NotForm offset) fault e in
      let s = text_codes.spelled (at bytes offset) are text mid read in
      at_first (λ text. test text ≡ true) text_fields (λ r. any_text_at r >>= tested_text test r.offset) sample has bytes offset fault (Text sample) [] refl is
      (λ other same.
      let whole : IsSameUpTo (field_end (Text []) 0 (text_encoding text ++ mid.bytes)) (text_encoding text ++ mid.bytes) other
      = subst (λ bs. IsSameUpTo (field_end (Text []) 0 bs) bs other) s.bytes same in
      let m = same_past (text_encoding text) 0 (field_end (Text []) 0 (text_encoding text ++ mid.bytes)) mid.bytes other (text_end text mid.bytes s.is) whole in
      let fails = told text m.0 offset s.is failed in
      ap (λ bs. any_text_at (at bs offset) >>= tested_text test offset) m.1 ∙ (fails ∙ ap Err (sym is)))

  tested_by : (bytes : List ℕ) (offset : ℕ) → AreBytes bytes → (fault : FormFault) → (r : Result (List ℕ × Rest) FormFault) → any_text_at (at bytes offset) ≡ r
      → (r >>= tested_text test offset) ≡ Err fault → TestedFault bytes offset fault
  tested_by bytes offset are fault (Err f) read e =
      let same : fault ≡ f = err_is f fault e in
      let t = text_fails bytes offset are f read in
      at_first (λ text. test text ≡ true) text_fields (λ r. any_text_at r >>= tested_text test r.offset) sample has bytes offset fault (Text sample) [] refl
      (same ∙ t.is)
      (λ other alike. ap (λ r. r >>= tested_text test offset) (t.fails other alike) ∙ ap Err (sym same))
  tested_by bytes offset are fault (Ok text) read e = told_fault bytes offset are fault text.0 text.1 read (test text.0) refl e

  pub tested_faults : (bytes : List ℕ) (offset : ℕ) → AreBytes bytes → (fault : FormFault)
      → (any_text_at (at bytes offset) >>= tested_text test offset) ≡ Err fault
      → Fault (λ text. test text ≡ true) text_fields (λ r. any_text_at r >>= tested_text test r.offset) bytes offset fault
  tested_faults bytes offset are fault e = tested_by bytes offset are fault (any_text_at (at bytes offset)) refl e
