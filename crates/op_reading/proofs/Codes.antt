-- Readings that undo encodings, put together from those of their fields.
use Rattle.std.proofs.Common.{◌≡◌, ◌⊎◌, inl, inr, ℕ, zero, suc, ◌+◌, ◌<◌, ◌≤◌, List, [], ◌∷◌, ◌++◌, All, length, Bool, true, false, cond, nat_eq}
use Rattle.std.proofs.Common.{nat_lt, Some, None, Result, Ok, Err, refl, sym, ap, subst, ◌∙◌, append_assoc, append-nil, length-append, arith}
use Rattle.std.proofs.lemmas.Bool.{eqb-true, le-leb}
use Rattle.std.proofs.lemmas.List.{get_or-append-add}
use Rattle.std.proofs.lemmas.List.Elements.{All-cons}
use Rattle.byte_form.specs.declared.reader.ReadFault.{ReadFault}
use Rattle.byte_form.specs.declared.reader.ReadFault.TheVariants.{Spare}
use Rattle.byte_form.specs.Rest.{Rest}
use Rattle.byte_form.specs.Fields.{◌>>=◌, byte_at, text_encoding, ends_at, u32_encoding, u64_encoding}
use Rattle.byte_form.specs.Laws.{at, IsReadAgain, IsSpelledSo, StoodThere, AreBytes, IsBelow, IsShortText, byte_encoding}
use Rattle.byte_form.proofs.FieldLemmas.{reached, ok_is, stands, byte_again, byte_spelled, u32_again, u32_spelled, u64_again, u64_spelled, text_again}
use Rattle.byte_form.proofs.FieldLemmas.{text_spelled}
use Rattle.op_reading.specs.declared.fault.FormFault.{FormFault}
use Rattle.op_reading.specs.declared.fault.FormFault.TheVariants.{NotForm}
use Rattle.op_reading.specs.Reading.{Reading, field, made, ◌⊗◌, nothing_at, u8_at, u32_at, u64_at, any_text_at, option_at, option_of, items_at}
use Rattle.op_reading.specs.Reading.{list_at, some_at}
use Rattle.op_form.specs.Lists.{option_encoding, items_encoding, list_encoding}
use Rattle.op_reading.specs.Events.{whole_of}
use Rattle.op_reading.specs.Laws.{AreReadAgain, AreSpelledSo, MoreIsLeftOver}
use Rattle.op_form.specs.Formed.{IsU32, IsU64, IsGiven, IsList, IsSomeList}

-- values of a kind, their encoding and their reading
pub record Codes {X : Type 0} (Is : X → Type 0) (form : X → List ℕ) (read : Reading X) : Type 0 where
  pub again : IsReadAgain Is form read
  pub spelled : IsSpelledSo Is form read

-- what stands after bytes is bytes
pub are_bytes_behind : (xs ys : List ℕ) → AreBytes (xs ++ ys) → AreBytes ys
are_bytes_behind xs ys bytes i = subst (λ n. n < 256) (get_or-append-add xs ys i 0) (bytes (length xs + i))

-- either way of a choice
pub either : {X : Type 0} (b : Bool) (p q r : X) → cond b p q ≡ r → ((b ≡ true) × (p ≡ r)) ⊎ ((b ≡ false) × (q ≡ r))
either true p q r e = inl (refl, e)
either false p q r e = inr (refl, e)

-- what makes a value was read
pub made_back : {X Y : Type 0} (make : X → Y) (r : Result (X × Rest) FormFault) (y : Y) (after : Rest) → made make r ≡ Ok (y, after)
    → (x : X) × (r ≡ Ok (x, after)) × (make x ≡ y)
made_back make (Ok x) y after e =
    let pair = ok_is (make x.0, x.1) (y, after) e in
    (x.0, ap (λ p. Ok (x.0, p.1)) pair, ap (λ p. p.0) pair)
made_back make (Err f) y after e = cc

field_back : {X : Type 0} (r : Result (X × Rest) ReadFault) (x : X × Rest) → field r ≡ Ok x → r ≡ Ok x
field_back (Ok y) x e = ap (λ z. Ok z) (ok_is y x e)
field_back (Err f) x e = cc

-- a field that byte_form reads
pub of_field : {X : Type 0} {Is : X → Type 0} {form : X → List ℕ} {read : Rest → Result (X × Rest) ReadFault} → IsReadAgain Is form read
    → IsSpelledSo Is form read → Codes Is form (λ r. field (read r))
of_field {read} again spelled = record {
  again = λ x is rest offset. ap field (again x is rest offset);
  spelled = λ before bytes x after e. spelled before bytes x after (field_back (read before) (x, after) e);
}

-- a value of no fields, of which no byte is written
pub nothing_codes : Codes (λ (t : Unit {0}). Unit {0}) (λ t. []) nothing_at
nothing_codes = record {
  again = λ x is rest offset. ap (λ k. Ok (tt, at rest k)) (omega arith);
  spelled = λ before bytes x after e.
      stands (λ (t : Unit {0}). Unit {0}) (λ t. []) before before after tt x (ok_is (tt, before) (x, after) e)
      (record { is = tt; bytes = refl; offset = omega arith });
}

pub u8_codes : Codes (IsBelow 256) byte_encoding u8_at
u8_codes = of_field byte_again byte_spelled

pub u32_codes : Codes IsU32 u32_encoding u32_at
u32_codes = of_field u32_again u32_spelled

pub u64_codes : Codes IsU64 u64_encoding u64_at
u64_codes = of_field u64_again u64_spelled

pub text_codes : Codes IsShortText text_encoding any_text_at
text_codes = of_field text_again text_spelled

-- one after another
pub both : {A B : Type 0} {IsA : A → Type 0} {IsB : B → Type 0} {form_a : A → List ℕ} {form_b : B → List ℕ} {read_a : Reading A} {read_b : Reading B}
    → Codes IsA form_a read_a → Codes IsB form_b read_b → Codes (λ p. IsA p.0 × IsB p.1) (λ p. form_a p.0 ++ form_b p.1) (read_a ⊗ read_b)
both {A} {B} {IsA} {IsB} {form_a} {form_b} {read_a} {read_b} a b = record { again = again; spelled = spelled }
  where
    again : IsReadAgain (λ p. IsA p.0 × IsB p.1) (λ p. form_a p.0 ++ form_b p.1) (read_a ⊗ read_b)
    again p is rest offset =
        ap (λ bytes. (read_a ⊗ read_b) (at bytes offset)) (append_assoc (form_a p.0) (form_b p.1) rest)
        ∙ ap (λ r. r >>= λ x. made (λ y. (x.0, y)) (read_b x.1)) (a.again p.0 is.0 (form_b p.1 ++ rest) offset)
        ∙ ap (made (λ y. (p.0, y))) (b.again p.1 is.1 rest (offset + length (form_a p.0)))
        ∙ ap (λ k. Ok (p, at rest k)) (omega (arith, length-append (form_a p.0) (form_b p.1)))

    spelled : IsSpelledSo (λ p. IsA p.0 × IsB p.1) (λ p. form_a p.0 ++ form_b p.1) (read_a ⊗ read_b)
    spelled before bytes p after e =
        let k = reached (read_a before) (λ x. made (λ y. (x.0, y)) (read_b x.1)) (p, after) e in
        let m = made_back (λ y. (k.0.0, y)) (read_b k.0.1) p after k.2 in
        let s = a.spelled before bytes k.0.0 k.0.1 k.1 in
        let t = b.spelled k.0.1 (are_bytes_behind (form_a k.0.0) k.0.1.bytes (subst AreBytes s.bytes bytes)) m.0 after m.1 in
        subst (λ q. StoodThere (λ p. IsA p.0 × IsB p.1) (λ p. form_a p.0 ++ form_b p.1) before after q) m.2
        (record {
          is = (s.is, t.is);
          bytes = s.bytes ∙ ap (λ more. form_a k.0.0 ++ more) t.bytes ∙ sym (append_assoc (form_a k.0.0) (form_b m.0) after.bytes);
          offset = omega (arith, s.offset, t.offset, length-append (form_a k.0.0) (form_b m.0));
        })

-- a value after its kind's byte: read again
pub tagged_again : {X : Type 0} (form : X → List ℕ) (read : Rest → Result (X × Rest) FormFault) (tag : ℕ) (x : X) (rest : List ℕ) (offset : ℕ)
    → read (at (form x ++ rest) (offset + 1)) ≡ Ok (x, at rest ((offset + 1) + length (form x)))
    → read (at (form x ++ rest) (offset + 1)) ≡ Ok (x, at rest (offset + length (tag ∷ form x)))
tagged_again form read tag x rest offset e = e ∙ ap (λ k. Ok (x, at rest k)) (omega arith)

-- a kind of values that is made of others, after its kind's byte
module _ {X Y : Type 0} {Is : X → Type 0} {form : X → List ℕ} {read : Reading X} (codes : Codes Is form read) (make : X → Y) (tag : ℕ) where
  pub made_again : (x : X) → Is x → (rest : List ℕ) (offset : ℕ)
      → made make (read (at (form x ++ rest) (offset + 1))) ≡ Ok (make x, at rest (offset + length (tag ∷ form x)))
  made_again x is rest offset = ap (made make) (codes.again x is rest (offset + 1)) ∙ ap (λ k. Ok (make x, at rest k)) (omega arith)

  pub made_spelled : (IsY : Y → Type 0) (form_y : Y → List ℕ) → ((x : X) → Is x → IsY (make x)) → ((x : X) → Is x → form_y (make x) ≡ tag ∷ form x)
      → (before mid after : Rest) (y : Y)
      → AreBytes before.bytes → StoodThere (IsBelow 256) byte_encoding before mid tag → made make (read mid) ≡ Ok (y, after)
      → StoodThere IsY form_y before after y
  made_spelled IsY form_y is_made form_made before mid after y bytes t e =
      let m = made_back make (read mid) y after e in
      let s = codes.spelled mid (are_bytes_behind (tag ∷ []) mid.bytes (subst AreBytes t.bytes bytes)) m.0 after m.1 in
      subst (λ z. StoodThere IsY form_y before after z) m.2
      (record {
        is = is_made m.0 s.is;
        bytes = t.bytes ∙ ap (λ more. tag ∷ more) s.bytes ∙ ap (λ spelling. spelling ++ after.bytes) (sym (form_made m.0 s.is));
        offset = omega (arith, s.offset, t.offset, ap length (form_made m.0 s.is));
      })

-- a value of no fields, after its byte
pub lone_spelled : {Y : Type 0} (IsY : Y → Type 0) (form_y : Y → List ℕ) (tag : ℕ) (y : Y) → IsY y → form_y y ≡ tag ∷ [] → (before mid after : Rest) (z : Y)
    → StoodThere (IsBelow 256) byte_encoding before mid tag → ◌≡◌ {A = Result (Y × Rest) FormFault} (Ok (y, mid)) (Ok (z, after))
    → StoodThere IsY form_y before after z
lone_spelled IsY form_y tag y is form_is before mid after z t e =
    stands IsY form_y before mid after y z (ok_is (y, mid) (z, after) e)
    (record {
      is = is;
      bytes = t.bytes ∙ ap (λ spelling. spelling ++ mid.bytes) (sym form_is);
      offset =
          t.offset ∙ ap (λ spelling. before.offset + length spelling) (sym form_is);
    })

-- the byte that was read, where it is found to be a number
pub byte_stood : (before : Rest) (n : ℕ) (mid : Rest) → AreBytes before.bytes → u8_at before ≡ Ok (n, mid) → (tag : ℕ) → nat_eq n tag ≡ true
    → StoodThere (IsBelow 256) byte_encoding before mid tag
byte_stood before n mid bytes e tag is =
    subst (λ k. StoodThere (IsBelow 256) byte_encoding before mid k) (eqb-true n tag is) (u8_codes.spelled before bytes n mid e)

-- nothing is left where the end was read
ended : (bytes : List ℕ) (offset : ℕ) → ◌≡◌ {A = Result (Unit {0}) FormFault} (field (ends_at (at bytes offset))) (Ok tt) → bytes ≡ []
ended [] offset e = refl
ended (b ∷ bytes) offset e =
    let left : nat_lt 0 (length (b ∷ bytes)) ≡ true = le-leb 1 (length (b ∷ bytes)) (omega arith) in
    let fault = sym (ap (λ t. field (cond t (Err (Spare offset)) (Ok tt))) left) ∙ e in
    cc

module _ {X : Type 0} {Is : X → Type 0} {form : X → List ℕ} {read : Reading X} (codes : Codes Is form read) where
  option_again : IsReadAgain (IsGiven Is) (option_encoding form) (option_at read)
  unfolding option_at byte_at
  option_again None is rest offset = refl
  option_again (Some x) is rest offset = made_again codes (λ x. Some x) 1 x is rest offset

  option_spelled : IsSpelledSo (IsGiven Is) (option_encoding form) (option_at read)
  unfolding option_at
  option_spelled before bytes o after e =
      let k = reached (u8_at before) (option_of read before.offset) (o, after) e in
      elim (either (nat_eq k.0.0 0) (Ok (None, k.0.1)) _ (Ok (o, after)) k.2) [
        | inl h ↦ lone_spelled (IsGiven Is) (option_encoding form) 0 None tt refl before k.0.1 after o (byte_stood before k.0.0 k.0.1 bytes k.1 0 h.0) h.1
        | inr h ↦ elim (either (nat_eq k.0.0 1) (made (λ x. Some x) (read k.0.1)) (Err (NotForm before.offset)) (Ok (o, after)) h.1) [
          | inl i ↦ made_spelled codes (λ x. Some x) 1 (IsGiven Is) (option_encoding form) (λ x is. is) (λ x is. refl) before k.0.1 after o bytes
              (byte_stood before k.0.0 k.0.1 bytes k.1 1 i.0) i.1
          | inr i ↦ cc
        ]
      ]

  pub option_codes : Codes (IsGiven Is) (option_encoding form) (option_at read)
  option_codes = record { again = option_again; spelled = option_spelled }

  items_again : (xs : List X) → All Is xs → (rest : List ℕ) (offset : ℕ)
      → items_at read (length xs) (at (items_encoding form xs ++ rest) offset) ≡ Ok (xs, at rest (offset + length (items_encoding form xs)))
  items_again [] all rest offset = ap (λ k. Ok ([], at rest k)) (omega arith)
  items_again (x ∷ xs) all rest offset =
      ap (λ bytes. items_at read (suc (length xs)) (at bytes offset)) (append_assoc (form x) (items_encoding form xs) rest)
      ∙ ap (λ r. r >>= λ y. made (λ ys. y.0 ∷ ys) (items_at read (length xs) y.1))
      (codes.again x (all 0 x (omega arith)) (items_encoding form xs ++ rest) offset)
      ∙ ap (made (λ ys. x ∷ ys)) (items_again xs (λ k d lt. all (suc k) d (omega (arith, lt))) rest (offset + length (form x)))
      ∙ ap (λ k. Ok (x ∷ xs, at rest k)) (omega (arith, length-append (form x) (items_encoding form xs)))

  -- so many items stood there
  record ItemsStood (n : ℕ) (before after : Rest) (xs : List X) : Type 0 where
    count : length xs ≡ n
    all : All Is xs
    bytes : before.bytes ≡ items_encoding form xs ++ after.bytes
    offset : after.offset ≡ before.offset + length (items_encoding form xs)

  items_spelled : (n : ℕ) (before : Rest) → AreBytes before.bytes → (xs : List X) (after : Rest) → items_at read n before ≡ Ok (xs, after)
      → ItemsStood n before after xs
  items_spelled zero before bytes xs after e =
      let pair = ok_is ([], before) (xs, after) e in
      subst (λ p. ItemsStood 0 before p.1 p.0) pair (record { count = refl; all = λ k d lt. absurd (omega (arith, lt)); bytes = refl; offset = omega arith })
  items_spelled (suc n) before bytes xs after e =
      let k = reached (read before) (λ y. made (λ ys. y.0 ∷ ys) (items_at read n y.1)) (xs, after) e in
      let m = made_back (λ ys. k.0.0 ∷ ys) (items_at read n k.0.1) xs after k.2 in
      let s = codes.spelled before bytes k.0.0 k.0.1 k.1 in
      let t = items_spelled n k.0.1 (are_bytes_behind (form k.0.0) k.0.1.bytes (subst AreBytes s.bytes bytes)) m.0 after m.1 in
      subst (λ ys. ItemsStood (suc n) before after ys) m.2
      (record {
        count = ap suc t.count;
        all = All-cons Is k.0.0 m.0 s.is t.all;
        bytes = s.bytes ∙ ap (λ more. form k.0.0 ++ more) t.bytes ∙ sym (append_assoc (form k.0.0) (items_encoding form m.0) after.bytes);
        offset = omega (arith, s.offset, t.offset, length-append (form k.0.0) (items_encoding form m.0));
      })

  -- a list's count and its items, as both lists and lists that aren't empty have them
  counted_again : (xs : List X) → IsList Is xs → (rest : List ℕ) (offset : ℕ)
      → (u32_at (at (list_encoding form xs ++ rest) offset) ≡ Ok (length xs, at (items_encoding form xs ++ rest) (offset + length (u32_encoding (length xs)))))
      × (items_at read (length xs) (at (items_encoding form xs ++ rest) (offset + length (u32_encoding (length xs)))) ≡ Ok
      (xs, at rest (offset + length (list_encoding form xs))))
  counted_again xs is rest offset = (
    ap (λ bytes. u32_at (at bytes offset)) (append_assoc (u32_encoding (length xs)) (items_encoding form xs) rest)
        ∙ u32_codes.again (length xs) is.0 (items_encoding form xs ++ rest) offset,
    items_again xs is.1 rest (offset + length (u32_encoding (length xs)))
        ∙ ap (λ k. Ok (xs, at rest k)) (omega (arith, length-append (u32_encoding (length xs)) (items_encoding form xs))),
  )

  counted_spelled : (before mid after : Rest) (n : ℕ) (xs : List X) → AreBytes before.bytes → u32_at before ≡ Ok (n, mid) → items_at read n mid ≡ Ok (xs, after)
      → StoodThere (IsList Is) (list_encoding form) before after xs × (length xs ≡ n)
  counted_spelled before mid after n xs bytes c e =
      let s = u32_codes.spelled before bytes n mid c in
      let t = items_spelled n mid (are_bytes_behind (u32_encoding n) mid.bytes (subst AreBytes s.bytes bytes)) xs after e in (
        record {
          is = (omega (arith, t.count, s.is), t.all);
          bytes = s.bytes ∙ ap (λ more. u32_encoding n ++ more) t.bytes ∙ ap (λ m. u32_encoding m ++ (items_encoding form xs ++ after.bytes)) (sym t.count)
              ∙ sym (append_assoc (u32_encoding (length xs)) (items_encoding form xs) after.bytes);
          offset = omega (
            arith,
            s.offset,
            t.offset,
            length-append (u32_encoding (length xs)) (items_encoding form xs),
            ap (λ m. length (u32_encoding m)) t.count,
          );
        },
        t.count,
      )

  list_again : IsReadAgain (IsList Is) (list_encoding form) (list_at read)
  unfolding list_at
  list_again xs is rest offset =
      let k = counted_again xs is rest offset in
      ap (λ r. r >>= λ count. items_at read count.0 count.1) k.0 ∙ k.1

  list_spelled : IsSpelledSo (IsList Is) (list_encoding form) (list_at read)
  unfolding list_at
  list_spelled before bytes xs after e =
      let k = reached (u32_at before) (λ count. items_at read count.0 count.1) (xs, after) e in
      (counted_spelled before k.0.1 after k.0.0 xs bytes k.1 k.2).0

  pub list_codes : Codes (IsList Is) (list_encoding form) (list_at read)
  list_codes = record { again = list_again; spelled = list_spelled }

  some_count : (n : ℕ) → 1 ≤ n → nat_eq n 0 ≡ false
  some_count n some = grind (arith, some)

  count_some : (n : ℕ) → nat_eq n 0 ≡ false → 1 ≤ n
  count_some n e = grind (arith, e)

  some_again : IsReadAgain (IsSomeList Is) (list_encoding form) (some_at read)
  unfolding some_at
  some_again xs is rest offset =
      let k = counted_again xs (is.1, is.2) rest offset in
      ap (λ r. r >>= λ count. cond (nat_eq count.0 0) (Err (NotForm offset)) (items_at read count.0 count.1)) k.0
      ∙ ap (λ b. cond b (Err (NotForm offset))
      (items_at read (length xs) (at (items_encoding form xs ++ rest) (offset + length (u32_encoding (length xs)))))) (some_count (length xs) is.0)
      ∙ k.1

  some_spelled : IsSpelledSo (IsSomeList Is) (list_encoding form) (some_at read)
  unfolding some_at
  some_spelled before bytes xs after e =
      let k = reached (u32_at before) (λ count. cond (nat_eq count.0 0) (Err (NotForm before.offset)) (items_at read count.0 count.1)) (xs, after) e in
      elim (either (nat_eq k.0.0 0) (Err (NotForm before.offset)) (items_at read k.0.0 k.0.1) (Ok (xs, after)) k.2) [
        | inl h ↦ cc
        | inr h ↦
            let s = counted_spelled before k.0.1 after k.0.0 xs bytes k.1 h.1 in
            record { is = (omega (arith, s.1, count_some k.0.0 h.0), s.0.is.0, s.0.is.1); bytes = s.0.bytes; offset = s.0.offset }
      ]

  pub some_codes : Codes (IsSomeList Is) (list_encoding form) (some_at read)
  some_codes = record { again = some_again; spelled = some_spelled }

  -- all of the bytes
  pub whole_again : AreReadAgain Is form (whole_of read)
  unfolding whole_of
  whole_again x is =
      let r : read (at (form x) 0) ≡ Ok (x, at [] (0 + length (form x))) =
      ap (λ bytes. read (at bytes 0)) (sym (append-nil (form x))) ∙ codes.again x is [] 0 in
      rw r refl

  pub whole_spelled : AreSpelledSo Is form (whole_of read)
  unfolding whole_of
  whole_spelled bytes are x e =
      let k = reached (read (at bytes 0)) (λ x. field (ends_at x.1) >>= λ end. Ok x.0) x e in
      let l = reached (field (ends_at k.0.1)) (λ end. Ok k.0.0) x k.2 in
      let s = codes.spelled (at bytes 0) are k.0.0 k.0.1 k.1 in
      let same = ok_is k.0.0 x l.2 in
      (subst Is same s.is, s.bytes ∙ ap (λ more. form k.0.0 ++ more) (ended k.0.1.bytes k.0.1.offset l.1) ∙ append-nil (form k.0.0) ∙ ap form same)

  -- what is left over, and where it begins
  pub more_left : MoreIsLeftOver Is form (whole_of read)
  unfolding whole_of
  more_left x is byte more =
      let e = codes.again x is (byte ∷ more) 0 in
      ap (λ r. r >>= λ x. field (ends_at x.1) >>= λ end. Ok x.0) e ∙ spare byte more (0 + length (form x)) ∙ ap (λ n. Err (NotForm n)) (omega arith)
    where
      spare : (byte : ℕ) (more : List ℕ) (offset : ℕ)
          → ◌≡◌ {A = Result X FormFault} (field (ends_at (at (byte ∷ more) offset)) >>= λ end. Ok x) (Err (NotForm offset))
      spare byte more offset =
          let left : nat_lt 0 (length (byte ∷ more)) ≡ true = le-leb 1 (length (byte ∷ more)) (omega arith) in
          ap (λ t. field (cond t (Err (Spare offset)) (Ok tt)) >>= λ end. Ok x) left
