-- All of some bytes as one value: their faults.
use Rattle.std.proofs.Common.{◌≡◌, ℕ, ◌+◌, List, [], ◌∷◌, ◌++◌, length, take, true, cond, nat_lt, Result, Ok, Err, refl, sym, ap, subst, ◌∙◌}
use Rattle.std.proofs.Common.{append-nil, length-append, arith}
use Rattle.std.proofs.lemmas.Bool.{le-leb}
use Rattle.std.proofs.Math.Seq.{take-append_seam}
use Rattle.byte_form.specs.declared.reader.ReadFault.TheVariants as read_faults
use Rattle.byte_form.specs.Rest.{Rest}
use Rattle.byte_form.specs.Fields.{◌>>=◌, ends_at}
use Rattle.byte_form.specs.Laws.{at, AreBytes, StoodThere}
use Rattle.byte_form.proofs.FieldLemmas.{ok_is}
use Rattle.op_reading.specs.declared.fault.FormFault.{FormFault}
use Rattle.op_reading.specs.declared.fault.FormFault.TheVariants.{NotForm}
use Rattle.op_reading.specs.Reading.{Reading, field}
use Rattle.op_reading.specs.Events.{whole_of}
use Rattle.op_reading.proofs.Codes.{Codes}
use Rattle.form_laws.specs.Fields.{Field, IsSameUpTo}
use Rattle.form_laws.specs.Laws.{FitsUpTo, FaultsArePlaced}
use Rattle.form_laws.proofs.Ends.{same_behind, same_past}
use Rattle.form_laws.proofs.Faults.{Fault, Exact, err_is}

-- bytes that are left over after a value
left_over : {X : Type 0} (x : X) (bytes : List ℕ) (offset : ℕ) (fault : FormFault)
    → ◌≡◌ {A = Result X FormFault} (field (ends_at (at bytes offset)) >>= λ end. Ok x) (Err fault)
    → (b : ℕ) × (rest : List ℕ) × (bytes ≡ b ∷ rest) × (fault ≡ NotForm offset)
left_over x [] offset fault e = cc
left_over {X} x (b ∷ rest) offset fault e =
    let left : nat_lt 0 (length (b ∷ rest)) ≡ true = le-leb 1 (length (b ∷ rest)) (omega arith) in
    let spare = sym (ap (λ t. ◌>>=◌ {B = X} (field (cond t (Err (read_faults.Spare offset)) (Ok tt))) (λ end. Ok x)) left) ∙ e in
    (b, rest, refl, err_is (NotForm offset) fault spare)

module _ {X : Type 0} {Is : X → Type 0} {form : X → List ℕ} {read : Reading X} {codes : Codes Is form read} {fields : X → List Field}
    (exact : Exact codes fields) where
  Placed : List ℕ → FormFault → Type 0
  Placed bytes fault = (offset : ℕ) × (fault ≡ NotForm offset) × FitsUpTo Is form fields offset bytes

  -- an encoding is read to its end
  read_whole : (x : X) → Is x → read (at (form x) 0) ≡ Ok (x, at [] (0 + length (form x)))
  read_whole x is = ap (λ bytes. read (at bytes 0)) (sym (append-nil (form x))) ∙ codes.again x is [] 0

  in_a_field : (bytes : List ℕ) (f : FormFault) → Fault Is fields read bytes 0 f → Placed bytes f
  unfolding Placed
  in_a_field bytes f fault = (
    fault.past,
    fault.is ∙ ap (λ k. NotForm k) (omega arith),
    record {
      within = fault.within;
      value = fault.value;
      is = fault.has;
      front = fault.front;
      more = fault.next ∷ fault.more;
      parts = fault.parts;
      before = fault.before;
      there = λ x is same.
          let fails = fault.fails (form x) same in
          let reads = read_whole x is in
          cc;
    },
  )

  -- no encoding goes on behind another
  nothing_behind : (x y : X) → Is x → Is y → (b : ℕ) (more : List ℕ) → form y ≡ form x ++ (b ∷ more) → ⊥
  nothing_behind x y is_x is_y b more is =
      let both = sym (read_whole y is_y) ∙ ap (λ bytes. read (at bytes 0)) is ∙ codes.again x is_x (b ∷ more) 0 in
      let none : [] ≡ b ∷ more = ap (λ p. p.1.bytes) (ok_is (y, at [] (0 + length (form y))) (x, at (b ∷ more) (0 + length (form x))) both) in
      cc

  behind_value : (bytes : List ℕ) (fault : FormFault) (x : X) (mid : Rest) → StoodThere Is form (at bytes 0) mid x → (b : ℕ) (rest : List ℕ)
      → mid.bytes ≡ b ∷ rest → fault ≡ NotForm mid.offset
      → Placed bytes fault
  unfolding Placed
  behind_value bytes fault x mid stood b rest is_mid is =
      let here : bytes ≡ form x ++ (b ∷ rest) = stood.bytes ∙ ap (λ more. form x ++ more) is_mid in (
        length (form x),
        is ∙ ap (λ k. NotForm k) (stood.offset ∙ omega arith),
        record {
          within = omega (arith, ap length here, length-append (form x) (b ∷ rest));
          value = x;
          is = stood.is;
          front = fields x;
          more = [];
          parts = sym (append-nil (fields x));
          before = sym (exact.encoded x) ∙ sym (ap (take (length (form x))) here ∙ take-append_seam (form x) (b ∷ rest));
          there = λ y is_y same.
              let these = subst (λ bs. IsSameUpTo (length (form x) + 1) bs (form y)) here same in
              let behind = same_past (form x) 1 (length (form x) + 1) (b ∷ rest) (form y) refl these in
              let first = same_behind 0 b rest behind.0 behind.2 in
              nothing_behind x y stood.is is_y b first.0 (behind.1 ∙ ap (λ more. form x ++ more) first.1);
        },
      )

  whole_by : (bytes : List ℕ) → AreBytes bytes → (fault : FormFault) → (r : Result (X × Rest) FormFault) → read (at bytes 0) ≡ r
      → (r >>= λ x. field (ends_at x.1) >>= λ end. Ok x.0) ≡ Err fault → Placed bytes fault
  whole_by bytes are fault (Err f) read_is e =
      subst (Placed bytes) (sym (err_is f fault e)) (in_a_field bytes f (exact.faults bytes 0 are f read_is))
  whole_by bytes are fault (Ok x) read_is e =
      let left = left_over x.0 x.1.bytes x.1.offset fault e in
      behind_value bytes fault x.0 x.1 (codes.spelled (at bytes 0) are x.0 x.1 read_is) left.0 left.1 left.2 left.3

  pub whole_faults : FaultsArePlaced Is form fields (whole_of read)
  unfolding whole_of Placed
  whole_faults bytes are fault e = whole_by bytes are fault (read (at bytes 0)) refl e
