-- Readings whose every fault is at the first field that doesn't fit.
use Rattle.std.proofs.Common.{◌≡◌, ℕ, suc, ◌+◌, ◌<◌, ◌≤◌, List, [], ◌∷◌, ◌++◌, length, take, Bool, true, false, cond, nat_lt, Result, Ok, Err, refl}
use Rattle.std.proofs.Common.{sym, ap, subst, ◌∙◌, append-nil, append_assoc, length-append, arith}
use Rattle.std.specs.Int.{Width, w32, w64, byte_len}
use Rattle.std.proofs.lemmas.Bool.{leb-true}
use Rattle.std.proofs.Math.Seq.{take-append-add}
use Rattle.byte_form.specs.declared.reader.ReadFault.TheVariants as read_faults
use Rattle.byte_form.specs.Rest.{Rest}
use Rattle.byte_form.specs.Fields.{byte_at, number_at, u32_encoding, u64_encoding}
use Rattle.byte_form.specs.Laws.{at, AreBytes, IsBelow}
use Rattle.op_form.specs.Formed.{IsU32, IsU64}
use Rattle.op_reading.specs.declared.fault.FormFault.{FormFault}
use Rattle.op_reading.specs.declared.fault.FormFault.TheVariants.{NotForm}
use Rattle.op_reading.specs.Reading.{Reading, field, u8_at}
use Rattle.op_reading.proofs.Codes.{Codes, nothing_codes, u8_codes, u32_codes, u64_codes}
use Rattle.form_laws.specs.Fields.{Field, Byte, Number, LongNumber, fields_encoding, field_end, IsSameUpTo}
use Rattle.form_laws.specs.Events.{number_fields, long_fields}
use Rattle.form_laws.proofs.Ends.{same_all, same_past, end_behind, fields_joined}

-- a fault is at a place of the bytes: the first fields of some value are what stands before it, and what is the same up to the end of a field there of the
-- next one's kind fails there too
pub record Fault {X : Type 0} (Is : X → Type 0) (fields : X → List Field) (read : Reading X) (bytes : List ℕ) (offset : ℕ) (fault : FormFault) : Type 0 where
  pub past : ℕ
  pub is : fault ≡ NotForm (offset + past)
  pub within : past ≤ length bytes
  pub value : X
  pub has : Is value
  pub front : List Field
  pub next : Field
  pub more : List Field
  pub parts : fields value ≡ front ++ (next ∷ more)
  pub before : fields_encoding front ≡ take past bytes
  pub fails : (other : List ℕ) → IsSameUpTo (field_end next past bytes) bytes other → read (at other offset) ≡ Err fault

-- a kind of values of which some has an encoding, that is its fields' bytes, and whose reading has all faults at such places
pub record Exact {X : Type 0} {Is : X → Type 0} {form : X → List ℕ} {read : Reading X} (codes : Codes Is form read) (fields : X → List Field) : Type 0 where
  pub sample : X
  pub has : Is sample
  pub encoded : (x : X) → form x ≡ fields_encoding (fields x)
  pub faults : (bytes : List ℕ) (offset : ℕ) → AreBytes bytes → (fault : FormFault) → read (at bytes offset) ≡ Err fault
      → Fault Is fields read bytes offset fault

pub err_is : {X E : Type 0} (a b : E) → ◌≡◌ {A = Result X E} (Err a) (Err b) → b ≡ a
err_is a b e = cc

-- a fault of what stands behind some fields is one of the whole
pub behind : {X Y : Type 0} {Is : X → Type 0} {fields : X → List Field} {read : Reading X} {IsY : Y → Type 0} {fields_y : Y → List Field} {read_y : Reading Y}
    (first : List Field) (front bytes : List ℕ) (offset there : ℕ) (fault : FormFault) → fields_encoding first ≡ front → there ≡ offset + length front
    → ((x : X) → Is x → (y : Y) × IsY y × (tail : List Field) × (fields_y y ≡ first ++ (fields x ++ tail)))
    → ((other : List ℕ) → read (at other there) ≡ Err fault → read_y (at (front ++ other) offset) ≡ Err fault)
    → Fault Is fields read bytes there fault → Fault IsY fields_y read_y (front ++ bytes) offset fault
behind {read_y} first front bytes offset there fault is_front is_there wrap on f =
    let w = wrap f.value f.has in
    record {
      past = length front + f.past;
      is = f.is ∙ ap (λ k. NotForm k) (omega (arith, is_there));
      within = omega (arith, f.within, length-append front bytes);
      value = w.0;
      has = w.1;
      front = first ++ f.front;
      next = f.next;
      more = f.more ++ w.2;
      parts = w.3 ∙ ap (λ fs. first ++ (fs ++ w.2)) f.parts ∙ ap (λ fs. first ++ fs) (append_assoc f.front (f.next ∷ f.more) w.2)
          ∙ sym (append_assoc first f.front (f.next ∷ (f.more ++ w.2)));
      before = fields_joined first f.front ∙ (λ i. is_front i ++ f.before i) ∙ sym (take-append-add front bytes f.past);
      fails = λ other same.
          let m = same_past front (field_end f.next f.past bytes) (field_end f.next (length front + f.past) (front ++ bytes)) bytes other
          (end_behind f.next front bytes f.past) same in
          ap (λ bs. read_y (at bs offset)) m.1 ∙ on m.0 (f.fails m.0 m.2);
    }

-- a fault at the first field
pub at_first : {X : Type 0} (Is : X → Type 0) (fields : X → List Field) (read : Reading X) (x : X) → Is x
    → (bytes : List ℕ) (offset : ℕ) (fault : FormFault) (next : Field) (more : List Field) → fields x ≡ next ∷ more → fault ≡ NotForm offset
    → ((other : List ℕ) → IsSameUpTo (field_end next 0 bytes) bytes other → read (at other offset) ≡ Err fault) → Fault Is fields read bytes offset fault
at_first Is fields read x is bytes offset fault next more parts e fails = record {
  past = 0;
  is = e ∙ ap (λ k. NotForm k) (omega arith);
  within = omega arith;
  value = x;
  has = is;
  front = [];
  next = next;
  more = more;
  parts = parts;
  before = refl;
  fails = fails;
}

pub nothing_exact : Exact nothing_codes (λ t. [])
nothing_exact = record { sample = tt; has = tt; encoded = λ x. refl; faults = λ bytes offset are fault e. cc }

-- a byte
byte_faults : (bytes : List ℕ) (offset : ℕ) → AreBytes bytes → (fault : FormFault) → u8_at (at bytes offset) ≡ Err fault
    → Fault (IsBelow 256) (λ n. Byte n ∷ []) u8_at bytes offset fault
unfolding byte_at
byte_faults [] offset are fault e =
    at_first (IsBelow 256) (λ n. Byte n ∷ []) u8_at 0 (omega arith) [] offset fault (Byte 0) [] refl (err_is (NotForm offset) fault e)
    (λ other same. ap (λ bs. u8_at (at bs offset)) (same_all 1 [] other (omega arith) same) ∙ e)
byte_faults (b ∷ bytes) offset are fault e = cc

pub u8_exact : Exact u8_codes (λ n. Byte n ∷ [])
u8_exact = record { sample = 0; has = omega arith; encoded = λ n. refl; faults = byte_faults }

-- a number is read but where it is cut off
cut : {X : Type 0} (b : Bool) (offset : ℕ) (r : X × Rest) (fault : FormFault) → field (cond b (Err (read_faults.Short offset)) (Ok r)) ≡ Err fault
    → (b ≡ true) × (fault ≡ NotForm offset)
cut true offset r fault e = (refl, err_is (NotForm offset) fault e)
cut false offset r fault e = cc

less : (a b : ℕ) → nat_lt a b ≡ true → a < b
less a b e = leb-true (suc a) b e

-- a number can't be read at its place, nor what is the same up to its end
pub number_fails : (w : Width) (kind : Field) → ((bytes : List ℕ) → field_end kind 0 bytes ≡ byte_len w) → (bytes : List ℕ) (offset : ℕ) (fault : FormFault)
    → field (number_at w (at bytes offset)) ≡ Err fault
    → (fault ≡ NotForm offset) × ((other : List ℕ) → IsSameUpTo (field_end kind 0 bytes) bytes other → field (number_at w (at other offset)) ≡ Err fault)
unfolding number_at
number_fails w kind ends bytes offset fault e =
    let k = cut (nat_lt (length bytes) (byte_len w)) offset _ fault e in
    let short = less (length bytes) (byte_len w) k.0 in (
      k.1,
      λ other same. ap (λ bs. field (number_at w (at bs offset)))
          (same_all (field_end kind 0 bytes) bytes other (subst (λ end. length bytes < end) (sym (ends bytes)) short) same) ∙ e,
    )

number_faults : (w : Width) (kind : ℕ → Field) → ((bytes : List ℕ) → field_end (kind 0) 0 bytes ≡ byte_len w) → (Is : ℕ → Type 0) → Is 0
    → (bytes : List ℕ) (offset : ℕ) (fault : FormFault) → field (number_at w (at bytes offset)) ≡ Err fault
    → Fault Is (λ n. kind n ∷ []) (λ r. field (number_at w r)) bytes offset fault
number_faults w kind ends Is is bytes offset fault e =
    let k = number_fails w (kind 0) ends bytes offset fault e in
    at_first Is (λ n. kind n ∷ []) (λ r. field (number_at w r)) 0 is bytes offset fault (kind 0) [] refl k.0 k.1

pub u32_exact : Exact u32_codes number_fields
u32_exact = record {
  sample = 0;
  has = omega arith;
  encoded = λ n. sym (append-nil (u32_encoding n));
  faults = λ bytes offset are fault e. number_faults w32 (λ n. Number n) (λ bs. refl) IsU32 (omega arith) bytes offset fault e;
}

pub u64_exact : Exact u64_codes long_fields
u64_exact = record {
  sample = 0;
  has = omega arith;
  encoded = λ n. sym (append-nil (u64_encoding n));
  faults = λ bytes offset are fault e. number_faults w64 (λ n. LongNumber n) (λ bs. refl) IsU64 (omega arith) bytes offset fault e;
}
