-- Operations and packages: their faults.
use Rattle.std.proofs.Common.{◌≡◌, ℕ, ◌+◌, List, [], ◌∷◌, ◌++◌, Option, Some, None, Err, codes, refl, sym, ap, ◌∙◌, arith}
use Rattle.byte_form.specs.Fields.{◌>>=◌, byte_at}
use Rattle.byte_form.specs.Laws.{at}
use Rattle.model_state.specs.Names.{is_name}
use Rattle.model_state.specs.declared.operation.OpKind.{OpKind}
use Rattle.model_state.specs.declared.operation.OpKind.TheVariants as kinds
use Rattle.model_state.specs.declared.operation.Operation.{Operation}
use Rattle.model_state.specs.declared.operation.Operation.TheVariants.{Simple, Composite}
use Rattle.op_reading.specs.declared.fault.FormFault.{FormFault}
use Rattle.op_reading.specs.declared.fault.FormFault.TheVariants.{NotForm}
use Rattle.op_reading.specs.Reading.{u8_at}
use Rattle.op_reading.specs.Packages.{kind_of, kind_from, kind_at, name_at, simple_at, composite_at, operation_at, package_at}
use Rattle.op_form.specs.Packages.{operation_encoding, package_encoding}
use Rattle.op_form.specs.Formed.{IsOperation}
use Rattle.op_reading.proofs.PackageCodes.{kind_codes, name_codes, operation_codes, package_codes}
use Rattle.form_laws.specs.Fields.{Byte, fields_encoding}
use Rattle.form_laws.specs.Events.{text_fields, list_fields, step_fields, kind_fields, operation_fields, package_fields}
use Rattle.form_laws.proofs.Ends.{same_all, same_past}
use Rattle.form_laws.proofs.Faults.{Fault, Exact, err_is, at_first}
use Rattle.form_laws.proofs.Texts.{text_exact, tested_faults}
use Rattle.form_laws.proofs.Parts.{both_exact, list_exact, some_exact, known, tagged_faults}
use Rattle.form_laws.proofs.Steps.{step_exact}

-- a byte that is no kind's
kind_unknown : (n : ℕ) (bytes : List ℕ) (offset : ℕ) (fault : FormFault) → (kind : Option OpKind) → kind_of n ≡ kind
    → kind_from offset kind (at bytes (offset + 1)) ≡ Err fault
    → Fault (λ kind. Unit {0}) kind_fields (λ r. u8_at r >>= λ byte. kind_from r.offset (kind_of byte.0) byte.1) (n ∷ bytes) offset fault
unfolding byte_at
kind_unknown n bytes offset fault (Some kind) is e = cc
kind_unknown n bytes offset fault None none e =
    let is : fault ≡ NotForm offset = err_is (NotForm offset) fault e in
    at_first (λ kind. Unit {0}) kind_fields (λ r. u8_at r >>= λ byte. kind_from r.offset (kind_of byte.0) byte.1) kinds.Create tt
    (n ∷ bytes) offset fault (Byte 1) [] refl is
    (λ other same.
    let m = same_past (n ∷ []) 0 1 bytes other (omega arith) same in
    ap (λ bs. u8_at (at bs offset) >>= λ byte. kind_from offset (kind_of byte.0) byte.1) m.1 ∙ ap (λ kind. kind_from offset kind (at m.0 (offset + 1))) none
    ∙ ap Err (sym is))

kind_faults : (bytes : List ℕ) (offset : ℕ) (fault : FormFault) → (u8_at (at bytes offset) >>= λ byte. kind_from offset (kind_of byte.0) byte.1) ≡ Err fault
    → Fault (λ kind. Unit {0}) kind_fields (λ r. u8_at r >>= λ byte. kind_from r.offset (kind_of byte.0) byte.1) bytes offset fault
unfolding byte_at
kind_faults [] offset fault e =
    at_first (λ kind. Unit {0}) kind_fields (λ r. u8_at r >>= λ byte. kind_from r.offset (kind_of byte.0) byte.1) kinds.Create tt [] offset fault
    (Byte 1) [] refl
    (err_is (NotForm offset) fault e)
    (λ other same. ap (λ bs. u8_at (at bs offset) >>= λ byte. kind_from offset (kind_of byte.0) byte.1) (same_all 1 [] other (omega arith) same) ∙ e)
kind_faults (n ∷ bytes) offset fault e = kind_unknown n bytes offset fault (kind_of n) refl e

kind_exact : Exact kind_codes kind_fields
unfolding kind_at
kind_exact = record { sample = kinds.Create; has = tt; encoded = λ kind. refl; faults = λ bytes offset are fault e. kind_faults bytes offset fault e }

name_exact : Exact name_codes text_fields
unfolding name_at
name_exact = record {
  sample = codes "a";
  has = refl;
  encoded = text_exact.encoded;
  faults = λ bytes offset are fault e. tested_faults is_name (codes "a") refl bytes offset are fault e;
}

operation_encoded : (operation : Operation) → operation_encoding operation ≡ fields_encoding (operation_fields operation)
unfolding operation_encoding operation_fields
operation_encoded (Simple kind steps) = ap (λ bs. 1 ∷ bs) ((both_exact kind_exact (some_exact step_exact)).encoded (kind, steps))
operation_encoded (Composite name steps) = ap (λ bs. 2 ∷ bs) ((both_exact name_exact (some_exact step_exact)).encoded (name, steps))

operation_exact : Exact operation_codes operation_fields
unfolding operation_at operation_fields simple_at composite_at
operation_exact =
    let sample = both_exact kind_exact (some_exact step_exact) in
    record {
      sample = Simple sample.sample.0 sample.sample.1;
      has = sample.has;
      encoded = operation_encoded;
      faults = λ bytes offset are fault e.
          tagged_faults (
          known (both_exact kind_exact (some_exact step_exact)) IsOperation operation_fields (λ t. Simple t.0 t.1) 1 (λ t is. is) (λ t is. refl) ∷
          known (both_exact name_exact (some_exact step_exact)) IsOperation operation_fields (λ t. Composite t.0 t.1) 2 (λ t is. is) (λ t is. refl) ∷ [])
          (Simple sample.sample.0 sample.sample.1) sample.has 1
          (kind_fields sample.sample.0 ++ list_fields step_fields sample.sample.1) refl bytes offset are fault e;
    }

pub package_exact : Exact package_codes package_fields
unfolding package_at package_encoding package_fields
package_exact = let list = list_exact operation_exact in record { sample = list.sample; has = list.has; encoded = list.encoded; faults = list.faults }
