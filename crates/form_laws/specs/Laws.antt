-- The offset at which bytes are refused that are no encoding.
use Rattle.std.specs.Prelude.{◌≡◌, ℕ, ◌≤◌, List, ◌++◌, length, take, Result, Err}
use Rattle.byte_form.specs.Laws.{AreBytes}
use Rattle.op_form.specs.Packages.{package_encoding}
use Rattle.op_form.specs.Events.{event_encoding}
use Rattle.op_form.specs.Formed.{IsPackage, IsEvent}
use Rattle.op_reading.specs.declared.fault.FormFault.{FormFault}
use Rattle.op_reading.specs.declared.fault.FormFault.TheVariants.{NotForm}
use Rattle.op_reading.specs.Packages.{package_at}
use Rattle.op_reading.specs.Events.{event_at, whole_of}
use Rattle.form_laws.specs.Fields.{Field, fields_encoding, first_end, IsSameUpTo}
use Rattle.form_laws.specs.Events.{package_fields, event_fields}

-- the bytes before the offset are the first fields of some value; no encoding is the same up to the end of a field there, of the next one's kind
pub record FitsUpTo {X : Type 0} (Is : X → Type 0) (form : X → List ℕ) (fields : X → List Field) (offset : ℕ) (bytes : List ℕ) : Type 0 where
  pub within : offset ≤ length bytes
  pub value : X
  pub is : Is value
  pub front : List Field
  pub more : List Field
  pub parts : fields value ≡ front ++ more
  pub before : fields_encoding front ≡ take offset bytes
  pub there : (x : X) → Is x → IsSameUpTo (first_end more offset bytes) bytes (form x) → ⊥

-- an encoding is the bytes of the fields, one after another
abbrev pub FieldsAreEncoded : {X : Type 0} → (X → List ℕ) → (X → List Field) → Type 0
FieldsAreEncoded form fields = (x : _) → form x ≡ fields_encoding (fields x)

-- each fault of reading is at such an offset
abbrev pub FaultsArePlaced : {X : Type 0} → (X → Type 0) → (X → List ℕ) → (X → List Field) → (List ℕ → Result X FormFault) → Type 0
FaultsArePlaced Is form fields read =
    (bytes : List ℕ) → AreBytes bytes → (fault : FormFault) → read bytes ≡ Err fault
    → (offset : ℕ) × (fault ≡ NotForm offset) × FitsUpTo Is form fields offset bytes

-- the encoding of each package is the bytes of its fields
abbrev pub PackagesAreFields : Type 0
PackagesAreFields = FieldsAreEncoded package_encoding package_fields

-- each fault of reading a package is at the first field that doesn't fit
abbrev pub FaultsOfPackagesArePlaced : Type 0
FaultsOfPackagesArePlaced = FaultsArePlaced IsPackage package_encoding package_fields (whole_of package_at)

-- the encoding of each event is the bytes of its fields
abbrev pub EventsAreFields : Type 0
EventsAreFields = FieldsAreEncoded event_encoding event_fields

-- each fault of reading an event is at the first field that doesn't fit
abbrev pub FaultsOfEventsArePlaced : Type 0
FaultsOfEventsArePlaced = FaultsArePlaced IsEvent event_encoding event_fields (whole_of event_at)
