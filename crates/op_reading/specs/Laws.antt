-- The laws of packages and events.
use Rattle.std.specs.Prelude.{◌≡◌, ◌↔◌, IsTrue, List, ◌∷◌, ◌++◌, length, ℕ, Result, Ok, Err}
use Rattle.byte_form.specs.Laws.{AreBytes, NoneBeginsAnother}
use Rattle.op_form.specs.declared.event.Event.{Event}
use Rattle.op_reading.specs.declared.fault.FormFault.{FormFault}
use Rattle.op_reading.specs.declared.fault.FormFault.TheVariants.{NotForm}
use Rattle.op_reading.specs.Packages.{package_at}
use Rattle.op_form.specs.Packages.{package_encoding}
use Rattle.op_reading.specs.Events.{event_at, whole_of}
use Rattle.op_form.specs.Events.{event_encoding}
use Rattle.op_form.specs.Formed.{is_event, IsPackage, IsEvent}

-- the encoding of each value is read as it
abbrev pub AreReadAgain : {X : Type 0} → (X → Type 0) → (X → List ℕ) → (List ℕ → Result X FormFault) → Type 0
AreReadAgain Is form read = (x : _) → Is x → read (form x) ≡ Ok x

-- bytes that are read as a value are its encoding
abbrev pub AreSpelledSo : {X : Type 0} → (X → Type 0) → (X → List ℕ) → (List ℕ → Result X FormFault) → Type 0
AreSpelledSo Is form read = (bytes : List ℕ) → AreBytes bytes → (x : _) → read bytes ≡ Ok x → Is x × (bytes ≡ form x)

-- bytes after the encoding of a value are no part of it: the fault is at the first of them
abbrev pub MoreIsLeftOver : {X : Type 0} → (X → Type 0) → (X → List ℕ) → (List ℕ → Result X FormFault) → Type 0
MoreIsLeftOver Is form read = (x : _) → Is x → (byte : ℕ) (more : List ℕ) → read (form x ++ (byte ∷ more)) ≡ Err (NotForm (length (form x)))

-- the encoding of each package is read as it
abbrev pub PackagesAreReadAgain : Type 0
PackagesAreReadAgain = AreReadAgain IsPackage package_encoding (whole_of package_at)

-- bytes that are read as a package are its encoding
abbrev pub PackagesAreSpelledSo : Type 0
PackagesAreSpelledSo = AreSpelledSo IsPackage package_encoding (whole_of package_at)

-- where bytes stand after the encoding of a package, the fault is at the first of them
abbrev pub MoreThanPackagesIsLeftOver : Type 0
MoreThanPackagesIsLeftOver = MoreIsLeftOver IsPackage package_encoding (whole_of package_at)

-- no package's encoding begins that of another
abbrev pub NoPackageBeginsAnother : Type 0
NoPackageBeginsAnother = NoneBeginsAnother IsPackage package_encoding

-- the encoding of each event is read as it
abbrev pub EventsAreReadAgain : Type 0
EventsAreReadAgain = AreReadAgain IsEvent event_encoding (whole_of event_at)

-- bytes that are read as an event are its encoding
abbrev pub EventsAreSpelledSo : Type 0
EventsAreSpelledSo = AreSpelledSo IsEvent event_encoding (whole_of event_at)

-- where bytes stand after the encoding of an event, the fault is at the first of them
abbrev pub MoreThanEventsIsLeftOver : Type 0
MoreThanEventsIsLeftOver = MoreIsLeftOver IsEvent event_encoding (whole_of event_at)

-- no event's encoding begins that of another
abbrev pub NoEventBeginsAnother : Type 0
NoEventBeginsAnother = NoneBeginsAnother IsEvent event_encoding

-- the test of events holds of just those that have an encoding
abbrev pub EventsAreTested : Type 0
EventsAreTested = (e : Event) → (IsTrue (is_event e) ↔ IsEvent e)
