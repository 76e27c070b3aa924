-- What a call gives, in the words of reading.
use Rattle.std.specs.Prelude.{◌≡◌, Result, Ok, Err}
use Rattle.byte_form.specs.Rest.{Rest}
use Rattle.op_reading.specs.declared.fault.FormFault.{FormFault}
use Rattle.op_reading.specs.declared.fault.FormFault.TheVariants.{NotForm, Memory}

-- the fault is that of reading; out of memory says nothing of the bytes
abbrev pub IsFault : {X : Type 0} → FormFault → Result X FormFault → Type 0
IsFault Memory read = Unit {0}
IsFault (NotForm at) read = read ≡ Err (NotForm at)

-- a call gave what reading gives, and stands after it
abbrev pub Gives : {X : Type 0} → Rest → Result X FormFault → Result (X × Rest) FormFault → Type 0
Gives new (Ok x) read = read ≡ Ok (x, new)
Gives new (Err e) read = IsFault e read

-- a call gave what all of the bytes are
abbrev pub GivesWhole : {X : Type 0} → Result X FormFault → Result X FormFault → Type 0
GivesWhole (Ok x) read = read ≡ Ok x
GivesWhole (Err e) read = IsFault e read
