-- What calls that read answer: what is due, or out of memory.
use Rattle.std.specs.Prelude.{◌≡◌, List, ◌++◌, Result, Ok, Err}
use Rattle.std.specs.Global.{Vec}
use Rattle.model_documents.specs.declared.doc.DocAttr.{DocAttr}
use Rattle.model_documents.specs.declared.draft.ElementDraft.{ElementDraft}
use Rattle.emfjson_drafts.specs.declared.held.Held.{Held}
use Rattle.model_documents.specs.declared.draft.Links.{Links}
use Rattle.model_documents.specs.declared.fault.ModelFault.{ModelFault}
use Rattle.model_documents.specs.declared.fault.ModelFault.TheVariants.{NotJson, NoClass, Abstract, NoFeature, BadValue, BadRef, DupId, BadId, Bound}
use Rattle.model_documents.specs.declared.fault.ModelFault.TheVariants.{WrongType, Memory}
use Rattle.model_documents.specs.Parts.{Part}
use Rattle.model_documents.specs.Reads.{Read}

-- the fault that reading names; out of memory says nothing of what is read
abbrev pub IsFault : {A : Type 0} → ModelFault → Read A → Type 0
IsFault Memory read = Unit {0}
IsFault NotJson read = read ≡ Err NotJson
IsFault NoClass read = read ≡ Err NoClass
IsFault Abstract read = read ≡ Err Abstract
IsFault NoFeature read = read ≡ Err NoFeature
IsFault BadValue read = read ≡ Err BadValue
IsFault BadRef read = read ≡ Err BadRef
IsFault DupId read = read ≡ Err DupId
IsFault BadId read = read ≡ Err BadId
IsFault Bound read = read ≡ Err Bound
IsFault WrongType read = read ≡ Err WrongType

-- the value that reading gives, or its fault
abbrev pub Gives : {A : Type 0} → Result A ModelFault → Read A → Type 0
Gives (Ok x) read = read ≡ Ok x
Gives (Err e) read = IsFault e read

-- the rows that reading gives stand after the old ones
abbrev pub Walks : {T : Type 0} → List ElementDraft → List ElementDraft → Result T ModelFault → Read (List ElementDraft) → Type 0
Walks old new (Ok x) read = (more : List ElementDraft) × (read ≡ Ok more) × (new ≡ old ++ more)
Walks old new (Err e) read = IsFault e read

-- what a key gives stands after the old attributes, references and rows
abbrev pub AppendsPart : {T : Type 0} → List DocAttr → List DocAttr → List Links → List Links → List ElementDraft → List ElementDraft → Result T ModelFault
    → Read Part → Type 0
AppendsPart attrs attrs' links links' rows rows' (Ok x) read =
    (more : Part) × (read ≡ Ok more) × (attrs' ≡ attrs ++ more.attrs) × (links' ≡ links ++ more.links) × (rows' ≡ rows ++ more.rows)
AppendsPart attrs attrs' links links' rows rows' (Err e) read = IsFault e read

-- all that the keys of an object give, with the rows after the old ones
abbrev pub GivesPart : List ElementDraft → List ElementDraft → Result Held ModelFault → Read Part → Type 0
GivesPart rows rows' (Ok held) read = (more : Part) × (read ≡ Ok more) × (held.attrs ≡ more.attrs) × (held.links ≡ more.links) × (rows' ≡ rows ++ more.rows)
GivesPart rows rows' (Err e) read = IsFault e read

-- the rows that reading gives
abbrev pub GivesDrafts : Result (Vec ElementDraft) ModelFault → Read (List ElementDraft) → Type 0
GivesDrafts (Ok rows) read = read ≡ Ok rows.items
GivesDrafts (Err e) read = IsFault e read
