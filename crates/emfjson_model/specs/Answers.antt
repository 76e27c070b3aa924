-- What the reading of a text answers: the elements that are due, or the fault.
use Rattle.std.specs.Prelude.{◌≡◌, List, Result, Ok, Err}
use Rattle.model_documents.specs.declared.doc.Doc.{Doc}
use Rattle.model_documents.specs.declared.doc.DocRow.{DocRow}
use Rattle.model_documents.specs.declared.fault.ModelFault.{ModelFault}
use Rattle.model_documents.specs.Reads.{Read}
use Rattle.emfjson_drafts.specs.Answers.{IsFault}

-- the elements of the document that reading gives, or its fault
abbrev pub GivesDoc : Result Doc ModelFault → Read (List DocRow) → Type 0
GivesDoc (Ok doc) read = read ≡ Ok doc.rows
GivesDoc (Err e) read = IsFault e read
