-- The elements that a text describes, or its first fault.
use Rattle.std.specs.Prelude.{ℕ, List, Option, None, Some, Err}
use Rattle.serde_json.specs.Data.{Data}
use Rattle.serde_json.specs.Read.{read}
use Rattle.ecore_meta.specs.Meta.{Meta}
use Rattle.model_documents.specs.declared.doc.DocRow.{DocRow}
use Rattle.model_documents.specs.declared.draft.ElementDraft.{ElementDraft}
use Rattle.model_documents.specs.declared.fault.ModelFault.TheVariants.{NotJson}
use Rattle.model_documents.specs.Reads.{Read, «then»}
use Rattle.model_documents.specs.Walk.{walked}
use Rattle.model_documents.specs.References.{given_by}
use Rattle.model_documents.specs.Completed.{rows_by}

-- the references of the elements are looked up, and then the lists are completed
abbrev pub resolved : Meta → List ElementDraft → Read (List DocRow)
resolved meta drafts = «then» (given_by meta drafts) (λ given. rows_by meta given drafts)

-- the elements that a document describes, or its first fault; None is a text that is no JSON
abbrev pub of_json : Meta → Option Data → Read (List DocRow)
of_json meta None = Err NotJson
of_json meta (Some d) = «then» (walked meta d) (resolved meta)

-- the elements that a text describes, or its first fault
unfoldable pub doc_of : Meta → List ℕ → Read (List DocRow)
doc_of meta text = of_json meta (read text)
