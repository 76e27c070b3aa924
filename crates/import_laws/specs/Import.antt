-- What is recorded of a document that is brought in.
use Rattle.std.specs.Prelude.{◌≡◌, ◌⊎◌, ℕ, true, List, [], ◌∷◌, ◌++◌, Option, None, Some, Result, Ok, Err, codes, if◌then◌else◌}
use Rattle.ecore_meta.specs.Meta.{Meta}
use Rattle.model_state.specs.declared.operation.Operation.{Operation}
use Rattle.model_state.specs.declared.operation.Operation.TheVariants.{Composite}
use Rattle.model_state.specs.declared.step.Place.TheVariants.{Root}
use Rattle.model_state.specs.declared.step.Step.{Step}
use Rattle.model_state.specs.Keys.{IdBytes}
use Rattle.model_state.specs.Listing.{children}
use Rattle.model_state.specs.State.{State}
use Rattle.edit_steps.specs.declared.fault.EditFault.{EditFault}
use Rattle.edit_steps.specs.declared.fault.EditFault.TheVariants.{IdInUse, Memory}
use Rattle.model_documents.specs.declared.doc.DocRow.{DocRow}
use Rattle.import_laws.specs.Names.{AreNames, any_in_use, names_of}
use Rattle.import_laws.specs.News.{news_made}
use Rattle.import_laws.specs.Values.{values_made}
use Rattle.import_laws.specs.Links.{links_made}

-- the steps and then more, or why there are none
abbrev pub and_then : Result (List Step) EditFault → List Step → Result (List Step) EditFault
and_then (Err fault) more = Err fault
and_then (Ok steps) more = Ok (steps ++ more)

-- the elements are created, then they get their values, then they are linked
abbrev pub steps_made : Meta → State → List IdBytes → List DocRow → Result (List Step) EditFault
steps_made meta m names rows = and_then (news_made (children m.place m.prank Root) names rows) (values_made meta names rows ++ links_made meta names rows)

-- one composite of the name `import`, none where there is no element
abbrev pub composite : List DocRow → List Step → Option Operation
composite [] steps = None
composite (r ∷ rows) steps = Some (Composite (codes "import") steps)

-- what is recorded of the steps, or why there are none
abbrev pub of_steps : List DocRow → Result (List Step) EditFault → Result (Option Operation) EditFault
of_steps rows (Err fault) = Err fault
of_steps rows (Ok steps) = Ok (composite rows steps)

-- no id that the document gives is live
abbrev pub import_of : Meta → State → List IdBytes → List DocRow → Result (Option Operation) EditFault
import_of meta m names rows = if any_in_use m rows then Err IdInUse else of_steps rows (steps_made meta m names rows)

-- the answer is what is recorded of the document with the ids that its elements get, or out of memory, or why it is refused
abbrev pub Imports : Meta → State → ℕ → List DocRow → Result (Option Operation) EditFault → Type 0
Imports meta m ws rows (Ok operation) = (names : List IdBytes) × AreNames m rows ws 1 rows names × (import_of meta m names rows ≡ Ok operation)
Imports meta m ws rows (Err fault) =
    (fault ≡ Memory) ⊎ ((any_in_use m rows ≡ true) × (fault ≡ IdInUse))
    ⊎ ((names : List IdBytes) × AreNames m rows ws 1 rows names × (import_of meta m names rows ≡ Err fault))

-- what is recorded of a document in a workspace of that number, or why it is refused
abbrev pub recorded_import : Meta → State → ℕ → List DocRow → Result (Option Operation) EditFault
recorded_import meta m ws rows = import_of meta m (names_of m ws rows) rows
