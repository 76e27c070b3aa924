-- What is recorded of an edit or of a document can be taken.
use Rattle.std.proofs.Common.{◌≡◌, ℕ, List, [], ◌∷◌, true, Option, Some, is_some, Ok, ap, subst}
use Rattle.ecore_meta.specs.Meta.{Meta}
use Rattle.ecore_meta.specs.Promised.{IsMetamodel}
use Rattle.model_state.specs.State.{State}
use Rattle.model_state.specs.Steps.{fold}
use Rattle.model_state.specs.declared.operation.Operation.{Operation}
use Rattle.model_state.specs.Packages.{steps_of, fold_package}
use Rattle.model_state.specs.Good.{Good, Sound}
use Rattle.edits.specs.declared.edit.Edit.{Edit}
use Rattle.edits.specs.declared.edit.Recorded.{Recorded}
use Rattle.edits.specs.Edits.{after_effect}
use Rattle.edits.specs.Answers.{steps_in}
use Rattle.edits.specs.Recording.{recorded}
use Rattle.edits.proofs.Recordings.{recording_leads}
use Rattle.model_documents.specs.declared.doc.DocRow.{DocRow}
use Rattle.model_documents.specs.Document.{doc_of}
use Rattle.model_documents.proofs.Fitting.{documents_fit}
use Rattle.import_laws.specs.After.{import_after}
use Rattle.import_laws.specs.Import.{Imports}
use Rattle.import_laws.proofs.ImportLead.{imports_lead}
use Rattle.version_states.proofs.Folding.{package_on}

-- ---- recordings
pub one_follows : (meta : Meta) (m n : State) (o : Operation) → fold meta m (steps_of o) ≡ Some n → is_some (fold_package meta m (o ∷ [])) ≡ true
one_follows meta m n o is = ap is_some (package_on meta m n o [] is)

-- what is recorded of an edit can be taken
pub recorded_follows : (meta : Meta) → Sound meta → (m : State) → Good meta m → (ws : ℕ) (edit : Edit) (r : Recorded) (o : Operation)
    → recorded meta m ws edit ≡ Ok r → r.operation ≡ Some o → is_some (fold_package meta m (o ∷ [])) ≡ true
recorded_follows meta sound m good ws edit r o is operation_is =
    let leads = recording_leads meta sound m good ws edit r is in
    one_follows meta m (after_effect meta m leads.effect) o
    (subst (λ (x : Option Operation). fold meta m (steps_in x) ≡ Some (after_effect meta m leads.effect)) operation_is leads.run)

-- what is recorded of a document that was read can be taken
pub imported_follows : (meta : Meta) → IsMetamodel meta → (m : State) → Good meta m → (ws : ℕ) (text : List ℕ) (rows : List DocRow) (o : Operation)
    → doc_of meta text ≡ Ok rows → Imports meta m ws rows (Ok (Some o))
    → is_some (fold_package meta m (o ∷ [])) ≡ true
imported_follows meta promised m good ws text rows o is imports =
    let leads = imports_lead meta promised.sound m good ws rows (documents_fit meta promised text rows is) imports.0 imports.1 (Some o) imports.2 in
    one_follows meta m (import_after m imports.0 rows) o leads.run
