-- What is recorded of an edit and of a document can be taken.
use Rattle.std.proofs.Common.{◌≡◌, ℕ, List, [], ◌∷◌, true, Option, Some, is_some, Ok, ap, subst, ◌∙◌, append-nil}
use Rattle.ecore_meta.specs.Meta.{Meta}
use Rattle.ecore_meta.specs.Promised.{IsMetamodel}
use Rattle.model_state.specs.State.{State}
use Rattle.model_state.specs.Steps.{fold}
use Rattle.model_state.specs.declared.step.Step.{Step}
use Rattle.model_state.specs.declared.operation.Operation.{Operation}
use Rattle.model_state.specs.Packages.{steps_of, fold_package}
use Rattle.model_state.specs.Good.{Good, Sound}
use Rattle.edits.specs.declared.edit.Edit.{Edit}
use Rattle.edits.specs.declared.edit.Recorded.{Recorded}
use Rattle.edits.specs.Edits.{after_effect}
use Rattle.edits.specs.Answers.{steps_in}
use Rattle.edits.specs.Recording.{recorded}
use Rattle.edits.proofs.Recordings.{recording_leads}
use Rattle.model_documents.specs.declared.doc.DocRow.{DocRow}
use Rattle.model_documents.specs.Document.{doc_of}
use Rattle.model_documents.proofs.Fitting.{documents_fit}
use Rattle.import_laws.specs.Import.{recorded_import}
use Rattle.import_laws.specs.Names.{AreNames, names_of}
use Rattle.import_laws.proofs.ImportLead.{imports_lead}

one_follows : (meta : Meta) (m n : State) (o : Operation) → fold meta m (steps_of o) ≡ Some n → is_some (fold_package meta m (o ∷ [])) ≡ true
one_follows meta m n o is = ap is_some (ap (λ (l : List Step). fold meta m l) (append-nil (steps_of o)) ∙ is)

-- what is recorded of an edit
pub edit_follows : (meta : Meta) → Sound meta → (m : State) → Good meta m → (ws : ℕ) (edit : Edit) (r : Recorded) (o : Operation)
    → recorded meta m ws edit ≡ Ok r → r.operation ≡ Some o
    → is_some (fold_package meta m (o ∷ [])) ≡ true
edit_follows meta sound m good ws edit r o is operation_is =
    let leads = recording_leads meta sound m good ws edit r is in
    one_follows meta m (after_effect meta m leads.effect) o (subst
    (λ (x : Option Operation). fold meta m (steps_in x) ≡ Some (after_effect meta m leads.effect)) operation_is leads.run)

-- what is recorded of a document that was read, where the ids that it gives have numbers
pub import_follows : (meta : Meta) → IsMetamodel meta → (m : State) → Good meta m → (ws : ℕ) (text : List ℕ) (rows : List DocRow) (o : Operation)
    → doc_of meta text ≡ Ok rows
    → AreNames m rows ws 1 rows (names_of m ws rows) → recorded_import meta m ws rows ≡ Ok (Some o) → is_some (fold_package meta m (o ∷ [])) ≡ true
import_follows meta promised m good ws text rows o is are recorded_is =
    let leads = imports_lead meta promised.sound m good ws rows (documents_fit meta promised text rows is) (names_of m ws rows) are (Some o) recorded_is in
    one_follows meta m _ o leads.run
