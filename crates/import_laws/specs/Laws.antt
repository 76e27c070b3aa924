-- The ids that the elements of a document get are new. The steps of an import lead to a good model, which is given map by map.
use Rattle.std.specs.Prelude.{◌≡◌, ℕ, Bool, true, false, ◌&&◌, not, List, [], ◌∷◌, Option, None, Some, Ok, length}
use Rattle.std.specs.List.{list_any}
use Rattle.finite_maps.specs.Equal.{text_eq}
use Rattle.ecore_meta.specs.Meta.{Meta}
use Rattle.model_state.specs.declared.operation.Operation.{Operation}
use Rattle.model_state.specs.Good.{Good, Sound}
use Rattle.model_state.specs.Keys.{IdBytes}
use Rattle.model_state.specs.State.{State, is_live}
use Rattle.model_state.specs.Steps.{fold}
use Rattle.model_documents.specs.declared.doc.DocRow.{DocRow}
use Rattle.model_documents.specs.Fits.{DocumentFits}
use Rattle.model_documents.specs.Laws.{ids_repeat}
use Rattle.import_laws.specs.After.{import_after}
use Rattle.import_laws.specs.Import.{import_of}
use Rattle.import_laws.specs.Names.{AreNames, any_in_use}
use Rattle.edits.specs.Answers.{steps_in}

-- no name comes twice
abbrev pub ids_differ : List IdBytes → Bool
ids_differ [] = true
ids_differ (x ∷ xs) = not (list_any (text_eq x) xs) && ids_differ xs

-- as many ids as elements, none of them live and no two the same, where the document gives none that is live and none twice
abbrev pub NamesAreNew : Type 0
NamesAreNew = (m : State) (rows : List DocRow) (ws : ℕ) (names : List IdBytes) → AreNames m rows ws 1 rows names → any_in_use m rows ≡ false
    → ids_repeat rows ≡ false
    → (length names ≡ length rows) × (list_any (is_live m) names ≡ false) × (ids_differ names ≡ true)

-- The steps of what is recorded can be taken one by one, and leave the model with the document's elements, a good one. Nothing is
-- recorded exactly where that is the model at hand.
pub record LeadsIn (meta : Meta) (m : State) (names : List IdBytes) (rows : List DocRow) (operation : Option Operation) : Type 0 where
  pub run : fold meta m (steps_in operation) ≡ Some (import_after m names rows)
  pub good : Good meta (import_after m names rows)
  pub idle : (operation ≡ None → import_after m names rows ≡ m) × (import_after m names rows ≡ m → operation ≡ None)

-- so it is with each import of a document that fits
abbrev pub ImportsLead : Type 0
ImportsLead = (meta : Meta) → Sound meta → (m : State) → Good meta m → (ws : ℕ) (rows : List DocRow) → DocumentFits meta rows → (names : List IdBytes)
    → AreNames m rows ws 1 rows names
    → (operation : Option Operation) → import_of meta m names rows ≡ Ok operation → LeadsIn meta m names rows operation
