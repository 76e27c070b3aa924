-- A model's text, brought into the empty project, is shown as the same text.
use Rattle.std.specs.Prelude.{◌≡◌, ◌-◌, ◌^◌, ◌<◌, ◌≤◌, ℕ, List, Option, Some, Ok, length}
use Rattle.serde_json.specs.Data.{depth}
use Rattle.serde_json.specs.Read.{read, max_depth}
use Rattle.ecore_meta.specs.Meta.{Meta}
use Rattle.ecore_meta.specs.Named.{IsNamed}
use Rattle.ecore_meta.specs.Promised.{IsMetamodel}
use Rattle.model_state.specs.Good.{Good, Sound}
use Rattle.model_state.specs.Keys.{IdBytes}
use Rattle.model_state.specs.State.{State, nothing}
use Rattle.model_state.specs.Steps.{fold}
use Rattle.model_state.specs.declared.operation.Operation.{Operation}
use Rattle.model_documents.specs.declared.doc.DocRow.{DocRow}
use Rattle.model_documents.specs.Document.{doc_of}
use Rattle.model_documents.specs.Fits.{DocumentFits}
use Rattle.model_texts.specs.Tree.{text, tree}
use Rattle.import_laws.specs.After.{import_after}
use Rattle.import_laws.specs.Import.{import_of, recorded_import}
use Rattle.import_laws.specs.Names.{AreNames}
use Rattle.round_trip.specs.Named.{HasIds}
use Rattle.round_trip.specs.Describes.{Describes}
use Rattle.round_trip.specs.Imported.{IsBroughtIn}
use Rattle.edits.specs.Answers.{steps_in}

-- The steps that are recorded of a document that fits can be taken one by one in any good model. They leave it with the document
-- brought in.
abbrev pub ImportsBringIn : Type 0
ImportsBringIn = (meta : Meta) → Sound meta → (m : State) → Good meta m → (ws : ℕ) (rows : List DocRow) → DocumentFits meta rows → (names : List IdBytes)
    → AreNames m rows ws 1 rows names → (operation : Option Operation) → import_of meta m names rows ≡ Ok operation
    → (left : State) × (fold meta m (steps_in operation) ≡ Some left) × IsBroughtIn m names rows left

-- what rows that describe a good model leave in the empty project has the text of that model
abbrev pub DescriptionsAreShown : Type 0
DescriptionsAreShown = (meta : Meta) → Sound meta → (m : State) → Good meta m → (names : List IdBytes) (rows : List DocRow) → DocumentFits meta rows
    → Describes m names rows → length rows < 2 ^ 32 - 1
    → text meta (import_after nothing names rows) ≡ text meta m

-- the text of a good model reads as its tree, where that nests no deeper than JSON is read
abbrev pub TextsReadBack : Type 0
TextsReadBack = (meta : Meta) → IsNamed meta → (m : State) → Good meta m → depth (tree meta m) ≤ max_depth → read (text meta m) ≡ Some (tree meta m)

-- A good model of elements with ids has a text that stands for rows. They describe the model, and are no more than the text has
-- bytes.
abbrev pub TextsDescribe : Type 0
TextsDescribe = (meta : Meta) → IsMetamodel meta → (m : State) → Good meta m → HasIds m → depth (tree meta m) ≤ max_depth
    → (names : List IdBytes) × (rows : List DocRow) × (doc_of meta (text meta m) ≡ Ok rows) × Describes m names rows × (length rows ≤ length (text meta m))

-- A text brought into the empty project. It is read, it is recorded without a refusal, its steps can be taken, and the model that
-- they leave has that text.
pub record ComesBack (meta : Meta) (ws : ℕ) (text_in : List ℕ) : Type 0 where
  pub rows : List DocRow
  pub operation : Option Operation
  pub left : State
  pub read : doc_of meta text_in ≡ Ok rows
  pub recorded : recorded_import meta nothing ws rows ≡ Ok operation
  pub run : fold meta nothing (steps_in operation) ≡ Some left
  pub shown : text meta left ≡ text_in

-- So it is with the text of a good model of elements with ids. The text nests no deeper than JSON is read, and is shorter than
-- the texts that are read.
abbrev pub TextsComeBack : Type 0
TextsComeBack = (meta : Meta) → IsMetamodel meta → (m : State) → Good meta m → HasIds m → depth (tree meta m) ≤ max_depth → length (text meta m) < 2 ^ 32 - 1
    → (ws : ℕ) → ComesBack meta ws (text meta m)
