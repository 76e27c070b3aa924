-- The rows of a document that describe a model.
use Rattle.std.specs.Prelude.{◌≡◌, ℕ, suc, cond, List, [], ◌∷◌, Some, length, map, slice_get}
use Rattle.std.specs.FinMap.{get}
use Rattle.ecore_meta.specs.declared.meta.Value.{Value}
use Rattle.model_state.specs.declared.step.Place.{Place}
use Rattle.model_state.specs.Keys.{IdBytes}
use Rattle.model_state.specs.State.{State, place_eq}
use Rattle.model_documents.specs.declared.doc.DocAttr.{DocAttr}
use Rattle.model_documents.specs.declared.doc.DocRow.{DocRow}
use Rattle.model_documents.specs.Completed.{attr_at, targets_at}
use Rattle.model_state.specs.Listing.{values_at}
use Rattle.model_texts.specs.Tree.{child_ids, target_ids}
use Rattle.import_laws.specs.Names.{name_at}
use Rattle.import_laws.specs.News.{place_of}

-- the values of the first attribute, none where there is none
abbrev pub first_values : List DocAttr → List Value
first_values [] = []
first_values (a ∷ attrs) = a.values

-- the values that a row gives an attribute, none where it gives none
abbrev pub values_given : ℕ → List DocAttr → List Value
values_given f attrs = first_values (attr_at f attrs)

-- the rows that stand in a place, by their names, in order; the first row has the number n
abbrev pub standing_in : List IdBytes → Place → ℕ → List DocRow → List IdBytes
standing_in names p n [] = []
standing_in names p n (r ∷ rest) =
    cond (place_eq (place_of names r.parent) p) (name_at names n ∷ standing_in names p (suc n) rest) (standing_in names p (suc n) rest)

-- a row describes an element: its class, its place, its values and the targets of its references, in order
pub record DescribesElement (m : State) (names : List IdBytes) (e : IdBytes) (r : DocRow) : Type 0 where
  pub id : r.id ≡ Some e
  pub class : get m.kind e ≡ Some r.class
  pub place : get m.place e ≡ Some (place_of names r.parent)
  pub values : (f : ℕ) → values_given f r.attrs ≡ values_at m e f
  pub targets : (f : ℕ) → map (name_at names) (targets_at f r.refs) ≡ target_ids m e f

-- the rows, whose ids are the names, describe the model: each row an element, and each place's rows its elements in their order
pub record Describes (m : State) (names : List IdBytes) (rows : List DocRow) : Type 0 where
  pub as_many : length names ≡ length rows
  pub each : (n : ℕ) (r : DocRow) (e : IdBytes) → slice_get rows n ≡ Some r → slice_get names n ≡ Some e → DescribesElement m names e r
  pub lists : (p : Place) → standing_in names p 0 rows ≡ child_ids m p
