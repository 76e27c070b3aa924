-- What a document that is brought in leaves in a model: its elements as its rows say, and each other id with what it had.
use Rattle.std.specs.Prelude.{◌≡◌, ℕ, false, List, ◌++◌, Some, length, map, slice_get}
use Rattle.std.specs.FinMap.{get}
use Rattle.std.specs.List.{list_any}
use Rattle.finite_maps.specs.Equal.{text_eq}
use Rattle.model_state.specs.declared.step.Place.{Place}
use Rattle.model_state.specs.Keys.{IdBytes}
use Rattle.model_state.specs.Listing.{values_at}
use Rattle.model_state.specs.State.{State}
use Rattle.model_documents.specs.declared.doc.DocRow.{DocRow}
use Rattle.model_documents.specs.Completed.{targets_at}
use Rattle.model_texts.specs.Tree.{child_ids, target_ids}
use Rattle.import_laws.specs.Names.{name_at}
use Rattle.import_laws.specs.News.{place_of}
use Rattle.round_trip.specs.Describes.{standing_in, values_given}

-- an element is as its row says: its class, its place, its values, and the targets of its references in order
pub record IsAsGiven (left : State) (names : List IdBytes) (e : IdBytes) (r : DocRow) : Type 0 where
  pub class : get left.kind e ≡ Some r.class
  pub place : get left.place e ≡ Some (place_of names r.parent)
  pub values : (f : ℕ) → values_at left e f ≡ values_given f r.attrs
  pub targets : (f : ℕ) → target_ids left e f ≡ map (name_at names) (targets_at f r.refs)

-- an id has the class, the place, the values and the targets that it had before, or none where it had none
pub record IsAsBefore (m left : State) (e : IdBytes) : Type 0 where
  pub class : get left.kind e ≡ get m.kind e
  pub place : get left.place e ≡ get m.place e
  pub values : (f : ℕ) → values_at left e f ≡ values_at m e f
  pub targets : (f : ℕ) → target_ids left e f ≡ target_ids m e f

-- The rows, whose ids are the names, are brought in. Each row's element is as given, and each other id as before. In each place
-- stands what stood there, in its order, and then the document's elements in theirs.
pub record IsBroughtIn (m : State) (names : List IdBytes) (rows : List DocRow) (left : State) : Type 0 where
  pub as_many : length names ≡ length rows
  pub given : (n : ℕ) (r : DocRow) (e : IdBytes) → slice_get rows n ≡ Some r → slice_get names n ≡ Some e → IsAsGiven left names e r
  pub others : (e : IdBytes) → list_any (text_eq e) names ≡ false → IsAsBefore m left e
  pub lists : (p : Place) → child_ids left p ≡ child_ids m p ++ standing_in names p 0 rows
