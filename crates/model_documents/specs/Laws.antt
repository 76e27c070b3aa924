-- What holds of each document that is read.
use Rattle.std.specs.Prelude.{◌≡◌, ℕ, suc, Bool, true, false, ◌&&◌, ◌||◌, List, [], ◌∷◌, Option, None, Some, Ok, nat_lt}
use Rattle.std.specs.List.{list_any}
use Rattle.finite_maps.specs.Equal.{option_eq, text_eq}
use Rattle.ecore_meta.specs.Meta.{Meta}
use Rattle.model_state.specs.Keys.{IdBytes}
use Rattle.model_documents.specs.declared.doc.DocParent.{DocParent}
use Rattle.model_documents.specs.declared.doc.DocRow.{DocRow}
use Rattle.model_documents.specs.Document.{doc_of}

-- the row has that id
abbrev pub gives_id : IdBytes → DocRow → Bool
gives_id e r = option_eq text_eq (Some e) r.id

-- one of the rows has the id, where there is one
abbrev pub is_given : Option IdBytes → List DocRow → Bool
is_given None rows = false
is_given (Some id) rows = list_any (gives_id id) rows

-- an id comes twice
abbrev pub ids_repeat : List DocRow → Bool
ids_repeat [] = false
ids_repeat (r ∷ rows) = is_given r.id rows || ids_repeat rows

-- no id comes twice in a document that is read
abbrev pub IdsAreApart : Type 0
IdsAreApart = (meta : Meta) (text : List ℕ) (rows : List DocRow) → doc_of meta text ≡ Ok rows → ids_repeat rows ≡ false

-- the parent's row comes before the row n
abbrev pub parent_before : ℕ → Option DocParent → Bool
parent_before n None = true
parent_before n (Some p) = nat_lt p.row n

-- so it does for the rows from the n-th on
abbrev pub parents_before : ℕ → List DocRow → Bool
parents_before n [] = true
parents_before n (r ∷ rows) = parent_before n r.parent && parents_before (suc n) rows

-- each element of a document that is read stands after the one that contains it
abbrev pub ParentsComeFirst : Type 0
ParentsComeFirst = (meta : Meta) (text : List ℕ) (rows : List DocRow) → doc_of meta text ≡ Ok rows → parents_before 0 rows ≡ true
