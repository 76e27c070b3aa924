-- What finds the elements of a document by their ids and by their places.
use Rattle.std.specs.Prelude.{String, ◌≡◌, ℕ, List, [], Option, None, Some, unwrap_or}
use Rattle.std.specs.declared.cmp.Ordering.{Ordering}
use Rattle.std.specs.Ordering.{nat_cmp, ordering_then}
use Rattle.std.specs.BTreeMap.{BTreeMap, get, get_by_text}
use Rattle.model_state.specs.Keys.{IdBytes}
use Rattle.model_documents.specs.declared.doc.DocParent.{DocParent}
use Rattle.model_documents.specs.declared.draft.ElementDraft.{ElementDraft}
use Rattle.model_documents.specs.Places.{named, numbers_where, stands_in}

-- the first, where there is one
abbrev pub first_of : Option ℕ → Option ℕ → Option ℕ
first_of None b = b
first_of (Some a) b = Some a

-- a place is a row and a feature
abbrev pub place_cmp : ℕ × ℕ → ℕ × ℕ → Ordering
place_cmp x y = ordering_then (nat_cmp x.0 y.0) (nat_cmp x.1 y.1)

-- the numbers that a map has for a place
abbrev pub numbers_at : BTreeMap (ℕ × ℕ) (List ℕ) → DocParent → List ℕ
numbers_at children p = unwrap_or (get place_cmp children (p.row, p.feature)) []

-- the map has the number of the row of each id
abbrev pub NamesOf : {Y : Type 0} → List ElementDraft → BTreeMap (String Y) ℕ → Type 0
NamesOf rows names = (t : IdBytes) → get_by_text names t ≡ named rows t

-- the map has the numbers of the rows in each place
abbrev pub ChildrenOf : List ElementDraft → BTreeMap (ℕ × ℕ) (List ℕ) → Type 0
ChildrenOf rows children = (q : DocParent) → numbers_at children q ≡ numbers_where (stands_in (Some q)) 0 rows

-- rows are found by their ids and by their places
pub record Finds {Y : Type 0} (rows : List ElementDraft) (names : BTreeMap (String Y) ℕ) (children : BTreeMap (ℕ × ℕ) (List ℕ)) (roots : List ℕ) : Type 0 where
  pub by_name : NamesOf rows names
  pub by_place : ChildrenOf rows children
  pub at_root : roots ≡ numbers_where (stands_in None) 0 rows
