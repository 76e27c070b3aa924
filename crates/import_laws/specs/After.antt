-- What an import leaves, map by map, defined without steps.
use Rattle.std.specs.Prelude.{ℕ, suc, List, [], ◌∷◌, Some, take}
use Rattle.std.specs.FinMap.{FinMap}
use Rattle.finite_maps.specs.Maps.{set}
use Rattle.ecore_meta.specs.declared.meta.Value.{Value}
use Rattle.model_state.specs.declared.entry.Entry.{Entry}
use Rattle.model_state.specs.declared.step.Place.{Place}
use Rattle.model_state.specs.declared.step.Place.TheVariants.{Root, Inside}
use Rattle.model_state.specs.Keys.{IdBytes, id_cmp, attr_cmp}
use Rattle.model_state.specs.Listing.{children}
use Rattle.model_state.specs.State.{State}
use Rattle.edit_steps.specs.Places.{Ranks, ranked_places}
use Rattle.edit_steps.specs.Rows.{Rows}
use Rattle.edit_steps.specs.Spot.{end_spot}
use Rattle.model_documents.specs.declared.doc.DocAttr.{DocAttr}
use Rattle.model_documents.specs.declared.doc.DocRefs.{DocRefs}
use Rattle.model_documents.specs.declared.doc.DocRow.{DocRow}
use Rattle.import_laws.specs.Names.{name_at}
use Rattle.model_documents.specs.Fits.{standing}
use Rattle.import_laws.specs.News.{place_of, rank_of, roots_after}

-- the class of each element
abbrev pub Kinds : Type 0
Kinds = FinMap id_cmp ℕ

-- where each element stands
abbrev pub Places : Type 0
Places = FinMap id_cmp Place

-- the values of the attributes that are set
abbrev pub Attrs : Type 0
Attrs = FinMap attr_cmp (List Value)

-- each of the rows from the n-th on has its class, under its id
abbrev pub kinds_from : List IdBytes → ℕ → Kinds → List DocRow → Kinds
kinds_from names n kind [] = kind
kinds_from names n kind (r ∷ rest) = kinds_from names (suc n) (set kind (name_at names n) (Some r.class)) rest

-- each of them stands where the document says
abbrev pub places_from : List IdBytes → ℕ → Places → List DocRow → Places
places_from names n place [] = place
places_from names n place (r ∷ rest) = places_from names (suc n) (set place (name_at names n) (Some (place_of names r.parent))) rest

-- the ranks once e is created, as the k-th of a place that is not the root, or after the root's elements xs
abbrev pub ranks_after : List Entry → Place → IdBytes → ℕ → Ranks → Ranks
ranks_after xs Root e k prank = let s = end_spot xs in set (ranked_places xs s.ranks prank) e s.rank
ranks_after xs (Inside a f) e k prank = set prank e (Some (rank_of k))

-- the ranks once the elements of the rows from the n-th on are created; xs are the root's elements
abbrev pub ranks_from : List IdBytes → List DocRow → ℕ → List Entry → Ranks → List DocRow → Ranks
ranks_from names rows n xs prank [] = prank
ranks_from names rows n xs prank (r ∷ rest) =
    ranks_from names rows (suc n) (roots_after xs (place_of names r.parent) (name_at names n))
    (ranks_after xs (place_of names r.parent) (name_at names n) (standing r.parent (take n rows)) prank) rest

-- an element has these values
abbrev pub attrs_set : IdBytes → Attrs → List DocAttr → Attrs
attrs_set e attr [] = attr
attrs_set e attr (a ∷ attrs) = attrs_set e (set attr (e, a.feature) (Some a.values)) attrs

-- the rows from the n-th on have their values
abbrev pub attrs_from : List IdBytes → ℕ → Attrs → List DocRow → Attrs
attrs_from names n attr [] = attr
attrs_from names n attr (r ∷ rest) = attrs_from names (suc n) (attrs_set (name_at names n) attr r.attrs) rest

-- a feature of an element refers to these rows, which stand in its list from the k-th on
abbrev pub targets_set : List IdBytes → IdBytes → ℕ → ℕ → Rows → List ℕ → Rows
targets_set names e f k row [] = row
targets_set names e f k row (b ∷ bs) = targets_set names e f (suc k) (set row (e, f, name_at names b) (Some (rank_of k))) bs

-- an element has these lists of references
abbrev pub refs_set : List IdBytes → IdBytes → Rows → List DocRefs → Rows
refs_set names e row [] = row
refs_set names e row (q ∷ refs) = refs_set names e (targets_set names e q.feature 0 row q.targets) refs

-- the rows from the n-th on have their references
abbrev pub rows_from : List IdBytes → ℕ → Rows → List DocRow → Rows
rows_from names n row [] = row
rows_from names n row (r ∷ rest) = rows_from names (suc n) (refs_set names (name_at names n) row r.refs) rest

-- the model with the elements of the document, which have these ids
abbrev pub import_after : State → List IdBytes → List DocRow → State
import_after m names rows = record {
  kind = kinds_from names 0 m.kind rows;
  place = places_from names 0 m.place rows;
  prank = ranks_from names rows 0 (children m.place m.prank Root) m.prank rows;
  attr = attrs_from names 0 m.attr rows;
  row = rows_from names 0 m.row rows;
}
