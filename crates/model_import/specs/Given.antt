-- The ids that a document gives, as a set.
use Rattle.std.specs.Prelude.{◌≡◌, ◌||◌, List}
use Rattle.std.specs.List.{list_any}
use Rattle.std.specs.BTreeSet.{BTreeSet, contains}
use Rattle.model_state.specs.Keys.{IdBytes, id_cmp}
use Rattle.model_documents.specs.declared.doc.DocRow.{DocRow}
use Rattle.model_documents.specs.Laws.{gives_id}

-- the set has the ids that the rows give, and no others
abbrev pub Gives : BTreeSet IdBytes → List DocRow → Type 0
Gives ids rows = (e : IdBytes) → contains id_cmp ids e ≡ list_any (gives_id e) rows

-- the other set has the id of the row too, where it has one
abbrev pub GivesAlso : BTreeSet IdBytes → DocRow → BTreeSet IdBytes → Type 0
GivesAlso ids row more = (e : IdBytes) → contains id_cmp more e ≡ (contains id_cmp ids e || gives_id e row)
