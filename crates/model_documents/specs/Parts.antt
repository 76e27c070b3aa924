-- What the keys of an object give.
use Rattle.std.specs.Prelude.{List, [], ◌++◌, Option, map}
use Rattle.model_state.specs.Keys.{IdBytes}
use Rattle.model_documents.specs.declared.doc.DocAttr.{DocAttr}
use Rattle.model_documents.specs.declared.draft.ElementDraft.{ElementDraft}
use Rattle.model_documents.specs.declared.draft.Links.{Links}

-- values of attributes, references, and the elements inside
pub record Part : Type 0 where
  pub attrs : List DocAttr
  pub links : List Links
  pub rows : List ElementDraft

-- nothing is given
abbrev pub no_part : Part
no_part = record { attrs = []; links = []; rows = [] }

-- one part after another
abbrev pub joined : Part → Part → Part
joined p q = record { attrs = p.attrs ++ q.attrs; links = p.links ++ q.links; rows = p.rows ++ q.rows }

-- the ids of the elements before, by their numbers
abbrev pub Ids : Type 0
Ids = List (Option IdBytes)

-- the ids of the rows
abbrev pub ids_of : List ElementDraft → Ids
ids_of rows = map (λ r. r.id) rows
