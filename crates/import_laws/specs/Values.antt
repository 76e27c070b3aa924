-- The steps in which the elements of a document get their values.
use Rattle.std.specs.Prelude.{ℕ, suc, ◌+◌, cond, List, [], ◌∷◌, ◌++◌, None, Some}
use Rattle.ecore_meta.specs.Meta.{Meta}
use Rattle.ecore_meta.specs.declared.meta.Value.{Value}
use Rattle.model_state.specs.declared.step.Step.{Step}
use Rattle.model_state.specs.declared.step.Step.TheVariants.{Put, Ins}
use Rattle.model_state.specs.Keys.{IdBytes}
use Rattle.model_state.specs.Typing.{is_attr, kind_of}
use Rattle.model_documents.specs.declared.doc.DocAttr.{DocAttr}
use Rattle.model_documents.specs.declared.doc.DocRow.{DocRow}
use Rattle.import_laws.specs.Names.{name_at}

-- the one value of a single attribute
abbrev pub put_made : IdBytes → ℕ → List Value → List Step
put_made e f [] = []
put_made e f (v ∷ vs) = Put e f None (Some v) ∷ []

-- the values of a list, from the index on
abbrev pub inserts_made : IdBytes → ℕ → ℕ → List Value → List Step
inserts_made e f at [] = []
inserts_made e f at (v ∷ vs) = Ins e f at v ∷ inserts_made e f (at + 1) vs

-- the values of one attribute
abbrev pub attr_made : Meta → IdBytes → DocAttr → List Step
attr_made meta e a = cond (is_attr (kind_of meta a.feature)) (put_made e a.feature a.values) (inserts_made e a.feature 0 a.values)

-- the values of an element's attributes
abbrev pub attrs_made : Meta → IdBytes → List DocAttr → List Step
attrs_made meta e [] = []
attrs_made meta e (a ∷ attrs) = attr_made meta e a ++ attrs_made meta e attrs

-- the values of the rows from the n-th on
abbrev pub values_from : Meta → List IdBytes → ℕ → List DocRow → List Step
values_from meta names n [] = []
values_from meta names n (r ∷ rest) = attrs_made meta (name_at names n) r.attrs ++ values_from meta names (suc n) rest

-- the values of all rows
abbrev pub values_made : Meta → List IdBytes → List DocRow → List Step
values_made meta names rows = values_from meta names 0 rows
