-- Lists of references with the targets that either side gives.
use Rattle.std.specs.Prelude.{ℕ, suc, ◌&&◌, not, cond, List, [], ◌∷◌, ◌++◌, Option, None, Some, Ok, length, nat_eq, slice_get}
use Rattle.std.specs.List.{flat_map, list_any}
use Rattle.std.specs.Option.{option_map_or}
use Rattle.ecore_meta.specs.Meta.{Meta, features_of}
use Rattle.model_state.specs.Typing.{opposite_of, row_upper}
use Rattle.model_documents.specs.declared.doc.DocAttr.{DocAttr}
use Rattle.model_documents.specs.declared.doc.DocRefs.{DocRefs}
use Rattle.model_documents.specs.declared.doc.DocRow.{DocRow}
use Rattle.model_documents.specs.declared.draft.ElementDraft.{ElementDraft}
use Rattle.model_documents.specs.declared.fault.ModelFault.TheVariants.{Bound}
use Rattle.finite_maps.specs.Maps.{is_within}
use Rattle.model_documents.specs.Reads.{Read, «then», unless, collected}

-- the targets of a feature of an element
abbrev pub targets_at : ℕ → List DocRefs → List ℕ
targets_at g [] = []
targets_at g (r ∷ rs) = cond (nat_eq g r.feature) r.targets (targets_at g rs)

-- those of the elements, the first with the number n, that name a by the feature g, and are not among the targets
abbrev pub naming : ℕ → ℕ → List ℕ → ℕ → List (List DocRefs) → List ℕ
naming g a ts n [] = []
naming g a ts n (refs ∷ given) =
    cond (list_any (nat_eq a) (targets_at g refs) && not (list_any (nat_eq n) ts)) (n ∷ naming g a ts (suc n) given) (naming g a ts (suc n) given)

-- those that name it by the opposite
abbrev pub others : Option ℕ → ℕ → List ℕ → List (List DocRefs) → List ℕ
others None a ts given = []
others (Some g) a ts given = naming g a ts 0 given

-- the targets that an element gives, and then those that name it by the opposite, in order
abbrev pub completed : Meta → List (List DocRefs) → ℕ → DocRefs → List ℕ
completed meta given a r = r.targets ++ others (opposite_of meta r.feature) a r.targets given

-- where the list is within its bound
abbrev pub completed_within : Meta → List (List DocRefs) → ℕ → DocRefs → Read (List ℕ)
completed_within meta given a r = unless (is_within (length (completed meta given a r)) (row_upper meta r.feature)) Bound (Ok (completed meta given a r))

-- a list of an element
abbrev pub completed_at : Meta → List (List DocRefs) → ℕ → List DocRefs → DocRefs → Read DocRefs
completed_at meta given a before r = «then» (completed_within meta given a r) (λ ts. Ok (record { feature = r.feature; targets = ts }))

-- the lists of an element
abbrev pub completed_all : Meta → List (List DocRefs) → ℕ → List DocRefs → Read (List DocRefs)
completed_all meta given a refs = collected (completed_at meta given a) [] refs

-- the values of a feature, where it is set
abbrev pub attr_at : ℕ → List DocAttr → List DocAttr
attr_at f [] = []
attr_at f (a ∷ attrs) = cond (nat_eq f a.feature) (a ∷ []) (attr_at f attrs)

-- the attributes that are set, in the order of these features
abbrev pub attrs_by : List DocAttr → List ℕ → List DocAttr
attrs_by attrs fs = flat_map (λ f. attr_at f attrs) fs

-- the row of an element: its attributes by number, and these references
abbrev pub row_of : Meta → ElementDraft → List DocRefs → DocRow
row_of meta r refs = record { id = r.id; class = r.class; parent = r.parent; attrs = attrs_by r.attrs (features_of meta r.class); refs = refs }

-- the references that the element of that number gives
abbrev pub given_at : List (List DocRefs) → ℕ → List DocRefs
given_at given n = option_map_or (λ refs. refs) (slice_get given n) []

-- the next row with its lists, after those before it
abbrev pub next_row : Meta → List (List DocRefs) → List DocRow → ElementDraft → Read DocRow
next_row meta given rows r = «then» (completed_all meta given (length rows) (given_at given (length rows))) (λ refs. Ok (row_of meta r refs))

-- the rows of the elements, with the targets that either side gives
abbrev pub rows_by : Meta → List (List DocRefs) → List ElementDraft → Read (List DocRow)
rows_by meta given drafts = collected (next_row meta given) [] drafts
