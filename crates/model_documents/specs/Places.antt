-- Elements by their place and by their id.
use Rattle.std.specs.Prelude.{ℕ, suc, Bool, ◌&&◌, cond, List, [], ◌∷◌, Option, Some, nat_eq, slice_get}
use Rattle.std.specs.Option.{option_map_or}
use Rattle.finite_maps.specs.Equal.{option_eq, text_eq}
use Rattle.model_state.specs.Keys.{IdBytes}
use Rattle.model_documents.specs.declared.doc.DocParent.{DocParent}
use Rattle.model_documents.specs.declared.draft.ElementDraft.{ElementDraft}

-- ---- elements by their place and by their id
-- equal places
abbrev pub parent_eq : DocParent → DocParent → Bool
parent_eq p q = nat_eq p.row q.row && nat_eq p.feature q.feature

-- the element stands in the place
abbrev pub stands_in : Option DocParent → ElementDraft → Bool
stands_in place r = option_eq parent_eq r.parent place

-- the element has that id
abbrev pub has_id : IdBytes → ElementDraft → Bool
has_id t r = option_eq text_eq r.id (Some t)

-- the numbers of the rows that pass the test, in order, where the first row has the number n
abbrev pub numbers_where : (ElementDraft → Bool) → ℕ → List ElementDraft → List ℕ
numbers_where p n [] = []
numbers_where p n (r ∷ rs) = cond (p r) (n ∷ numbers_where p (suc n) rs) (numbers_where p (suc n) rs)

-- the k-th element of a place; no parent is the root
abbrev pub child_at : List ElementDraft → Option DocParent → ℕ → Option ℕ
child_at rows place k = slice_get (numbers_where (stands_in place) 0 rows) k

-- the element of that id
abbrev pub named : List ElementDraft → IdBytes → Option ℕ
named rows t = slice_get (numbers_where (has_id t) 0 rows) 0

-- the class of the element of that number
abbrev pub class_at : List ElementDraft → ℕ → ℕ
class_at rows n = option_map_or (λ r. r.class) (slice_get rows n) 0
