-- The ids of drafts, one list after another.
use Rattle.std.proofs.Common.{◌≡◌, List, [], ◌∷◌, ◌++◌, refl, ap}
use Rattle.model_documents.specs.declared.draft.ElementDraft.{ElementDraft}
use Rattle.model_documents.specs.Parts.{ids_of}

pub ids_append : (xs ys : List ElementDraft) → ids_of (xs ++ ys) ≡ ids_of xs ++ ids_of ys
ids_append [] ys = refl
ids_append (x ∷ xs) ys = ap (λ l. x.id ∷ l) (ids_append xs ys)
