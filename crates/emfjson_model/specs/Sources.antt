-- The elements that name each element by each feature.
use Rattle.std.specs.Prelude.{◌≡◌, ◌-◌, ℕ, Bool, false, cond, List, [], ◌∷◌, ◌++◌, length, nat_eq, slice_get}
use Rattle.std.specs.Option.{option_map_or}
use Rattle.std.specs.BTreeMap.{BTreeMap}
use Rattle.model_documents.specs.declared.doc.DocParent.{DocParent}
use Rattle.model_documents.specs.declared.doc.DocRefs.{DocRefs}
use Rattle.model_documents.specs.Finder.{numbers_at}
use Rattle.model_documents.specs.Completed.{naming}

-- the number is the last
abbrev pub ends_with : ℕ → List ℕ → Bool
ends_with n xs = option_map_or (λ x. nat_eq n x) (slice_get xs (length xs - 1)) false

-- the list with the number after it, unless it is the last
abbrev pub push_once : ℕ → List ℕ → List ℕ
push_once n xs = cond (ends_with n xs) xs (xs ++ n ∷ [])

-- the number is the last where the test says so
abbrev pub also : ℕ → Bool → List ℕ → List ℕ
also n b xs = cond b (push_once n xs) xs

-- a map has those that name a row by a feature
abbrev pub SourcesOf : List (List DocRefs) → BTreeMap (ℕ × ℕ) (List ℕ) → Type 0
SourcesOf given numbers = (q : DocParent) → numbers_at numbers q ≡ naming q.feature q.row [] 0 given
