-- The steps in which the elements of a document are linked: each link is made once, with its ranks in both lists.
use Rattle.std.specs.Prelude.{ℕ, suc, Bool, false, ◌||◌, ◌&&◌, cond, List, [], ◌∷◌, ◌++◌, Option, None, Some, nat_eq, nat_lt, slice_get}
use Rattle.std.specs.Option.{option_map_or}
use Rattle.ecore_meta.specs.Meta.{Meta}
use Rattle.model_state.specs.declared.step.Step.{Step}
use Rattle.model_state.specs.Keys.{IdBytes}
use Rattle.model_state.specs.Typing.{opposite_of}
use Rattle.edit_steps.specs.Rows.{link_step}
use Rattle.model_documents.specs.declared.doc.DocRefs.{DocRefs}
use Rattle.model_documents.specs.declared.doc.DocRow.{DocRow}
use Rattle.model_documents.specs.Completed.{targets_at}
use Rattle.import_laws.specs.Names.{name_at}
use Rattle.import_laws.specs.News.{rank_of}

-- the link was made from the other side, which came before: that of an earlier row, or of a lesser feature of the same
abbrev pub is_made : Option ℕ → ℕ → ℕ → ℕ → Bool
is_made None n f b = false
is_made (Some g) n f b = nat_lt b n || nat_eq b n && nat_lt g f

-- where a number stands in a list
abbrev pub index_in : ℕ → List ℕ → ℕ
index_in n [] = 0
index_in n (x ∷ xs) = cond (nat_eq n x) 0 (suc (index_in n xs))

-- the lists of references of row b
abbrev pub refs_at : List DocRow → ℕ → List DocRefs
refs_at rows b = option_map_or (λ r. r.refs) (slice_get rows b) []

-- the rank of the mirror, by where n stands in the list of b
abbrev pub mirror_of : List DocRow → Option ℕ → ℕ → ℕ → ℕ
mirror_of rows None n b = 0
mirror_of rows (Some g) n b = rank_of (index_in n (targets_at g (refs_at rows b)))

-- the link of row n, whose id is e, to the target b at index k of its list
abbrev pub link_to : Meta → List DocRow → ℕ → IdBytes → ℕ → ℕ → ℕ → Option IdBytes → List Step
link_to meta rows n e f k b None = []
link_to meta rows n e f k b (Some x) =
    cond (is_made (opposite_of meta f) n f b) []
    (link_step (opposite_of meta f) e f (rank_of k) x (mirror_of rows (opposite_of meta f) n b) ∷ [])

-- the links to the targets of one list, from index k on
abbrev pub targets_made : Meta → List IdBytes → List DocRow → ℕ → IdBytes → ℕ → ℕ → List ℕ → List Step
targets_made meta names rows n e f k [] = []
targets_made meta names rows n e f k (b ∷ bs) = link_to meta rows n e f k b (slice_get names b) ++ targets_made meta names rows n e f (suc k) bs

-- the links of the lists of one row
abbrev pub refs_made : Meta → List IdBytes → List DocRow → ℕ → IdBytes → List DocRefs → List Step
refs_made meta names rows n e [] = []
refs_made meta names rows n e (q ∷ refs) = targets_made meta names rows n e q.feature 0 q.targets ++ refs_made meta names rows n e refs

-- the links of the rows from the n-th on
abbrev pub links_from : Meta → List IdBytes → List DocRow → ℕ → List DocRow → List Step
links_from meta names rows n [] = []
links_from meta names rows n (r ∷ rest) = refs_made meta names rows n (name_at names n) r.refs ++ links_from meta names rows (suc n) rest

-- the links of all rows
abbrev pub links_made : Meta → List IdBytes → List DocRow → List Step
links_made meta names rows = links_from meta names rows 0 rows
