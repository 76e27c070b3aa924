-- Elements are created at the end of the root, one after another.
use Rattle.std.specs.Prelude.{ℕ, Bool, List, [], ◌∷◌, ◌++◌, is_some, unwrap_or}
use Rattle.model_state.specs.declared.entry.Entry.{Entry}
use Rattle.model_state.specs.declared.step.Place.TheVariants.{Root}
use Rattle.model_state.specs.declared.step.Step.{Step}
use Rattle.model_state.specs.declared.step.Step.TheVariants.{New}
use Rattle.model_state.specs.Keys.{IdBytes}
use Rattle.edit_steps.specs.Places.{rerank_places}
use Rattle.edit_steps.specs.Spot.{end_spot}

-- entries with other ranks
abbrev pub with_ranks : List Entry → List ℕ → List Entry
with_ranks [] rs = []
with_ranks (x ∷ xs) [] = []
with_ranks (x ∷ xs) (r ∷ rs) = record { rank = r; id = x.id } ∷ with_ranks xs rs

-- there is a rank after the last
abbrev pub has_end : List Entry → Bool
has_end xs = is_some (end_spot xs).rank

-- the entries once e is created after the last
abbrev pub root_after : List Entry → IdBytes → List Entry
root_after xs e = let s = end_spot xs in with_ranks xs s.ranks ++ record { rank = unwrap_or s.rank 0; id = e } ∷ []

-- the reranks where they are needed, and then the new element
abbrev pub root_made : List Entry → IdBytes → ℕ → List Step
root_made xs e c = let s = end_spot xs in rerank_places xs s.ranks ++ New e c Root (unwrap_or s.rank 0) ∷ []
