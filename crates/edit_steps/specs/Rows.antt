-- Changes of the references of a model, its rows, and the steps that make them.
use Rattle.std.specs.Prelude.{ℕ, Bool, false, cond, List, [], ◌∷◌, Option, None, Some, unwrap_or, nat_eq, nat_lt, ◌&&◌, ◌||◌, map}
use Rattle.std.specs.FinMap.{FinMap, get}
use Rattle.finite_maps.specs.Equal.{text_eq}
use Rattle.finite_maps.specs.Maps.{set, set_all}
use Rattle.finite_maps.specs.Sorts.{without}
use Rattle.model_state.specs.declared.entry.Entry.{Entry}
use Rattle.model_state.specs.declared.step.Step.{Step}
use Rattle.model_state.specs.declared.step.Step.TheVariants.{Link, Unlink, RerankRow}
use Rattle.model_state.specs.Keys.{IdBytes, RowKey, row_cmp}
use Rattle.model_state.specs.Steps.{mirror_write}
use Rattle.model_state.specs.Listing.{is_of}

-- a row is a source, a feature and a target, with its rank; its mirror goes back by the opposite feature
abbrev pub Rows : Type 0
Rows = FinMap row_cmp ℕ

-- a row gets a rank and, where there is an opposite, its mirror another; None takes them away
abbrev pub set_pair : Rows → IdBytes → ℕ → IdBytes → Option ℕ → Option ℕ → Option ℕ → Rows
set_pair row a f b o v w = set_all (set row (a, f, b) v) (mirror_write o a b w)

-- the row is the mirror of one of a's, by the opposite o
abbrev pub is_mirror : Option ℕ → IdBytes → RowKey → Bool
is_mirror None a k = false
is_mirror (Some g) a k = nat_eq g k.1 && text_eq a k.2

-- the row is one of a feature of an element, or the mirror of one
abbrev pub is_row_or_mirror : Option ℕ → IdBytes → ℕ → RowKey → Bool
is_row_or_mirror o a f k = is_of a f k || is_mirror o a k

-- the rows of a feature of an element are removed, and their mirrors
abbrev pub clear : Option ℕ → IdBytes → ℕ → Rows → Rows
clear o a f row = without (is_row_or_mirror o a f) row

-- the rows of a feature of an element have the ranks given
abbrev pub ranked : IdBytes → ℕ → List Entry → List ℕ → Rows → Rows
ranked a f [] rs row = row
ranked a f (x ∷ xs) [] row = row
ranked a f (x ∷ xs) (r ∷ rs) row = ranked a f xs rs (set row (a, f, x.id) (Some r))

-- ---- steps
-- the unlink of a row and its mirror, written from the side whose feature has the lesser number
abbrev pub unlink_step : Option ℕ → IdBytes → ℕ → ℕ → IdBytes → ℕ → Step
unlink_step None a f ra b rb = Unlink a f ra b None
unlink_step (Some g) a f ra b rb = cond (nat_lt g f) (Unlink b g rb a (Some ra)) (Unlink a f ra b (Some rb))

-- the link of a row and its mirror, written from that side too
abbrev pub link_step : Option ℕ → IdBytes → ℕ → ℕ → IdBytes → ℕ → Step
link_step None a f ra b rb = Link a f ra b None
link_step (Some g) a f ra b rb = cond (nat_lt g f) (Link b g rb a (Some ra)) (Link a f ra b (Some rb))

-- the rank of the mirror of a row to b
abbrev pub mirror_rank : Rows → Option ℕ → IdBytes → IdBytes → ℕ
mirror_rank row None a b = 0
mirror_rank row (Some g) a b = unwrap_or (get row (b, g, a)) 0

-- the unlinks of some entries of a feature of an element, by the state before
abbrev pub unlinks : Rows → Option ℕ → IdBytes → ℕ → List Entry → List Step
unlinks row o a f xs = map (λ (x : Entry). unlink_step o a f x.rank x.id (mirror_rank row o a x.id)) xs

-- a step for each entry whose rank changes
abbrev pub reranks : IdBytes → ℕ → List Entry → List ℕ → List Step
reranks a f [] rs = []
reranks a f (x ∷ xs) [] = []
reranks a f (x ∷ xs) (r ∷ rs) = cond (nat_eq x.rank r) (reranks a f xs rs) (RerankRow a f x.id x.rank r ∷ reranks a f xs rs)
