-- Where elements stand, place by place: ordered maps of the ids of each list and their ranks.
use Rattle.std.specs.Prelude.{◌≡◌, ℕ, Option, None, Some, cond}
use Rattle.std.specs.Ordering.{nat_cmp}
use Rattle.std.specs.FinMap.{FinMap, get, empty}
use Rattle.std.specs.BTreeMap as tree
use Rattle.std.specs.BTreeMap.{BTreeMap}
use Rattle.finite_maps.specs.Equal.{text_eq}
use Rattle.finite_maps.specs.Tables.{table}
use Rattle.model_state.specs.declared.step.Place.{Place}
use Rattle.model_state.specs.declared.step.Place.TheVariants.{Root, Inside}
use Rattle.model_state.specs.declared.step.Placed.{Placed}
use Rattle.model_state.specs.Keys.{IdBytes, RowKey, id_cmp, row_cmp}
use Rattle.ranked_lists.specs.Ranks.{stood, Ranks}
use Rattle.step_apply.specs.declared.groups.Groups.{Groups}

-- the elements of one list, and their ranks there
abbrev pub group_of : Option Ranks → Ranks
group_of None = empty
group_of (Some m) = m

-- those of a feature of one element
abbrev pub fan_of : Option (BTreeMap ℕ Ranks) → ℕ → Ranks
fan_of None f = empty
fan_of (Some t) f = group_of (tree.get nat_cmp t f)

-- those of a feature of an element
abbrev pub members_of : BTreeMap IdBytes (BTreeMap ℕ Ranks) → IdBytes → ℕ → Ranks
members_of t a f = fan_of (tree.get id_cmp t a) f

-- those of a place
abbrev pub standing : Groups → Place → Ranks
standing s Root = s.roots
standing s (Inside a f) = members_of s.inside a f

-- each place has the elements that stand there, and no others
abbrev pub IsGrouped : BTreeMap IdBytes Placed → Groups → Type 0
IsGrouped t g = (p : Place) (e : IdBytes) → get (standing g p) e ≡ stood p (tree.get id_cmp t e)

-- the rows are held by source and feature
abbrev pub IsOut : BTreeMap RowKey ℕ → BTreeMap IdBytes (BTreeMap ℕ Ranks) → Type 0
IsOut t out = (a : IdBytes) (f : ℕ) (b : IdBytes) → get (members_of out a f) b ≡ tree.get row_cmp t (a, f, b)

-- the rows to an element
abbrev pub rows_of : Option (BTreeMap RowKey ℕ) → FinMap row_cmp ℕ
rows_of None = empty
rows_of (Some t) = table row_cmp t

-- those to the element of that id
abbrev pub incoming_rows : BTreeMap IdBytes (BTreeMap RowKey ℕ) → IdBytes → FinMap row_cmp ℕ
incoming_rows t b = rows_of (tree.get id_cmp t b)

-- the rows are held by target
abbrev pub HoldIncoming : BTreeMap RowKey ℕ → BTreeMap IdBytes (BTreeMap RowKey ℕ) → Type 0
HoldIncoming t into = (b : IdBytes) (k : RowKey) → get (incoming_rows into b) k ≡ cond (text_eq b k.2) (tree.get row_cmp t k) None
