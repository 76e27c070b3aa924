-- The state that elements in slots are, and what is kept beside each element.
use Rattle.std.specs.Prelude.{◌≡◌, ℕ, Bool, true, Option, None, Some, IsSome}
use Rattle.std.specs.Option.{option_map}
use Rattle.std.specs.declared.cmp.Ordering.{Ordering}
use Rattle.std.specs.FinMap.{FinMap, get}
use Rattle.finite_maps.specs.Maps.{set}
use Rattle.spread_maps.specs.Spread.{mapped, inner, Joined, spread, is_bare}
use Rattle.model_state.specs.declared.step.Place.{Place}
use Rattle.model_state.specs.declared.step.Place.TheVariants.{Root, Inside}
use Rattle.model_state.specs.declared.step.Placed.{Placed}
use Rattle.model_state.specs.Keys.{IdBytes, AttrKey, RowKey, id_cmp, attr_cmp, row_cmp}
use Rattle.model_state.specs.State.{State}
use Rattle.graph_parts.specs.declared.element.Node.{Node}
use Rattle.ranked_lists.specs.Ranks.{Ranks, stood}
use Rattle.graph_parts.specs.Parts.{ListKey}

-- the elements by their ids
abbrev pub Elements : Type 0
Elements = FinMap id_cmp Node

-- an attribute's key is its element, and its feature
abbrev pub by_feature : Joined IdBytes ℕ AttrKey
by_feature = record { first = λ k. k.0; second = λ k. k.1; both = λ e f. (e, f) }

-- a row's key is its source, and its feature and target
abbrev pub by_target : Joined IdBytes ListKey RowKey
by_target = record { first = λ k. k.0; second = λ k. (k.1, k.2); both = λ a l. (a, l.0, l.1) }

-- the state that the elements are
abbrev pub nodes_state : Elements → State
nodes_state m = record {
  kind = mapped (λ (n : Node). n.class) m;
  place = mapped (λ (n : Node). n.placed.place) m;
  prank = mapped (λ (n : Node). n.placed.rank) m;
  attr = spread attr_cmp by_feature (λ (n : Node). n.attrs) m;
  row = spread row_cmp by_target (λ (n : Node). n.out) m;
}

-- where an element stands, and its rank there
abbrev pub placed_at : Elements → IdBytes → Option Placed
placed_at m x = option_map (λ (n : Node). n.placed) (get m x)

-- the rank that the list of a place has for an element
abbrev pub standing : Ranks → Elements → Place → IdBytes → Option ℕ
standing roots m Root x = get roots x
standing roots m (Inside a f) x = inner (λ (n : Node). n.inside) (get m a) (f, x)

-- each list has the elements that stand there, and no others
abbrev pub IsHoused : Ranks → Elements → Type 0
IsHoused roots m = (p : Place) (x : IdBytes) → standing roots m p x ≡ stood p (placed_at m x)

-- a reference stands at its target as at its source, with the same rank
abbrev pub IsAtBothEnds : Elements → Type 0
IsAtBothEnds m = (a b : IdBytes) (f : ℕ) → inner (λ (n : Node). n.into) (get m b) (a, f) ≡ inner (λ (n : Node). n.out) (get m a) (f, b)

-- the node of the id is as h makes it, and the others stay
abbrev pub Rewrites : Elements → Elements → IdBytes → (Node → Node) → Type 0
Rewrites old new e h = (n : Node) × (get old e ≡ Some n) × (new ≡ set old e (Some (h n)))

-- the place is the root, or inside an element that is there
abbrev pub IsPlaceThere : Elements → Place → Type 0
IsPlaceThere m Root = Unit {0}
IsPlaceThere m (Inside a f) = IsSome (get m a)

-- one entry of the list of a place is written, and nothing else
abbrev pub IsListWritten : Place → IdBytes → Option ℕ → Ranks → Elements → Ranks → Elements → Type 0
IsListWritten Root e v roots m roots' m' = (roots' ≡ set roots e v) × (m' ≡ m)
IsListWritten (Inside a f) e v roots m roots' m' = (roots' ≡ roots) × Rewrites m m' a (λ (n : Node). record n { inside = set n.inside (f, e) v })

-- the element is not there, or its part has no entry
abbrev pub bare_part : {L X : Type 0} {Q : L → L → Ordering} → (Node → FinMap Q X) → Option Node → Bool
bare_part part None = true
bare_part part (Some n) = is_bare (part n)

-- the first of two nodes that is there
abbrev pub either_node : Option Node → Option Node → Option Node
either_node None n = n
either_node (Some k) n = Some k
