-- The values of an attribute that is set, changed where they stand.
use Rattle.std.proofs.Common.{◌≡◌, ◌<◌, ℕ, List, refl, sym, ap, subst, length, arith}
use Rattle.std.specs.Prelude.{Option, None, Some, IsSome}
use Rattle.std.specs.List.{remove}
use Rattle.std.specs.FinMap.{get}
use Rattle.std.proofs.lemmas.List.Edits.{length-remove}
use Rattle.ecore_meta.specs.declared.meta.Value.{Value}
use Rattle.finite_maps.specs.Maps.{set}
use Rattle.finite_maps.proofs.MapLaws.{set_here}
use Rattle.spread_maps.specs.Spread.{inner}
use Rattle.model_state.specs.Keys.{IdBytes}
use Rattle.model_state.specs.Lists.{entry_of}
use Rattle.model_state.specs.State.{State}
use Rattle.model_state.proofs.Orders.{attr_order}
use Rattle.graph_parts.specs.declared.element.Node.{Node}
use Rattle.ranked_lists.specs.Ranks.{Ranks}
use Rattle.model_graph.specs.Seen.{Elements, nodes_state}
use Rattle.model_graph.proofs.Looked.{read_attr}
use Rattle.model_graph.proofs.Stored.{AreKept, attr_state, attr_kept, entry_none}

module _ (m : Elements) (s : State) (e : IdBytes) (f : ℕ) (view : nodes_state m ≡ s) where
  node_some : (o : Option Node) → IsSome (inner (λ (n : Node). n.attrs) o f) → IsSome o
  node_some None h = cc
  node_some (Some n) h = refl

  -- the element is there
  pub holder_there : IsSome (get s.attr (e, f)) → IsSome (get m e)
  holder_there some = node_some (get m e) (subst (λ o. IsSome o) (sym (read_attr m s view e f (get m e) refl)) some)

  -- what the element has for the attribute
  pub held : (n : Node) → get m e ≡ Some n → get n.attrs f ≡ get s.attr (e, f)
  held n is = read_attr m s view e f (Some n) (sym is)

  pub held_there : (n : Node) → get m e ≡ Some n → IsSome (get s.attr (e, f)) → IsSome (get n.attrs f)
  held_there n is some = subst (λ o. IsSome o) (sym (held n is)) some

  -- the element with other values
  abbrev pub revalued : Node → List Value → Elements
  revalued n w = set m e (Some (record n { attrs = set n.attrs f (Some w) }))

  pub revalued_state : (r : Ranks) (n : Node) (w : List Value) → get m e ≡ Some n → nodes_state (revalued n w) ≡ record s { attr = set s.attr (e, f) (Some w) }
  revalued_state r n w is = attr_state r m (revalued n w) s e f (Some w) view (n, is, refl)

  pub revalued_kept : (r : Ranks) (n : Node) (w : List Value) → get m e ≡ Some n → AreKept r m → AreKept r (revalued n w)
  revalued_kept r n w is agree = attr_kept r m (revalued n w) s e f (Some w) view (n, is, refl) agree

-- the values stay
pub same_values : (s : State) (e : IdBytes) (f : ℕ) (vs : List Value) → get s.attr (e, f) ≡ Some vs → record s { attr = set s.attr (e, f) (Some vs) } ≡ s
same_values s e f vs is = ap (λ a. record s { attr = a }) (set_here attr_order s.attr (e, f) (Some vs) is)

-- no value is left
pub removed_last : (vs : List Value) (at : ℕ) → at < length vs → length vs ≡ 1 → None ≡ entry_of (remove vs at)
removed_last vs at h one = entry_none (remove vs at) (omega (arith, length-remove vs at h, one))
