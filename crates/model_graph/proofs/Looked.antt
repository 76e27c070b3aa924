-- What is read of the elements is what the state has.
use Rattle.std.proofs.Common.{◌≡◌, ℕ, refl, sym, ap, ◌∙◌}
use Rattle.std.specs.Prelude.{Option, None, Some}
use Rattle.std.specs.Option.{option_map}
use Rattle.std.specs.FinMap.{get, keys}
use Rattle.spread_maps.specs.Spread.{inner}
use Rattle.model_state.specs.declared.step.Placed.{Placed}
use Rattle.model_state.specs.Keys.{IdBytes}
use Rattle.model_state.specs.State.{State}
use Rattle.model_state.proofs.Orders.{id_order}
use Rattle.graph_parts.specs.declared.element.Node.{Node}
use Rattle.model_graph.specs.Seen.{Elements, nodes_state, placed_at, IsAtBothEnds}
use Rattle.model_graph.proofs.Changed.{class_of, place_of, prank_of, attr_of, row_of}
use Rattle.model_graph.proofs.Listings.{keys_mapped}

module _ (m : Elements) (s : State) (is : nodes_state m ≡ s) where
  pub read_class : (e : IdBytes) (o : Option Node) → o ≡ get m e → option_map (λ (n : Node). n.class) o ≡ get s.kind e
  read_class e o h = ap (option_map (λ (n : Node). n.class)) h ∙ sym (class_of m e) ∙ ap (λ (t : State). get t.kind e) is

  pub read_place : (e : IdBytes) (o : Option Node) → o ≡ get m e → option_map (λ (n : Node). n.placed.place) o ≡ get s.place e
  read_place e o h = ap (option_map (λ (n : Node). n.placed.place)) h ∙ sym (place_of m e) ∙ ap (λ (t : State). get t.place e) is

  pub read_rank : (e : IdBytes) (o : Option Node) → o ≡ get m e → option_map (λ (n : Node). n.placed.rank) o ≡ get s.prank e
  read_rank e o h = ap (option_map (λ (n : Node). n.placed.rank)) h ∙ sym (prank_of m e) ∙ ap (λ (t : State). get t.prank e) is

  pub read_attr : (e : IdBytes) (f : ℕ) (o : Option Node) → o ≡ get m e → inner (λ (n : Node). n.attrs) o f ≡ get s.attr (e, f)
  read_attr e f o h = ap (λ o. inner (λ (n : Node). n.attrs) o f) h ∙ sym (attr_of m e f) ∙ ap (λ (t : State). get t.attr (e, f)) is

  pub read_row : (a : IdBytes) (f : ℕ) (b : IdBytes) → inner (λ (n : Node). n.out) (get m a) (f, b) ≡ get s.row (a, f, b)
  read_row a f b = sym (row_of m a f b) ∙ ap (λ (t : State). get t.row (a, f, b)) is

  pub read_into : IsAtBothEnds m → (b : IdBytes) (o : Option Node) → o ≡ get m b → (a : IdBytes) (f : ℕ)
      → inner (λ (n : Node). n.into) o (a, f) ≡ get s.row (a, f, b)
  read_into mirror b o h a f = ap (λ o. inner (λ (n : Node). n.into) o (a, f)) h ∙ mirror a b f ∙ read_row a f b

  split_place : (o : Option Node) → option_map (λ (n : Node). n.placed.place) o ≡ option_map (λ (p : Placed). p.place) (option_map (λ (n : Node). n.placed) o)
  split_place None = refl
  split_place (Some n) = refl

  split_rank : (o : Option Node) → option_map (λ (n : Node). n.placed.rank) o ≡ option_map (λ (p : Placed). p.rank) (option_map (λ (n : Node). n.placed) o)
  split_rank None = refl
  split_rank (Some n) = refl

  pub places_are : (e : IdBytes) → get s.place e ≡ option_map (λ (p : Placed). p.place) (placed_at m e)
  places_are e = sym (read_place e (get m e) refl) ∙ split_place (get m e)

  pub ranks_are : (e : IdBytes) → get s.prank e ≡ option_map (λ (p : Placed). p.rank) (placed_at m e)
  ranks_are e = sym (read_rank e (get m e) refl) ∙ split_rank (get m e)

  pub keys_are : keys m ≡ keys s.kind
  keys_are = sym (keys_mapped id_order (λ (n : Node). n.class) m) ∙ ap (λ (t : State). keys t.kind) is
