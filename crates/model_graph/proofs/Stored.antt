-- What the writes of a graph are for its state, and that what is kept beside each element agrees after them.
use Rattle.std.proofs.Common.{◌≡◌, ◌≢◌, ℕ, true, false, cond, List, [], ◌∷◌, refl, sym, ap, subst, ◌∙◌, nat_eq, ◌&&◌, length, arith}
use Rattle.std.specs.Prelude.{Option, None, Some, IsSome, is_some}
use Rattle.std.specs.Option.{option_map}
use Rattle.std.specs.FinMap.{get, empty, get-empty}
use Rattle.ecore_meta.specs.declared.meta.Value.{Value}
use Rattle.finite_maps.specs.Maps.{set}
use Rattle.spread_maps.specs.Spread.{inner}
use Rattle.finite_maps.proofs.EqualLaws.{and_first, and_second}
use Rattle.finite_maps.proofs.MapLaws.{set_here}
use Rattle.model_state.specs.declared.step.Place.{Place}
use Rattle.model_state.specs.declared.step.Place.TheVariants.{Root, Inside}
use Rattle.model_state.specs.Keys.{IdBytes, AttrKey, attr_cmp}
use Rattle.model_state.specs.Lists.{entry_of}
use Rattle.model_state.specs.State.{State, is_live, place_eq, value_count, link_count, inner_count}
use Rattle.model_state.specs.Steps.{place_live}
use Rattle.model_state.proofs.Orders.{id_order, nat_order, attr_order}
use Rattle.model_state.proofs.StepTests.{place_equality}
use Rattle.graph_parts.specs.declared.element.Node.{Node}
use Rattle.ranked_lists.specs.Ranks.{Ranks, stood}
use Rattle.graph_parts.specs.Parts.{ListKey, list_key_cmp}
use Rattle.model_graph.specs.Seen.{Elements, nodes_state, IsAtBothEnds, IsHoused, IsPlaceThere, Rewrites, IsListWritten, bare_part}
use Rattle.model_graph.proofs.Changed.{kept, attr_written, placed_written, made, gone, some_is, no_node, live_after}
use Rattle.model_graph.proofs.Emptied.{no_values, no_rows, no_children, part_none}
use Rattle.graph_parts.proofs.ListLaws.{list_key_order}
use Rattle.model_graph.proofs.Housed.{Alike, alike_state, lists_alike, mirrored_by, housed_by, housed_made, housed_gone, housed_reranked}
use Rattle.model_graph.proofs.Housed.{housed_moved, standing_kept}
use Rattle.model_graph.proofs.Linked.{live_there}
use Rattle.model_graph.proofs.Looked.{read_class, read_place, read_row, read_into}

-- what is kept beside each element agrees
abbrev pub AreKept : Ranks → Elements → Type 0
AreKept r m = IsAtBothEnds m × IsHoused r m

pub node_of : (o : Option Node) → IsSome o → (n : Node) × (o ≡ Some n)
node_of None h = cc
node_of (Some n) h = (n, refl)

there_of : (o : Option Node) (l : ListKey) (v : ℕ) → inner (λ (n : Node). n.inside) o l ≡ Some v → IsSome o
there_of None l v h = cc
there_of (Some n) l v h = some_is (Some n) n refl

pub place_there : (m : Elements) (s : State) (p : Place) → nodes_state m ≡ s → place_live s p ≡ true → IsPlaceThere m p
place_there m s Root is live = tt
place_there m s (Inside a f) is live = live_there m s a is live

-- the place of an element is there
pub housed_place : (r : Ranks) (m : Elements) (e : IdBytes) (n : Node) → IsHoused r m → get m e ≡ Some n → (p : Place) → n.placed.place ≡ p → IsPlaceThere m p
housed_place r m e n housed is Root same = tt
housed_place r m e n housed is (Inside a f) same =
    there_of (get m a) (f, e) n.placed.rank (housed (Inside a f) e ∙ ap (λ o. stood (Inside a f) (option_map (λ (n : Node). n.placed) o)) is
    ∙ ap (λ b. cond b (Some n.placed.rank) None) (subst (λ q. place_eq q n.placed.place ≡ true) same (place_own n.placed.place)))
  where
    place_own : (p : Place) → place_eq p p ≡ true
    place_own p = place_equality.own p

pub stands_at : (m : Elements) (s : State) (e : IdBytes) (n : Node) (p : Place) → nodes_state m ≡ s → get m e ≡ Some n → get s.place e ≡ Some p
    → n.placed.place ≡ p
stands_at m s e n p is at stands = one_place n.placed.place p (read_place m s is e (Some n) (sym at) ∙ stands)
  where
    one_place : (p q : Place) → Some p ≡ Some q → p ≡ q
    one_place p q h = cc

alike_kept : (m n : Elements) → Alike m n → IsAtBothEnds m → IsAtBothEnds n
alike_kept m n a mirror = mirrored_by m n mirror a.into a.out

-- ---- an element taken out
module _ (r : Ranks) (m : Elements) (r' : Ranks) (m' : Elements) (s : State) (e : IdBytes) (p : Place)
    (view : nodes_state m ≡ s) (agree : AreKept r m) (live : is_live s e ≡ true) (stands : get s.place e ≡ Some p)
    (no_value : nat_eq (value_count s e) 0 ≡ true) (no_row : nat_eq (link_count s e) 0 ≡ true) (no_child : nat_eq (inner_count s e) 0 ≡ true)
    (w : IsListWritten p e None r m r' m') where
  abbrev alike : Alike m m'
  alike = lists_alike p e None r m r' m' w

  bare_values : (f : ℕ) → inner (λ (n : Node). n.attrs) (get m' e) f ≡ None
  bare_values f = alike.attrs e f
      ∙ part_none nat_order (λ (n : Node). n.attrs) (get m e) (no_values m e ∙ ap (λ (t : State). nat_eq (value_count t e) 0) view ∙ no_value) f

  both_bare : bare_part (λ (n : Node). n.out) (get m e) && bare_part (λ (n : Node). n.into) (get m e) ≡ true
  both_bare = no_rows m agree.0 e ∙ ap (λ (t : State). nat_eq (link_count t e) 0) view ∙ no_row

  bare_out : (k : ListKey) → inner (λ (n : Node). n.out) (get m' e) k ≡ None
  bare_out k = alike.out e k ∙ part_none list_key_order (λ (n : Node). n.out) (get m e) (and_first _ _ both_bare) k

  bare_into : (k : AttrKey) → inner (λ (n : Node). n.into) (get m' e) k ≡ None
  bare_into k = alike.into e k ∙ part_none attr_order (λ (n : Node). n.into) (get m e) (and_second _ _ both_bare) k

  pub took_out_state : nodes_state (set m' e None) ≡ record s { kind = set s.kind e None; place = set s.place e None; prank = set s.prank e None }
  took_out_state =
      gone m' e bare_values bare_out
      ∙ ap (λ (t : State). record t { kind = set t.kind e None; place = set t.place e None; prank = set t.prank e None }) (alike_state m m' alike ∙ view)

  pub took_out_kept : AreKept r' (set m' e None)
  took_out_kept =
      let n = node_of (get m e) (live_there m s e view live) in
      let same = stands_at m s e n.0 p view n.1 stands in (
        mirrored_by m' (set m' e None) (alike_kept m m' alike agree.0)
            (λ x l. kept m' e (get m' e) None refl (λ o. inner (λ (n : Node). n.into) o l) (sym (bare_into l)) x)
            (λ x l. kept m' e (get m' e) None refl (λ o. inner (λ (n : Node). n.out) o l) (sym (bare_out l)) x),
        housed_gone r m r' m' e n.0 agree.1 n.1
            (λ f x. part_none list_key_order (λ (n : Node). n.inside) (get m e)
            (no_children r m agree.1 e ∙ ap (λ (t : State). nat_eq (inner_count t e) 0) view ∙ no_child) (f, x))
            (subst (λ q. IsListWritten q e None r m r' m') (sym same) w),
      )

-- ---- an element made
module _ (r : Ranks) (m : Elements) (r' : Ranks) (m' : Elements) (s : State) (e : IdBytes) (n : Node)
    (view : nodes_state m ≡ s) (agree : AreKept r m) (absent : get s.kind e ≡ None)
    (no_value : n.attrs ≡ empty) (no_out : n.out ≡ empty) (no_into : n.into ≡ empty) (no_inside : n.inside ≡ empty)
    (w : IsListWritten n.placed.place e (Some n.placed.rank) r (set m e (Some n)) r' m') where
  none_yet : get m e ≡ None
  none_yet = no_node m e (ap (λ (t : State). get t.kind e) view ∙ absent)

  abbrev alike_made : Alike (set m e (Some n)) m'
  alike_made = lists_alike n.placed.place e (Some n.placed.rank) r (set m e (Some n)) r' m' w

  pub made_state : nodes_state m' ≡ record s {
    kind = set s.kind e (Some n.class);
    place = set s.place e (Some n.placed.place);
    prank =
        set s.prank e (Some n.placed.rank);
  }
  made_state =
      alike_state (set m e (Some n)) m' alike_made ∙ made m e n none_yet no_value no_out
      ∙ ap (λ (t : State). record t {
        kind = set t.kind e (Some n.class);
        place = set t.place e (Some n.placed.place);
        prank =
            set t.prank e (Some n.placed.rank);
      }) view

  pub made_kept : AreKept r' m'
  made_kept = (
    alike_kept (set m e (Some n)) m' alike_made (mirrored_by m (set m e (Some n)) agree.0
        (λ x l. kept m e None (Some n) none_yet (λ o. inner (λ (n : Node). n.into) o l) (ap (λ t. get t l) no_into ∙ get-empty attr_cmp l) x)
        (λ x l. kept m e None (Some n) none_yet (λ o. inner (λ (n : Node). n.out) o l) (ap (λ t. get t l) no_out ∙ get-empty list_key_cmp l) x)),
    housed_made r m r' m' e n agree.1 none_yet no_inside w,
  )

-- ---- an attribute written
module _ (r : Ranks) (m m' : Elements) (s : State) (e : IdBytes) (f : ℕ) (v : Option (List Value))
    (view : nodes_state m ≡ s) (w : Rewrites m m' e (λ (n : Node). record n { attrs = set n.attrs f v })) where
  pub attr_state : nodes_state m' ≡ record s { attr = set s.attr (e, f) v }
  attr_state = ap nodes_state w.2 ∙ attr_written m e w.0 w.1 f v ∙ ap (λ (t : State). record t { attr = set t.attr (e, f) v }) view

  pub attr_kept : AreKept r m → AreKept r m'
  attr_kept agree =
      let n = w.0 in
      let k : Node = record n { attrs = set n.attrs f v } in
      subst (λ (t : Elements). AreKept r t) (sym w.2) (
        mirrored_by m (set m e (Some k)) agree.0
            (λ x l. kept m e (Some n) (Some k) w.1 (λ o. inner (λ (n : Node). n.into) o l) refl x)
            (λ x l. kept m e (Some n) (Some k) w.1 (λ o. inner (λ (n : Node). n.out) o l) refl x),
        housed_by r m (set m e (Some k)) agree.1
            (kept m e (Some n) (Some k) w.1 (option_map (λ (n : Node). n.placed)) refl)
            (standing_kept r m e (Some n) (Some k) w.1 (λ l. refl)),
      )

-- ---- an element moved to another place
module _ (r : Ranks) (m : Elements) (r1 : Ranks) (m1 : Elements) (r2 : Ranks) (m2 m3 : Elements) (s : State) (e : IdBytes) (n : Node)
    (from to : Place) (rank : ℕ)
    (view : nodes_state m ≡ s) (is : get m e ≡ Some n) (same : n.placed.place ≡ from)
    (w : IsListWritten to e (Some rank) r m r1 m1) (u : IsListWritten from e None r1 m1 r2 m2)
    (t : Rewrites m2 m3 e (λ (k : Node). record k { placed = record { place = to; rank = rank } })) where
  alike_both : nodes_state m2 ≡ nodes_state m
  alike_both = alike_state m1 m2 (lists_alike from e None r1 m1 r2 m2 u) ∙ alike_state m m1 (lists_alike to e (Some rank) r m r1 m1 w)

  pub moved_state : nodes_state m3 ≡ record s { place = set s.place e (Some to); prank = set s.prank e (Some rank) }
  moved_state =
      ap nodes_state t.2 ∙ placed_written m2 e t.0 t.1 (record { place = to; rank = rank })
      ∙ ap (λ (x : State). record x { place = set x.place e (Some to); prank = set x.prank e (Some rank) }) (alike_both ∙ view)

  pub moved_kept : AreKept r m → place_eq from to ≡ false → AreKept r2 m3
  moved_kept agree differ =
      let k = t.0 in
      let k' : Node = record k { placed = record { place = to; rank = rank } } in
      subst (λ (x : Elements). AreKept r2 x) (sym t.2) (
        mirrored_by m2 (set m2 e (Some k'))
            (alike_kept m1 m2 (lists_alike from e None r1 m1 r2 m2 u) (alike_kept m m1 (lists_alike to e (Some rank) r m r1 m1 w) agree.0))
            (λ x l. kept m2 e (Some k) (Some k') t.1 (λ o. inner (λ (n : Node). n.into) o l) refl x)
            (λ x l. kept m2 e (Some k) (Some k') t.1 (λ o. inner (λ (n : Node). n.out) o l) refl x),
        housed_moved r m r1 m1 r2 m2 e n k to rank agree.1 is t.1 (subst (λ q. place_eq q to ≡ false) (sym same) differ) w
            (subst (λ q. IsListWritten q e None r1 m1 r2 m2) (sym same) u),
      )

-- ---- an element that gets another rank where it stands
module _ (r : Ranks) (m : Elements) (r1 : Ranks) (m1 m2 : Elements) (s : State) (e : IdBytes) (n : Node) (p : Place) (rank : ℕ)
    (view : nodes_state m ≡ s) (is : get m e ≡ Some n) (same : n.placed.place ≡ p)
    (w : IsListWritten p e (Some rank) r m r1 m1)
    (t : Rewrites m1 m2 e (λ (k : Node). record k { placed = record { place = p; rank = rank } })) where
  pub reranked_state : nodes_state m2 ≡ record s { prank = set s.prank e (Some rank) }
  reranked_state =
      ap nodes_state t.2 ∙ placed_written m1 e t.0 t.1 (record { place = p; rank = rank })
      ∙ ap (λ (x : State). record x { place = set x.place e (Some p); prank = set x.prank e (Some rank) })
      (alike_state m m1 (lists_alike p e (Some rank) r m r1 m1 w) ∙ view)
      ∙ (λ i. record s {
        place = set_here id_order s.place e (Some p) (sym (read_place m s view e (Some n) (sym is)) ∙ ap Some same) i;
        prank =
            set s.prank e (Some rank);
      })

  pub reranked_kept : AreKept r m → AreKept r1 m2
  reranked_kept agree =
      let k = t.0 in
      let k' : Node = record k { placed = record { place = p; rank = rank } } in
      subst (λ (x : Elements). AreKept r1 x) (sym t.2) (
        mirrored_by m1 (set m1 e (Some k')) (alike_kept m m1 (lists_alike p e (Some rank) r m r1 m1 w) agree.0)
            (λ x l. kept m1 e (Some k) (Some k') t.1 (λ o. inner (λ (n : Node). n.into) o l) refl x)
            (λ x l. kept m1 e (Some k) (Some k') t.1 (λ o. inner (λ (n : Node). n.out) o l) refl x),
        subst (λ q. IsHoused r1 (set m1 e (Some (record k { placed = record { place = q; rank = rank } })))) same
            (housed_reranked r m r1 m1 e n k rank agree.1 is t.1 (subst (λ q. IsListWritten q e (Some rank) r m r1 m1) (sym same) w)),
      )

-- ---- lists of values
pub entry_none : (vs : List Value) → length vs ≡ 0 → None ≡ entry_of vs
entry_none [] h = refl
entry_none (v ∷ vs) h = absurd (omega (arith, h))

pub entry_some : (vs : List Value) → length vs ≢ 0 → Some vs ≡ entry_of vs
entry_some [] h = absurd (h refl)
entry_some (v ∷ vs) h = refl

-- ---- ends of references
pub source_live : (m : Elements) (s : State) (a b : IdBytes) (f : ℕ) → nodes_state m ≡ s → is_some (get s.row (a, f, b)) ≡ true → is_live s a ≡ true
source_live m s a b f view there =
    ap is_some (sym (read_class m s view a (get m a) refl)) ∙ some_out (get m a) (ap is_some (read_row m s view a f b) ∙ there)
  where
    some_out : (o : Option Node) → is_some (inner (λ (n : Node). n.out) o (f, b)) ≡ true → is_some (option_map (λ (n : Node). n.class) o) ≡ true
    some_out None h = cc
    some_out (Some n) h = refl

pub target_live : (m : Elements) (s : State) (a b : IdBytes) (f : ℕ) → IsAtBothEnds m → nodes_state m ≡ s → is_some (get s.row (a, f, b)) ≡ true
    → is_live s b ≡ true
target_live m s a b f mirror view there =
    ap is_some (sym (read_class m s view b (get m b) refl)) ∙ some_into (get m b) (ap is_some (read_into m s view mirror b (get m b) refl a f) ∙ there)
  where
    some_into : (o : Option Node) → is_some (inner (λ (n : Node). n.into) o (a, f)) ≡ true → is_some (option_map (λ (n : Node). n.class) o) ≡ true
    some_into None h = cc
    some_into (Some n) h = refl

-- ---- copies of ids and places
-- a list that was written under the id that is the element's
pub written_for : (p : Place) (id e : IdBytes) (v : Option ℕ) (r : Ranks) (m : Elements) (r' : Ranks) (m' : Elements) → id ≡ e
    → IsListWritten p id v r m r' m' → IsListWritten p e v r m r' m'
written_for p id e v r m r' m' is w = subst (λ x. IsListWritten p x v r m r' m') is w

pub made_lists : (n : Node) (e : IdBytes) (p : Place) (rank : ℕ) (id : IdBytes) (r : Ranks) (m one : Elements) (r' : Ranks) (m' : Elements) → id ≡ e
    → n.placed.place ≡ p → n.placed.rank ≡ rank → one ≡ set m e (Some n)
    → IsListWritten p id (Some rank) r one r' m' → IsListWritten n.placed.place e (Some n.placed.rank) r (set m e (Some n)) r' m'
made_lists n e p rank id r m one r' m' is place ranked first w =
    subst (λ q. IsListWritten q e (Some n.placed.rank) r (set m e (Some n)) r' m') (sym place)
    (subst (λ k. IsListWritten p e (Some k) r (set m e (Some n)) r' m') (sym ranked)
    (subst (λ (t : Elements). IsListWritten p e (Some rank) r t r' m') first
    (written_for p id e (Some rank) r one r' m' is w)))

pub place_after : (m one : Elements) (e : IdBytes) (n : Node) (p : Place) → one ≡ set m e (Some n) → IsPlaceThere m p → IsPlaceThere one p
place_after m one e n Root is live = tt
place_after m one e n (Inside a f) is live = subst (λ (t : Elements). IsSome (get t a)) (sym is) (live_after m e a n live)

-- the element that stands in a place
pub stood_node : (m : Elements) (s : State) (e : IdBytes) (p : Place) → nodes_state m ≡ s → get s.place e ≡ Some p
    → (n : Node) × (get m e ≡ Some n) × (n.placed.place ≡ p)
stood_node m s e p is stands = found (get m e) refl (read_place m s is e (get m e) refl ∙ stands)
  where
    one_place : (p q : Place) → Some p ≡ Some q → p ≡ q
    one_place p q h = cc

    found : (o : Option Node) → get m e ≡ o → option_map (λ (n : Node). n.placed.place) o ≡ Some p → (n : Node) × (get m e ≡ Some n) × (n.placed.place ≡ p)
    found None at h = cc
    found (Some n) at h = (n, at, one_place n.placed.place p h)

pub no_live : (o : Option Node) → IsSome o → o ≡ None → ⊥
no_live None live h = cc
no_live (Some n) live h = cc
