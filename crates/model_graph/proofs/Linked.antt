-- References put in, taken back and taken out.
use Rattle.std.proofs.Common.{◌≡◌, ℕ, true, sym, ap, subst, ◌∙◌}
use Rattle.std.specs.Prelude.{Option, Some, IsSome, is_some}
use Rattle.std.specs.Option.{option_map}
use Rattle.std.specs.FinMap.{get, empty, get-empty}
use Rattle.finite_maps.specs.Maps.{set}
use Rattle.spread_maps.specs.Spread.{inner}
use Rattle.finite_maps.proofs.MapLaws.{get-set_same, set_back, set_here}
use Rattle.model_state.specs.declared.step.Place.TheVariants.{Root, Inside}
use Rattle.model_state.specs.Keys.{IdBytes, AttrKey, id_cmp}
use Rattle.model_state.specs.State.{State, is_live}
use Rattle.model_state.proofs.Orders.{id_order, attr_order}
use Rattle.graph_parts.specs.declared.element.Node.{Node}
use Rattle.ranked_lists.specs.Ranks.{Ranks, stood}
use Rattle.model_graph.specs.Seen.{Elements, nodes_state, IsHoused, IsAtBothEnds, Rewrites}
use Rattle.model_graph.proofs.Changed.{rewritten, live_node, live_after}
use Rattle.model_graph.proofs.Housed.{mirrored_set, placed_linked, standing_linked, housed_by}

pub out_key : (m one : Elements) (a b copy : IdBytes) (f : ℕ) (v : Option ℕ) → copy ≡ b
    → Rewrites m one a (λ n. record n { out = set n.out (f, copy) v }) → Rewrites m one a (λ n. record n { out = set n.out (f, b) v })
out_key m one a b copy f v is w = subst (λ x. Rewrites m one a (λ n. record n { out = set n.out (f, x) v })) is w

pub into_key : (m one : Elements) (b : IdBytes) (key key' : AttrKey) (v : Option ℕ) → key ≡ key'
    → Rewrites m one b (λ n. record n { into = set n.into key v }) → Rewrites m one b (λ n. record n { into = set n.into key' v })
into_key m one b key key' v is w = subst (λ (x : AttrKey). Rewrites m one b (λ n. record n { into = set n.into x v })) is w

pub live_there : (m : Elements) (s : State) (e : IdBytes) → nodes_state m ≡ s → is_live s e ≡ true → IsSome (get m e)
live_there m s e is live = live_node m e (ap (λ (t : State). is_some (get t.kind e)) is ∙ live)

pub live_rewritten : (m one : Elements) (a x : IdBytes) (h : Node → Node) → Rewrites m one a h → IsSome (get m x) → IsSome (get one x)
live_rewritten m one a x h w live = subst (λ (t : Elements). IsSome (get t x)) (sym w.2) (live_after m a x (h w.0) live)

pub into_there : (m one : Elements) (b : IdBytes) (k : AttrKey) (rank : ℕ) → Rewrites m one b (λ n. record n { into = set n.into k (Some rank) })
    → is_some (inner (λ (n : Node). n.into) (get one b) k) ≡ true
into_there m one b k rank w =
    let n = w.0 in
    let n' : Node = record n { into = set n.into k (Some rank) } in
    ap (λ t. is_some (inner (λ (n : Node). n.into) (get t b) k)) w.2
    ∙ ap (λ o. is_some (inner (λ (n : Node). n.into) o k)) (get-set_same id_order m b (Some n'))
    ∙ ap is_some (get-set_same attr_order n.into k (Some rank))

pub linked : (r : Ranks) (m one two : Elements) (a b : IdBytes) (f : ℕ) (v : Option ℕ)
    → Rewrites m one b (λ (n : Node). record n { into = set n.into (a, f) v }) → Rewrites one two a (λ (n : Node). record n { out = set n.out (f, b) v })
    → IsAtBothEnds m × IsHoused r m → IsAtBothEnds two × IsHoused r two
linked r m one two a b f v into out good = (
  mirrored_set m one two a b f v into out good.0,
  housed_by r m two good.1 (placed_linked m one two a b f v into out) (standing_linked m one two a b f v into out r),
)

-- what was put in is taken back
pub row_back : (m one two : Elements) (b : IdBytes) (k : AttrKey) (v old : Option ℕ) → inner (λ (n : Node). n.into) (get m b) k ≡ old
    → Rewrites m one b (λ n. record n { into = set n.into k v }) → Rewrites one two b (λ n. record n { into = set n.into k old }) → two ≡ m
row_back m one two b k v old was into back =
    let n = into.0 in
    let n' : Node = record n { into = set n.into k v } in
    let w = back.0 in
    let is : w ≡ n' = one_node w n' (sym back.1 ∙ ap (λ x. get x b) into.2 ∙ get-set_same id_order m b (Some n')) in
    let undone : set w.into k old ≡ n.into =
    ap (λ (x : Node). set x.into k old) is ∙ set_back attr_order n.into k old v (sym (ap (λ a. inner (λ (n : Node). n.into) a k) into.1) ∙ was) in
    rewritten m one two b n' (record w { into = set w.into k old }) into.2 back.2
    ∙ ap (λ x. set m b (Some x)) ((λ i. record (is i) { into = undone i })) ∙ set_here id_order m b (Some n) into.1
  where
    one_node : (x y : Node) → Some x ≡ Some y → x ≡ y
    one_node x y h = cc

pub start_good : (r : Ranks) (m : Elements) → r ≡ empty → m ≡ empty → IsAtBothEnds m × IsHoused r m
start_good r m bare none =
    subst (λ (t : Elements). IsAtBothEnds t × IsHoused r t) (sym none)
    (subst (λ (t : Ranks). IsAtBothEnds empty × IsHoused t empty) (sym bare) (mirror, housed))
  where
    mirror : IsAtBothEnds empty
    mirror a b f = ap (λ o. inner (λ (n : Node). n.into) o (a, f)) (get-empty id_cmp b)
        ∙ sym (ap (λ o. inner (λ (n : Node). n.out) o (f, b)) (get-empty id_cmp a))

    housed : IsHoused empty empty
    housed Root x = get-empty id_cmp x ∙ sym (ap (λ o. stood Root (option_map (λ (n : Node). n.placed) o)) (get-empty id_cmp x))
    housed (Inside a f) x =
        ap (λ o. inner (λ (n : Node). n.inside) o (f, x)) (get-empty id_cmp a)
        ∙ sym (ap (λ o. stood (Inside a f) (option_map (λ (n : Node). n.placed) o)) (get-empty id_cmp x))
