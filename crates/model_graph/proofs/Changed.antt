-- What the change of one element is for the state.
use Rattle.std.proofs.Common.{◌≡◌, ℕ, Bool, true, false, cond, List, refl, sym, ap, subst, ◌∙◌, rules}
use Rattle.std.specs.Prelude.{Option, None, Some, IsSome, is_some}
use Rattle.std.specs.Option.{option_map}
use Rattle.std.specs.declared.cmp.Ordering.{Ordering}
use Rattle.std.specs.Ordering.{eq_by_cmp, nat_cmp}
use Rattle.std.specs.FinMap.{FinMap, get, empty, get-empty}
use Rattle.ecore_meta.specs.declared.meta.Value.{Value}
use Rattle.finite_maps.specs.Maps.{set}
use Rattle.spread_maps.specs.Spread.{inner}
use Rattle.finite_maps.proofs.MapLaws.{same, get-set, get-set_same, set_here, set_twice, same_key}
use Rattle.spread_maps.proofs.SpreadLaws.{IsJoined, get-mapped, mapped-set, get-spread, spread-set}
use Rattle.model_state.specs.declared.step.Placed.{Placed}
use Rattle.model_state.specs.Keys.{IdBytes, id_cmp, attr_cmp, row_cmp}
use Rattle.model_state.specs.State.{nothing}
use Rattle.model_state.proofs.Orders.{id_order, nat_order, attr_order, row_order}
use Rattle.graph_parts.specs.declared.element.Node.{Node}
use Rattle.graph_parts.specs.Parts.{ListKey, list_key_cmp}
use Rattle.model_graph.specs.Seen.{Elements, by_feature, by_target, nodes_state, placed_at}
use Rattle.graph_parts.proofs.ListLaws.{list_key_order}

-- a node changed twice is as it was changed last
pub rewritten : (m one two : Elements) (e : IdBytes) (k n : Node) → one ≡ set m e (Some k) → two ≡ set one e (Some n) → two ≡ set m e (Some n)
rewritten m one two e k n first second = second ∙ ap (λ x. set x e (Some n)) first ∙ set_twice id_order m e (Some k) (Some n)

pub some_is : {A : Type 0} (o : Option A) (x : A) → o ≡ Some x → IsSome o
some_is o x h = search (rules, h)

pub there : (m one : Elements) (e : IdBytes) (n : Node) → one ≡ set m e (Some n) → IsSome (get one e)
there m one e n is = some_is (get one e) n (ap (λ x. get x e) is ∙ get-set_same id_order m e (Some n))

pub put_back : (m : Elements) (e : IdBytes) (n : Node) → get m e ≡ Some n → set m e (Some n) ≡ m
put_back m e n is = set_here id_order m e (Some n) is

feature_joined : IsJoined by_feature
feature_joined = record { whole = λ k. refl; first_is = λ e l. refl; second_is = λ e l. refl }

target_joined : IsJoined by_target
target_joined = record { whole = λ k. refl; first_is = λ e l. refl; second_is = λ e l. refl }

-- ---- what the state has
pub class_of : (m : Elements) (e : IdBytes) → get (nodes_state m).kind e ≡ option_map (λ (n : Node). n.class) (get m e)
class_of m e = get-mapped id_order (λ (n : Node). n.class) m e

pub place_of : (m : Elements) (e : IdBytes) → get (nodes_state m).place e ≡ option_map (λ (n : Node). n.placed.place) (get m e)
place_of m e = get-mapped id_order (λ (n : Node). n.placed.place) m e

pub prank_of : (m : Elements) (e : IdBytes) → get (nodes_state m).prank e ≡ option_map (λ (n : Node). n.placed.rank) (get m e)
prank_of m e = get-mapped id_order (λ (n : Node). n.placed.rank) m e

pub attr_of : (m : Elements) (e : IdBytes) (f : ℕ) → get (nodes_state m).attr (e, f) ≡ inner (λ (n : Node). n.attrs) (get m e) f
attr_of m e f = get-spread id_order nat_order attr_order by_feature feature_joined (λ (n : Node). n.attrs) m (e, f)

pub row_of : (m : Elements) (a : IdBytes) (f : ℕ) (b : IdBytes) → get (nodes_state m).row (a, f, b) ≡ inner (λ (n : Node). n.out) (get m a) (f, b)
row_of m a f b = get-spread id_order list_key_order row_order by_target target_joined (λ (n : Node). n.out) m (a, f, b)

pub same_class : (a b : Elements) → ((x : IdBytes) → option_map (λ (n : Node). n.class) (get b x) ≡ option_map (λ (n : Node). n.class) (get a x))
    → (nodes_state b).kind ≡ (nodes_state a).kind
same_class a b h = same id_order _ _ (λ q. class_of b q ∙ h q ∙ sym (class_of a q))

place_read : (o : Option Node) → option_map (λ (n : Node). n.placed.place) o ≡ option_map (λ (p : Placed). p.place) (option_map (λ (n : Node). n.placed) o)
place_read None = refl
place_read (Some n) = refl

rank_read : (o : Option Node) → option_map (λ (n : Node). n.placed.rank) o ≡ option_map (λ (p : Placed). p.rank) (option_map (λ (n : Node). n.placed) o)
rank_read None = refl
rank_read (Some n) = refl

pub same_place : (a b : Elements) → ((x : IdBytes) → placed_at b x ≡ placed_at a x) → (nodes_state b).place ≡ (nodes_state a).place
same_place a b h = same id_order _ _
    (λ q. place_of b q ∙ place_read (get b q) ∙ ap (option_map (λ (p : Placed). p.place)) (h q) ∙ sym (place_read (get a q)) ∙ sym (place_of a q))

pub same_prank : (a b : Elements) → ((x : IdBytes) → placed_at b x ≡ placed_at a x) → (nodes_state b).prank ≡ (nodes_state a).prank
same_prank a b h = same id_order _ _
    (λ q. prank_of b q ∙ rank_read (get b q) ∙ ap (option_map (λ (p : Placed). p.rank)) (h q) ∙ sym (rank_read (get a q)) ∙ sym (prank_of a q))

pub same_attr : (a b : Elements) → ((x : IdBytes) (l : ℕ) → inner (λ (n : Node). n.attrs) (get b x) l ≡ inner (λ (n : Node). n.attrs) (get a x) l)
    → (nodes_state b).attr ≡ (nodes_state a).attr
same_attr a b h = same attr_order _ _ (λ q. attr_of b q.0 q.1 ∙ h q.0 q.1 ∙ sym (attr_of a q.0 q.1))

pub same_row : (a b : Elements) → ((x : IdBytes) (l : ListKey) → inner (λ (n : Node). n.out) (get b x) l ≡ inner (λ (n : Node). n.out) (get a x) l)
    → (nodes_state b).row ≡ (nodes_state a).row
same_row a b h = same row_order _ _ (λ q. row_of b q.0 q.1 q.2 ∙ h q.0 (q.1, q.2) ∙ sym (row_of a q.0 q.1 q.2))

-- ---- one node changed
module _ (m : Elements) (e : IdBytes) (o w : Option Node) (is : get m e ≡ o) where
  -- what is read of each node stays
  pub kept : {B : Type 0} (F : Option Node → B) → F w ≡ F o → (x : IdBytes) → F (get (set m e w) x) ≡ F (get m x)
  kept F h x =
      ap F (get-set id_order m e w x)
      ∙ elim (eq_by_cmp id_cmp x e) as (λ b. eq_by_cmp id_cmp x e ≡ b → F (cond b w (get m x)) ≡ F (get m x)) [
        | true ↦ λ one. h ∙ sym (ap (λ z. F (get m z)) (same_key id_order x e one) ∙ ap F is)
        | false ↦ λ _. refl
      ] refl

  -- what is read of this node is written
  pub hit : {B : Type 0} (F : Option Node → B) (x : IdBytes) → F (get (set m e w) x) ≡ cond (eq_by_cmp id_cmp x e) (F w) (F (get m x))
  hit F x = ap F (get-set id_order m e w x)
      ∙ elim (eq_by_cmp id_cmp x e) as (λ b. F (cond b w (get m x)) ≡ cond b (F w) (F (get m x))) [ true ↦ refl | false ↦ refl ]

  -- an entry of a part of this node is written
  pub part_hit : {L X : Type 0} {Q : L → L → Ordering} (part : Node → FinMap Q X) (k : L) (v : Option X)
      → ((l : L) → inner part w l ≡ cond (eq_by_cmp Q l k) v (inner part o l))
      → (x : IdBytes) (l : L)
      → inner part (get (set m e w) x) l ≡ cond (eq_by_cmp id_cmp x e) (cond (eq_by_cmp Q l k) v (inner part (get m x) l)) (inner part (get m x) l)
  part_hit {Q = Q} part k v h x l =
      ap (λ a. inner part a l) (get-set id_order m e w x)
      ∙ elim (eq_by_cmp id_cmp x e) as (λ b. eq_by_cmp id_cmp x e ≡ b
      → inner part (cond b w (get m x)) l ≡ cond b (cond (eq_by_cmp Q l k) v (inner part (get m x) l)) (inner part (get m x) l)) [
        | true ↦ λ one. h l ∙ ap (cond (eq_by_cmp Q l k) v) (sym (ap (λ z. inner part (get m z) l) (same_key id_order x e one) ∙ ap (λ a. inner part a l) is))
        | false ↦ λ _. refl
      ] refl

-- an attribute written
pub attr_written : (m : Elements) (e : IdBytes) (n : Node) → get m e ≡ Some n → (f : ℕ) (v : Option (List Value))
    → nodes_state (set m e (Some (record n { attrs = set n.attrs f v }))) ≡ record (nodes_state m) { attr = set (nodes_state m).attr (e, f) v }
attr_written m e n is f v =
    let w : Option Node = Some (record n { attrs = set n.attrs f v }) in
    let one = set m e w in
    let kind = same_class m one (kept m e (Some n) w is (option_map (λ (n : Node). n.class)) refl) in
    let place = same_place m one (kept m e (Some n) w is (option_map (λ (n : Node). n.placed)) refl) in
    let prank = same_prank m one (kept m e (Some n) w is (option_map (λ (n : Node). n.placed)) refl) in
    let attr = spread-set id_order nat_order attr_order by_feature feature_joined (λ (n : Node). n.attrs) m e w f v
    (λ i. get-set nat_order n.attrs f v i ∙ ap (λ a. cond (eq_by_cmp nat_cmp i f) v (inner (λ (n : Node). n.attrs) a i)) (sym is)) in
    let row = same_row m one (λ x l. kept m e (Some n) w is (λ a. inner (λ (n : Node). n.out) a l) refl x) in
    λ i. record { kind = kind i; place = place i; prank = prank i; attr = attr i; row = row i }

-- a reference out written
pub out_written : (m : Elements) (e : IdBytes) (n : Node) → get m e ≡ Some n → (k : ListKey) (v : Option ℕ)
    → nodes_state (set m e (Some (record n { out = set n.out k v }))) ≡ record (nodes_state m) { row = set (nodes_state m).row (e, k.0, k.1) v }
out_written m e n is k v =
    let w : Option Node = Some (record n { out = set n.out k v }) in
    let one = set m e w in
    let kind = same_class m one (kept m e (Some n) w is (option_map (λ (n : Node). n.class)) refl) in
    let place = same_place m one (kept m e (Some n) w is (option_map (λ (n : Node). n.placed)) refl) in
    let prank = same_prank m one (kept m e (Some n) w is (option_map (λ (n : Node). n.placed)) refl) in
    let attr = same_attr m one (λ x l. kept m e (Some n) w is (λ a. inner (λ (n : Node). n.attrs) a l) refl x) in
    let row = spread-set id_order list_key_order row_order by_target target_joined (λ (n : Node). n.out) m e w k v
    (λ i. get-set list_key_order n.out k v i ∙ ap (λ a. cond (eq_by_cmp list_key_cmp i k) v (inner (λ (n : Node). n.out) a i)) (sym is)) in
    λ i. record { kind = kind i; place = place i; prank = prank i; attr = attr i; row = row i }

-- where it stands written
pub placed_written : (m : Elements) (e : IdBytes) (n : Node) → get m e ≡ Some n → (p : Placed)
    → nodes_state (set m e (Some (record n { placed = p }))) ≡ record
    (nodes_state m) { place = set (nodes_state m).place e (Some p.place); prank = set (nodes_state m).prank e (Some p.rank) }
placed_written m e n is p =
    let w : Option Node = Some (record n { placed = p }) in
    let one = set m e w in
    let kind = same_class m one (kept m e (Some n) w is (option_map (λ (n : Node). n.class)) refl) in
    let place = mapped-set id_order (λ (n : Node). n.placed.place) m e w in
    let prank = mapped-set id_order (λ (n : Node). n.placed.rank) m e w in
    let attr = same_attr m one (λ x l. kept m e (Some n) w is (λ a. inner (λ (n : Node). n.attrs) a l) refl x) in
    let row = same_row m one (λ x l. kept m e (Some n) w is (λ a. inner (λ (n : Node). n.out) a l) refl x) in
    λ i. record { kind = kind i; place = place i; prank = prank i; attr = attr i; row = row i }

-- an element that holds nothing made
pub made : (m : Elements) (e : IdBytes) (n : Node) → get m e ≡ None → n.attrs ≡ empty → n.out ≡ empty
    → nodes_state (set m e (Some n)) ≡ record
    (nodes_state m) {
      kind = set (nodes_state m).kind e (Some n.class);
      place = set (nodes_state m).place e (Some n.placed.place);
      prank =
          set (nodes_state m).prank e (Some n.placed.rank);
    }
made m e n is no_value no_row =
    let w : Option Node = Some n in
    let one = set m e w in
    let kind = mapped-set id_order (λ (n : Node). n.class) m e w in
    let place = mapped-set id_order (λ (n : Node). n.placed.place) m e w in
    let prank = mapped-set id_order (λ (n : Node). n.placed.rank) m e w in
    let attr = same_attr m one (λ x l. kept m e None w is (λ a. inner (λ (n : Node). n.attrs) a l) (ap (λ x. get x l) no_value ∙ get-empty nat_cmp l) x) in
    let row = same_row m one (λ x l. kept m e None w is (λ a. inner (λ (n : Node). n.out) a l) (ap (λ x. get x l) no_row ∙ get-empty list_key_cmp l) x) in
    λ i. record { kind = kind i; place = place i; prank = prank i; attr = attr i; row = row i }

-- an element without values and references gone
pub gone : (m : Elements) (e : IdBytes) → ((f : ℕ) → inner (λ (n : Node). n.attrs) (get m e) f ≡ None)
    → ((k : ListKey) → inner (λ (n : Node). n.out) (get m e) k ≡ None)
    → nodes_state (set m e None) ≡ record
    (nodes_state m) { kind = set (nodes_state m).kind e None; place = set (nodes_state m).place e None; prank = set (nodes_state m).prank e None }
gone m e no_value no_row =
    let one = set m e None in
    let kind = mapped-set id_order (λ (n : Node). n.class) m e None in
    let place = mapped-set id_order (λ (n : Node). n.placed.place) m e None in
    let prank = mapped-set id_order (λ (n : Node). n.placed.rank) m e None in
    let attr = same_attr m one (λ x l. kept m e (get m e) None refl (λ a. inner (λ (n : Node). n.attrs) a l) (sym (no_value l)) x) in
    let row = same_row m one (λ x l. kept m e (get m e) None refl (λ a. inner (λ (n : Node). n.out) a l) (sym (no_row l)) x) in
    λ i. record { kind = kind i; place = place i; prank = prank i; attr = attr i; row = row i }

pub state_empty : nodes_state empty ≡ nothing
state_empty =
    let kind = same id_order (nodes_state empty).kind empty
    (λ q. class_of empty q ∙ ap (option_map (λ (n : Node). n.class)) (get-empty id_cmp q) ∙ sym (get-empty id_cmp q)) in
    let place = same id_order (nodes_state empty).place empty
    (λ q. place_of empty q ∙ ap (option_map (λ (n : Node). n.placed.place)) (get-empty id_cmp q) ∙ sym (get-empty id_cmp q)) in
    let prank = same id_order (nodes_state empty).prank empty
    (λ q. prank_of empty q ∙ ap (option_map (λ (n : Node). n.placed.rank)) (get-empty id_cmp q) ∙ sym (get-empty id_cmp q)) in
    let attr = same attr_order (nodes_state empty).attr empty
    (λ q. attr_of empty q.0 q.1 ∙ ap (λ a. inner (λ (n : Node). n.attrs) a q.1) (get-empty id_cmp q.0) ∙ sym (get-empty attr_cmp q)) in
    let row = same row_order (nodes_state empty).row empty
    (λ q. row_of empty q.0 q.1 q.2 ∙ ap (λ a. inner (λ (n : Node). n.out) a (q.1, q.2)) (get-empty id_cmp q.0) ∙ sym (get-empty row_cmp q)) in
    λ i. record { kind = kind i; place = place i; prank = prank i; attr = attr i; row = row i }

-- ---- elements that are there
pub live_node : (m : Elements) (e : IdBytes) → is_some (get (nodes_state m).kind e) ≡ true → IsSome (get m e)
live_node m e h = some_of (get m e) (ap is_some (sym (class_of m e)) ∙ h)
  where
    some_of : (o : Option Node) → is_some (option_map (λ (n : Node). n.class) o) ≡ true → IsSome o
    some_of None h = cc
    some_of (Some n) h = some_is (Some n) n refl

pub no_node : (m : Elements) (e : IdBytes) → get (nodes_state m).kind e ≡ None → get m e ≡ None
no_node m e h = none_of (get m e) (sym (class_of m e) ∙ h)
  where
    none_of : (o : Option Node) → option_map (λ (n : Node). n.class) o ≡ None → o ≡ None
    none_of None h = refl
    none_of (Some n) h = cc

pub live_after : (m : Elements) (e x : IdBytes) (n : Node) → IsSome (get m x) → IsSome (get (set m e (Some n)) x)
live_after m e x n live = subst (λ (o : Option Node). IsSome o) (sym (get-set id_order m e (Some n) x)) (by_bool (eq_by_cmp id_cmp x e))
  where
    by_bool : (t : Bool) → IsSome (cond t (Some n) (get m x))
    by_bool true = some_is (Some n) n refl
    by_bool false = live
