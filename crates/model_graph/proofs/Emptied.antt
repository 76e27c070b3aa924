-- Elements that hold nothing and that nothing names.
use Rattle.std.proofs.Common.{◌≡◌, ℕ, Bool, true, false, cond, List, refl, sym, ap, ◌∙◌, nat_eq, ◌||◌, ◌&&◌}
use Rattle.std.specs.Prelude.{Option, None, Some}
use Rattle.std.specs.Option.{option_map}
use Rattle.std.specs.declared.cmp.Ordering.{Ordering}
use Rattle.std.specs.FinMap.{FinMap, get}
use Rattle.ecore_meta.specs.declared.meta.Value.{Value}
use Rattle.finite_maps.specs.Equal.{text_eq}
use Rattle.spread_maps.specs.Spread.{inner}
use Rattle.spread_maps.proofs.BareLaws.{bare_none, not_bare_some, none_pass}
use Rattle.finite_maps.proofs.Cases.{not_so, some_none}
use Rattle.finite_maps.proofs.EqualLaws.{text_equality, and_first, and_second}
use Rattle.finite_maps.proofs.MapLaws.{IsKeyOrder}
use Rattle.model_state.specs.declared.step.Place.{Place}
use Rattle.model_state.specs.declared.step.Place.TheVariants.{Root, Inside}
use Rattle.model_state.specs.declared.step.Placed.{Placed}
use Rattle.model_state.specs.Keys.{IdBytes, AttrKey, RowKey}
use Rattle.model_state.specs.State.{place_eq, is_inside, value_count, link_count, inner_count}
use Rattle.model_state.proofs.Orders.{id_order, nat_order, attr_order, row_order}
use Rattle.model_state.proofs.StepTests.{place_equality}
use Rattle.graph_parts.specs.declared.element.Node.{Node}
use Rattle.ranked_lists.specs.Ranks.{Ranks, stood}
use Rattle.model_graph.specs.Seen.{Elements, nodes_state, placed_at, IsHoused, IsAtBothEnds, bare_part}
use Rattle.model_graph.proofs.Changed.{attr_of, row_of, place_of}
use Rattle.graph_parts.proofs.ListLaws.{list_key_order}

module _ {L X : Type 0} {Q : L → L → Ordering} (o : IsKeyOrder Q) (part : Node → FinMap Q X) where
  pub part_none : (w : Option Node) → bare_part part w ≡ true → (l : L) → inner part w l ≡ None
  part_none None h l = refl
  part_none (Some n) h l = bare_none o (part n) h l

  pub part_some : (w : Option Node) → bare_part part w ≡ false → (l : L) × (v : X) × (inner part w l ≡ Some v)
  part_some None h = cc
  part_some (Some n) h = not_bare_some o (part n) h

either : (a b : Bool) → a ≡ false → b ≡ false → a || b ≡ false
either a b p q = ap (λ x. x || b) p ∙ q

or_left : (a b : Bool) → a ≡ true → a || b ≡ true
or_left a b h = ap (λ x. x || b) h

or_right : (a b : Bool) → b ≡ true → a || b ≡ true
or_right true b h = refl
or_right false b h = h

pub no_values : (m : Elements) (e : IdBytes) → bare_part (λ (n : Node). n.attrs) (get m e) ≡ nat_eq (value_count (nodes_state m) e) 0
no_values m e =
    none_pass attr_order (λ (x : AttrKey × List Value). text_eq e x.0.0) (nodes_state m).attr (bare_part (λ (n : Node). n.attrs) (get m e))
    (λ bare k v is. not_so (text_eq e k.0) (λ same. some_none (get (nodes_state m).attr k) v is
    (attr_of m k.0 k.1 ∙ ap (λ z. inner (λ (n : Node). n.attrs) (get m z) k.1) (sym (text_equality.exact e k.0 same))
    ∙ part_none nat_order (λ (n : Node). n.attrs) (get m e) bare k.1)))
    (λ full. let x = part_some nat_order (λ (n : Node). n.attrs) (get m e) full in ((e, x.0), x.1, attr_of m e x.0 ∙ x.2, text_equality.own e))

module _ (m : Elements) (mirror : IsAtBothEnds m) (e : IdBytes) where
  out_none : bare_part (λ (n : Node). n.out) (get m e) ≡ true → (f : ℕ) (b : IdBytes) → get (nodes_state m).row (e, f, b) ≡ None
  out_none bare f b = row_of m e f b ∙ part_none list_key_order (λ (n : Node). n.out) (get m e) bare (f, b)

  into_none : bare_part (λ (n : Node). n.into) (get m e) ≡ true → (a : IdBytes) (f : ℕ) → get (nodes_state m).row (a, f, e) ≡ None
  into_none bare a f = row_of m a f e ∙ sym (mirror a e f) ∙ part_none attr_order (λ (n : Node). n.into) (get m e) bare (a, f)

  pub no_rows : bare_part (λ (n : Node). n.out) (get m e) && bare_part (λ (n : Node). n.into) (get m e) ≡ nat_eq (link_count (nodes_state m) e) 0
  no_rows =
      none_pass row_order (λ (x : RowKey × ℕ). text_eq e x.0.0 || text_eq e x.0.2) (nodes_state m).row
      (bare_part (λ (n : Node). n.out) (get m e) && bare_part (λ (n : Node). n.into) (get m e))
      (λ bare k v is. either (text_eq e k.0) (text_eq e k.2)
      (not_so (text_eq e k.0) (λ same. some_none (get (nodes_state m).row k) v is
      (ap (λ (z : IdBytes). get (nodes_state m).row (z, k.1, k.2)) (sym (text_equality.exact e k.0 same)) ∙ out_none (and_first _ _ bare) k.1 k.2)))
      (not_so (text_eq e k.2) (λ same. some_none (get (nodes_state m).row k) v is
      (ap (λ (z : IdBytes). get (nodes_state m).row (k.0, k.1, z)) (sym (text_equality.exact e k.2 same)) ∙ into_none (and_second _ _ bare) k.0 k.1))))
      (λ full. some_row (bare_part (λ (n : Node). n.out) (get m e)) refl full)
    where
      some_row : (b : Bool) → bare_part (λ (n : Node). n.out) (get m e) ≡ b → b && bare_part (λ (n : Node). n.into) (get m e) ≡ false
          → (k : RowKey) × (v : ℕ) × (get (nodes_state m).row k ≡ Some v) × (text_eq e k.0 || text_eq e k.2 ≡ true)
      some_row true is full =
          let x = part_some attr_order (λ (n : Node). n.into) (get m e) full in
          ((x.0.0, x.0.1, e), x.1, row_of m x.0.0 x.0.1 e ∙ sym (mirror x.0.0 e x.0.1) ∙ x.2, or_right (text_eq e x.0.0) (text_eq e e) (text_equality.own e))
      some_row false is full =
          let x = part_some list_key_order (λ (n : Node). n.out) (get m e) is in
          ((e, x.0.0, x.0.1), x.1, row_of m e x.0.0 x.0.1 ∙ x.2, or_left (text_eq e e) (text_eq e x.0.1) (text_equality.own e))

place_read : (o : Option Node) → option_map (λ (n : Node). n.placed.place) o ≡ option_map (λ (p : Placed). p.place) (option_map (λ (n : Node). n.placed) o)
place_read None = refl
place_read (Some n) = refl

same_place : (p r : Place) → Some p ≡ Some r → p ≡ r
same_place p r h = cc

stands_there : (q : Place) (o : Option Placed) (p : Place) → option_map (λ (x : Placed). x.place) o ≡ Some p → place_eq q p ≡ true → stood q o ≡ None → ⊥
stands_there q None p found same gone = some_none None p found refl
stands_there q (Some x) p found same gone =
    some_none (Some x.rank) x.rank refl (sym (ap (λ c. cond c (Some x.rank) None) (ap (place_eq q) (same_place x.place p found) ∙ same)) ∙ gone)

stands_so : (q : Place) (o : Option Placed) (v : ℕ) → stood q o ≡ Some v → option_map (λ (x : Placed). x.place) o ≡ Some q
stands_so q None v h = cc
stands_so q (Some x) v h =
    elim (place_eq q x.place) as (λ b. place_eq q x.place ≡ b → cond b (Some x.rank) None ≡ Some v → Some x.place ≡ Some q) [
      | true ↦ λ same _. ap Some (sym (place_equality.exact q x.place same))
      | false ↦ λ _ g. cc
    ] refl h

module _ (roots : Ranks) (m : Elements) (housed : IsHoused roots m) (e : IdBytes) where
  place_at : (x : IdBytes) → get (nodes_state m).place x ≡ option_map (λ (p : Placed). p.place) (placed_at m x)
  place_at x = place_of m x ∙ place_read (get m x)

  pub no_children : bare_part (λ (n : Node). n.inside) (get m e) ≡ nat_eq (inner_count (nodes_state m) e) 0
  no_children =
      none_pass id_order (λ (x : IdBytes × Place). is_inside e x.1) (nodes_state m).place (bare_part (λ (n : Node). n.inside) (get m e))
      (λ bare x p is. outside bare x p (sym (place_at x) ∙ is))
      (λ full. let l = part_some list_key_order (λ (n : Node). n.inside) (get m e) full in (
        l.0.1,
        Inside e l.0.0,
        place_at l.0.1 ∙ stands_so (Inside e l.0.0) (placed_at m l.0.1) l.1 (sym (housed (Inside e l.0.0) l.0.1) ∙ l.2),
        text_equality.own e,
      ))
    where
      outside : bare_part (λ (n : Node). n.inside) (get m e) ≡ true → (x : IdBytes) (p : Place)
          → option_map (λ (p : Placed). p.place) (placed_at m x) ≡ Some p → is_inside e p ≡ false
      outside bare x Root is = refl
      outside bare x (Inside a f) is = not_so (text_eq e a) (λ same.
          stands_there (Inside a f) (placed_at m x) (Inside a f) is (place_equality.own (Inside a f))
          (sym (housed (Inside a f) x) ∙ ap (λ z. inner (λ (n : Node). n.inside) (get m z) (f, x)) (sym (text_equality.exact e a same))
          ∙ part_none list_key_order (λ (n : Node). n.inside) (get m e) bare (f, x)))
