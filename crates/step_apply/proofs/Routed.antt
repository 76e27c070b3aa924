-- Changes of the rows, and of the maps that hold them by source and feature.
use Rattle.std.proofs.Common.{◌≡◌, ℕ, true, false, cond, refl, sym, ap, subst, ◌∙◌, map, length, nat_eq, ◌&&◌}
use Rattle.std.specs.Prelude.{Option, None, Some}
use Rattle.std.specs.declared.cmp.Ordering.{Ordering}
use Rattle.std.specs.declared.cmp.Ordering.TheVariants.{Equal}
use Rattle.std.specs.List.{filter}
use Rattle.std.specs.Ordering.{eq_by_cmp, is_eq, ordering_then}
use Rattle.std.specs.Cmp.{IsTotalOrder, eq_by_cmp_equiv, tied_itself}
use Rattle.std.specs.Map.{lookup}
use Rattle.std.specs.FinMap.{get, entries}
use Rattle.std.specs.BTreeMap as tree
use Rattle.std.specs.BTreeMap.{BTreeMap, is_at}
use Rattle.finite_maps.specs.Equal.{text_eq}
use Rattle.finite_maps.specs.Maps.{set, count}
use Rattle.finite_maps.specs.Tables.{table}
use Rattle.finite_maps.proofs.Cases.{not_so, true_false}
use Rattle.finite_maps.proofs.EqualLaws.{text_equality, nat_equality, and_first, and_second}
use Rattle.finite_maps.proofs.MapLaws.{get-set, set_back, same_key}
use Rattle.finite_maps.proofs.TableLaws.{get-table}
use Rattle.model_state.specs.Keys.{IdBytes, RowKey, id_cmp, row_cmp}
use Rattle.model_state.specs.Listing.{is_of, row_entry}
use Rattle.model_state.proofs.Orders.{id_order, nat_order, row_order}
use Rattle.step_apply.specs.Groups.{members_of, IsOut}
use Rattle.ranked_lists.specs.Ranks.{ranked_entry, Ranks}
use Rattle.spread_maps.proofs.PartLaws.{part, entries-part}
use Rattle.step_apply.proofs.Regrouped.{map_map, tally_part}

abbrev Out : Type 0
Out = BTreeMap IdBytes (BTreeMap ℕ Ranks)

-- by cases on whether the list is that of a and f
pub by_list : (P : IdBytes → ℕ → Type 0) (a : IdBytes) (f : ℕ) → P a f → ((g : ℕ) → nat_eq f g ≡ false → P a g)
    → ((b : IdBytes) (g : ℕ) → text_eq a b ≡ false → P b g) → (b : IdBytes) (g : ℕ) → P b g
by_list P a f here beside there b g =
    elim (text_eq a b) as (λ t. text_eq a b ≡ t → P b g) [
      | true ↦ λ same. subst (λ z. P z g) (text_equality.exact a b same) (
          elim (nat_eq f g) as (λ t. nat_eq f g ≡ t → P a g) [
            | true ↦ λ like. subst (λ z. P a z) (nat_equality.exact f g like) here
            | false ↦ λ apart. beside g apart
          ] refl)
      | false ↦ λ apart. there b g apart
    ] refl

own_row : (k : RowKey) (b : IdBytes) → is_at (row_cmp k) (k.0, k.1, b) ≡ eq_by_cmp id_cmp b k.2
own_row k b =
    (λ i. is_eq (ordering_then (ordering_then (tied_itself id_order.total k.0 i) (tied_itself nat_order.total k.1 i)) (id_cmp k.2 b)))
    ∙ (eq_by_cmp_equiv id_order.total).symm k.2 b

beside_row : (k : RowKey) (g : ℕ) (b : IdBytes) → nat_eq k.1 g ≡ false → is_at (row_cmp k) (k.0, g, b) ≡ false
beside_row k g b apart =
    not_so (is_at (row_cmp k) (k.0, g, b))
    (λ t. true_false (nat_eq k.1 g) (ap (λ (z : RowKey). nat_eq k.1 z.1) (sym (same_key row_order k (k.0, g, b) t)) ∙ nat_equality.own k.1) apart)

other_row : (k : RowKey) (a : IdBytes) (g : ℕ) (b : IdBytes) → text_eq k.0 a ≡ false → is_at (row_cmp k) (a, g, b) ≡ false
other_row k a g b apart =
    not_so (is_at (row_cmp k) (a, g, b))
    (λ t. true_false (text_eq k.0 a) (ap (λ (z : RowKey). text_eq k.0 z.0) (sym (same_key row_order k (a, g, b) t)) ∙ text_equality.own k.0) apart)

-- one row that is written, in all lists
pub routed : (t n : BTreeMap RowKey ℕ) (o p : Out) (k : RowKey) (w : Option ℕ) → IsOut t o
    → ((q : RowKey) → tree.get row_cmp n q ≡ cond (is_at (row_cmp k) q) w (tree.get row_cmp t q))
    → members_of p k.0 k.1 ≡ set (members_of o k.0 k.1) k.2 w → ((g : ℕ) → nat_eq k.1 g ≡ false → members_of p k.0 g ≡ members_of o k.0 g)
    → ((b : IdBytes) (g : ℕ) → text_eq k.0 b ≡ false → members_of p b g ≡ members_of o b g)
    → IsOut n p
routed t n o p k w is wrote here beside there a f b =
    by_list (λ a f. get (members_of p a f) b ≡ cond (is_at (row_cmp k) (a, f, b)) w (get (members_of o a f) b)) k.0 k.1
    (ap (λ m. get m b) here ∙ get-set id_order (members_of o k.0 k.1) k.2 w b ∙ ap (λ c. cond c w (get (members_of o k.0 k.1) b)) (sym (own_row k b)))
    (λ g apart. ap (λ m. get m b) (beside g apart) ∙ ap (λ c. cond c w (get (members_of o k.0 g) b)) (sym (beside_row k g b apart)))
    (λ x g apart. ap (λ m. get m b) (there x g apart) ∙ ap (λ c. cond c w (get (members_of o x g) b)) (sym (other_row k x g b apart))) a f
    ∙ ap (cond (is_at (row_cmp k) (a, f, b)) w) (is a f b)
    ∙ sym (wrote (a, f, b))

-- what was put in is taken back
pub out_undone : (t n : BTreeMap RowKey ℕ) (o p q : Out) (k : RowKey) (r : ℕ) → IsOut t o → n.entries ≡ t.entries → tree.get row_cmp t k ≡ None
    → members_of p k.0 k.1 ≡ set (members_of o k.0 k.1) k.2 (Some r) → ((g : ℕ) → nat_eq k.1 g ≡ false → members_of p k.0 g ≡ members_of o k.0 g)
    → ((b : IdBytes) (g : ℕ) → text_eq k.0 b ≡ false → members_of p b g ≡ members_of o b g)
    → members_of q k.0 k.1 ≡ set (members_of p k.0 k.1) k.2 None → ((g : ℕ) → nat_eq k.1 g ≡ false → members_of q k.0 g ≡ members_of p k.0 g)
    → ((b : IdBytes) (g : ℕ) → text_eq k.0 b ≡ false → members_of q b g ≡ members_of p b g)
    → IsOut n q
out_undone t n o p q k r is same was here beside there back beside' there' a f b =
    ap (λ m. get m b) (
    by_list (λ a f. members_of q a f ≡ members_of o a f) k.0 k.1
    (back ∙ ap (λ m. set m k.2 None) here ∙ set_back id_order (members_of o k.0 k.1) k.2 None (Some r) (is k.0 k.1 k.2 ∙ was))
    (λ g apart. beside' g apart ∙ beside g apart)
    (λ x g apart. there' x g apart ∙ there x g apart) a f)
    ∙ is a f b ∙ ap (λ es. lookup (is_at (row_cmp (a, f, b))) es) (sym same)

-- nothing changed
pub out_kept : (t : BTreeMap RowKey ℕ) (o p : Out) (k : RowKey) → IsOut t o → members_of p k.0 k.1 ≡ members_of o k.0 k.1
    → ((g : ℕ) → nat_eq k.1 g ≡ false → members_of p k.0 g ≡ members_of o k.0 g)
    → ((b : IdBytes) (g : ℕ) → text_eq k.0 b ≡ false → members_of p b g ≡ members_of o b g) → IsOut t p
out_kept t o p k is here beside there a f b = ap (λ m. get m b) (by_list (λ a f. members_of p a f ≡ members_of o a f) k.0 k.1 here beside there a f) ∙ is a f b

-- ---- lists
module _ (t : BTreeMap RowKey ℕ) (o : Out) (is : IsOut t o) (a : IdBytes) (f : ℕ) where
  first_is : (k : RowKey) → is_of a f k ≡ true → a ≡ k.0
  first_is k h = text_equality.exact a k.0 (and_first _ _ h)

  second_is : (k : RowKey) → is_of a f k ≡ true → f ≡ k.1
  second_is k h = nat_equality.exact f k.1 (and_second _ _ h)

  entries_held : entries (members_of o a f) ≡ map {B = IdBytes × ℕ} (λ (e : RowKey × ℕ). (e.0.2, e.1))
      (filter (λ (e : RowKey × ℕ). is_of a f e.0) (entries (table row_cmp t)))
  entries_held =
      entries-part row_order id_order (λ (e : RowKey × ℕ). is_of a f e.0) (λ (e : RowKey × ℕ). (e.0.2, e.1)) (λ b. (a, f, b))
      (λ e d he hd less.
      sym (λ i. ordering_then
      (ordering_then (like id_order.total (sym (first_is e.0 he) ∙ first_is d.0 hd) i)
      (like nat_order.total (sym (second_is e.0 he) ∙ second_is d.0 hd) i)) (id_cmp e.0.2 d.0.2)) ∙ less)
      (λ e he i. (first_is e.0 he i, second_is e.0 he i, e.0.2))
      (λ b x _. refl)
      (table row_cmp t) (members_of o a f)
      (λ b. is a f b ∙ whole b (tree.get row_cmp t (a, f, b))
      ∙ ap (part (λ (e : RowKey × ℕ). is_of a f e.0) (λ (e : RowKey × ℕ). (e.0.2, e.1)) (λ b. (a, f, b)) b) (sym (get-table row_order t (a, f, b))))
    where
      like : {K : Type 0} {R : K → K → Ordering} → IsTotalOrder R → {x y : K} → x ≡ y → R x y ≡ Equal
      like {R = R} total {x = x} same = ap (R x) (sym same) ∙ tied_itself total x

      own : is_of a f (a, f, a) ≡ true
      own = (λ i. text_equality.own a i && nat_equality.own f i)

      whole : (b : IdBytes) (w : Option ℕ) → w ≡ part (λ (e : RowKey × ℕ). is_of a f e.0) (λ (e : RowKey × ℕ). (e.0.2, e.1)) (λ b. (a, f, b)) b w
      whole b None = refl
      whole b (Some r) = ap (λ c. cond c (Some r) None) (sym own)

pub targets_are : (t : BTreeMap RowKey ℕ) (o : Out) → IsOut t o → (a : IdBytes) (f : ℕ)
    → map ranked_entry (entries (members_of o a f)) ≡ map row_entry (filter (λ (e : RowKey × ℕ). is_of a f e.0) (entries (table row_cmp t)))
targets_are t o is a f = ap (map ranked_entry) (entries_held t o is a f) ∙ map_map ranked_entry (λ (e : RowKey × ℕ). (e.0.2, e.1)) _

pub targets_count : (t : BTreeMap RowKey ℕ) (o : Out) → IsOut t o → (a : IdBytes) (f : ℕ)
    → length (entries (members_of o a f)) ≡ count (λ (e : RowKey × ℕ). is_of a f e.0) (table row_cmp t)
targets_count t o is a f = ap length (entries_held t o is a f) ∙ tally_part (λ (e : RowKey × ℕ). is_of a f e.0) (λ (e : RowKey × ℕ). (e.0.2, e.1)) _
