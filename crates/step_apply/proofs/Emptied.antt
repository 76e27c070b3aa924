-- Elements that nothing stands in and that no row names.
use Rattle.std.proofs.Common.{◌≡◌, ℕ, Bool, false, cond, refl, sym, ap, ◌∙◌, ◌||◌}
use Rattle.std.specs.Prelude.{Option, None, Some}
use Rattle.std.specs.Option.{option_map}
use Rattle.std.specs.Map.{lookup}
use Rattle.std.specs.FinMap.{get}
use Rattle.std.specs.BTreeMap as tree
use Rattle.std.specs.BTreeMap.{BTreeMap, is_at, btree_map_len}
use Rattle.finite_maps.specs.Equal.{text_eq}
use Rattle.finite_maps.specs.Maps.{count}
use Rattle.finite_maps.specs.Tables.{table, table_of}
use Rattle.finite_maps.proofs.Cases.{not_so, some_none}
use Rattle.finite_maps.proofs.CountLaws.{count_none}
use Rattle.finite_maps.proofs.EqualLaws.{text_equality}
use Rattle.finite_maps.proofs.TableLaws.{get-table, get-table_of}
use Rattle.model_state.specs.declared.step.Place.{Place}
use Rattle.model_state.specs.declared.step.Place.TheVariants.{Root, Inside}
use Rattle.model_state.specs.declared.step.Placed.{Placed}
use Rattle.model_state.specs.Keys.{IdBytes, RowKey, id_cmp, row_cmp}
use Rattle.model_state.specs.State.{place_eq, is_inside}
use Rattle.model_state.proofs.Orders.{id_order, row_order}
use Rattle.model_state.proofs.StepTests.{place_equality}
use Rattle.step_apply.specs.declared.groups.Groups.{Groups}
use Rattle.ranked_lists.specs.Ranks.{stood, Ranks}
use Rattle.step_apply.specs.Groups.{members_of, incoming_rows, IsGrouped, IsOut, HoldIncoming}
use Rattle.step_apply.proofs.Grouped.{no_items}

pub no_row : (t : BTreeMap RowKey ℕ) → btree_map_len t ≡ 0 → (k : RowKey) → get (table row_cmp t) k ≡ None
no_row t none k = get-table row_order t k ∙ ap (λ es. lookup (is_at (row_cmp k)) es) (no_items t.entries none)

pub no_group : (t : BTreeMap IdBytes ℕ) → btree_map_len t ≡ 0 → (b : IdBytes) → get (table id_cmp t) b ≡ None
no_group t none b = get-table id_order t b ∙ ap (λ es. lookup (is_at (id_cmp b)) es) (no_items t.entries none)

-- nothing stands in an element without lists
pub none_inside : (t : BTreeMap IdBytes Placed) (g : Groups) → IsGrouped t g → (e : IdBytes) → ((f : ℕ) (b : IdBytes) → get (members_of g.inside e f) b ≡ None)
    → 0 ≡ count (λ (x : IdBytes × Place). is_inside e x.1) (table_of id_cmp (λ x. x.place) t)
none_inside t g is e none =
    sym (count_none id_order (λ (x : IdBytes × Place). is_inside e x.1) (table_of id_cmp (λ x. x.place) t)
    (λ q v found. not_inside q v (sym (get-table_of id_order (λ (x : Placed). x.place) t q) ∙ found)))
  where
    there : (q : IdBytes) (a : IdBytes) (f : ℕ) (o : Option Placed) → option_map (λ (x : Placed). x.place) o ≡ Some (Inside a f)
        → stood (Inside a f) o ≡ None → ⊥
    there q a f None found gone = some_none None (Inside a f) found refl
    there q a f (Some x) found gone =
        some_none (Some x.rank) x.rank refl
        (sym (ap (λ c. cond c (Some x.rank) None) (ap (place_eq (Inside a f)) (same x.place (Inside a f) found) ∙ place_equality.own (Inside a f))) ∙ gone)
      where
        same : (p r : Place) → Some p ≡ Some r → p ≡ r
        same p r h = cc

    not_inside : (q : IdBytes) (v : Place) → option_map (λ (x : Placed). x.place) (tree.get id_cmp t q) ≡ Some v → is_inside e v ≡ false
    not_inside q Root found = refl
    not_inside q (Inside a f) found = not_so (text_eq e a) (λ like.
        there q a f (tree.get id_cmp t q) found
        (sym (is (Inside a f) q) ∙ ap (λ z. get (members_of g.inside z f) q) (sym (text_equality.exact e a like)) ∙ none f q))

-- no row begins or ends at an element without lists
pub none_at : (t : BTreeMap RowKey ℕ) (o : BTreeMap IdBytes (BTreeMap ℕ Ranks)) (i : BTreeMap IdBytes (BTreeMap RowKey ℕ)) → IsOut t o → HoldIncoming t i
    → (e : IdBytes)
    → ((f : ℕ) (b : IdBytes) → get (members_of o e f) b ≡ None) → ((k : RowKey) → get (incoming_rows i e) k ≡ None)
    → 0 ≡ count (λ (x : RowKey × ℕ). text_eq e x.0.0 || text_eq e x.0.2) (table row_cmp t)
none_at t o i out into e none none' =
    sym (count_none row_order (λ (x : RowKey × ℕ). text_eq e x.0.0 || text_eq e x.0.2) (table row_cmp t)
    (λ q v found. neither q v (sym (get-table row_order t q) ∙ found)))
  where
    either : (a b : Bool) → a ≡ false → b ≡ false → a || b ≡ false
    either a b p q = ap (λ x. x || b) p ∙ q

    neither : (q : RowKey) (v : ℕ) → tree.get row_cmp t q ≡ Some v → text_eq e q.0 || text_eq e q.2 ≡ false
    neither q v found = either (text_eq e q.0) (text_eq e q.2)
        (not_so (text_eq e q.0) (λ like. some_none (tree.get row_cmp t q) v found
        (sym (out q.0 q.1 q.2) ∙ ap (λ z. get (members_of o z q.1) q.2) (sym (text_equality.exact e q.0 like)) ∙ none q.1 q.2)))
        (not_so (text_eq e q.2) (λ like. some_none (tree.get row_cmp t q) v found
        (sym (into e q ∙ ap (λ c. cond c (tree.get row_cmp t q) None) like) ∙ none' q)))
