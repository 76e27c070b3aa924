-- Changes of the rows, and of the map that holds them by target.
use Rattle.std.proofs.Common.{◌≡◌, ℕ, Bool, true, false, cond, refl, sym, ap, subst, ◌∙◌, map}
use Rattle.std.specs.Prelude.{Option, None, Some, is_some}
use Rattle.std.specs.List.{filter}
use Rattle.std.specs.Ordering.{eq_by_cmp}
use Rattle.std.specs.Cmp.{eq_by_cmp_equiv}
use Rattle.std.specs.Map.{lookup}
use Rattle.std.specs.FinMap.{get, entries}
use Rattle.std.specs.BTreeMap as tree
use Rattle.std.specs.BTreeMap.{BTreeMap, is_at}
use Rattle.finite_maps.specs.Equal.{text_eq}
use Rattle.finite_maps.specs.Maps.{set}
use Rattle.finite_maps.specs.Tables.{table}
use Rattle.finite_maps.proofs.EqualLaws.{text_equality, apart}
use Rattle.finite_maps.proofs.MapLaws.{get-set, get-set_same, set_back, same_key}
use Rattle.finite_maps.proofs.TableLaws.{get-table}
use Rattle.model_state.specs.Keys.{IdBytes, RowKey, row_cmp}
use Rattle.model_state.specs.Listing.{row_incoming, incoming}
use Rattle.model_state.proofs.Orders.{row_order}
use Rattle.step_apply.specs.Groups.{incoming_rows, HoldIncoming}
use Rattle.spread_maps.proofs.PartLaws.{part, entries-part}
use Rattle.step_apply.proofs.Regrouped.{map_map}

abbrev Into : Type 0
Into = BTreeMap IdBytes (BTreeMap RowKey ℕ)

-- one row that is written, at all targets
pub arrived : (t n : BTreeMap RowKey ℕ) (i j : Into) (k : RowKey) (w : Option ℕ) → HoldIncoming t i
    → ((q : RowKey) → tree.get row_cmp n q ≡ cond (is_at (row_cmp k) q) w (tree.get row_cmp t q))
    → incoming_rows j k.2 ≡ set (incoming_rows i k.2) k w → ((x : IdBytes) → text_eq k.2 x ≡ false → incoming_rows j x ≡ incoming_rows i x) → HoldIncoming n j
arrived t n i j k w is wrote here there b q =
    elim (text_eq k.2 b) as (λ c. text_eq k.2 b ≡ c → get (incoming_rows j b) q ≡ cond (text_eq b q.2) (tree.get row_cmp n q) None) [
      | true ↦ λ same. subst (λ z. get (incoming_rows j z) q ≡ cond (text_eq z q.2) (tree.get row_cmp n q) None) (text_equality.exact k.2 b same) (
          ap (λ m. get m q) here ∙ get-set row_order (incoming_rows i k.2) k w q
          ∙ ap (cond (eq_by_cmp row_cmp q k) w) (is k.2 q)
          ∙ elim (eq_by_cmp row_cmp q k) as (λ c. eq_by_cmp row_cmp q k ≡ c
          → cond c w (cond (text_eq k.2 q.2) (tree.get row_cmp t q) None) ≡ cond (text_eq k.2 q.2) (cond c w (tree.get row_cmp t q)) None) [
            | true ↦ λ like. sym (ap (λ c. cond c w None) (ap (λ (z : RowKey). text_eq k.2 z.2) (same_key row_order q k like) ∙ text_equality.own k.2))
            | false ↦ λ _. refl
          ] refl
          ∙ ap (λ c. cond (text_eq k.2 q.2) (cond c w (tree.get row_cmp t q)) None) ((eq_by_cmp_equiv row_order.total).symm q k)
          ∙ sym (ap (λ o. cond (text_eq k.2 q.2) o None) (wrote q)))
      | false ↦ λ else.
          ap (λ m. get m q) (there b else) ∙ is b q
          ∙ elim (is_at (row_cmp k) q) as (λ c. is_at (row_cmp k) q ≡ c
          → cond (text_eq b q.2) (tree.get row_cmp t q) None ≡ cond (text_eq b q.2) (cond c w (tree.get row_cmp t q)) None) [
            | true ↦ λ like.
                let not : text_eq b q.2 ≡ false =
                ap (λ (z : RowKey). text_eq b z.2) (sym (same_key row_order k q like)) ∙ apart text_eq text_equality k.2 b else in
                ap (λ c. cond c (tree.get row_cmp t q) None) not ∙ sym (ap (λ c. cond c w None) not)
            | false ↦ λ _. refl
          ] refl
          ∙ sym (ap (λ o. cond (text_eq b q.2) o None) (wrote q))
    ] refl

-- what was put in is taken back
pub into_undone : (t n : BTreeMap RowKey ℕ) (i p j : Into) (k : RowKey) (r : ℕ) (old : Option ℕ) → HoldIncoming t i → n.entries ≡ t.entries
    → tree.get row_cmp t k ≡ old
    → incoming_rows p k.2 ≡ set (incoming_rows i k.2) k (Some r) → ((x : IdBytes) → text_eq k.2 x ≡ false → incoming_rows p x ≡ incoming_rows i x)
    → (is_some (get (incoming_rows p k.2) k) ≡ true → incoming_rows j k.2 ≡ set (incoming_rows p k.2) k old)
    → ((x : IdBytes) → text_eq k.2 x ≡ false → incoming_rows j x ≡ incoming_rows p x)
    → HoldIncoming n j
into_undone t n i p j k r old is same was here there back else b q =
    ap (λ m. get m q) (elim (text_eq k.2 b) as (λ c. text_eq k.2 b ≡ c → incoming_rows j b ≡ incoming_rows i b) [
      | true ↦ λ like. subst (λ z. incoming_rows j z ≡ incoming_rows i z) (text_equality.exact k.2 b like) (
          back (ap is_some (ap (λ m. get m k) here ∙ get-set_same row_order (incoming_rows i k.2) k (Some r)))
          ∙ ap (λ m. set m k old) here
          ∙ set_back row_order (incoming_rows i k.2) k old (Some r) (is k.2 k ∙ ap (λ c. cond c (tree.get row_cmp t k) None) (text_equality.own k.2) ∙ was))
      | false ↦ λ not. else b not ∙ there b not
    ] refl)
    ∙ is b q ∙ ap (λ es. cond (text_eq b q.2) (lookup (is_at (row_cmp q)) es) None) (sym same)

abbrev ends_at : IdBytes → RowKey × ℕ → Bool
ends_at b e = text_eq b e.0.2

pub incoming_are : (t : BTreeMap RowKey ℕ) (i : Into) → HoldIncoming t i → (b : IdBytes)
    → map row_incoming (entries (incoming_rows i b)) ≡ incoming (table row_cmp t) b
incoming_are t i is b =
    ap (map row_incoming) (
    entries-part row_order row_order (ends_at b) (λ (e : RowKey × ℕ). e) (λ k. k) (λ e d _ _ less. less) (λ e _. refl) (λ l x _. refl)
    (table row_cmp t) (incoming_rows i b)
    (λ k. is b k ∙ kept k (tree.get row_cmp t k) ∙ ap (part (ends_at b) (λ (e : RowKey × ℕ). e) (λ k. k) k) (sym (get-table row_order t k))))
    ∙ map_map row_incoming (λ (e : RowKey × ℕ). e) (filter (ends_at b) (entries (table row_cmp t)))
  where
    none : (c : Bool) → cond {A = Option ℕ} c None None ≡ None
    none true = refl
    none false = refl

    kept : (k : RowKey) (o : Option ℕ) → cond (text_eq b k.2) o None ≡ part (ends_at b) (λ (e : RowKey × ℕ). e) (λ k. k) k o
    kept k None = none (text_eq b k.2)
    kept k (Some r) = refl
