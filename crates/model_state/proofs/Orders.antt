-- The keys' orders are total and tie only equal keys.
use Rattle.std.proofs.Common.{ℕ, ap}
use Rattle.std.specs.Ordering.{nat_cmp, ordering_then}
use Rattle.std.specs.Cmp.{nat_cmp_total}
use Rattle.std.specs.Cmp.Lexicographic.{nat_list_cmp_total}
use Rattle.std.proofs.lemmas.Cmp.{on_total, then_total}
use Rattle.std.proofs.lemmas.Map.Lookups.{exact_pairs, exact_unsigned, exact_bytes, CmpEqualImpliesEq}
use Rattle.finite_maps.proofs.MapLaws.{IsKeyOrder}
use Rattle.model_state.specs.declared.entry.Entry.{Entry}
use Rattle.model_state.specs.Listing.{entry_cmp}
use Rattle.model_state.specs.Keys.{IdBytes, AttrKey, RowKey, id_cmp, attr_cmp, row_cmp}

pub id_order : IsKeyOrder id_cmp
id_order = record { total = nat_list_cmp_total; exact = exact_bytes }

pub attr_order : IsKeyOrder attr_cmp
attr_order = record {
  total = then_total (on_total (λ (x : AttrKey). x.0) nat_list_cmp_total) (on_total (λ x. x.1) nat_cmp_total);
  exact = exact_pairs id_cmp nat_cmp exact_bytes exact_unsigned;
}

exact_rows : CmpEqualImpliesEq row_cmp
exact_rows a b h = ap (λ (p : (IdBytes × ℕ) × IdBytes). (p.0.0, p.0.1, p.1))
    (exact_pairs (λ (x y : IdBytes × ℕ). ordering_then (id_cmp x.0 y.0) (nat_cmp x.1 y.1)) id_cmp
    (exact_pairs id_cmp nat_cmp exact_bytes exact_unsigned) exact_bytes ((a.0, a.1), a.2) ((b.0, b.1), b.2) h)

pub row_order : IsKeyOrder row_cmp
row_order = record {
  total = then_total (then_total (on_total (λ (x : RowKey). x.0) nat_list_cmp_total) (on_total (λ (x : RowKey). x.1) nat_cmp_total))
      (on_total (λ (x : RowKey). x.2) nat_list_cmp_total);
  exact = exact_rows;
}

pub nat_order : IsKeyOrder nat_cmp
nat_order = record { total = nat_cmp_total; exact = exact_unsigned }

entries_exact : CmpEqualImpliesEq entry_cmp
entries_exact a b h =
    let pairs = exact_pairs nat_cmp id_cmp exact_unsigned exact_bytes (a.rank, a.id) (b.rank, b.id) h in
    λ i. record { rank = (pairs i).0; id = (pairs i).1 }

pub entry_order : IsKeyOrder entry_cmp
entry_order = record {
  total = then_total (on_total (λ (x : Entry). x.rank) nat_cmp_total) (on_total (λ (x : Entry). x.id) nat_list_cmp_total);
  exact = entries_exact;
}
