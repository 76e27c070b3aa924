-- Elements without values.
use Rattle.std.proofs.Common.{◌≡◌, ℕ, Bool, true, false, List, [], ◌∷◌, refl, sym, ap, ◌∙◌, arith, nat_eq, cond, length}
use Rattle.std.specs.Prelude.{None, Some}
use Rattle.std.specs.Ordering.{nat_cmp}
use Rattle.std.specs.Map.{lookup}
use Rattle.std.specs.BTreeMap as tree
use Rattle.std.specs.BTreeMap.{BTreeMap, btree_map_len, is_at}
use Rattle.std.specs.FinMap.{FinMap, get}
use Rattle.finite_maps.specs.Equal.{text_eq}
use Rattle.finite_maps.specs.Maps.{count}
use Rattle.finite_maps.proofs.CountLaws.{count_none, none_counted}
use Rattle.finite_maps.proofs.EqualLaws.{text_equality, nat_equality}
use Rattle.ecore_meta.specs.declared.meta.Value.{Value}
use Rattle.model_state.specs.Keys.{IdBytes, AttrKey, attr_cmp}
use Rattle.model_state.proofs.Orders.{attr_order, nat_order}
use Rattle.finite_maps.proofs.MapLaws.{own_key}
use Rattle.finite_maps.proofs.Cases.{not_so, some_none, true_false}

module _ (attr : FinMap attr_cmp (List Value)) (e : IdBytes) where
  pub bare : ((f : ℕ) → get attr (e, f) ≡ None) → nat_eq (count (λ (x : AttrKey × List Value). text_eq e x.0.0) attr) 0 ≡ true
  bare none = ap (λ n. nat_eq n 0)
      (count_none attr_order (λ x. text_eq e x.0.0) attr
      (λ q v is. not_so (text_eq e q.0)
      (λ same. some_none (get attr q) v is (ap (λ (z : IdBytes). get attr (z, q.1)) (sym (text_equality.exact e q.0 same)) ∙ none q.1))))

  pub not_bare : (f : ℕ) (vs : List Value) → get attr (e, f) ≡ Some vs → nat_eq (count (λ (x : AttrKey × List Value). text_eq e x.0.0) attr) 0 ≡ false
  not_bare f vs is = not_so (nat_eq (count (λ (x : AttrKey × List Value). text_eq e x.0.0) attr) 0) (λ zero.
      true_false (text_eq e e) (text_equality.own e) (none_counted attr_order (λ x. text_eq e x.0.0) attr (nat_equality.exact _ 0 zero) (e, f) vs is))

module _ (attr : FinMap attr_cmp (List Value)) (e : IdBytes) where
  bare_by : (es : List (ℕ × List Value)) (result : Bool) → (result ≡ true → length es ≡ 0) → (length es ≡ 0 → result ≡ true)
      → ((f : ℕ) → get attr (e, f) ≡ lookup (is_at (nat_cmp f)) es) → result ≡ nat_eq (count (λ (x : AttrKey × List Value). text_eq e x.0.0) attr) 0
  bare_by [] result to from held = from refl ∙ sym (bare attr e held)
  bare_by (x ∷ xs) result to from held =
      not_so result (λ is. some_length xs (to is))
      ∙ sym (not_bare attr e x.0 x.1 (held x.0 ∙ ap (λ b. cond b (Some x.1) (lookup (is_at (nat_cmp x.0)) xs)) (own_key nat_order x.0)))
    where
      some_length : (xs : List (ℕ × List Value)) → length (x ∷ xs) ≡ 0 → ⊥
      some_length xs h = absurd (omega (arith, h))

  pub bare_is : (m : BTreeMap ℕ (List Value)) (result : Bool) → (result ≡ true → btree_map_len m ≡ 0) → (btree_map_len m ≡ 0 → result ≡ true)
      → ((f : ℕ) → get attr (e, f) ≡ tree.get nat_cmp m f) → result ≡ nat_eq (count (λ (x : AttrKey × List Value). text_eq e x.0.0) attr) 0
  bare_is m result to from held = bare_by m.entries result to from held
