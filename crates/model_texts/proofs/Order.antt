-- The order of keys is total, and ties only equal keys.
use Rattle.std.proofs.Common.{◌≡◌, ℕ, suc, refl, ap, arith}
use Rattle.std.specs.Ordering.{nat_cmp}
use Rattle.std.specs.Cmp.{nat_cmp_total}
use Rattle.std.specs.Cmp.Lexicographic.{nat_list_cmp_total, slice_cmp}
use Rattle.std.proofs.lemmas.Cmp.{on_total, then_total}
use Rattle.std.proofs.lemmas.Map.Lookups.{exact_pairs, exact_unsigned, exact_bytes, CmpEqualImpliesEq}
use Rattle.finite_maps.proofs.MapLaws.{IsKeyOrder}
use Rattle.ecore_meta.specs.Meta.{Meta}
use Rattle.model_texts.specs.declared.key.Key.{Key}
use Rattle.model_texts.specs.declared.key.Key.TheVariants.{Ident, Class, Feature}
use Rattle.model_texts.specs.Keys.{key_cmp, key_name, key_number}

same_key : (x y : Key) → key_number x ≡ key_number y → x ≡ y
same_key Ident Ident h = refl
same_key Ident Class h = absurd (omega arith)
same_key Ident (Feature g) h = absurd (omega arith)
same_key Class Ident h = absurd (omega arith)
same_key Class Class h = refl
same_key Class (Feature g) h = absurd (omega arith)
same_key (Feature f) Ident h = absurd (omega arith)
same_key (Feature f) Class h = absurd (omega arith)
same_key (Feature f) (Feature g) h = ap (λ n. Feature n) (less f g h)
  where
    less : (f g : ℕ) → suc (suc f) ≡ suc (suc g) → f ≡ g
    less f g h = omega arith

module _ (meta : Meta) where
  keys_exact : CmpEqualImpliesEq (key_cmp meta)
  keys_exact x y h = same_key x y
      (ap (λ p. p.1) (exact_pairs (slice_cmp nat_cmp) nat_cmp exact_bytes exact_unsigned (key_name meta x, key_number x)
      (key_name meta y, key_number y) h))

  pub key_order : IsKeyOrder (key_cmp meta)
  key_order = record {
    total = then_total (on_total (key_name meta) nat_list_cmp_total) (on_total key_number nat_cmp_total);
    exact = keys_exact;
  }
