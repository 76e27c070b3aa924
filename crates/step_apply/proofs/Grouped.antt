-- Ordered maps of the lists of places.
use Rattle.std.proofs.Common.{◌≡◌, ℕ, true, false, List, [], ◌∷◌, refl, sym, ap, subst, ◌∙◌, arith, length}
use Rattle.std.specs.Prelude.{Option, None, is_some}
use Rattle.std.specs.declared.cmp.Ordering.{Ordering}
use Rattle.std.specs.FinMap.{get, get-empty, entries, empty, len-entries, len-empty}
use Rattle.std.specs.BTreeMap as tree
use Rattle.std.specs.BTreeMap.{BTreeMap, is_at}
use Rattle.finite_maps.specs.Equal.{text_eq}
use Rattle.finite_maps.specs.Tables.{table}
use Rattle.finite_maps.proofs.Cases.{not_so, true_false}
use Rattle.finite_maps.proofs.EqualLaws.{text_equality}
use Rattle.finite_maps.proofs.MapLaws.{same_key}
use Rattle.finite_maps.proofs.TableLaws.{get-table}
use Rattle.model_state.specs.Keys.{IdBytes, RowKey, id_cmp, row_cmp}
use Rattle.model_state.proofs.Orders.{id_order, row_order}
use Rattle.step_apply.specs.Groups.{rows_of}

-- different names are not found at one another
pub not_at : (a b : IdBytes) → text_eq a b ≡ false → is_at (id_cmp a) b ≡ false
not_at a b apart = not_so (is_at (id_cmp a) b)
    (λ t. true_false (text_eq a b) (subst (λ z. text_eq a z ≡ true) (same_key id_order a b t) (text_equality.own a)) apart)

pub no_items : {A : Type 0} (xs : List A) → length xs ≡ 0 → xs ≡ []
no_items [] h = refl
no_items (x ∷ xs) h = absurd (omega (arith, h))

pub no_entries : {K X : Type 0} (R : K → K → Ordering) → entries (empty {X = X} {R = R}) ≡ []
no_entries {X = X} R = no_items _ (sym (len-entries (empty {X = X} {R = R})) ∙ len-empty R X)

pub none_arrives : (k : RowKey) (o : Option (BTreeMap RowKey ℕ)) → o ≡ None → is_some (get (rows_of o) k) ≡ true → ⊥
none_arrives k o none some = true_false (is_some (get (rows_of o) k)) some (ap (λ o. is_some (get (rows_of o) k)) none ∙ ap is_some (get-empty row_cmp k))

pub some_row : (t : BTreeMap RowKey ℕ) (k : RowKey) → is_some (get (table row_cmp t) k) ≡ true → is_some (tree.get row_cmp t k) ≡ true
some_row t k some = ap is_some (sym (get-table row_order t k)) ∙ some
