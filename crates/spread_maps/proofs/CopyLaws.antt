-- An ordered map whose entries are put in one by one.
use Rattle.std.proofs.Common.{◌≡◌, true, false, cond, List, [], ◌∷◌, ◌++◌, refl, sym, ap, ◌∙◌, map}
use Rattle.std.specs.Prelude.{Option, None, Some}
use Rattle.std.specs.declared.cmp.Ordering.{Ordering}
use Rattle.std.specs.declared.cmp.Ordering.TheVariants.{Less}
use Rattle.std.specs.Ordering.{eq_by_cmp, is_eq}
use Rattle.std.specs.List.{AllByRecursion}
use Rattle.std.specs.List.Sorted.{IsStrictlySortedBy}
use Rattle.std.specs.Map.{lookup}
use Rattle.std.specs.FinMap.{FinMap, get, empty, get-empty}
use Rattle.std.specs.BTreeMap.{BTreeMap, is_at, IsOrdered}
use Rattle.finite_maps.specs.Maps.{set, set_all}
use Rattle.spread_maps.specs.Writes.{puts}
use Rattle.finite_maps.specs.Tables.{table}
use Rattle.finite_maps.proofs.MapLaws.{IsKeyOrder, same, same_key, get-set}
use Rattle.finite_maps.proofs.TableLaws.{get-table}

pub map_more : {A B : Type 0} (h : A → B) (xs : List A) (x : A) → map h (xs ++ x ∷ []) ≡ map h xs ++ h x ∷ []
map_more h [] x = refl
map_more h (y ∷ ys) x = ap (λ l. h y ∷ l) (map_more h ys x)

pub set_all_more : {K X : Type 0} {R : K → K → Ordering} (m : FinMap R X) (es : List (K × X)) (e : K × X)
    → set_all m (puts (es ++ e ∷ [])) ≡ set (set_all m (puts es)) e.0 (Some e.1)
set_all_more m [] e = refl
set_all_more m (x ∷ xs) e = set_all_more (set m x.0 (Some x.1)) xs e

abbrev first_of : {X : Type 0} → Option X → Option X → Option X
first_of None y = y
first_of (Some x) y = Some x

first_none : {X : Type 0} (o : Option X) → first_of o None ≡ o
first_none None = refl
first_none (Some x) = refl

no_key : {K X : Type 0} (R : K → K → Ordering) (k : K) (es : List (K × X)) → AllByRecursion (λ y. R k y ≡ Less) (map {B = K} (λ e. e.0) es)
    → lookup (is_at (R k)) es ≡ None
no_key R k [] h = refl
no_key R k (e ∷ es) h = ap (λ r. cond (is_eq r) (Some e.1) (lookup (is_at (R k)) es)) h.0 ∙ no_key R k es h.1

module _ {K X : Type 0} {R : K → K → Ordering} (o : IsKeyOrder R) where
  get-puts : (es : List (K × X)) (m : FinMap R X) → IsStrictlySortedBy R (map {B = K} (λ e. e.0) es) → (q : K)
      → get (set_all m (puts es)) q ≡ first_of (lookup (is_at (R q)) es) (get m q)
  unfolding IsStrictlySortedBy
  get-puts [] m sorted q = refl
  get-puts (e ∷ es) m sorted q =
      get-puts es (set m e.0 (Some e.1)) sorted.1 q
      ∙ ap (first_of (lookup (is_at (R q)) es)) (get-set o m e.0 (Some e.1) q)
      ∙ elim (eq_by_cmp R q e.0) as (λ b. eq_by_cmp R q e.0 ≡ b
      → first_of (lookup (is_at (R q)) es) (cond b (Some e.1) (get m q)) ≡ first_of (cond b (Some e.1) (lookup (is_at (R q)) es)) (get m q)) [
        | true ↦ λ is. ap (λ w. first_of w (Some e.1)) (ap (λ k. lookup (is_at (R k)) es) (same_key o q e.0 is) ∙ no_key R e.0 es sorted.0)
        | false ↦ λ _. refl
      ] refl

  -- all entries, put into the empty map
  pub all_put : (m : BTreeMap K X) → IsOrdered R m → set_all empty (puts m.entries) ≡ table R m
  all_put m sorted = same o _ _ (λ q.
      get-puts m.entries empty sorted q ∙ ap (first_of (lookup (is_at (R q)) m.entries)) (get-empty R q) ∙ first_none _ ∙ sym (get-table o m q))
