-- Ordered maps of the program as finite maps.
use Rattle.std.proofs.Common.{◌≡◌, ℕ, Bool, true, false, cond, List, [], ◌∷◌, refl, sym, ap, subst, ◌∙◌, map, ◌+◌, arith, count_by}
use Rattle.std.specs.declared.cmp.Ordering.TheVariants.{Less}
use Rattle.std.specs.List.{AllByRecursion}
use Rattle.std.specs.List.Sorted.{IsStrictlySortedBy}
use Rattle.std.proofs.lemmas.List.Sums.{sum_by-cons}
use Rattle.finite_maps.proofs.CountLaws.{count-set, count_none}
use Rattle.finite_maps.proofs.Truths.{both}
use Rattle.std.specs.Prelude.{Option, None, Some, T}
use Rattle.std.specs.Option.{option_map}
use Rattle.std.specs.declared.cmp.Ordering.{Ordering}
use Rattle.std.specs.Ordering.{eq_by_cmp, is_eq, is_lt, ordering_reverse}
use Rattle.std.specs.Cmp.{eq_by_cmp_equiv}
use Rattle.std.specs.Map.{lookup}
use Rattle.std.specs.FinMap.{get, entries, from_entries, from_sorted, find, get-from_entries, get-from_sorted, entries-from_sorted, get-empty, is_sorted}
use Rattle.std.specs.FinMap.Entries.{below_all}
use Rattle.std.specs.BTreeMap as tree
use Rattle.std.specs.BTreeMap.{BTreeMap, is_at, IsOrdered, values}
use Rattle.finite_maps.specs.Maps.{set, count, counts}
use Rattle.finite_maps.specs.Tables.{table, table_of}
use Rattle.finite_maps.proofs.MapLaws.{IsKeyOrder, same, own_key, get-set}

pub find_is : {K X : Type 0} (R : K → K → Ordering) (es : List (K × X)) (q : K) → find R q es ≡ lookup (is_at (R q)) es
find_is R [] q = refl
find_is R (e ∷ es) q = ap (cond (is_at (R q) e.0) (Some e.1)) (find_is R es q)

read : {X Y : Type 0} (h : X → Y) (b : Bool) (x : X) (o : Option X) → cond b (Some (h x)) (option_map h o) ≡ option_map h (cond b (Some x) o)
read h true x o = refl
read h false x o = refl

find_read : {K X Y : Type 0} (R : K → K → Ordering) (h : X → Y) (es : List (K × X)) (q : K)
    → find R q (map {B = K × Y} (λ (e : K × X). (e.0, h e.1)) es) ≡ option_map h (lookup (is_at (R q)) es)
find_read R h [] q = refl
find_read R h (e ∷ es) q = ap (cond (is_at (R q) e.0) (Some (h e.1))) (find_read R h es q) ∙ read h (is_at (R q) e.0) e.1 (lookup (is_at (R q)) es)

over : {X Y : Type 0} (h : X → Y) (b : Bool) (w o : Option X) → option_map h (cond b w o) ≡ cond b (option_map h w) (option_map h o)
over h true w o = refl
over h false w o = refl

module _ {K X : Type 0} {R : K → K → Ordering} (o : IsKeyOrder R) where
  pub get-table : (m : BTreeMap K X) (q : K) → get (table R m) q ≡ tree.get R m q
  get-table m q = get-from_entries o.total m.entries q ∙ find_is R m.entries q

  pub get-table_of : {Y : Type 0} (h : X → Y) (m : BTreeMap K X) (q : K) → get (table_of R h m) q ≡ option_map h (tree.get R m q)
  get-table_of h m q = get-from_entries o.total _ q ∙ find_read R h m.entries q

  -- a write of the ordered map is that write of the finite map
  pub table_updates : (m n : BTreeMap K X) (k : K) (w : Option X) → ((q : K) → tree.get R n q ≡ cond (is_at (R k) q) w (tree.get R m q))
      → table R n ≡ set (table R m) k w
  table_updates m n k w h = same o _ _ (λ q.
      get-table n q ∙ h q ∙ ap (λ b. cond b w (tree.get R m q)) ((eq_by_cmp_equiv o.total).symm k q)
      ∙ ap (cond (eq_by_cmp R q k) w) (sym (get-table m q)) ∙ sym (get-set o (table R m) k w q))

  pub table_of_updates : {Y : Type 0} (h : X → Y) (m n : BTreeMap K X) (k : K) (w : Option X)
      → ((q : K) → tree.get R n q ≡ cond (is_at (R k) q) w (tree.get R m q)) → table_of R h n ≡ set (table_of R h m) k (option_map h w)
  table_of_updates h m n k w is = same o _ _ (λ q.
      get-table_of h n q ∙ ap (option_map h) (is q ∙ ap (λ b. cond b w (tree.get R m q)) ((eq_by_cmp_equiv o.total).symm k q))
      ∙ over h (eq_by_cmp R q k) w (tree.get R m q)
      ∙ ap (cond (eq_by_cmp R q k) (option_map h w)) (sym (get-table_of h m q)) ∙ sym (get-set o (table_of R h m) k (option_map h w) q))

-- ---- counts
nothing_there : {A : Type 0} {o : Option A} {v : A} → o ≡ None → o ≡ Some v → ⊥
nothing_there h k = cc

added : (n w c v t : ℕ) → n + w ≡ c + v → w ≡ 0 → c ≡ t → n ≡ v + t
added n w c v t e f g = omega arith

no_key : {K X : Type 0} (R : K → K → Ordering) (k : K) (es : List (K × X)) → AllByRecursion (λ y. R k y ≡ Less) (map {B = K} (λ e. e.0) es)
    → lookup (is_at (R k)) es ≡ None
no_key R k [] h = refl
no_key R k (e ∷ es) h = ap (λ r. cond (is_eq r) (Some e.1) (lookup (is_at (R k)) es)) h.0 ∙ no_key R k es h.1

module _ {K X Y : Type 0} {R : K → K → Ordering} (o : IsKeyOrder R) (h : X → Y) (q : Y → Bool) where
  count_entries : (es : List (K × X)) → IsStrictlySortedBy R (map {B = K} (λ e. e.0) es)
      → count (λ (e : K × Y). q e.1) (from_entries {R = R} (map {B = K × Y} (λ (e : K × X). (e.0, h e.1)) es)) ≡ count_by (λ x. q (h x))
      (map {B = X} (λ e. e.1) es)
  unfolding IsStrictlySortedBy
  count_entries [] sorted = count_none o (λ (e : K × Y). q e.1) _ (λ k v is. absurd (nothing_there (get-empty R k) is))
  count_entries (e ∷ es) sorted =
      let m = from_entries {R = R} (map {B = K × Y} (λ (e : K × X). (e.0, h e.1)) es) in
      let none : get m e.0 ≡ None = get-from_entries o.total _ e.0 ∙ find_read R h es e.0 ∙ ap (option_map h) (no_key R e.0 es sorted.0) in
      let sum : count (λ (e : K × Y). q e.1) (set m e.0 (Some (h e.1))) + counts (λ (e : K × Y). q e.1) e.0 (get m e.0) ≡ count
      (λ (e : K × Y). q e.1) m + counts (λ (e : K × Y). q e.1) e.0 (Some (h e.1)) = count-set o (λ (e : K × Y). q e.1) m e.0 (Some (h e.1)) in
      let was : counts (λ (e : K × Y). q e.1) e.0 (get m e.0) ≡ 0 = ap (counts (λ (e : K × Y). q e.1) e.0) none in
      let rest = count_entries es sorted.1 in
      let cons = sum_by-cons (λ x. cond (q (h x)) 1 0) e.1 (map {B = X} (λ e. e.1) es) in
      added _ _ _ _ _ sum was rest ∙ sym cons

  -- to count the values is to count the entries
  pub count-table_of : (m : BTreeMap K X) → IsOrdered R m → count (λ (e : K × Y). q e.1) (table_of R h m) ≡ count_by (λ x. q (h x)) (values m)
  count-table_of m sorted = count_entries m.entries sorted

-- ---- entries
module _ {K X : Type 0} (R : K → K → Ordering) where
  all_below : (k : K) (es : List (K × X)) → AllByRecursion (λ y. R k y ≡ Less) (map {B = K} (λ e. e.0) es) → T (below_all R k es)
  all_below k [] h = tt
  all_below k (e ∷ es) h = both (is_lt (R k e.0)) _ (subst (λ r. T (is_lt r)) (sym h.0) tt) (all_below k es h.1)

  strictly : (es : List (K × X)) → IsStrictlySortedBy R (map {B = K} (λ e. e.0) es) → T (is_sorted R es)
  unfolding IsStrictlySortedBy
  strictly [] h = tt
  strictly (e ∷ es) h = both (below_all R e.0 es) _ (all_below e.0 es h.0) (strictly es h.1)

keys_read : {K X Y : Type 0} (h : X → Y) (es : List (K × X))
    → map {B = K} (λ e. e.0) (map {B = K × Y} (λ (e : K × X). (e.0, h e.1)) es) ≡ map {B = K} (λ e. e.0) es
keys_read h [] = refl
keys_read h (e ∷ es) = ap (λ ks. e.0 ∷ ks) (keys_read h es)

module _ {K X : Type 0} {R : K → K → Ordering} (o : IsKeyOrder R) where
  entries_in_order : (es : List (K × X)) → IsStrictlySortedBy R (map {B = K} (λ e. e.0) es) → entries (from_entries {R = R} es) ≡ es
  entries_in_order es h =
      ap entries (same o (from_entries es) (from_sorted es) (λ q. get-from_entries o.total es q ∙ sym (get-from_sorted R es q (strictly R es h))))
      ∙ entries-from_sorted R es (strictly R es h)

  -- the entries of an ordered map
  pub entries-table : (m : BTreeMap K X) → IsOrdered R m → entries (table R m) ≡ m.entries
  entries-table m h = entries_in_order m.entries h

module _ {K X Y : Type 0} {R : K → K → Ordering} (o : IsKeyOrder R) where
  pub entries-table_of : (h : X → Y) (m : BTreeMap K X) → IsOrdered R m → entries (table_of R h m) ≡ map {B = K × Y} (λ (e : K × X). (e.0, h e.1)) m.entries
  entries-table_of h m is = entries_in_order o _ (subst (λ ks. IsStrictlySortedBy R ks) (sym (keys_read h m.entries)) is)

module _ {K X : Type 0} {R : K → K → Ordering} (o : IsKeyOrder R) where
  -- each entry of a list in order is the one that is found at its key
  later_keys : (k : K) (v : X) (es fs : List (K × X)) → AllByRecursion (λ y. R k y ≡ Less) (map {B = K} (λ e. e.0) es)
      → AllByRecursion (λ (e : K × X). lookup (is_at (R e.0)) fs ≡ Some e.1) es
      → AllByRecursion (λ (e : K × X). lookup (is_at (R e.0)) ((k, v) ∷ fs) ≡ Some e.1) es
  later_keys k v [] fs h all = tt
  later_keys k v (e ∷ es) fs h all =
      (ap (λ r. cond (is_eq r) (Some v) (lookup (is_at (R e.0)) fs)) (o.total.antisymm e.0 k ∙ ap ordering_reverse h.0) ∙ all.0, later_keys k v es fs h.1 all.1)

  pub lookup_all : (es : List (K × X)) → IsStrictlySortedBy R (map {B = K} (λ e. e.0) es)
      → AllByRecursion (λ (e : K × X). lookup (is_at (R e.0)) es ≡ Some e.1) es
  unfolding IsStrictlySortedBy
  lookup_all [] h = tt
  lookup_all (e ∷ es) h =
      (ap (λ b. cond b (Some e.1) (lookup (is_at (R e.0)) es)) (own_key o e.0), later_keys e.0 e.1 es es h.0 (lookup_all es h.1))
