-- The keys of a map that is made of a look-up, in order.
use Rattle.std.proofs.Common.{◌≡◌, ℕ, ◌+◌, Bool, true, false, cond, List, [], ◌∷◌, refl, sym, ap, ◌∙◌, arith, map, ◌||◌}
use Rattle.std.specs.Prelude.{Option, None, Some, is_some, T}
use Rattle.std.specs.List.{AllByRecursion, IsDistinct, list_any}
use Rattle.std.specs.declared.cmp.Ordering.{Ordering}
use Rattle.std.specs.declared.cmp.Ordering.TheVariants.{Less, Equal, Greater}
use Rattle.std.specs.Ordering.{eq_by_cmp, is_lt, ordering_reverse}
use Rattle.std.specs.FinMap.{FinMap, get, entries, keys, entries_sorted, is_sorted}
use Rattle.std.specs.FinMap.Entries.{below_all}
use Rattle.finite_maps.specs.Maps.{set, count, counts, tally}
use Rattle.finite_maps.specs.Sorts.{in_order}
use Rattle.spread_maps.specs.Spread.{tabulate}
use Rattle.finite_maps.proofs.MapLaws.{IsKeyOrder}
use Rattle.finite_maps.proofs.CountLaws.{count-set, count_none}
use Rattle.finite_maps.proofs.SortLaws.{Rises, rises-in_order, same_risen, tally-in_order, tally-map}
use Rattle.finite_maps.proofs.Truths.{first, second}
use Rattle.spread_maps.proofs.TabulateLaws.{get_listed}
use Rattle.std.specs.FinMap.{get-empty}

less_after : (o : Ordering) → T (is_lt o) → is_lt (ordering_reverse o) ≡ false
less_after Less p = refl
less_after Equal p = absurd p
less_after Greater p = absurd p

no_entry : {A : Type 0} (o : Option A) (v : A) → o ≡ None → o ≡ Some v → ⊥
no_entry o v h k = cc

one_first : (n w c v t b : ℕ) → n + w ≡ c + v → w ≡ 0 → c ≡ t → v ≡ b → n ≡ b + t
one_first n w c v t b e f g h = omega arith

module _ {K X : Type 0} {R : K → K → Ordering} (o : IsKeyOrder R) where
  all_after : (k : K) (es : List (K × X)) → T (below_all R k es) → AllByRecursion (λ y. is_lt (R y k) ≡ false) (map {B = K} (λ e. e.0) es)
  all_after k [] h = tt
  all_after k (e ∷ es) h =
      (ap is_lt (o.total.antisymm e.0 k) ∙ less_back (R k e.0) (R e.0 k) (o.total.antisymm k e.0) (first _ _ h), all_after k es (second _ _ h))
    where
      less_back : (r s : Ordering) → r ≡ ordering_reverse s → T (is_lt r) → is_lt (ordering_reverse r) ≡ false
      less_back r s e p = less_after r p

  rises_sorted : (es : List (K × X)) → T (is_sorted R es) → Rises R (map {B = K} (λ e. e.0) es)
  rises_sorted [] h = tt
  rises_sorted (e ∷ es) h = (all_after e.0 es (first _ _ h), rises_sorted es (second _ _ h))

  pub rises_keys : (m : FinMap R X) → Rises R (keys m)
  rises_keys m = rises_sorted (entries m) (entries_sorted m)

  pub tally_keys : (p : K → Bool) (m : FinMap R X) → tally p (keys m) ≡ count (λ (e : K × X). p e.0) m
  tally_keys p m = tally-map p (λ (e : K × X). e.0) (entries m)

module _ {K X : Type 0} {R : K → K → Ordering} (o : IsKeyOrder R) (e : K → K → Bool) (alike : (x y : K) → e x y ≡ eq_by_cmp R x y) (f : K → Option X) where
  not_any : (k : K) (ks : List K) → AllByRecursion (λ y. e k y ≡ false) ks → list_any (eq_by_cmp R k) ks ≡ false
  not_any k [] h = refl
  not_any k (x ∷ xs) h = ap (λ b. b || list_any (eq_by_cmp R k) xs) (sym (alike k x) ∙ h.0) ∙ not_any k xs h.1

  tally_tabulated : (p : K → Bool) (ks : List K) → IsDistinct e ks → AllByRecursion (λ k. is_some (f k) ≡ true) ks
      → count (λ (x : K × X). p x.0) (tabulate R f ks) ≡ tally p ks
  unfolding IsDistinct
  tally_tabulated p [] apart found =
      count_none o (λ (x : K × X). p x.0) (tabulate R f []) (λ k v is. absurd (no_entry (get (tabulate R f []) k) v (get-empty R k) is))
  tally_tabulated p (k ∷ ks) apart found =
      let pe : K × X → Bool = λ (x : K × X). p x.0 in
      let m = tabulate R f ks in
      let sum : count pe (set m k (f k)) + counts pe k (get m k) ≡ count pe m + counts pe k (f k) = count-set o pe m k (f k) in
      let none : get m k ≡ None = get_listed o f ks k ∙ ap (λ b. cond b (f k) None) (not_any k ks apart.0) in
      let was : counts pe k (get m k) ≡ 0 = ap (counts pe k) none in
      let now : counts pe k (f k) ≡ cond (p k) 1 0 = one (f k) found.0 in
      one_first _ _ _ _ _ _ sum was (tally_tabulated p ks apart.1 found.1) now
    where
      one : (o : Option X) → is_some o ≡ true → counts (λ (x : K × X). p x.0) k o ≡ cond (p k) 1 0
      one None h = cc
      one (Some v) h = refl

  -- keys that are found, each once, are in order those of the map
  pub keys_in_order : (ks : List K) → IsDistinct e ks → AllByRecursion (λ k. is_some (f k) ≡ true) ks → in_order R ks ≡ keys (tabulate R f ks)
  keys_in_order ks apart found =
      same_risen o (in_order R ks) (keys (tabulate R f ks)) (rises-in_order o ks) (rises_keys o (tabulate R f ks))
      (λ p. tally-in_order R p ks ∙ sym (tally_keys o p (tabulate R f ks) ∙ tally_tabulated p ks apart found))
