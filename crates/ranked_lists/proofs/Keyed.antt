-- Entries in an ordered set, and beside them a table by id.
use Rattle.std.proofs.Common.{◌≡◌, ℕ, ◌+◌, Bool, true, false, cond, List, [], ◌∷◌, refl, sym, ap, subst, ◌∙◌, arith, ◌||◌}
use Rattle.std.specs.Prelude.{String, string_bytes, string_eq, Option, None, Some}
use Rattle.std.specs.Option.{option_map}
use Rattle.std.specs.List.{list_any, AllByRecursion}
use Rattle.std.specs.List.Sorted.{IsStrictlySortedBy}
use Rattle.std.specs.declared.cmp.Ordering.{Ordering}
use Rattle.std.specs.declared.cmp.Ordering.TheVariants.{Less, Equal, Greater}
use Rattle.std.specs.Ordering.{is_eq, is_lt, match_ordering, ordering_reverse}
use Rattle.std.specs.Map.{lookup}
use Rattle.std.specs.Set.{remove_key}
use Rattle.std.specs.BTreeMap.{is_at}
use Rattle.std.specs.BTreeSet.{insert_key}
use Rattle.std.specs.HashMap.{HashMap, UpdatesBy}
use Rattle.std.specs.Str.{bytes_eq}
use Rattle.std.specs.FinMap.{get}
use Rattle.std.specs.Cmp.Lexicographic.{texts_ties, nat_list_eq_equiv}
use Rattle.std.proofs.lemmas.Map.Text.{hash_map_updates_text}
use Rattle.finite_maps.specs.Equal.{text_eq}
use Rattle.finite_maps.specs.Maps.{set, tally, counts}
use Rattle.finite_maps.proofs.Cases.{not_so, true_false}
use Rattle.finite_maps.proofs.CountLaws.{count_none, none_counted}
use Rattle.finite_maps.proofs.EqualLaws.{text_equality}
use Rattle.finite_maps.proofs.MapLaws.{IsKeyOrder, same_key, own_key, get-set}
use Rattle.finite_maps.proofs.SortLaws.{Rises}
use Rattle.model_state.specs.declared.entry.Entry.{Entry}
use Rattle.model_state.specs.Keys.{IdBytes}
use Rattle.model_state.specs.Listing.{entry_cmp}
use Rattle.model_state.proofs.Orders.{id_order, entry_order}
use Rattle.ranked_lists.specs.Ranks.{Ranks, ranked_entry}
use Rattle.ranked_lists.specs.Ranked.{rank_map, AreRanked, named, entry_with, IsTableOf}
use Rattle.ranked_lists.proofs.Held.{Holds, holds, holds_set, now_ranked}

-- ---- keys that come and go
module _ {X : Type 0} {cmp : X → X → Ordering} (o : IsKeyOrder cmp) where
  not_below : (x y : X) → cmp x y ≡ Less → is_lt (cmp y x) ≡ false
  not_below x y less = ap is_lt (o.total.antisymm y x ∙ ap ordering_reverse less)

  all_so : (P Q : X → Type 0) → ((x : X) → P x → Q x) → (xs : List X) → AllByRecursion P xs → AllByRecursion Q xs
  all_so P Q so [] h = tt
  all_so P Q so (x ∷ xs) h = (so x h.0, all_so P Q so xs h.1)

  pub rises_strict : (xs : List X) → IsStrictlySortedBy cmp xs → Rises cmp xs
  unfolding IsStrictlySortedBy
  rises_strict [] up = tt
  rises_strict (x ∷ xs) up = (all_so (λ y. cmp x y ≡ Less) (λ y. is_lt (cmp y x) ≡ false) (not_below x) xs up.0, rises_strict xs up.1)

  or_left : (b c : Bool) → b || c ≡ false → b ≡ false
  or_left true c h = cc
  or_left false c h = refl

  or_right : (b c : Bool) → b || c ≡ false → c ≡ false
  or_right true c h = cc
  or_right false c h = h

  or_true : (b c : Bool) → b ≡ false → b || c ≡ true → c ≡ true
  or_true true c h g = cc
  or_true false c h g = g

  later : (a b n k : ℕ) → n ≡ k + b → a + n ≡ (a + k) + b
  later a b n k h = omega (arith, h)

  pub tally-insert : (p : X → Bool) (xs : List X) (x : X) → list_any (is_at (cmp x)) xs ≡ false → tally p (insert_key cmp xs x) ≡ tally p xs + cond (p x) 1 0
  tally-insert p [] x none = omega arith
  tally-insert p (y ∷ ys) x none =
      elim (cmp x y) as (λ r. cmp x y ≡ r → tally p (match_ordering r (x ∷ y ∷ ys) (y ∷ ys) (y ∷ insert_key cmp ys x)) ≡ tally p (y ∷ ys) + cond (p x) 1 0) [
        | Less ↦ λ _. omega arith
        | Equal ↦ λ same. absurd (true_false (is_at (cmp x) y) (ap is_eq same) (or_left (is_at (cmp x) y) _ none))
        | Greater ↦ λ _. later (cond (p y) 1 0) (cond (p x) 1 0) _ _ (tally-insert p ys x (or_right (is_at (cmp x) y) _ none))
      ] refl

  pub tally-remove_key : (p : X → Bool) (xs : List X) (x : X) → list_any (is_at (cmp x)) xs ≡ true
      → tally p (remove_key (is_at (cmp x)) xs) + cond (p x) 1 0 ≡ tally p xs
  tally-remove_key p [] x some = cc
  tally-remove_key p (y ∷ ys) x some =
      elim (is_at (cmp x) y) as (λ b. is_at (cmp x) y ≡ b → tally p (cond b ys (y ∷ remove_key (is_at (cmp x)) ys)) + cond (p x) 1 0 ≡ tally p (y ∷ ys)) [
        | true ↦ λ at. let same : x ≡ y = same_key o x y at in ap (λ z. tally p ys + cond (p z) 1 0) same ∙ omega arith
        | false ↦ λ not.
            let rest = tally-remove_key p ys x (or_true (is_at (cmp x) y) _ not some) in
            sym (later (cond (p y) 1 0) (cond (p x) 1 0) _ _ (sym rest))
      ] refl

  any_none : (x : X) (xs : List X) → list_any (is_at (cmp x)) xs ≡ false → tally (is_at (cmp x)) xs ≡ 0
  any_none x [] none = refl
  any_none x (y ∷ ys) none =
      ap (λ b. cond b 1 0 + tally (is_at (cmp x)) ys) (or_left (is_at (cmp x) y) _ none)
      ∙ ap (λ n. 0 + n) (any_none x ys (or_right (is_at (cmp x) y) _ none))

  any_some : (x : X) (xs : List X) → tally (is_at (cmp x)) xs ≡ 0 → list_any (is_at (cmp x)) xs ≡ false
  any_some x [] none = refl
  any_some x (y ∷ ys) none =
      elim (is_at (cmp x) y) as (λ b. cond b 1 0 + tally (is_at (cmp x)) ys ≡ 0 → b || list_any (is_at (cmp x)) ys ≡ false) [
        | true ↦ λ h. absurd (omega (arith, h))
        | false ↦ λ h. any_some x ys (omega (arith, h))
      ] none

module _ (ks : List Entry) (m : Ranks) (h : Holds ks m) (e : IdBytes) (r : ℕ) where
  -- an entry is in the set where the element has that rank
  pub is_in : get m e ≡ Some r → list_any (is_at (entry_cmp (entry_with e r))) ks ≡ true
  is_in is =
      elim (list_any (is_at (entry_cmp (entry_with e r))) ks) as (λ b. list_any (is_at (entry_cmp (entry_with e r))) ks ≡ b → b ≡ true) [
        | true ↦ λ _. refl
        | false ↦ λ none. absurd (true_false (is_at (entry_cmp (entry_with e r)) (entry_with e r)) (own_key entry_order (entry_with e r))
            (none_counted id_order (λ (z : IdBytes × ℕ). is_at (entry_cmp (entry_with e r)) (ranked_entry z)) m
            (sym (h (is_at (entry_cmp (entry_with e r)))) ∙ any_none entry_order (entry_with e r) ks none) e r is))
      ] refl

  pub not_in : (get m e ≡ Some r → ⊥) → list_any (is_at (entry_cmp (entry_with e r))) ks ≡ false
  not_in other = any_some entry_order (entry_with e r) ks
      (h (is_at (entry_cmp (entry_with e r)))
      ∙ count_none id_order _ m (λ k v at. not_so (is_at (entry_cmp (entry_with e r)) (ranked_entry (k, v))) (λ one.
      let same : entry_with e r ≡ ranked_entry (k, v) = same_key entry_order (entry_with e r) (ranked_entry (k, v)) one in
      let id : e ≡ k = ap (λ (x : Entry). x.id) same in
      let rank : r ≡ v = ap (λ (x : Entry). x.rank) same in
      other (subst (λ z. get m z ≡ Some v) (sym id) at ∙ ap Some (sym rank)))))

-- ---- the ordered set after a write
plain : (n : ℕ) → n + 0 ≡ n
plain n = omega arith

came : (a b c k : ℕ) → a ≡ b + c → k ≡ 0 → a + k ≡ b + c
came a b c k h g = omega (arith, h, g)

went : (a b c : ℕ) → a + c ≡ b → a + c ≡ b + 0
went a b c h = omega (arith, h)

passed : (a b c d k : ℕ) → a + d ≡ k → k ≡ b + c → a + d ≡ b + c
passed a b c d k h g = omega (arith, h, g)

module _ (ks : List Entry) (ranked : AreRanked ks) (e : IdBytes) where
  abbrev was : Ranks
  was = rank_map ks

  abbrev After : List Entry → Option ℕ → Type 0
  After ns v = AreRanked ns × (rank_map ns ≡ set was e v)

  all_held : Holds ks was
  all_held = holds ks was ranked

  -- a new element
  pub set_came : (ns : List Entry) (r : ℕ) → get was e ≡ None → ns ≡ insert_key entry_cmp ks (entry_with e r) → IsStrictlySortedBy entry_cmp ns
      → After ns (Some r)
  set_came ns r none is up =
      now_ranked ns (set was e (Some r))
      (holds_set ks ns was e (Some r) all_held
      (λ p. came _ _ _ _ (ap (tally p) is
      ∙ tally-insert entry_order p ks (entry_with e r) (not_in ks was all_held e r (λ some. two_ways none some)))
      (ap (counts (λ (z : IdBytes × ℕ). p (ranked_entry z)) e) none)))
      (rises_strict entry_order ns up)
    where
      two_ways : {o : Option ℕ} → o ≡ None → o ≡ Some r → ⊥
      two_ways none some = cc

  -- an element that goes
  pub set_went : (ns : List Entry) (r : ℕ) → get was e ≡ Some r → ns ≡ remove_key (is_at (entry_cmp (entry_with e r))) ks
      → IsStrictlySortedBy entry_cmp ns → After ns None
  set_went ns r some is up =
      now_ranked ns (set was e None)
      (holds_set ks ns was e None all_held
      (λ p. ap (λ o. tally p ns + counts (λ (z : IdBytes × ℕ). p (ranked_entry z)) e o) some
      ∙ ap (λ l. tally p l + cond (p (entry_with e r)) 1 0) is
      ∙ went _ _ _ (tally-remove_key entry_order p ks (entry_with e r) (is_in ks was all_held e r some))))
      (rises_strict entry_order ns up)

  -- an element that gets another rank: the new entry is put in, and the old one taken out
  pub set_moved : (os ns : List Entry) (old r : ℕ) → get was e ≡ Some old → (old ≡ r → ⊥) → os ≡ insert_key entry_cmp ks (entry_with e r)
      → list_any (is_at (entry_cmp (entry_with e old))) os ≡ true → ns ≡ remove_key (is_at (entry_cmp (entry_with e old))) os
      → IsStrictlySortedBy entry_cmp ns → After ns (Some r)
  set_moved os ns old r some differ put there is up =
      now_ranked ns (set was e (Some r))
      (holds_set ks ns was e (Some r) all_held (λ p.
      ap (λ o. tally p ns + counts (λ (z : IdBytes × ℕ). p (ranked_entry z)) e o) some
      ∙ ap (λ l. tally p l + cond (p (entry_with e old)) 1 0) is
      ∙ tally-remove_key entry_order p os (entry_with e old) there
      ∙ ap (tally p) put
      ∙ tally-insert entry_order p ks (entry_with e r) (not_in ks was all_held e r (λ other. differ (one_rank some other)))))
      (rises_strict entry_order ns up)
    where
      one_rank : {o : Option ℕ} {a b : ℕ} → o ≡ Some a → o ≡ Some b → a ≡ b
      one_rank g h = cc

-- ---- the table
module _ {Y : Type 0} where
  lookup-named : (es : List (String Y × Entry)) (q : IdBytes) → lookup (text_eq q) (named es) ≡ lookup (λ k. bytes_eq q (string_bytes k)) es
  lookup-named [] q = refl
  lookup-named (e ∷ es) q = ap (cond (text_eq q (string_bytes e.0)) (Some e.1)) (lookup-named es q)

  -- what a call found by the text t of the id
  pub lookup-text : (es : List (String Y × Entry)) (q t : IdBytes) → t ≡ q → (o : Option Entry) → o ≡ lookup (λ k. bytes_eq t (string_bytes k)) es
      → lookup (text_eq q) (named es) ≡ o
  lookup-text es q t same o is = lookup-named es q ∙ ap (λ x. lookup (λ k. bytes_eq x (string_bytes k)) es) (sym same) ∙ sym is

  -- and what a call wrote by it
  pub updates-text : {S : Type 0} (m n : HashMap (String Y) Entry S) (e t : IdBytes) → t ≡ e → (w : Option Entry)
      → UpdatesBy string_eq (λ k. bytes_eq t (string_bytes k)) m n w
      → (q : IdBytes) → lookup (text_eq q) (named n.entries) ≡ cond (text_eq e q) w (lookup (text_eq q) (named m.entries))
  updates-text m n e t same w h q =
      lookup-named n.entries q ∙ hash_map_updates_text t m n w h q
      ∙ ap (λ x. cond (text_eq x q) w (lookup (λ k. bytes_eq q (string_bytes k)) m.entries)) same
      ∙ ap (cond (text_eq e q) w) (sym (lookup-named m.entries q))

-- a table that is written as the ranks are
pub table_set : (es fs : List (IdBytes × Entry)) (m : Ranks) (e : IdBytes) (v : Option ℕ) → IsTableOf es m
    → ((q : IdBytes) → lookup (text_eq q) fs ≡ cond (text_eq e q) (option_map (entry_with e) v) (lookup (text_eq q) es)) → IsTableOf fs (set m e v)
table_set es fs m e v table wrote q =
    wrote q
    ∙ elim (text_eq e q) as (λ b. text_eq e q ≡ b
    → cond b (option_map (entry_with e) v) (lookup (text_eq q) es) ≡ option_map (entry_with q) (cond b v (get m q))) [
      | true ↦ λ here. ap (λ k. option_map (entry_with k) v) (text_equality.exact e q here)
      | false ↦ λ _. table q
    ] refl
    ∙ ap (λ b. option_map (entry_with q) (cond b v (get m q))) (nat_list_eq_equiv.symm e q ∙ texts_ties q e)
    ∙ ap (option_map (entry_with q)) (sym (get-set id_order m e v q))

-- the rank that an entry of the table tells
pub table_rank : (es : List (IdBytes × Entry)) (m : Ranks) → IsTableOf es m → (q : IdBytes) (o : Option Entry) → lookup (text_eq q) es ≡ o
    → option_map (λ (x : Entry). x.rank) o ≡ get m q
table_rank es m table q o is = ap (option_map (λ (x : Entry). x.rank)) (sym is ∙ table q) ∙ back (get m q)
  where
    back : (r : Option ℕ) → option_map (λ (x : Entry). x.rank) (option_map (entry_with q) r) ≡ r
    back None = refl
    back (Some k) = refl

-- the entry of the table of an element
pub table_entry : (es : List (IdBytes × Entry)) (m : Ranks) → IsTableOf es m → (q : IdBytes) (x : Entry) → lookup (text_eq q) es ≡ Some x
    → (x ≡ entry_with q x.rank) × (get m q ≡ Some x.rank)
table_entry es m table q x is = by (get m q) (sym is ∙ table q)
  where
    by : (r : Option ℕ) → Some x ≡ option_map (entry_with q) r → (x ≡ entry_with q x.rank) × (r ≡ Some x.rank)
    by None h = cc
    by (Some k) h = let same : x ≡ entry_with q k = cc
        in (same ∙ ap (λ (y : Entry). entry_with q y.rank) (sym same), ap Some (ap (λ (y : Entry). y.rank) (sym same)))
