-- Entries in order, and the ranks of their elements.
use Rattle.std.proofs.Common.{◌≡◌, ℕ, ◌+◌, Bool, true, false, cond, List, [], ◌∷◌, refl, sym, ap, subst, ◌∙◌, map, arith, length, nat_eq, ◌&&◌, ◌||◌}
use Rattle.std.specs.Prelude.{Option, None, Some}
use Rattle.std.specs.List.{list_any, AllByRecursion}
use Rattle.std.specs.List.Sorted.{IsPermutation, IsSorted}
use Rattle.std.specs.Ordering.{eq_by_cmp}
use Rattle.std.specs.FinMap.{get, entries}
use Rattle.std.specs.Cmp.Lexicographic.{texts_ties, nat_list_eq_equiv}
use Rattle.finite_maps.specs.Equal.{text_eq, option_eq}
use Rattle.finite_maps.specs.Maps.{set, tally, count, counts}
use Rattle.finite_maps.specs.Sorts.{in_order}
use Rattle.finite_maps.proofs.Cases.{not_so, true_false, some_none}
use Rattle.finite_maps.proofs.CountLaws.{count-set, count_none, none_counted}
use Rattle.finite_maps.proofs.EqualLaws.{text_equality, nat_equality, and_first, and_second, and_both}
use Rattle.finite_maps.proofs.MapLaws.{same}
use Rattle.finite_maps.proofs.SortLaws.{Rises, rises-in_order, same_risen, sorted_is, tally-in_order, tally-map, tally_permuted}
use Rattle.spread_maps.proofs.TabulateLaws.{get-tabulate}
use Rattle.model_state.specs.declared.entry.Entry.{Entry}
use Rattle.model_state.specs.Keys.{IdBytes, id_cmp}
use Rattle.model_state.specs.Listing.{entry_cmp}
use Rattle.model_state.proofs.Orders.{id_order, entry_order}
use Rattle.ranked_lists.specs.Ranks.{Ranks, ranked_entry, entries_by_rank}
use Rattle.ranked_lists.specs.Ranked.{rank_of, rank_map, AreRanked}

or_left : (b c : Bool) → b || c ≡ false → b ≡ false
or_left true c h = cc
or_left false c h = refl

or_right : (b c : Bool) → b || c ≡ false → c ≡ false
or_right true c h = cc
or_right false c h = h

-- ---- the ranks of entries
pub same_id : (q k : IdBytes) → text_eq k q ≡ eq_by_cmp id_cmp q k
same_id q k = nat_list_eq_equiv.symm k q ∙ texts_ties q k

not_listed : (xs : List Entry) (q : IdBytes) → list_any (eq_by_cmp id_cmp q) (map (λ (x : Entry). x.id) xs) ≡ false → rank_of xs q ≡ None
not_listed [] q h = refl
not_listed (x ∷ xs) q h =
    ap (λ b. cond b (Some x.rank) (rank_of xs q)) (same_id q x.id ∙ or_left (eq_by_cmp id_cmp q x.id) _ h)
    ∙ not_listed xs q (or_right (eq_by_cmp id_cmp q x.id) _ h)

pub get-ranks : (xs : List Entry) (q : IdBytes) → get (rank_map xs) q ≡ rank_of xs q
get-ranks xs q = get-tabulate id_order (rank_of xs) (map (λ (x : Entry). x.id) xs) (not_listed xs) q

-- ---- the entries of a map, each once
abbrev pub Holds : List Entry → Ranks → Type 0
Holds xs m = (p : Entry → Bool) → tally p xs ≡ count (λ (e : IdBytes × ℕ). p (ranked_entry e)) m

pub holds : (xs : List Entry) (m : Ranks) → xs ≡ entries_by_rank m → Holds xs m
holds xs m is p = ap (tally p) is ∙ tally-in_order entry_cmp p (map ranked_entry (entries m)) ∙ tally-map p ranked_entry (entries m)

listed : (xs : List Entry) (m : Ranks) → Holds xs m → Rises entry_cmp xs → xs ≡ entries_by_rank m
listed xs m h up = same_risen entry_order xs (entries_by_rank m) up (rises-in_order entry_order (map ranked_entry (entries m)))
    (λ p. h p ∙ sym (tally-in_order entry_cmp p (map ranked_entry (entries m)) ∙ tally-map p ranked_entry (entries m)))

-- how many are found, where one is
not_none : (b : Bool) (n : ℕ) → b ≡ true → cond b 1 0 + n ≡ 0 → ⊥
not_none b n is h = let one : ◌≡◌ {A = ℕ} (cond b 1 0) 1 = ap (λ c. cond c 1 0) is in absurd (omega (arith, one, h))

none_more : (b : Bool) (n : ℕ) → cond b 1 0 + n ≡ 0 → n ≡ 0
none_more b n h = omega (arith, h)

found_one : (xs : List Entry) (q : IdBytes) (r : ℕ) → rank_of xs q ≡ Some r → tally (λ (x : Entry). text_eq x.id q && nat_eq x.rank r) xs ≡ 0 → ⊥
found_one [] q r is none = some_none None r is refl
found_one (x ∷ xs) q r is none =
    elim (text_eq x.id q) as (λ b. text_eq x.id q ≡ b → cond b (Some x.rank) (rank_of xs q) ≡ Some r → ⊥) [
      | true ↦ λ here at.
          let rank : x.rank ≡ r = cc in
          not_none (text_eq x.id q && nat_eq x.rank r) _
          (and_both (text_eq x.id q) (nat_eq x.rank r) here (subst (λ k. nat_eq x.rank k ≡ true) rank (nat_equality.own x.rank))) none
      | false ↦ λ _ at. found_one xs q r at (none_more (text_eq x.id q && nat_eq x.rank r) _ none)
    ] refl is

found_none : (xs : List Entry) (q : IdBytes) → rank_of xs q ≡ None → tally (λ (x : Entry). text_eq x.id q) xs ≡ 0
found_none [] q is = refl
found_none (x ∷ xs) q is =
    elim (text_eq x.id q) as (λ b. text_eq x.id q ≡ b → cond b (Some x.rank) (rank_of xs q) ≡ None
    → cond b 1 0 + tally (λ (x : Entry). text_eq x.id q) xs ≡ 0) [
      | true ↦ λ here at. cc
      | false ↦ λ _ at. ap (λ n. 0 + n) (found_none xs q at)
    ] refl is

module _ (xs : List Entry) (m : Ranks) (h : Holds xs m) where
  there : (q : IdBytes) (r : ℕ) → (tally (λ (x : Entry). text_eq x.id q && nat_eq x.rank r) xs ≡ 0 → ⊥) → get m q ≡ Some r
  there q r some =
      elim (option_eq nat_eq (get m q) (Some r)) as (λ b. option_eq nat_eq (get m q) (Some r) ≡ b → get m q ≡ Some r) [
        | true ↦ λ eq. exact_rank (get m q) eq
        | false ↦ λ differ. absurd
            (some (h (λ x. text_eq x.id q && nat_eq x.rank r) ∙ count_none id_order _ m (λ k v at. not_so (text_eq k q && nat_eq v r) (λ both.
            let id : k ≡ q = text_equality.exact k q (and_first (text_eq k q) (nat_eq v r) both) in
            let rank : v ≡ r = nat_equality.exact v r (and_second (text_eq k q) (nat_eq v r) both) in
            true_false (option_eq nat_eq (get m q) (Some r))
            (ap (λ o. option_eq nat_eq o (Some r)) (subst (λ z. get m z ≡ Some v) id at ∙ ap Some rank) ∙ nat_equality.own r) differ))))
      ] refl
    where
      exact_rank : (o : Option ℕ) → option_eq nat_eq o (Some r) ≡ true → o ≡ Some r
      exact_rank None eq = cc
      exact_rank (Some k) eq = ap Some (nat_equality.exact k r eq)

  some_rank : (q : IdBytes) (r : ℕ) → rank_of xs q ≡ Some r → get m q ≡ Some r
  some_rank q r is = there q r (found_one xs q r is)

  each_of : (ys : List Entry) → ((p : Entry → Bool) → tally p xs ≡ 0 → tally p ys ≡ 0) → AllByRecursion (λ (x : Entry). get m x.id ≡ Some x.rank) ys
  each_of [] within = tt
  each_of (y ∷ ys) within = (
    there y.id y.rank (λ zero.
        not_none (text_eq y.id y.id && nat_eq y.rank y.rank) _
        (and_both (text_eq y.id y.id) (nat_eq y.rank y.rank) (text_equality.own y.id) (nat_equality.own y.rank))
        (within (λ x. text_eq x.id y.id && nat_eq x.rank y.rank) zero)),
    each_of ys (λ p zero. none_more (p y) _ (within p zero)),
  )

  -- each entry has the rank of its element
  pub each_rank : AllByRecursion (λ (x : Entry). get m x.id ≡ Some x.rank) xs
  each_rank = each_of xs (λ p zero. zero)

  no_rank : (q : IdBytes) → rank_of xs q ≡ None → get m q ≡ None
  no_rank q is =
      elim (get m q) as (λ o. get m q ≡ o → o ≡ None) [
        | None ↦ λ _. refl
        | Some v ↦ λ at. absurd (true_false (text_eq q q) (text_equality.own q)
            (none_counted id_order (λ (e : IdBytes × ℕ). text_eq e.0 q) m (sym (h (λ x. text_eq x.id q)) ∙ found_none xs q is) q v at))
      ] refl

  -- what the entries tell is what the map does
  pub rank_is : (q : IdBytes) → rank_of xs q ≡ get m q
  rank_is q =
      elim (rank_of xs q) as (λ o. rank_of xs q ≡ o → o ≡ get m q) [
        | None ↦ λ is. sym (no_rank q is)
        | Some r ↦ λ is. sym (some_rank q r is)
      ] refl

  pub ranks_are : rank_map xs ≡ m
  ranks_are = same id_order (rank_map xs) m (λ q. get-ranks xs q ∙ rank_is q)

  -- entries in order
  pub now_ranked : Rises entry_cmp xs → AreRanked xs × (rank_map xs ≡ m)
  now_ranked up = (listed xs m h up ∙ ap entries_by_rank (sym ranks_are), ranks_are)

-- ---- a write of one element
moved : (a b c d n k : ℕ) → n + a ≡ c + b → k + a ≡ d + b → c ≡ d → n ≡ k
moved a b c d n k h g e = omega (arith, h, g, e)

pub holds_set : (xs ys : List Entry) (m : Ranks) (e : IdBytes) (v : Option ℕ) → Holds xs m
    → ((p : Entry → Bool) → tally p ys + counts (λ (z : IdBytes × ℕ). p (ranked_entry z)) e (get m e) ≡ tally p xs + counts
    (λ (z : IdBytes × ℕ). p (ranked_entry z)) e v)
    → Holds ys (set m e v)
holds_set xs ys m e v h change p =
    moved _ _ _ _ _ _ (change p) (count-set id_order (λ (z : IdBytes × ℕ). p (ranked_entry z)) m e v) (h p)

-- entries that were put in order after a write
pub sorted_set : (xs zs ys : List Entry) (e : IdBytes) (v : Option ℕ) → AreRanked xs → IsPermutation zs ys → IsSorted entry_cmp ys
    → ((p : Entry → Bool) → tally p zs + counts (λ (z : IdBytes × ℕ). p (ranked_entry z)) e (rank_of xs e) ≡ tally p xs + counts
    (λ (z : IdBytes × ℕ). p (ranked_entry z)) e v)
    → AreRanked ys × (rank_map ys ≡ set (rank_map xs) e v)
sorted_set xs zs ys e v ranked moved up change =
    let m = rank_map xs in
    let is : ys ≡ in_order entry_cmp zs = sorted_is entry_order zs ys moved up in
    now_ranked ys (set m e v)
    (holds_set xs ys m e v (holds xs m ranked)
    (λ p. ap (λ n. n + counts (λ (z : IdBytes × ℕ). p (ranked_entry z)) e (get m e)) (tally_permuted p zs ys moved)
    ∙ ap (λ o. tally p zs + counts (λ (z : IdBytes × ℕ). p (ranked_entry z)) e o) (get-ranks xs e) ∙ change p))
    (subst (Rises entry_cmp) (sym is) (rises-in_order entry_order zs))

-- ---- lengths
tally_all : {X : Type 0} (xs : List X) → tally (λ _. true) xs ≡ length xs
tally_all [] = refl
tally_all (x ∷ xs) = let rest = tally_all xs in omega (arith, rest)

pub length_ranked : (m : Ranks) → length (entries_by_rank m) ≡ length (entries m)
length_ranked m =
    sym (tally_all (entries_by_rank m)) ∙ tally-in_order entry_cmp (λ _. true) (map ranked_entry (entries m))
    ∙ tally-map (λ _. true) ranked_entry (entries m) ∙ tally_all (entries m)

-- no entry
pub none_ranked : AreRanked []
none_ranked = listed [] (rank_map [])
    (λ p. sym (count_none id_order _ (rank_map []) (λ q v at. absurd (some_none (get (rank_map []) q) v at (get-ranks [] q))))) tt

-- the list of a map
pub listed_is : (xs : List Entry) (m : Ranks) → xs ≡ entries_by_rank m → AreRanked xs × (rank_map xs ≡ m)
listed_is xs m is = now_ranked xs m (holds xs m is) (subst (Rises entry_cmp) (sym is) (rises-in_order entry_order (map ranked_entry (entries m))))
