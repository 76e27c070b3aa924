-- Writes of a few entries in one list, and entries that are put in one by one.
use Rattle.std.proofs.Common.{◌≡◌, ℕ, ◌+◌, Bool, true, false, cond, List, [], ◌∷◌, ◌++◌, refl, sym, ap, subst, ◌∙◌, map, arith}
use Rattle.std.specs.Prelude.{Option, None, Some, is_some, slice_set, position}
use Rattle.std.specs.List.{remove, AllByRecursion}
use Rattle.std.specs.List.Sorted.{IsPermutation, IsSorted}
use Rattle.std.specs.FinMap.{get, empty, get-empty, entries}
use Rattle.finite_maps.specs.Equal.{text_eq}
use Rattle.finite_maps.specs.Maps.{set, set_all, tally, counts}
use Rattle.finite_maps.proofs.EqualLaws.{text_equality}
use Rattle.finite_maps.proofs.MapLaws.{same, get-set}
use Rattle.finite_maps.proofs.SortLaws.{Rises, rises-in_order}
use Rattle.spread_maps.specs.Writes.{puts}
use Rattle.spread_maps.proofs.CopyLaws.{set_all_more, map_more}
use Rattle.model_state.specs.declared.entry.Entry.{Entry}
use Rattle.model_state.specs.Keys.{IdBytes, id_cmp}
use Rattle.model_state.specs.Listing.{entry_cmp}
use Rattle.model_state.proofs.Orders.{id_order, entry_order}
use Rattle.ranked_lists.specs.Ranks.{Ranks, ranked_entry}
use Rattle.ranked_lists.specs.Ranked.{rank_of, rank_map, AreRanked, entry_with}
use Rattle.ranked_lists.proofs.Held.{get-ranks, holds, holds_set, now_ranked, sorted_set, each_rank, same_id}
use Rattle.ranked_lists.proofs.Places.{tally_more, tally-remove, tally-slice_set, rises-remove, place_some}

its_entry : (x : Entry) (e : IdBytes) → x.id ≡ e → entry_with e x.rank ≡ x
its_entry x e id = λ i. record { rank = x.rank; id = sym id i }

rises : (xs : List Entry) → AreRanked xs → Rises entry_cmp xs
rises xs ranked = subst (Rises entry_cmp) (sym ranked) (rises-in_order entry_order (map ranked_entry (entries (rank_map xs))))

went : (a b c : ℕ) → a + c ≡ b → a + c ≡ b + 0
went a b c h = omega (arith, h)

module _ (xs : List Entry) (e : IdBytes) (ranked : AreRanked xs) where
  abbrev After : List Entry → Option ℕ → Type 0
  After ys v = AreRanked ys × (rank_map ys ≡ set (rank_map xs) e v)

  module _ (i : ℕ) (is : position (λ (x : Entry). text_eq x.id e) xs ≡ Some i) where
    abbrev old : Entry
    old = (place_some xs e i is).0

    old_is : entry_with e old.rank ≡ old
    old_is = its_entry old e (place_some xs e i is).2

    had : rank_of xs e ≡ Some old.rank
    had = (place_some xs e i is).3

    -- an element taken out
    pub taken_out : (ys : List Entry) → ys ≡ remove xs i → After ys None
    taken_out ys gone =
        now_ranked ys (set (rank_map xs) e None)
        (holds_set xs ys (rank_map xs) e None (holds xs (rank_map xs) ranked) (λ p.
        ap (λ o. tally p ys + counts (λ (z : IdBytes × ℕ). p (ranked_entry z)) e o) (get-ranks xs e ∙ had)
        ∙ ap (λ x. tally p ys + cond (p x) 1 0) old_is
        ∙ ap (λ l. tally p l + cond (p old) 1 0) gone
        ∙ went _ _ _ (tally-remove p xs i old (place_some xs e i is).1)))
        (subst (Rises entry_cmp) (sym gone) (rises-remove entry_cmp xs i (rises xs ranked)))

    -- an element with another rank, and the entries put in order
    pub moved_in : (ys : List Entry) (r : ℕ) → IsPermutation (slice_set xs i (entry_with e r)) ys → IsSorted entry_cmp ys → After ys (Some r)
    moved_in ys r moved up =
        sorted_set xs (slice_set xs i (entry_with e r)) ys e (Some r) ranked moved up (λ p.
        ap (λ o. tally p (slice_set xs i (entry_with e r)) + counts (λ (z : IdBytes × ℕ). p (ranked_entry z)) e o) had
        ∙ ap (λ x. tally p (slice_set xs i (entry_with e r)) + cond (p x) 1 0) old_is
        ∙ tally-slice_set p xs i old (entry_with e r) (place_some xs e i is).1)

  -- a new element, and the entries put in order
  pub put_in_order : (ys : List Entry) (r : ℕ) → rank_of xs e ≡ None → IsPermutation (xs ++ entry_with e r ∷ []) ys → IsSorted entry_cmp ys → After ys (Some r)
  put_in_order ys r none moved up =
      sorted_set xs (xs ++ entry_with e r ∷ []) ys e (Some r) ranked moved up (λ p.
      ap (λ o. tally p (xs ++ entry_with e r ∷ []) + counts (λ (z : IdBytes × ℕ). p (ranked_entry z)) e o) none
      ∙ added _ _ (tally_more p xs (entry_with e r)))
    where
      added : (a b : ℕ) → a ≡ b → a + 0 ≡ b
      added a b h = omega (arith, h)

-- ---- entries put in one by one
abbrev pair_of : Entry → IdBytes × ℕ
pair_of x = (x.id, x.rank)

abbrev pub put_all : List Entry → Ranks
put_all xs = set_all empty (puts (map pair_of xs))

pub put_all_more : (xs : List Entry) (x : Entry) → put_all (xs ++ x ∷ []) ≡ set (put_all xs) x.id (Some x.rank)
put_all_more xs x = ap (λ es. set_all empty (puts es)) (map_more pair_of xs x) ∙ set_all_more empty (map pair_of xs) (pair_of x)

get_put : (m n : Ranks) (q : IdBytes) (xs : List Entry) → AllByRecursion (λ (x : Entry). get m x.id ≡ Some x.rank) xs
    → get (set_all n (puts (map pair_of xs))) q ≡ cond (is_some (rank_of xs q)) (get m q) (get n q)
get_put m n q [] all = refl
get_put m n q (x ∷ xs) all =
    get_put m (set n x.id (Some x.rank)) q xs all.1
    ∙ ap (cond (is_some (rank_of xs q)) (get m q)) (get-set id_order n x.id (Some x.rank) q ∙ ap (λ b. cond b (Some x.rank) (get n q)) (sym (same_id q x.id)))
    ∙ elim (text_eq x.id q) as (λ b. text_eq x.id q ≡ b
    → cond (is_some (rank_of xs q)) (get m q) (cond b (Some x.rank) (get n q)) ≡ cond (is_some (cond b (Some x.rank) (rank_of xs q))) (get m q)
    (get n q)) [
      | true ↦ λ here. either (is_some (rank_of xs q)) (get m q) (Some x.rank)
          (sym (subst (λ z. get m z ≡ Some x.rank) (text_equality.exact x.id q here) all.0))
      | false ↦ λ _. refl
    ] refl
  where
    either : (b : Bool) (o w : Option ℕ) → w ≡ o → cond b o w ≡ o
    either true o w h = refl
    either false o w h = h

-- all entries, put into the empty map
pub put_all_is : (xs : List Entry) → AreRanked xs → put_all xs ≡ rank_map xs
put_all_is xs ranked = same id_order (put_all xs) (rank_map xs) (λ q.
    get_put (rank_map xs) empty q xs (each_rank xs (rank_map xs) (holds xs (rank_map xs) ranked))
    ∙ ap (cond (is_some (rank_of xs q)) (get (rank_map xs) q)) (get-empty id_cmp q)
    ∙ whole (rank_of xs q) (get (rank_map xs) q) (get-ranks xs q))
  where
    whole : (r o : Option ℕ) → o ≡ r → cond (is_some r) o None ≡ o
    whole None o h = sym h
    whole (Some k) o h = refl
