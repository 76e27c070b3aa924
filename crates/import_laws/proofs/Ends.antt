-- The end of the root: its rank, and the entries with their ranks.
use Rattle.std.proofs.lemmas.Bool.Decides.{nat_tests}
use Rattle.std.proofs.Common.{◌≡◌, ℕ, ◌+◌, ◌*◌, ◌<◌, ◌≤◌, Bool, true, false, cond, List, [], ◌∷◌, ◌++◌, refl, sym, ap, ◌∙◌, arith, nat_eq, nat_lt}
use Rattle.std.proofs.Common.{length, rules}
use Rattle.std.specs.Prelude.{Option, None, Some, is_some, unwrap_or, ◌^◌}
use Rattle.model_state.specs.declared.entry.Entry.{Entry}
use Rattle.model_state.specs.declared.step.Step.{Step}
use Rattle.model_state.specs.declared.step.Step.TheVariants.{New, RerankPlace}
use Rattle.model_state.specs.declared.step.Place.TheVariants.{Root}
use Rattle.model_state.specs.Keys.{IdBytes}
use Rattle.model_state.specs.Ranks.{rank_between, most_entries, rank_gap}
use Rattle.edit_steps.specs.Places.{rerank_places}
use Rattle.edit_steps.specs.Spot.{Spot, rank_for, ranks_of, evened, end_spot, spot_by}
use Rattle.edit_steps.proofs.SpotLaws.{even_for}
use Rattle.import_laws.specs.Roots.{has_end, root_after, root_made, with_ranks}

pub same_entries : (xs : List Entry) → with_ranks xs (ranks_of xs) ≡ xs
same_entries [] = refl
same_entries (x ∷ xs) = ap (λ ys. x ∷ ys) (same_entries xs)

itself : (n : ℕ) → nat_eq n n ≡ true
itself n = search rules

pub no_reranks : (xs : List Entry) → rerank_places xs (ranks_of xs) ≡ []
no_reranks [] = refl
no_reranks (x ∷ xs) = ap (λ (b : Bool). cond b (rerank_places xs (ranks_of xs)) (RerankPlace x.id x.rank x.rank ∷ rerank_places xs (ranks_of xs)))
    (itself x.rank) ∙ no_reranks xs

-- where there is a rank after the last, the others keep theirs
pub kept_end : (xs : List Entry) (r : ℕ) → rank_for (ranks_of xs) (length xs) ≡ Some r → end_spot xs ≡ record { ranks = ranks_of xs; rank = Some r }
kept_end xs r is = ap (λ o. spot_by o xs (length xs)) is

even_rank : (n : ℕ) → n < most_entries → rank_between (n * rank_gap) (cond (nat_lt n n) (Some ((n + 1) * rank_gap)) None) ≡ Some ((n + 1) * rank_gap)
even_rank n small = ap (λ (b : Bool). rank_between (n * rank_gap) (cond b (Some ((n + 1) * rank_gap)) None)) (not_below n)
    ∙ ap (λ (b : Bool). cond b (Some (n * rank_gap + rank_gap)) None) (fits n small) ∙ ap (λ r. Some r) (next n)
  where
    not_below : (n : ℕ) → nat_lt n n ≡ false
    not_below n = grind (arith, nat_tests)

    fits : (n : ℕ) → n < most_entries → nat_lt (n * rank_gap + rank_gap) (2 ^ 64) ≡ true
    fits n small = grind (arith, nat_tests)

    next : (n : ℕ) → n * rank_gap + rank_gap ≡ (n + 1) * rank_gap
    next n = omega arith

-- so there is after fewer than 2^32 - 1 that are spread evenly
pub even_end : (xs : List Entry) → ranks_of xs ≡ evened 1 xs → length xs < most_entries → rank_for (ranks_of xs) (length xs) ≡ Some ((length xs + 1) * rank_gap)
even_end xs even small = ap (λ rs. rank_for rs (length xs)) even ∙ even_for xs (length xs) (itself_le (length xs)) ∙ even_rank (length xs) small
  where
    itself_le : (n : ℕ) → n ≤ n
    itself_le n = omega arith

-- else they are spread evenly, and the new one with them
pub new_end : (xs : List Entry) → rank_for (ranks_of xs) (length xs) ≡ None → length xs < most_entries
    → end_spot xs ≡ record { ranks = evened 1 xs; rank = Some ((length xs + 1) * rank_gap) }
new_end xs none small =
    ap (λ o. spot_by o xs (length xs)) none
    ∙ ap (λ (r : Option ℕ). let s : Spot = record { ranks = evened 1 xs; rank = r } in s)
    (ap (λ (b : Bool). cond b (rank_for (evened 1 xs) (length xs)) None) (is_small (length xs) small)
    ∙ even_for xs (length xs) (itself_le (length xs)) ∙ even_rank (length xs) small)
  where
    is_small : (n : ℕ) → n < most_entries → nat_lt n most_entries ≡ true
    is_small n h = grind (arith, nat_tests)

    itself_le : (n : ℕ) → n ≤ n
    itself_le n = omega arith

-- too many to be renumbered
pub no_end : (xs : List Entry) → rank_for (ranks_of xs) (length xs) ≡ None → most_entries ≤ length xs → is_some (end_spot xs).rank ≡ false
no_end xs none many =
    ap (λ o. is_some (spot_by o xs (length xs)).rank) none
    ∙ ap (λ (b : Bool). is_some (cond b (rank_for (evened 1 xs) (length xs)) None)) (not_small (length xs) many)
  where
    not_small : (n : ℕ) → most_entries ≤ n → nat_lt n most_entries ≡ false
    not_small n h = grind (arith, nat_tests)

-- ---- what is put after the last
pub after_kept : (xs : List Entry) (e : IdBytes) (r : ℕ) → rank_for (ranks_of xs) (length xs) ≡ Some r
    → xs ++ record { rank = r; id = e } ∷ [] ≡ root_after xs e
after_kept xs e r is =
    sym (ap (λ (s : Spot). with_ranks xs s.ranks ++ record { rank = unwrap_or s.rank 0; id = e } ∷ []) (kept_end xs r is)
    ∙ ap (λ (ys : List Entry). ys ++ record { rank = r; id = e } ∷ []) (same_entries xs))

pub made_kept : (xs : List Entry) (e : IdBytes) (c r : ℕ) → rank_for (ranks_of xs) (length xs) ≡ Some r → New e c Root r ∷ [] ≡ root_made xs e c
made_kept xs e c r is =
    sym (ap (λ (s : Spot). rerank_places xs s.ranks ++ New e c Root (unwrap_or s.rank 0) ∷ []) (kept_end xs r is)
    ∙ ap (λ (ss : List Step). ss ++ New e c Root r ∷ []) (no_reranks xs))

pub after_new : (xs : List Entry) (e : IdBytes) → rank_for (ranks_of xs) (length xs) ≡ None → length xs < most_entries
    → with_ranks xs (evened 1 xs) ++ record { rank = (length xs + 1) * rank_gap; id = e } ∷ [] ≡ root_after xs e
after_new xs e none small = sym (ap (λ (s : Spot). with_ranks xs s.ranks ++ record { rank = unwrap_or s.rank 0; id = e } ∷ []) (new_end xs none small))

pub made_new : (xs : List Entry) (e : IdBytes) (c : ℕ) → rank_for (ranks_of xs) (length xs) ≡ None → length xs < most_entries
    → rerank_places xs (evened 1 xs) ++ New e c Root ((length xs + 1) * rank_gap) ∷ [] ≡ root_made xs e c
made_new xs e c none small = sym (ap (λ (s : Spot). rerank_places xs s.ranks ++ New e c Root (unwrap_or s.rank 0) ∷ []) (new_end xs none small))

pub room_new : (xs : List Entry) → rank_for (ranks_of xs) (length xs) ≡ None → length xs < most_entries → has_end xs ≡ true
room_new xs none small = ap (λ (s : Spot). is_some s.rank) (new_end xs none small)
