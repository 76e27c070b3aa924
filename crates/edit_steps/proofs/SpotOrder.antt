-- An entry with the rank of a spot stands at its index.
use Rattle.std.proofs.lemmas.Bool.Decides.{nat_tests}
use Rattle.std.proofs.Common.{◌≡◌, ℕ, ◌+◌, ◌*◌, ◌-◌, ◌/◌, ◌<◌, ◌≤◌, suc, zero, Bool, true, false, cond, List, [], ◌∷◌, length, refl, sym, ap, subst}
use Rattle.std.proofs.Common.{◌∙◌, arith, nat_eq, nat_lt}
use Rattle.std.specs.Prelude.{Option, None, Some, unwrap_or, slice_get}
use Rattle.std.specs.List.{AllByRecursion, insert}
use Rattle.std.specs.declared.cmp.Ordering.{Ordering}
use Rattle.std.specs.Ordering.{is_lt, nat_cmp}
use Rattle.finite_maps.specs.Sorts.{put_in, in_order}
use Rattle.finite_maps.proofs.SortLaws.{Rises, rises-in_order}
use Rattle.model_state.specs.declared.entry.Entry.{Entry}
use Rattle.model_state.specs.Keys.{IdBytes, id_cmp}
use Rattle.model_state.specs.Listing.{entry_cmp, last_rank}
use Rattle.model_state.specs.Ranks.{rank_between, most_entries, rank_gap}
use Rattle.model_state.proofs.EntryLaws.{first_greater, first_less, nat_greater, nat_less, ranks_above}
use Rattle.model_state.proofs.Orders.{entry_order}
use Rattle.edit_steps.specs.Spot.{ranks_of, rank_for, evened, spot_by, spot}
use Rattle.edit_steps.specs.Standing.{ids_of, reranked, SpotStands}

-- ---- a list that rises is in order
module _ {X : Type 0} (cmp : X → X → Ordering) where
  put_first : (x : X) (xs : List X) → AllByRecursion (λ y. is_lt (cmp y x) ≡ false) xs → put_in cmp x xs ≡ x ∷ xs
  put_first x [] all = refl
  put_first x (y ∷ ys) all = ap (λ b. cond {A = List X} b (y ∷ put_in cmp x ys) (x ∷ y ∷ ys)) all.0

  pub risen_stays : (xs : List X) → Rises cmp xs → in_order cmp xs ≡ xs
  risen_stays [] h = refl
  risen_stays (x ∷ xs) h = ap (put_in cmp x) (risen_stays xs h.1) ∙ put_first x xs h.0

-- ---- the entry fits in at an index: those before are less, and the next is not
abbrev pub Fits : Entry → ℕ → List Entry → Type 0
Fits new zero [] = Unit {0}
Fits new zero (y ∷ ys) = is_lt (entry_cmp y new) ≡ false
Fits new (suc k) [] = ⊥
Fits new (suc k) (y ∷ ys) = (is_lt (entry_cmp y new) ≡ true) × Fits new k ys

put_at : (new : Entry) (k : ℕ) (ys : List Entry) → Fits new k ys → put_in entry_cmp new ys ≡ insert ys k new
put_at new zero [] fits = refl
put_at new zero (y ∷ ys) fits = ap (λ b. cond {A = List Entry} b (y ∷ put_in entry_cmp new ys) (new ∷ y ∷ ys)) fits
put_at new (suc k) [] fits = absurd fits
put_at new (suc k) (y ∷ ys) fits =
    ap (λ b. cond {A = List Entry} b (y ∷ put_in entry_cmp new ys) (new ∷ y ∷ ys)) fits.0 ∙ ap (λ zs. y ∷ zs) (put_at new k ys fits.1)

-- ---- the rank between two
-- the rank before an index, lo before the first
abbrev before : ℕ → List ℕ → ℕ → ℕ
before lo rs zero = lo
before lo [] (suc k) = lo
before lo (r ∷ rs) (suc k) = before r rs k

before_is : (lo : ℕ) (rs : List ℕ) (k : ℕ) → suc k ≤ length rs → unwrap_or (slice_get rs k) 0 ≡ before lo rs (suc k)
before_is lo [] k h = absurd (omega arith)
before_is lo (r ∷ rs) zero h = refl
before_is lo (r ∷ rs) (suc k) h = before_is r rs k (omega arith)

between_is : (rs : List ℕ) (k : ℕ) → k ≤ length rs → rank_for rs k ≡ rank_between (before 0 rs k) (slice_get rs k)
between_is rs zero h = refl
between_is rs (suc k) h =
    ap (λ n. rank_between n (slice_get rs (suc k)))
    (ap (λ b. cond b 0 (unwrap_or (slice_get rs (suc k - 1)) 0)) (not_zero k) ∙ ap (λ j. unwrap_or (slice_get rs j) 0) (one_less k)
    ∙ before_is 0 rs k h)
  where
    not_zero : (k : ℕ) → nat_eq (suc k) 0 ≡ false
    not_zero k = grind (arith, nat_tests)

    one_less : (k : ℕ) → suc k - 1 ≡ k
    one_less k = omega arith

same_number : (x y : ℕ) → Some x ≡ Some y → x ≡ y
same_number x y e = cc

above_last : (lo r : ℕ) (b : Bool) → cond b (Some (lo + rank_gap)) None ≡ Some r → lo < r
above_last lo r true h = let e : lo + rank_gap ≡ r = same_number _ _ h in omega arith
above_last lo r false h = cc

within : (lo hi r : ℕ) → rank_between lo (Some hi) ≡ Some r → (lo < r) × (r < hi)
within lo hi r h =
    elim (nat_lt (hi - lo) 2) as (λ b. nat_lt (hi - lo) 2 ≡ b → cond b None (Some (lo + (hi - lo) / 2)) ≡ Some r → (lo < r) × (r < hi)) [
      | true ↦ λ _ none. cc
      | false ↦ λ wide is. halved (same_number _ _ is) (two (hi - lo) wide)
    ] refl h
  where
    two : (n : ℕ) → nat_lt n 2 ≡ false → 2 ≤ n
    two n h = grind (arith, nat_tests)

    halved : lo + (hi - lo) / 2 ≡ r → 2 ≤ hi - lo → (lo < r) × (r < hi)
    halved is wide = (omega arith, omega arith)

-- where there is a rank between those of a list that rises, it fits in there
fits_between : (e : IdBytes) (r lo : ℕ) (xs : List Entry) (k : ℕ) → Rises entry_cmp xs → AllByRecursion (λ (x : Entry). lo ≤ x.rank) xs
    → k ≤ length xs → rank_between (before lo (ranks_of xs) k) (slice_get (ranks_of xs) k) ≡ Some r
    → (lo < r) × Fits (record { rank = r; id = e }) k xs
fits_between e r lo [] zero up all le h = (above_last lo r _ h, tt)
fits_between e r lo [] (suc k) up all le h = absurd (omega arith)
fits_between e r lo (x ∷ xs) zero up all le h =
    let w = within lo x.rank r h in
    (w.0, first_greater (nat_cmp x.rank r) (id_cmp x.id e) (nat_greater x.rank r w.1))
fits_between e r lo (x ∷ xs) (suc k) up all le h =
    let rest = fits_between e r x.rank xs k up.1 (ranks_above x xs up.0) (omega arith) h in
    (further lo x.rank r all.0 rest.0, (first_less (nat_cmp x.rank r) (id_cmp x.id e) (nat_less x.rank r rest.0), rest.1))
  where
    further : (a b c : ℕ) → a ≤ b → b < c → a < c
    further a b c h g = omega arith

all_least : (xs : List Entry) → AllByRecursion (λ (x : Entry). 0 ≤ x.rank) xs
all_least [] = tt
all_least (x ∷ xs) = (omega arith, all_least xs)

fits_for : (e : IdBytes) (r : ℕ) (xs : List Entry) (k : ℕ) → Rises entry_cmp xs → k ≤ length xs → rank_for (ranks_of xs) k ≡ Some r
    → Fits (record { rank = r; id = e }) k xs
fits_for e r xs k up le h =
    (fits_between e r 0 xs k up (all_least xs) le (sym (between_is (ranks_of xs) k (subst (λ n. k ≤ n) (sym (length_ranks xs)) le)) ∙ h)).1
  where
    length_ranks : (xs : List Entry) → length (ranks_of xs) ≡ length xs
    length_ranks [] = refl
    length_ranks (x ∷ xs) = ap suc (length_ranks xs)

-- ---- the end of a list
end_before : (lo : ℕ) (xs : List Entry) → before lo (ranks_of xs) (length xs) ≡ unwrap_or (last_rank xs) lo
end_before lo [] = refl
end_before lo (x ∷ xs) = end_before x.rank xs

nothing_behind : (xs : List Entry) → slice_get (ranks_of xs) (length xs) ≡ None
nothing_behind [] = refl
nothing_behind (x ∷ xs) = nothing_behind xs

-- the rank after the last entry is known by that of the last
pub end_rank : (xs : List Entry) → rank_for (ranks_of xs) (length xs) ≡ rank_between (unwrap_or (last_rank xs) 0) None
end_rank xs =
    between_is (ranks_of xs) (length xs) (subst (λ n. length xs ≤ n) (sym (length_ranks xs)) (omega arith))
    ∙ (λ i. rank_between (end_before 0 xs i) (nothing_behind xs i))
  where
    length_ranks : (xs : List Entry) → length (ranks_of xs) ≡ length xs
    length_ranks [] = refl
    length_ranks (x ∷ xs) = ap suc (length_ranks xs)

-- ---- the ranks of the others
pub ids-reranked : (xs : List Entry) (rs : List ℕ) → ids_of (reranked xs rs) ≡ ids_of xs
ids-reranked [] rs = refl
ids-reranked (x ∷ xs) [] = refl
ids-reranked (x ∷ xs) (r ∷ rs) = ap (λ l. x.id ∷ l) (ids-reranked xs rs)

pub reranked_same : (xs : List Entry) → reranked xs (ranks_of xs) ≡ xs
reranked_same [] = refl
reranked_same (x ∷ xs) = ap (λ l. x ∷ l) (reranked_same xs)

length-reranked : (xs : List Entry) (rs : List ℕ) → length (reranked xs rs) ≡ length xs
length-reranked [] rs = refl
length-reranked (x ∷ xs) [] = refl
length-reranked (x ∷ xs) (r ∷ rs) = ap suc (length-reranked xs rs)

ranks_evened : (n : ℕ) (xs : List Entry) → ranks_of (reranked xs (evened n xs)) ≡ evened n xs
ranks_evened n [] = refl
ranks_evened n (x ∷ xs) = ap (λ l. (n * rank_gap) ∷ l) (ranks_evened (n + 1) xs)

above_evened : (x : Entry) (n : ℕ) (xs : List Entry) → x.rank < n * rank_gap → AllByRecursion (λ y. is_lt (entry_cmp y x) ≡ false) (reranked xs (evened n xs))
above_evened x n [] h = tt
above_evened x n (y ∷ ys) h =
    (first_greater (nat_cmp (n * rank_gap) x.rank) (id_cmp y.id x.id) (nat_greater (n * rank_gap) x.rank h), above_evened x (n + 1) ys (omega arith))

rises_evened : (n : ℕ) (xs : List Entry) → Rises entry_cmp (reranked xs (evened n xs))
rises_evened n [] = tt
rises_evened n (x ∷ xs) = (above_evened (record { rank = n * rank_gap; id = x.id }) (n + 1) xs (omega arith), rises_evened (n + 1) xs)

-- ---- the spot
-- the others rise with their ranks, and the new entry fits in
pub record Opens (new : Entry) (k : ℕ) (ys : List Entry) : Type 0 where
  pub up : Rises entry_cmp ys
  pub fits : Fits new k ys

opens_by : (xs : List Entry) (k r : ℕ) (e : IdBytes) → Rises entry_cmp xs → k ≤ length xs → (o : Option ℕ) → rank_for (ranks_of xs) k ≡ o
    → (spot_by o xs k).rank ≡ Some r
    → Opens (record { rank = r; id = e }) k (reranked xs (spot_by o xs k).ranks)
opens_by xs k r e up le (Some q) is h =
    subst (λ ys. Opens (record { rank = r; id = e }) k ys) (sym (reranked_same xs)) (record { up = up; fits = fits_for e r xs k up le (is ∙ h) })
opens_by xs k r e up le None is h =
    let ys = reranked xs (evened 1 xs) in
    record {
      up = rises_evened 1 xs;
      fits = fits_for e r ys k (rises_evened 1 xs) (subst (λ n. k ≤ n) (sym (length-reranked xs (evened 1 xs))) le)
          (ap (λ rs. rank_for rs k) (ranks_evened 1 xs) ∙ there (nat_lt (length xs) most_entries) h);
    }
  where
    there : (b : Bool) → cond b (rank_for (evened 1 xs) k) None ≡ Some r → rank_for (evened 1 xs) k ≡ Some r
    there true h = h
    there false h = cc

pub opens : (xs : List Entry) (k r : ℕ) (e : IdBytes) → Rises entry_cmp xs → k ≤ length xs → (spot xs k).rank ≡ Some r
    → Opens (record { rank = r; id = e }) k (reranked xs (spot xs k).ranks)
opens xs k r e up le h = opens_by xs k r e up le (rank_for (ranks_of xs) k) refl h

ids-insert : (ys : List Entry) (k : ℕ) (new : Entry) → ids_of (insert ys k new) ≡ insert (ids_of ys) k new.id
ids-insert [] zero new = refl
ids-insert [] (suc k) new = refl
ids-insert (y ∷ ys) zero new = refl
ids-insert (y ∷ ys) (suc k) new = ap (λ l. y.id ∷ l) (ids-insert ys k new)

pub spot_opens : (xs : List Entry) (k r : ℕ) (e : IdBytes) → Rises entry_cmp xs → k ≤ length xs → (spot xs k).rank ≡ Some r
    → ids_of (in_order entry_cmp (record { rank = r; id = e } ∷ reranked xs (spot xs k).ranks)) ≡ insert (ids_of xs) k e
spot_opens xs k r e up le h =
    let new : Entry = record { rank = r; id = e } in
    let ys = reranked xs (spot xs k).ranks in
    let o = opens xs k r e up le h in
    ap (λ zs. ids_of (put_in entry_cmp new zs)) (risen_stays entry_cmp ys o.up)
    ∙ ap ids_of (put_at new k ys o.fits)
    ∙ ids-insert ys k new
    ∙ ap (λ l. insert l k e) (ids-reranked xs (spot xs k).ranks)

pub spot_stands : SpotStands
spot_stands xs k r e sorted le h = spot_opens xs k r e (subst (Rises entry_cmp) sorted (rises-in_order entry_order xs)) le h
