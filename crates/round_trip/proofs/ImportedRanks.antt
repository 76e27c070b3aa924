-- The ranks that an import leaves: those of a new list inside the document's elements, and rising ones at the root.
use Rattle.std.proofs.Common.{◌≡◌, ◌∙◌, ℕ, zero, suc, ◌+◌, ◌*◌, ◌<◌, ◌≤◌, Bool, true, false, cond, List, [], ◌∷◌, ◌++◌, drop, length, map, take, refl, sym}
use Rattle.std.proofs.Common.{ap, subst, arith, nat_lt, append_assoc, append-nil}
use Rattle.std.proofs.lemmas.Bool.Decides.{nat_tests}
use Rattle.std.specs.Prelude.{◌^◌, ◌-◌, Option, None, Some, Result, Ok, Err, is_some, nat_eq, slice_get, unwrap_or, if◌then◌else◌}
use Rattle.std.specs.List.{AllByRecursion, list_any}
use Rattle.std.specs.Cmp.{nat_cmp_is}
use Rattle.std.specs.Ordering.{is_lt, ordering_then}
use Rattle.std.specs.declared.cmp.Ordering.TheVariants.{Greater, Less}
use Rattle.std.specs.FinMap.{get}
use Rattle.finite_maps.specs.Equal.{text_eq}
use Rattle.finite_maps.specs.Maps.{set}
use Rattle.finite_maps.proofs.Cases.{not_so, or_first, or_second, true_false}
use Rattle.finite_maps.proofs.EqualLaws.{apart, text_equality}
use Rattle.finite_maps.proofs.MapLaws.{get-set_other, get-set_same}
use Rattle.finite_maps.proofs.SortLaws.{Rises}
use Rattle.model_state.specs.declared.entry.Entry.{Entry}
use Rattle.model_state.specs.declared.step.Place.{Place}
use Rattle.model_state.specs.declared.step.Place.TheVariants.{Root, Inside}
use Rattle.model_state.specs.declared.step.Step.{Step}
use Rattle.model_state.specs.Keys.{IdBytes, id_cmp}
use Rattle.model_state.specs.Listing.{entry_cmp, rank_at}
use Rattle.model_state.specs.Ranks.{rank_between, most_entries, rank_gap}
use Rattle.model_state.specs.State.{place_eq}
use Rattle.model_state.proofs.Orders.{id_order}
use Rattle.model_laws.proofs.Inserts.{or_none}
use Rattle.edit_steps.specs.declared.fault.EditFault.{EditFault}
use Rattle.edit_steps.specs.declared.fault.EditFault.TheVariants.{Bound}
use Rattle.edit_steps.specs.Places.{Ranks, ranked_places}
use Rattle.edit_steps.specs.Spot.{Spot, end_spot, evened, rank_for, ranks_of, spot_by}
use Rattle.edit_steps.proofs.Lists.{Apart}
use Rattle.model_documents.specs.declared.doc.DocRow.{DocRow}
use Rattle.model_documents.specs.Fits.{standing}
use Rattle.model_texts.specs.Tree.{entry_ids}
use Rattle.import_laws.specs.After.{ranks_after, ranks_from}
use Rattle.import_laws.specs.Laws.{ids_differ}
use Rattle.import_laws.specs.Names.{name_at}
use Rattle.import_laws.specs.News.{element_made, has_room, news_from, place_of, rank_of, roots_after}
use Rattle.import_laws.specs.Roots.{root_after, with_ranks}
use Rattle.import_laws.proofs.Ends.{kept_end, new_end, no_end, same_entries}
use Rattle.import_laws.proofs.Indexed.{drop_next}
use Rattle.round_trip.specs.Describes.{standing_in}
use Rattle.round_trip.proofs.ImportedMaps.{Away, away_later, away_next, first_is, is_later, itself, keys_apart, named_here, next_is, other_name, same_row}
use Rattle.round_trip.proofs.ListsInOrder.{entry_at}

-- ---- none of the entries has the id
abbrev pub Absent : IdBytes → List Entry → Type 0
Absent e xs = list_any (λ (y : Entry). text_eq e y.id) xs ≡ false

differ_is : (e x : IdBytes) → text_eq e x ≡ false → e ≡ x → ⊥
differ_is e x differ same = true_false (text_eq e x) (ap (text_eq e) (sym same) ∙ text_equality.own e) differ

text_apart : (e x : IdBytes) → (e ≡ x → ⊥) → text_eq e x ≡ false
text_apart e x other = not_so (text_eq e x) (λ same. other (text_equality.exact e x same))

absent_ranked : (e : IdBytes) (xs : List Entry) (rs : List ℕ) → Absent e xs → Absent e (with_ranks xs rs)
absent_ranked e [] rs none = refl
absent_ranked e (x ∷ xs) [] none = refl
absent_ranked e (x ∷ xs) (r ∷ rs) none =
    or_none (text_eq e x.id) _ (or_first (text_eq e x.id) _ none) (absent_ranked e xs rs (or_second (text_eq e x.id) _ none))

absent_last : (e : IdBytes) (xs : List Entry) (y : Entry) → Absent e xs → text_eq e y.id ≡ false → Absent e (xs ++ (y ∷ []))
absent_last e [] y none other = or_none (text_eq e y.id) false other refl
absent_last e (x ∷ xs) y none other =
    or_none (text_eq e x.id) _ (or_first (text_eq e x.id) _ none) (absent_last e xs y (or_second (text_eq e x.id) _ none) other)

absent_after : (e : IdBytes) (xs : List Entry) (p : Place) (x : IdBytes) → Absent e xs → (e ≡ x → ⊥) → Absent e (roots_after xs p x)
absent_after e xs Root x none other =
    let s = end_spot xs in
    absent_last e (with_ranks xs s.ranks) (record { rank = unwrap_or s.rank 0; id = x }) (absent_ranked e xs s.ranks none) (text_apart e x other)
absent_after e xs (Inside a f) x none other = none

-- ---- the ranks of what does not stand at the root
ranked_other : (e : IdBytes) (xs : List Entry) (rs : List ℕ) (prank : Ranks) → Absent e xs → get (ranked_places xs rs prank) e ≡ get prank e
ranked_other e [] rs prank none = refl
ranked_other e (x ∷ xs) [] prank none = refl
ranked_other e (x ∷ xs) (r ∷ rs) prank none =
    ranked_other e xs rs (set prank x.id (Some r)) (or_second (text_eq e x.id) _ none)
    ∙ get-set_other id_order prank x.id (Some r) e (keys_apart id_order e x.id (differ_is e x.id (or_first (text_eq e x.id) _ none)))

after_other : (e : IdBytes) (xs : List Entry) (p : Place) (x : IdBytes) (k : ℕ) (prank : Ranks) → Absent e xs → (e ≡ x → ⊥)
    → get (ranks_after xs p x k prank) e ≡ get prank e
after_other e xs Root x k prank none other =
    let s = end_spot xs in
    get-set_other id_order (ranked_places xs s.ranks prank) x s.rank e (keys_apart id_order e x other) ∙ ranked_other e xs s.ranks prank none
after_other e xs (Inside a f) x k prank none other = get-set_other id_order prank x (Some (rank_of k)) e (keys_apart id_order e x other)

-- ---- entries whose ranks rise
later_entry : (x y : Entry) → x.rank < y.rank → is_lt (entry_cmp y x) ≡ false
later_entry x y less = ap (λ o. is_lt (ordering_then o (id_cmp y.id x.id))) (sym (nat_cmp_is y.rank x.rank Greater less))

rank_up : (x y : Entry) → is_lt (entry_cmp y x) ≡ false → x.rank ≤ y.rank
rank_up x y up =
    elim (nat_lt y.rank x.rank) as (λ b. nat_lt y.rank x.rank ≡ b → x.rank ≤ y.rank) [
      | true ↦ λ less. absurd
          (true_false (is_lt (entry_cmp y x))
          (ap (λ o. is_lt (ordering_then o (id_cmp y.id x.id))) (sym (nat_cmp_is y.rank x.rank Less (below y.rank x.rank less)))) up)
      | false ↦ λ more. above y.rank x.rank more
    ] refl
  where
    below : (a b : ℕ) → nat_lt a b ≡ true → a < b
    below a b h = grind (arith, nat_tests)

    above : (a b : ℕ) → nat_lt a b ≡ false → b ≤ a
    above a b h = grind (arith, nat_tests)

-- each is at most the last
up_to_last : (xs : List Entry) → Rises entry_cmp xs → (j v : ℕ) → slice_get (ranks_of xs) j ≡ Some v → suc j ≡ length xs
    → AllByRecursion (λ (x : Entry). x.rank ≤ v) xs
up_to_last [] up j v is at = tt
up_to_last (x ∷ []) up zero v is at = (same x.rank v is, tt)
  where
    same : (a b : ℕ) → ◌≡◌ {A = Option ℕ} (Some a) (Some b) → a ≤ b
    same a b h = let equal : a ≡ b = cc in omega (arith, equal)
up_to_last (x ∷ []) up (suc j) v is at = cc
up_to_last (x ∷ y ∷ ys) up zero v is at = absurd (omega (arith, at))
up_to_last (x ∷ y ∷ ys) up (suc j) v is at =
    let rest = up_to_last (y ∷ ys) up.1 j v is (omega (arith, at)) in
    let first = rank_up x y up.0.0 in
    (through x.rank y.rank v first rest.0, rest)
  where
    through : (a b c : ℕ) → a ≤ b → b ≤ c → a ≤ c
    through a b c h g = omega arith

last_there : (x : Entry) (xs : List Entry) → slice_get (ranks_of (x ∷ xs)) (length xs) ≡ Some (unwrap_or (slice_get (ranks_of (x ∷ xs)) (length xs)) 0)
last_there x [] = refl
last_there x (y ∷ ys) = last_there y ys

none_past : (xs : List Entry) → slice_get (ranks_of xs) (length xs) ≡ None
none_past [] = refl
none_past (x ∷ xs) = none_past xs

-- the rank after the last is above them all
above_all : (xs : List Entry) → Rises entry_cmp xs → (r : ℕ) → rank_for (ranks_of xs) (length xs) ≡ Some r → AllByRecursion (λ (x : Entry). x.rank < r) xs
above_all [] up r is = tt
above_all (x ∷ xs) up r is =
    let lo = unwrap_or (slice_get (ranks_of (x ∷ xs)) (length xs)) 0 in
    let all = up_to_last (x ∷ xs) up (length xs) lo (last_there x xs) refl in
    let over : lo < r = gap lo (cond (nat_lt (lo + rank_gap) (2 ^ 64)) (Some (lo + rank_gap)) None) refl
    (sym (ap (λ l. rank_between l (slice_get (ranks_of (x ∷ xs)) (suc (length xs)))) (before_last (length xs))
    ∙ ap (rank_between lo) (none_past (x ∷ xs))) ∙ is) in
    all_less (x ∷ xs) lo all over
  where
    before_last : (n : ℕ) → cond (nat_eq (suc n) 0) 0 (unwrap_or (slice_get (ranks_of (x ∷ xs)) (suc n - 1)) 0)
        ≡ unwrap_or (slice_get (ranks_of (x ∷ xs)) n) 0
    before_last n = ap (λ b. cond b 0 (unwrap_or (slice_get (ranks_of (x ∷ xs)) (suc n - 1)) 0)) (not_zero n)
        ∙ ap (λ i. unwrap_or (slice_get (ranks_of (x ∷ xs)) i) 0) (less n)
      where
        not_zero : (n : ℕ) → nat_eq (suc n) 0 ≡ false
        not_zero n = grind (arith, nat_tests)

        less : (n : ℕ) → suc n - 1 ≡ n
        less n = omega arith

    gap : (lo : ℕ) (o : Option ℕ) → o ≡ cond (nat_lt (lo + rank_gap) (2 ^ 64)) (Some (lo + rank_gap)) None → o ≡ Some r → lo < r
    gap lo o made is = by_test (nat_lt (lo + rank_gap) (2 ^ 64)) (sym made ∙ is)
      where
        by_test : (b : Bool) → cond b (Some (lo + rank_gap)) None ≡ Some r → lo < r
        by_test true h = let same = same_number (lo + rank_gap) r h in omega (arith, same)
          where
            same_number : (a b : ℕ) → ◌≡◌ {A = Option ℕ} (Some a) (Some b) → a ≡ b
            same_number a b h = cc
        by_test false h = cc

    all_less : (ys : List Entry) (lo : ℕ) → AllByRecursion (λ (y : Entry). y.rank ≤ lo) ys → lo < r → AllByRecursion (λ (y : Entry). y.rank < r) ys
    all_less [] lo all over = tt
    all_less (y ∷ ys) lo all over = let here = all.0 in (omega (arith, here, over), all_less ys lo all.1 over)

all_behind : (x : Entry) (xs : List Entry) (y : Entry) → AllByRecursion (λ (z : Entry). is_lt (entry_cmp z x) ≡ false) xs → x.rank < y.rank
    → AllByRecursion (λ (z : Entry). is_lt (entry_cmp z x) ≡ false) (xs ++ (y ∷ []))
all_behind x [] y all less = (later_entry x y less, tt)
all_behind x (z ∷ zs) y all less = (all.0, all_behind x zs y all.1 less)

rises_last : (xs : List Entry) (y : Entry) → Rises entry_cmp xs → AllByRecursion (λ (x : Entry). x.rank < y.rank) xs → Rises entry_cmp (xs ++ (y ∷ []))
rises_last [] y up all = (tt, tt)
rises_last (x ∷ xs) y up all = (all_behind x xs y up.0 all.0, rises_last xs y up.1 all.1)

-- so are ranks that are spread evenly
even_above : (n k : ℕ) (xs : List Entry) (x : Entry) → x.rank ≡ n * rank_gap → n < k
    → AllByRecursion (λ (z : Entry). is_lt (entry_cmp z x) ≡ false) (with_ranks xs (evened k xs))
even_above n k [] x is less = tt
even_above n k (y ∷ ys) x is less =
    (later_entry x (record { rank = k * rank_gap; id = y.id }) (more x.rank n k is less), even_above n (k + 1) ys x is (omega (arith, less)))
  where
    more : (r n k : ℕ) → r ≡ n * rank_gap → n < k → r < k * rank_gap
    more r n k is less = omega arith

even_rises : (n : ℕ) (xs : List Entry) → Rises entry_cmp (with_ranks xs (evened n xs))
even_rises n [] = tt
even_rises n (x ∷ xs) =
    (even_above n (n + 1) xs (record { rank = n * rank_gap; id = x.id }) refl (omega arith), even_rises (n + 1) xs)

even_below : (n : ℕ) (xs : List Entry) (r : ℕ) → r ≡ (n + length xs) * rank_gap → AllByRecursion (λ (x : Entry). x.rank < r) (with_ranks xs (evened n xs))
even_below n [] r is = tt
even_below n (x ∷ xs) r is =
    (more n (length xs) r is, even_below (n + 1) xs r (is ∙ ap (λ k. k * rank_gap) (moved n (length xs))))
  where
    more : (n k r : ℕ) → r ≡ (n + suc k) * rank_gap → n * rank_gap < r
    more n k r is = omega arith

    moved : (n k : ℕ) → n + suc k ≡ (n + 1) + k
    moved n k = omega arith

-- ---- the entries of the root with their ranks
pub record Roots (xs : List Entry) (prank : Ranks) : Type 0 where
  pub held : AllByRecursion (λ (x : Entry). get prank x.id ≡ Some x.rank) xs
  pub once : Apart xs
  pub rises : Rises entry_cmp xs

once_ranked : (xs : List Entry) (rs : List ℕ) → Apart xs → Apart (with_ranks xs rs)
once_ranked [] rs once = tt
once_ranked (x ∷ xs) [] once = tt
once_ranked (x ∷ xs) (r ∷ rs) once = (absent_ranked x.id xs rs once.0, once_ranked xs rs once.1)

once_last : (xs : List Entry) (y : Entry) → Apart xs → Absent y.id xs → Apart (xs ++ (y ∷ []))
once_last [] y once none = (refl, tt)
once_last (x ∷ xs) y once none = (
  absent_last x.id xs y once.0 (apart text_eq text_equality y.id x.id (or_first (text_eq y.id x.id) _ none)),
  once_last xs y once.1 (or_second (text_eq y.id x.id) _ none),
)

held_ranks : (xs : List Entry) (rs : List ℕ) (prank : Ranks) → Apart xs
    → AllByRecursion (λ (x : Entry). get (ranked_places xs rs prank) x.id ≡ Some x.rank) (with_ranks xs rs)
held_ranks [] rs prank once = tt
held_ranks (x ∷ xs) [] prank once = tt
held_ranks (x ∷ xs) (r ∷ rs) prank once =
    (ranked_other x.id xs rs (set prank x.id (Some r)) once.0 ∙ get-set_same id_order prank x.id (Some r), held_ranks xs rs (set prank x.id (Some r)) once.1)

held_last : (xs : List Entry) (prank : Ranks) (e : IdBytes) (r : ℕ) → AllByRecursion (λ (x : Entry). get prank x.id ≡ Some x.rank) xs → Absent e xs
    → AllByRecursion (λ (x : Entry). get (set prank e (Some r)) x.id ≡ Some x.rank) (xs ++ record { rank = r; id = e } ∷ [])
held_last [] prank e r all none = (get-set_same id_order prank e (Some r), tt)
held_last (x ∷ xs) prank e r all none = (
  get-set_other id_order prank e (Some r) x.id
      (keys_apart id_order x.id e (λ same. differ_is e x.id (or_first (text_eq e x.id) _ none) (sym same))) ∙ all.0,
  held_last xs prank e r all.1 (or_second (text_eq e x.id) _ none),
)

held_still : (xs : List Entry) (prank : Ranks) (e : IdBytes) (o : Option ℕ) → AllByRecursion (λ (x : Entry). get prank x.id ≡ Some x.rank) xs → Absent e xs
    → AllByRecursion (λ (x : Entry). get (set prank e o) x.id ≡ Some x.rank) xs
held_still [] prank e o all none = tt
held_still (x ∷ xs) prank e o all none = (
  get-set_other id_order prank e o x.id
      (keys_apart id_order x.id e (λ same. differ_is e x.id (or_first (text_eq e x.id) _ none) (sym same))) ∙ all.0,
  held_still xs prank e o all.1 (or_second (text_eq e x.id) _ none),
)

-- one more element at the root
roots_by : (xs : List Entry) (prank : Ranks) (e : IdBytes) (rs : List ℕ) (r : ℕ) → Apart xs → Absent e xs → Rises entry_cmp (with_ranks xs rs)
    → AllByRecursion (λ (x : Entry). x.rank < r) (with_ranks xs rs)
    → Roots (with_ranks xs rs ++ record { rank = r; id = e } ∷ []) (set (ranked_places xs rs prank) e (Some r))
roots_by xs prank e rs r once none up over = record {
  held = held_last (with_ranks xs rs) (ranked_places xs rs prank) e r (held_ranks xs rs prank once) (absent_ranked e xs rs none);
  once = once_last (with_ranks xs rs) (record { rank = r; id = e }) (once_ranked xs rs once) (absent_ranked e xs rs none);
  rises = rises_last (with_ranks xs rs) (record { rank = r; id = e }) up over;
}

module _ (xs : List Entry) (prank : Ranks) (e : IdBytes) (roots : Roots xs prank) (none : Absent e xs) where
  abbrev Next : Spot → Type 0
  Next s = Roots (with_ranks xs s.ranks ++ record { rank = unwrap_or s.rank 0; id = e } ∷ []) (set (ranked_places xs s.ranks prank) e s.rank)

  roots_anew : has_room xs Root ≡ true → rank_for (ranks_of xs) (length xs) ≡ None → (b : Bool) → nat_lt (length xs) most_entries ≡ b → Next (end_spot xs)
  roots_anew room fails true small =
      subst Next (sym (new_end xs fails (below (length xs) small)))
      (roots_by xs prank e (evened 1 xs) ((length xs + 1) * rank_gap) roots.once none (even_rises 1 xs)
      (even_below 1 xs ((length xs + 1) * rank_gap) (ap (λ n. n * rank_gap) (turned (length xs)))))
    where
      below : (n : ℕ) → nat_lt n most_entries ≡ true → n < most_entries
      below n h = grind (arith, nat_tests)

      turned : (n : ℕ) → n + 1 ≡ 1 + n
      turned n = omega arith
  roots_anew room fails false large = absurd (true_false (is_some (end_spot xs).rank) room (no_end xs fails (above (length xs) large)))
    where
      above : (n : ℕ) → nat_lt n most_entries ≡ false → most_entries ≤ n
      above n h = grind (arith, nat_tests)

  roots_kept : (r : ℕ) → rank_for (ranks_of xs) (length xs) ≡ Some r → Next (end_spot xs)
  roots_kept r is =
      subst Next (sym (kept_end xs r is))
      (roots_by xs prank e (ranks_of xs) r roots.once none (subst (λ ys. Rises entry_cmp ys) (sym (same_entries xs)) roots.rises)
      (subst (λ ys. AllByRecursion (λ (x : Entry). x.rank < r) ys) (sym (same_entries xs)) (above_all xs roots.rises r is)))

  roots_at : has_room xs Root ≡ true → (o : Option ℕ) → rank_for (ranks_of xs) (length xs) ≡ o → Next (end_spot xs)
  roots_at room (Some r) is = roots_kept r is
  roots_at room None is = roots_anew room is (nat_lt (length xs) most_entries) refl

roots_next : (xs : List Entry) (prank : Ranks) (p : Place) (e : IdBytes) (k : ℕ) → Roots xs prank → Absent e xs → has_room xs p ≡ true
    → Roots (roots_after xs p e) (ranks_after xs p e k prank)
roots_next xs prank Root e k roots none room = roots_at xs prank e roots none room (rank_for (ranks_of xs) (length xs)) refl
roots_next xs prank (Inside a f) e k roots none room =
    record { held = held_still xs prank e (Some (rank_of k)) roots.held none; once = roots.once; rises = roots.rises }

-- ---- the ids of the root's entries
ids_ranked : (xs : List Entry) (rs : List ℕ) → length rs ≡ length xs → entry_ids (with_ranks xs rs) ≡ entry_ids xs
ids_ranked [] rs many = refl
ids_ranked (x ∷ xs) [] many = absurd (omega (arith, many))
ids_ranked (x ∷ xs) (r ∷ rs) many = ap (λ ys. x.id ∷ ys) (ids_ranked xs rs (omega (arith, many)))

ids_last : (xs : List Entry) (y : Entry) → entry_ids (xs ++ y ∷ []) ≡ entry_ids xs ++ y.id ∷ []
ids_last [] y = refl
ids_last (x ∷ xs) y = ap (λ ys. x.id ∷ ys) (ids_last xs y)

ranks_many : (xs : List Entry) → length (ranks_of xs) ≡ length xs
ranks_many [] = refl
ranks_many (x ∷ xs) = ap suc (ranks_many xs)

even_many : (n : ℕ) (xs : List Entry) → length (evened n xs) ≡ length xs
even_many n [] = refl
even_many n (x ∷ xs) = ap suc (even_many (n + 1) xs)

spot_many : (xs : List Entry) → length (end_spot xs).ranks ≡ length xs
spot_many xs =
    elim (rank_for (ranks_of xs) (length xs)) as (λ o. length (spot_by o xs (length xs)).ranks ≡ length xs) [
      | None ↦ even_many 1 xs
      | Some r ↦ ranks_many xs
    ]

root_ids : (xs : List Entry) (e : IdBytes) → entry_ids (root_after xs e) ≡ entry_ids xs ++ e ∷ []
root_ids xs e =
    let s = end_spot xs in
    ids_last (with_ranks xs s.ranks) (record { rank = unwrap_or s.rank 0; id = e })
    ∙ ap (λ ys. ys ++ e ∷ []) (ids_ranked xs s.ranks (spot_many xs))

-- ---- all rows
module _ (names : List IdBytes) (rows : List DocRow) (as_many : length names ≡ length rows) (differ : ids_differ names ≡ true) where
  pub ranks_other : (rest : List DocRow) (n : ℕ) (xs : List Entry) (prank : Ranks) (e : IdBytes) → drop n rows ≡ rest → Absent e xs → Away names n e
      → get (ranks_from names rows n xs prank rest) e ≡ get prank e
  ranks_other [] n xs prank e left none away = refl
  ranks_other (r ∷ rest) n xs prank e left none away =
      let p = place_of names r.parent in
      let x = name_at names n in
      let k = standing r.parent (take n rows) in
      let other = away n (itself n) (named_here names rows as_many n r rest left) in
      ranks_other rest (suc n) (roots_after xs p x) (ranks_after xs p x k prank) e (drop_next n rows r rest left) (absent_after e xs p x none other)
      (away_next names n e away)
      ∙ after_other e xs p x k prank none other

  pub ranks_mine : (a : IdBytes) (f : ℕ) (rest : List DocRow) (n : ℕ) (xs : List Entry) (prank : Ranks) (j : ℕ) (r : DocRow) → drop n rows ≡ rest
      → slice_get rest j ≡ Some r → place_of names r.parent ≡ Inside a f → (k : ℕ) → k ≡ n + j → k < length names → Absent (name_at names k) xs
      → get (ranks_from names rows n xs prank rest) (name_at names k) ≡ Some (rank_of (standing r.parent (take k rows)))
  ranks_mine a f [] n xs prank j r left is there k at small none = cc
  ranks_mine a f (x ∷ rest) n xs prank zero r left is there k at small none =
      let here = first_is k n at in
      let e = name_at names n in
      let rank = standing r.parent (take n rows) in
      ap (λ i. get (ranks_from names rows n xs prank (x ∷ rest)) (name_at names i)) here
      ∙ ap (λ (y : DocRow). get (ranks_from names rows n xs prank (y ∷ rest)) e) (same_row x r is)
      ∙ ap (λ p. get (ranks_from names rows (suc n) (roots_after xs p e) (ranks_after xs p e rank prank) rest) e) there
      ∙ ranks_other rest (suc n) xs (set prank e (Some (rank_of rank))) e (drop_next n rows x rest left)
      (ap (λ i. list_any (λ (y : Entry). text_eq (name_at names i) y.id) xs) (sym here) ∙ none)
      (away_later names differ n (named_here names rows as_many n x rest left))
      ∙ get-set_same id_order prank e (Some (rank_of rank))
      ∙ ap (λ i. Some (rank_of (standing r.parent (take i rows)))) (sym here)
  ranks_mine a f (x ∷ rest) n xs prank (suc j) r left is there k at small none =
      let p = place_of names x.parent in
      let e = name_at names n in
      ranks_mine a f rest (suc n) (roots_after xs p e) (ranks_after xs p e (standing x.parent (take n rows)) prank) j r (drop_next n rows x rest left) is there
      k (next_is k n j at) small (absent_after (name_at names k) xs p e none (other_name names differ n k (is_later k n j at) small))

  -- there is room for each element of the rows from the n-th on
  abbrev pub Rooms : ℕ → List Entry → List DocRow → Type 0
  Rooms n xs [] = Unit {0}
  Rooms n xs (r ∷ rest) =
      (has_room xs (place_of names r.parent) ≡ true) × Rooms (suc n) (roots_after xs (place_of names r.parent) (name_at names n)) rest

  pub rooms_are : (rest : List DocRow) (n : ℕ) (xs : List Entry) (steps all : List Step) → news_from names rows steps n xs rest ≡ Ok all → Rooms n xs rest
  rooms_are [] n xs steps all made = tt
  rooms_are (r ∷ rest) n xs steps all made =
      let p = place_of names r.parent in
      let steps' = steps ++ element_made xs p (name_at names n) r.class (standing r.parent (take n rows)) in
      let more = by_room (has_room xs p) (news_from names rows steps' (suc n) (roots_after xs p (name_at names n)) rest) made in
      (more.0, rooms_are rest (suc n) (roots_after xs p (name_at names n)) steps' all more.1)
    where
      by_room : (b : Bool) (o : Result (List Step) EditFault) → (if b then o else Err Bound) ≡ Ok all → (b ≡ true) × (o ≡ Ok all)
      by_room true o h = (refl, h)
      by_room false o h = cc

  -- the root's entries once those elements are created
  pub record RootsLeft (n : ℕ) (xs : List Entry) (prank : Ranks) (rest : List DocRow) : Type 0 where
    pub entries : List Entry
    pub roots : Roots entries (ranks_from names rows n xs prank rest)
    pub ids : entry_ids entries ≡ entry_ids xs ++ standing_in names Root n rest

  pub roots_left : (rest : List DocRow) (n : ℕ) (xs : List Entry) (prank : Ranks) → drop n rows ≡ rest → Roots xs prank → Rooms n xs rest
      → ((i : ℕ) → n ≤ i → i < length names → Absent (name_at names i) xs) → RootsLeft n xs prank rest
  roots_left [] n xs prank left roots rooms none = record { entries = xs; roots = roots; ids = sym (append-nil (entry_ids xs)) }
  roots_left (r ∷ rest) n xs prank left roots rooms none =
      let p = place_of names r.parent in
      let e = name_at names n in
      let k = standing r.parent (take n rows) in
      let small = named_here names rows as_many n r rest left in
      let more = roots_left rest (suc n) (roots_after xs p e) (ranks_after xs p e k prank) (drop_next n rows r rest left)
      (roots_next xs prank p e k roots (none n (itself n) small) rooms.0) rooms.1
      (λ i le less. absent_after (name_at names i) xs p e (none i (omega (arith, le)) less) (other_name names differ n i le less)) in
      record { entries = more.entries; roots = more.roots; ids = more.ids ∙ listed p }
    where
      listed : (p : Place) → entry_ids (roots_after xs p (name_at names n)) ++ standing_in names Root (suc n) rest
          ≡ entry_ids xs ++ cond (place_eq p Root) (name_at names n ∷ standing_in names Root (suc n) rest) (standing_in names Root (suc n) rest)
      listed Root = ap (λ ys. ys ++ standing_in names Root (suc n) rest) (root_ids xs (name_at names n))
          ∙ append_assoc (entry_ids xs) (name_at names n ∷ []) (standing_in names Root (suc n) rest)
      listed (Inside a f) = refl

-- entries that have their ranks are given by their ids
pub as_held : (prank : Ranks) (xs : List Entry) → AllByRecursion (λ (x : Entry). get prank x.id ≡ Some x.rank) xs
    → map (entry_at (rank_at prank)) (entry_ids xs) ≡ xs
as_held prank [] all = refl
as_held prank (x ∷ xs) all = λ i. record { rank = unwrap_or (all.0 i) 0; id = x.id } ∷ as_held prank xs all.1 i
