-- In the empty project there is room for each element of a document: the root's elements stand there with even ranks.
use Rattle.std.proofs.Common.{◌≡◌, ◌∙◌, ℕ, suc, ◌+◌, ◌*◌, ◌<◌, ◌≤◌, true, false, List, [], ◌∷◌, ◌++◌, drop, length, map, take, refl, sym, ap, subst, arith}
use Rattle.std.specs.Prelude.{Bool, Some, Ok, Err, is_some, if◌then◌else◌}
use Rattle.std.specs.List.{AllByRecursion, filter}
use Rattle.std.specs.FinMap.{empty, entries, get, get-empty}
use Rattle.finite_maps.specs.Sorts.{in_order}
use Rattle.finite_maps.proofs.Cases.{some_none}
use Rattle.model_state.specs.declared.entry.Entry.{Entry}
use Rattle.model_state.specs.declared.step.Place.{Place}
use Rattle.model_state.specs.declared.step.Place.TheVariants.{Root, Inside}
use Rattle.model_state.specs.declared.step.Step.{Step}
use Rattle.model_state.specs.Keys.{IdBytes, id_cmp}
use Rattle.model_state.specs.Listing.{children, entry_cmp, rank_at}
use Rattle.model_state.specs.Ranks.{most_entries, rank_gap}
use Rattle.model_state.specs.State.{place_eq}
use Rattle.model_state.proofs.Orders.{id_order}
use Rattle.edit_steps.specs.Spot.{Spot, evened, rank_for, ranks_of}
use Rattle.edit_steps.specs.declared.fault.EditFault.TheVariants.{Bound}
use Rattle.edit_steps.proofs.Lists.{entries_held}
use Rattle.model_documents.specs.declared.doc.DocRow.{DocRow}
use Rattle.model_documents.specs.Fits.{standing}
use Rattle.import_laws.specs.Names.{name_at}
use Rattle.import_laws.specs.News.{element_made, has_room, news_from, news_made, place_of, roots_after}
use Rattle.import_laws.proofs.Ends.{after_kept, even_end, kept_end}
use Rattle.import_laws.proofs.Indexed.{drop_less, drop_next, drop_none}
use Rattle.round_trip.proofs.BringingNames.{before, before_few, before_next}

-- ---- entries that are spread evenly, and one more
ranks_last : (n : ℕ) (xs : List Entry) (y : Entry) → ranks_of xs ≡ evened n xs → y.rank ≡ (n + length xs) * rank_gap
    → ranks_of (xs ++ y ∷ []) ≡ evened n (xs ++ y ∷ [])
ranks_last n [] y even is = ap (λ r. r ∷ []) (is ∙ ap (λ k. k * rank_gap) (none n))
  where
    none : (n : ℕ) → n + 0 ≡ n
    none n = omega arith
ranks_last n (x ∷ xs) y even is =
    λ i. first x.rank (n * rank_gap) (ranks_of xs) (evened (n + 1) xs) even i ∷ ranks_last (n + 1) xs y
    (second x.rank (n * rank_gap) (ranks_of xs) (evened (n + 1) xs) even) (is ∙ ap (λ k. k * rank_gap) (moved n (length xs))) i
  where
    first : (a b : ℕ) (us vs : List ℕ) → ◌≡◌ {A = List ℕ} (a ∷ us) (b ∷ vs) → a ≡ b
    first a b us vs h = cc

    second : (a b : ℕ) (us vs : List ℕ) → ◌≡◌ {A = List ℕ} (a ∷ us) (b ∷ vs) → us ≡ vs
    second a b us vs h = cc

    moved : (n k : ℕ) → n + suc k ≡ (n + 1) + k
    moved n k = omega arith

length_last : {X : Type 0} (xs : List X) (y : X) → length (xs ++ y ∷ []) ≡ length xs + 1
length_last [] y = omega arith
length_last (x ∷ xs) y = let rest = length_last xs y in omega (arith, rest)

module _ (names : List IdBytes) (rows : List DocRow) (few : length rows < most_entries) where
  -- the root's elements once those of the first n rows are created
  record Roots (n : ℕ) (xs : List Entry) : Type 0 where
    even : ranks_of xs ≡ evened 1 xs
    many : length xs ≡ before names rows Root n

  module _ (n : ℕ) (r : DocRow) (rest : List DocRow) (left : drop n rows ≡ r ∷ rest) (xs : List Entry) (roots : Roots n xs) where
    rank_free : rank_for (ranks_of xs) (length xs) ≡ Some ((length xs + 1) * rank_gap)
    rank_free =
        let many = roots.many in
        let less = drop_less n rows r rest left in
        let most = before_few names rows Root n in
        even_end xs roots.even (omega (arith, many, less, most, few))

    next_roots : (p : Place) → place_of names r.parent ≡ p → Roots (suc n) (roots_after xs p (name_at names n))
    next_roots Root is =
        let rank = (length xs + 1) * rank_gap in
        let last : Entry = record { rank = rank; id = name_at names n } in
        let many = roots.many in
        let next = before_next names rows Root n r rest left true (ap (λ p. place_eq p Root) is) in
        let size = length_last xs last in
        subst (Roots (suc n)) (after_kept xs (name_at names n) rank rank_free)
        record {
          even = ranks_last 1 xs last roots.even (ap (λ j. j * rank_gap) (turned (length xs)));
          many = omega (arith, size, many, next);
        }
      where
        turned : (k : ℕ) → k + 1 ≡ 1 + k
        turned k = omega arith
    next_roots (Inside a f) is =
        let many = roots.many in
        let next = before_next names rows Root n r rest left false (ap (λ p. place_eq p Root) is) in
        record { even = roots.even; many = omega (arith, many, next) }

    next_room : (p : Place) → has_room xs p ≡ true
    next_room Root = ap (λ (s : Spot). is_some s.rank) (kept_end xs ((length xs + 1) * rank_gap) rank_free)
    next_room (Inside a f) = refl

  news_come : (rest : List DocRow) (n : ℕ) (xs : List Entry) (steps : List Step) → drop n rows ≡ rest → Roots n xs
      → (all : List Step) × (news_from names rows steps n xs rest ≡ Ok all)
  news_come [] n xs steps left roots = (steps, refl)
  news_come (r ∷ rest) n xs steps left roots =
      let p = place_of names r.parent in
      let k = standing r.parent (take n rows) in
      let more = news_come rest (suc n) (roots_after xs p (name_at names n)) (steps ++ element_made xs p (name_at names n) r.class k)
      (drop_next n rows r rest left) (next_roots n r rest left xs roots p refl) in
      (more.0, room (has_room xs p) (next_room n r rest left xs roots p) ∙ more.1)
    where
      room : (b : Bool) → b ≡ true
          → (if b then news_from names rows
          (steps ++ element_made xs (place_of names r.parent) (name_at names n) r.class (standing r.parent (take n rows))) (suc n)
          (roots_after xs (place_of names r.parent) (name_at names n)) rest else Err Bound)
          ≡ news_from names rows (steps ++ element_made xs (place_of names r.parent) (name_at names n) r.class (standing r.parent (take n rows)))
          (suc n) (roots_after xs (place_of names r.parent) (name_at names n)) rest
      room true is = refl
      room false is = cc

-- ---- from the empty project on
pub no_children : (p : Place) → children empty empty p ≡ []
no_children p =
    ap (λ es. in_order entry_cmp
    (map (λ (e : IdBytes × Place). record { rank = rank_at empty e.0; id = e.0 }) (filter (λ (e : IdBytes × Place). place_eq p e.1) es)))
    (no_entries (entries empty) (entries_held id_order empty))
  where
    no_entries : (es : List (IdBytes × Place)) → AllByRecursion (λ (e : IdBytes × Place). get {R = id_cmp} empty e.0 ≡ Some e.1) es → es ≡ []
    no_entries [] all = refl
    no_entries (e ∷ es) all = absurd (some_none (get {R = id_cmp} empty e.0) e.1 all.0 (get-empty id_cmp e.0))

-- each element is created
pub all_come : (names : List IdBytes) (rows : List DocRow) → length rows < most_entries
    → (all : List Step) × (news_made (children empty empty Root) names rows ≡ Ok all)
all_come names rows few =
    let roots : Roots names rows few 0 [] = record { even = refl; many = sym (none (before names rows Root 0) (before_few names rows Root 0)) } in
    let come = news_come names rows few rows 0 [] [] (drop_none rows) roots in
    (come.0, ap (λ xs. news_made xs names rows) (no_children Root) ∙ come.1)
  where
    none : (k : ℕ) → k ≤ 0 → k ≡ 0
    none k h = omega arith
