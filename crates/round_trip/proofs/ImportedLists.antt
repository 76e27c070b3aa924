-- The elements of each place after an import: those that stood there, in their order, and then the document's in theirs.
use Rattle.std.proofs.Common.{◌≡◌, ◌∙◌, ℕ, suc, ◌+◌, ◌<◌, ◌≤◌, Bool, true, false, cond, ◌&&◌, List, [], ◌∷◌, ◌++◌, drop, length, map, refl}
use Rattle.std.proofs.Common.{sym, ap, subst, arith, append-nil}
use Rattle.std.specs.Prelude.{Option, None, Some, Ok, slice_get, unwrap_or}
use Rattle.std.specs.List.{AllByRecursion, list_any}
use Rattle.std.specs.FinMap.{entries, get}
use Rattle.finite_maps.specs.Equal.{text_eq}
use Rattle.finite_maps.specs.Maps.{count, counts, set, tally}
use Rattle.finite_maps.specs.Sorts.{picked}
use Rattle.finite_maps.proofs.Cases.{no_some, not_so, true_false}
use Rattle.finite_maps.proofs.CountLaws.{count-set}
use Rattle.finite_maps.proofs.EqualLaws.{apart, text_equality}
use Rattle.finite_maps.proofs.MapLaws.{get-set_other}
use Rattle.finite_maps.proofs.SortLaws.{Rises, rises-in_order}
use Rattle.ecore_meta.specs.Meta.{Meta}
use Rattle.model_state.specs.declared.entry.Entry.{Entry}
use Rattle.model_state.specs.declared.step.Place.{Place}
use Rattle.model_state.specs.declared.step.Place.TheVariants.{Root, Inside}
use Rattle.model_state.specs.declared.step.Step.{Step}
use Rattle.model_state.specs.Good.{Good}
use Rattle.model_state.specs.Keys.{IdBytes}
use Rattle.model_state.specs.Listing.{children, entry_cmp, rank_at}
use Rattle.model_state.specs.State.{State, is_live, place_eq}
use Rattle.model_state.proofs.Orders.{entry_order, id_order}
use Rattle.model_state.proofs.StepTests.{place_equality}
use Rattle.model_laws.proofs.Births.{dead_inner, dead_place}
use Rattle.model_laws.proofs.Inserts.{or_none}
use Rattle.edit_steps.specs.Places.{Ranks}
use Rattle.edit_steps.proofs.Creates.{LiveHere, children_live, children_there, one_child}
use Rattle.edit_steps.proofs.Lists.{all-in_order, apart_from, tally-filter}
use Rattle.model_documents.specs.declared.doc.DocParent.{DocParent}
use Rattle.model_documents.specs.declared.doc.DocRow.{DocRow}
use Rattle.model_documents.specs.Fits.{DocumentFits, StandsFit}
use Rattle.model_texts.specs.Tree.{child_ids, entry_ids}
use Rattle.import_laws.specs.After.{Places, import_after, places_from, ranks_from}
use Rattle.import_laws.specs.Laws.{ids_differ}
use Rattle.import_laws.specs.Names.{name_at}
use Rattle.import_laws.specs.News.{inside, news_made, place_of, rank_of}
use Rattle.import_laws.proofs.Indexed.{at_less, drop_next, drop_none, named, none_at}
use Rattle.round_trip.specs.Describes.{standing_in}
use Rattle.round_trip.proofs.BringingNames.{StandsAs, before, before_few, standing_before, stands_as, tally_append}
use Rattle.round_trip.proofs.ImportedMaps.{itself, keys_apart, named_here, other_name}
use Rattle.round_trip.proofs.ImportedRanks.{Absent, Roots, as_held, ranks_mine, ranks_other, rooms_are, roots_left}
use Rattle.round_trip.proofs.ListsInOrder.{entry_at, ranked_from, rises_ranked, shown, spot_of, spots_ranked, tally_children, tally_ids}

places_turned : (p q : Place) → place_eq p q ≡ place_eq q p
places_turned p q =
    elim (place_eq q p) as (λ b. place_eq q p ≡ b → place_eq p q ≡ b) [
      | true ↦ λ same. ap (place_eq p) (place_equality.exact q p same) ∙ place_equality.own p
      | false ↦ λ other. apart place_eq place_equality q p other
    ] refl

same_inside : (a b : IdBytes) (f g : ℕ) → ◌≡◌ {A = Place} (Inside a f) (Inside b g) → a ≡ b
same_inside a b f g is = cc

module _ (meta : Meta) (m : State) (good : Good meta m) (names : List IdBytes) (rows : List DocRow) (fit : DocumentFits meta rows)
    (as_many : length names ≡ length rows) (differ : ids_differ names ≡ true) (dead : list_any (is_live m) names ≡ false) where
  not_live : (i : ℕ) → i < length names → get m.kind (name_at names i) ≡ None
  not_live i small = no_some (get m.kind (name_at names i)) (none_at (is_live m) names i dead small)

  abbrev roots : List Entry
  roots = children m.place m.prank Root

  abbrev places : Places
  places = places_from names 0 m.place rows

  abbrev ranks : Ranks
  ranks = ranks_from names rows 0 roots m.prank rows

  -- ---- how many stand in a place
  abbrev There : Place → (IdBytes → Bool) → IdBytes × Place → Bool
  There p q e = place_eq p e.1 && q e.0

  counted : (p : Place) (q : IdBytes → Bool) (rest : List DocRow) (n : ℕ) (place : Places) → drop n rows ≡ rest
      → ((i : ℕ) → n ≤ i → i < length names → get place (name_at names i) ≡ None)
      → count (There p q) (places_from names n place rest) ≡ count (There p q) place + tally q (standing_in names p n rest)
  counted p q [] n place left none = own (count (There p q) place)
    where
      own : (n : ℕ) → n ≡ n + 0
      own n = omega arith
  counted p q (r ∷ rest) n place left none =
      let e = name_at names n in
      let to = place_of names r.parent in
      let next = set place e (Some to) in
      let more = standing_in names p (suc n) rest in
      let small = named_here names rows as_many n r rest left in
      let sum : count (There p q) next + counts (There p q) e (get place e) ≡ count (There p q) place + counts (There p q) e (Some to) =
      count-set id_order (There p q) place e (Some to) in
      let was : counts (There p q) e (get place e) ≡ 0 = ap (counts (There p q) e) (none n (itself n) small) in
      let now : counts (There p q) e (Some to) ≡ cond (place_eq to p && q e) 1 0 = ap (λ b. cond (b && q e) 1 0) (places_turned p to) in
      counted p q rest (suc n) next (drop_next n rows r rest left)
      (λ i le less. get-set_other id_order place e (Some to) (name_at names i)
      (keys_apart id_order (name_at names i) e (other_name names differ n i le less)) ∙ none i (omega (arith, le)) less)
      ∙ added (place_eq to p) (q e) (count (There p q) next) (counts (There p q) e (get place e)) (count (There p q) place)
      (counts (There p q) e (Some to)) e more sum was now
    where
      added : (b c : Bool) (next was place one : ℕ) (e : IdBytes) (more : List IdBytes) → next + was ≡ place + one → was ≡ 0 → one ≡ cond (b && q e) 1 0
          → next + tally q more ≡ place + tally q (cond b (e ∷ more) more)
      added true c next was place one e more h z g = omega (arith, h, z, g)
      added false c next was place one e more h z g = omega (arith, h, z, g)

  places_free : (i : ℕ) → 0 ≤ i → i < length names → get m.place (name_at names i) ≡ None
  places_free i le small = (dead_place meta m good (name_at names i) (not_live i small)).0

  tallied : (p : Place) (q : IdBytes → Bool)
      → tally (λ (x : Entry). q x.id) (children places ranks p) ≡ tally q (child_ids m p ++ standing_in names p 0 rows)
  tallied p q =
      tally_children places ranks p q
      ∙ tally-filter (λ (e : IdBytes × Place). place_eq p e.1) (λ (e : IdBytes × Place). q e.0) (entries places)
      ∙ counted p q rows 0 m.place (drop_none rows) places_free
      ∙ ap (λ n. n + tally q (standing_in names p 0 rows))
      (sym (tally_ids q (children m.place m.prank p) ∙ tally_children m.place m.prank p q
      ∙ tally-filter (λ (e : IdBytes × Place). place_eq p e.1) (λ (e : IdBytes × Place). q e.0) (entries m.place)))
      ∙ sym (tally_append q (child_ids m p) (standing_in names p 0 rows))

  -- the ids whose ranks rise are the place's
  listed : (p : Place) → Rises entry_cmp (map (entry_at (rank_at ranks)) (child_ids m p ++ standing_in names p 0 rows))
      → entry_ids (children places ranks p) ≡ child_ids m p ++ standing_in names p 0 rows
  listed p up =
      shown (rank_at ranks) (children places ranks p) (child_ids m p ++ standing_in names p 0 rows)
      (rises-in_order entry_order (map (spot_of ranks) (picked (λ (e : IdBytes × Place). place_eq p e.1) places)))
      (all-in_order entry_cmp (λ (x : Entry). x.rank ≡ rank_at ranks x.id) _ (spots_ranked ranks (picked (λ (e : IdBytes × Place). place_eq p e.1) places)))
      up (tallied p)

  -- ---- what does not stand among some entries
  absent_by : (e : IdBytes) (P : IdBytes → Type 0) → (P e → ⊥) → (xs : List Entry) → AllByRecursion (λ (x : Entry). P x.id) xs → Absent e xs
  absent_by e P none [] all = refl
  absent_by e P none (x ∷ xs) all =
      or_none (text_eq e x.id) _ (not_so (text_eq e x.id) (λ same. none (subst P (sym (text_equality.exact e x.id same)) all.0))) (absent_by e P none xs all.1)

  only_live : (xs : List Entry) → AllByRecursion (LiveHere m) xs → AllByRecursion (λ (x : Entry). is_live m x.id ≡ true) xs
  only_live [] all = tt
  only_live (x ∷ xs) all = (all.0.0, only_live xs all.1)

  only_held : (xs : List Entry) → AllByRecursion (LiveHere m) xs → AllByRecursion (λ (x : Entry). get m.prank x.id ≡ Some x.rank) xs
  only_held [] all = tt
  only_held (x ∷ xs) all = (all.0.1, only_held xs all.1)

  name_absent : (i : ℕ) → i < length names → Absent (name_at names i) roots
  name_absent i small =
      absent_by (name_at names i) (λ e. is_live m e ≡ true)
      (λ live. true_false (is_live m (name_at names i)) live (none_at (is_live m) names i dead small)) roots (only_live roots (children_live meta m good Root))

  -- ---- inside an element
  module _ (a : IdBytes) (f : ℕ) where
    -- one that stands there already keeps its rank
    kept : (e : IdBytes) → is_live m e ≡ true → get m.place e ≡ Some (Inside a f) → get ranks e ≡ get m.prank e
    kept e live is =
        ranks_other names rows as_many differ rows 0 roots m.prank e (drop_none rows)
        (absent_by e (λ x. get m.place x ≡ Some Root) (λ at. not_root (sym at ∙ is)) roots (children_there m Root))
        (λ i le small same. true_false (is_live m e) live (ap (is_live m) same ∙ none_at (is_live m) names i dead small))
      where
        not_root : ◌≡◌ {A = Option Place} (Some Root) (Some (Inside a f)) → ⊥
        not_root is = cc

    all_kept : (xs : List Entry) → AllByRecursion (LiveHere m) xs → AllByRecursion (λ (x : Entry). get m.place x.id ≡ Some (Inside a f)) xs
        → AllByRecursion (λ (x : Entry). get ranks x.id ≡ Some x.rank) xs
    all_kept [] live there = tt
    all_kept (x ∷ xs) live there = (kept x.id live.0.0 there.0 ∙ live.0.1, all_kept xs live.1 there.1)

    rises_kept : Rises entry_cmp (map (entry_at (rank_at ranks)) (child_ids m (Inside a f)))
    rises_kept =
        subst (λ xs. Rises entry_cmp xs)
        (sym (as_held ranks (children m.place m.prank (Inside a f))
        (all_kept (children m.place m.prank (Inside a f)) (children_live meta m good (Inside a f)) (children_there m (Inside a f)))))
        (rises-in_order entry_order (map (spot_of m.prank) (picked (λ (e : IdBytes × Place). place_eq (Inside a f) e.1) m.place)))

    -- a new one has the rank of a new list
    stands : (j : ℕ) (x : IdBytes) → slice_get (standing_in names (Inside a f) 0 rows) j ≡ Some x → StandsAs names rows (Inside a f) j x
    stands j x is =
        stands_as names rows (Inside a f) rows 0 (drop_none rows) j x is j (none (before names rows (Inside a f) 0) j (before_few names rows (Inside a f) 0))
      where
        none : (b j : ℕ) → b ≤ 0 → j ≡ b + j
        none b j h = omega arith

    ranked : (j : ℕ) (x : IdBytes) → slice_get (standing_in names (Inside a f) 0 rows) j ≡ Some x → rank_at ranks x ≡ rank_of (0 + j)
    ranked j x is =
        let at = stands j x is in
        let less = at_less rows at.row at.r at.is_row in
        let small : at.row < length names = omega (arith, less, as_many) in
        ap (rank_at ranks) at.named
        ∙ ap (λ o. unwrap_or o 0)
        (ranks_mine names rows as_many differ a f rows 0 roots m.prank at.row at.r (drop_none rows) at.is_row at.there at.row (own at.row) small
        (name_absent at.row small))
        ∙ ap rank_of (standing_before names differ meta rows fit as_many at.row at.row at.r at.is_row
        ∙ ap (λ p. before names rows p at.row) at.there ∙ at.behind ∙ own j)
      where
        own : (i : ℕ) → i ≡ 0 + i
        own i = omega arith

    rises_new : Rises entry_cmp (map (entry_at (rank_at ranks)) (standing_in names (Inside a f) 0 rows))
    rises_new =
        rises_ranked (rank_at ranks) (standing_in names (Inside a f) 0 rows) 0
        (ranked_from (rank_at ranks) (standing_in names (Inside a f) 0 rows) 0 ranked)

    -- nothing stands inside an element that is created
    parent_named : (o : Option DocParent) (i : ℕ) (r : DocRow) → slice_get rows i ≡ Some r → r.parent ≡ o → place_of names o ≡ Inside a f
        → (k : ℕ) × (k < length names) × (a ≡ name_at names k)
    parent_named None i r is at there = cc
    parent_named (Some p) i r is at there =
        let fits = subst (λ o. StandsFit meta rows r.class o) at (fit.each i r is).stands in
        let less = at_less rows p.row fits.0 fits.1 in
        let small : p.row < length names = omega (arith, less, as_many) in
        (p.row, small, same_inside a (name_at names p.row) f p.feature (sym there ∙ ap (λ o. inside o p.feature) (named names p.row small)))

    not_both : (c x : IdBytes) → get m.place c ≡ Some (Inside a f) → StandsAs names rows (Inside a f) 0 x → ⊥
    not_both c x is at =
        let parent = parent_named at.r.parent at.row at.r at.is_row refl at.there in
        true_false (text_eq (name_at names parent.0) a) (ap (text_eq (name_at names parent.0)) parent.2 ∙ text_equality.own (name_at names parent.0))
        (dead_inner meta m good (name_at names parent.0) (not_live parent.0 parent.1) c (Inside a f) is)

    first_there : (xs : List Entry) → AllByRecursion (λ (x : Entry). get m.place x.id ≡ Some (Inside a f)) xs → (c : IdBytes) (cs : List IdBytes)
        → entry_ids xs ≡ c ∷ cs → get m.place c ≡ Some (Inside a f)
    first_there [] all c cs is = cc
    first_there (x ∷ xs) all c cs is = ap (get m.place) (sym (same_first x.id c (entry_ids xs) cs is)) ∙ all.0
      where
        same_first : (x c : IdBytes) (xs cs : List IdBytes) → ◌≡◌ {A = List IdBytes} (x ∷ xs) (c ∷ cs) → x ≡ c
        same_first x c xs cs is = cc

    rises_either : (cs ss : List IdBytes) → child_ids m (Inside a f) ≡ cs → standing_in names (Inside a f) 0 rows ≡ ss
        → Rises entry_cmp (map (entry_at (rank_at ranks)) (cs ++ ss))
    rises_either [] ss old new = subst (λ xs. Rises entry_cmp (map (entry_at (rank_at ranks)) xs)) new rises_new
    rises_either (c ∷ cs) [] old new =
        subst (λ xs. Rises entry_cmp (map (entry_at (rank_at ranks)) xs)) (old ∙ sym (append-nil (c ∷ cs))) rises_kept
    rises_either (c ∷ cs) (x ∷ ss) old new =
        absurd (not_both c x (first_there (children m.place m.prank (Inside a f)) (children_there m (Inside a f)) c cs old)
        (stands 0 x (ap (λ xs. slice_get xs 0) new)))

  -- ---- at the root
  roots_start : Roots roots m.prank
  roots_start = record {
    held = only_held roots (children_live meta m good Root);
    once = apart_from roots (one_child meta m good Root);
    rises = rises-in_order entry_order (map (spot_of m.prank) (picked (λ (e : IdBytes × Place). place_eq Root e.1) m.place));
  }

  rises_root : (all : List Step) → news_made roots names rows ≡ Ok all
      → Rises entry_cmp (map (entry_at (rank_at ranks)) (child_ids m Root ++ standing_in names Root 0 rows))
  rises_root all made =
      let last = roots_left names rows as_many differ rows 0 roots m.prank (drop_none rows) roots_start
      (rooms_are names rows as_many differ rows 0 roots [] all made) (λ i le small. name_absent i small) in
      subst (λ xs. Rises entry_cmp (map (entry_at (rank_at ranks)) xs)) last.ids
      (subst (λ xs. Rises entry_cmp xs) (sym (as_held ranks last.entries last.roots.held)) last.roots.rises)

  pub lists_left : (all : List Step) → news_made roots names rows ≡ Ok all → (p : Place)
      → child_ids (import_after m names rows) p ≡ child_ids m p ++ standing_in names p 0 rows
  lists_left all made Root = listed Root (rises_root all made)
  lists_left all made (Inside a f) =
      listed (Inside a f) (rises_either a f (child_ids m (Inside a f)) (standing_in names (Inside a f) 0 rows) refl refl)
