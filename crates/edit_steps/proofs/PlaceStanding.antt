-- Where elements stand in their places after an edit.
use Rattle.std.proofs.Common.{◌≡◌, ℕ, ◌≤◌, Bool, true, false, cond, not, List, [], ◌∷◌, refl, sym, ap, subst, ◌∙◌, ◌||◌, arith, length, nat_le, map}
use Rattle.std.proofs.lemmas.Bool.Decides.{nat_tests}
use Rattle.std.specs.Prelude.{Option, None, Some, unwrap_or}
use Rattle.std.specs.List.{AllByRecursion}
use Rattle.std.specs.FinMap.{get}
use Rattle.finite_maps.specs.Equal.{text_eq}
use Rattle.finite_maps.specs.Maps.{set}
use Rattle.finite_maps.specs.Sorts.{picked}
use Rattle.finite_maps.proofs.Cases.{not_so, some_none, true_false, or_first, or_second}
use Rattle.finite_maps.proofs.EqualLaws.{text_equality}
use Rattle.finite_maps.proofs.MapLaws.{get-set_other, get-set_same}
use Rattle.finite_maps.proofs.SortLaws.{rises-in_order}
use Rattle.ecore_meta.specs.Meta.{Meta}
use Rattle.model_state.specs.declared.entry.Entry.{Entry}
use Rattle.model_state.specs.declared.step.Place.{Place}
use Rattle.model_state.specs.Keys.{IdBytes}
use Rattle.model_state.specs.State.{State, is_live, place_eq}
use Rattle.model_state.specs.Good.{Good, Sound}
use Rattle.model_state.specs.Listing.{children}
use Rattle.model_state.proofs.Orders.{entry_order, id_order}
use Rattle.model_state.proofs.StepTests.{place_equality}
use Rattle.model_laws.proofs.Runs.{steps_keep_good}
use Rattle.edit_steps.specs.Spot.{spot, end_spot}
use Rattle.edit_steps.specs.Places.{Ranks, ranked_places, create_after, create_made, MayMoveWithin, move_within_after, move_within_made, move_to_after}
use Rattle.edit_steps.specs.Places.{move_to_made}
use Rattle.edit_steps.specs.References.{without_entry, stands_at}
use Rattle.edit_steps.specs.Standing.{reranked, StandsAt, Placed}
use Rattle.edit_steps.specs.Laws.{CreateStands, MoveWithinStands, MoveToStands}
use Rattle.edit_steps.proofs.Lists.{Apart, apart_from, any-in_order, any-map, picked_has}
use Rattle.edit_steps.proofs.Pairs.{some_of}
use Rattle.edit_steps.proofs.LinkEdits.{all_filter, none_without}
use Rattle.edit_steps.proofs.Creates.{LiveHere, children_live, children_there, names_differ, one_child, spot_of, create_meets}
use Rattle.edit_steps.proofs.MoveEdits.{placed, ranked_missing, not_there, move_within_meets, move_to_meets}
use Rattle.edit_steps.proofs.Told.{Ranking, AllHeld, Tells, has_id, one_list, apart_filter, has-reranked, has-without, rises_filter, stands}
use Rattle.edit_steps.proofs.Told.{stands_still, without_none}

-- the rank of an element in a place, by where it stands and its rank there
abbrev pub rank_there : Place → Option Place → Option ℕ → Option ℕ
rank_there p None r = None
rank_there p (Some q) r = cond (place_eq p q) r None

-- the elements of a place have their ranks
abbrev pub ranks_there : State → Place → Ranking
ranks_there m p y = rank_there p (get m.place y) (get m.prank y)

both_held : (m : State) (p : Place) (xs : List Entry) → AllByRecursion (λ (x : Entry). get m.place x.id ≡ Some p) xs
    → AllByRecursion (λ (x : Entry). get m.prank x.id ≡ Some x.rank) xs → AllHeld (ranks_there m p) xs
both_held m p [] places ranks = tt
both_held m p (x ∷ xs) places ranks = (
  ap (λ o. rank_there p o (get m.prank x.id)) places.0 ∙ ap (λ b. cond b (get m.prank x.id) None) (place_equality.own p) ∙ ranks.0,
  both_held m p xs places.1 ranks.1,
)

live_ranks : (m : State) (xs : List Entry) → AllByRecursion (LiveHere m) xs → AllByRecursion (λ (x : Entry). get m.prank x.id ≡ Some x.rank) xs
live_ranks m [] all = tt
live_ranks m (x ∷ xs) all = (all.0.1, live_ranks m xs all.1)

module _ (meta : Meta) (m : State) (good : Good meta m) (p : Place) where
  pub child_ranks : AllByRecursion (λ (x : Entry). get m.prank x.id ≡ Some x.rank) (children m.place m.prank p)
  child_ranks = live_ranks m (children m.place m.prank p) (children_live meta m good p)

  children_has : (y : IdBytes) (r : ℕ) → ranks_there m p y ≡ Some r → has_id y (children m.place m.prank p) ≡ true
  children_has y r is =
      elim (get m.place y) as (λ o. get m.place y ≡ o → rank_there p o (get m.prank y) ≡ Some r → has_id y (children m.place m.prank p) ≡ true) [
        | None ↦ λ _ none. cc
        | Some q ↦ λ at there.
            any-in_order _ (λ (x : Entry). text_eq y x.id) (map (spot_of m.prank) (picked (λ e. place_eq p e.1) m.place))
            ∙ any-map (λ (x : Entry). text_eq y x.id) (spot_of m.prank) (picked (λ e. place_eq p e.1) m.place)
            ∙ picked_has id_order (λ e. place_eq p e.1) m.place (λ e. text_eq y e.0) y q at (passes (place_eq p q) there) (text_equality.own y)
      ] refl is
    where
      passes : (b : Bool) → cond b (get m.prank y) None ≡ Some r → b ≡ true
      passes true h = refl
      passes false h = cc

  pub children_tell : Tells (ranks_there m p) (children m.place m.prank p)
  children_tell = record {
    up = rises-in_order entry_order (map (spot_of m.prank) (picked (λ e. place_eq p e.1) m.place));
    once = apart_from (children m.place m.prank p) (one_child meta m good p);
    held = both_held m p (children m.place m.prank p) (children_there m p) child_ranks;
    has = children_has;
  }

-- ---- the ranks that a place gets
set_on : (e : IdBytes) (v : Option ℕ) (prank : Ranks) (xs : List Entry) → has_id e xs ≡ false
    → AllByRecursion (λ (x : Entry). get prank x.id ≡ Some x.rank) xs → AllByRecursion (λ (x : Entry). get (set prank e v) x.id ≡ Some x.rank) xs
set_on e v prank [] far held = tt
set_on e v prank (x ∷ xs) far held = (
  get-set_other id_order prank e v x.id (names_differ e x.id (or_first (text_eq e x.id) _ far)) ∙ held.0,
  set_on e v prank xs (or_second (text_eq e x.id) _ far) held.1,
)

ranked_held : (xs : List Entry) (rs : List ℕ) (prank : Ranks) → Apart xs → AllByRecursion (λ (x : Entry). get prank x.id ≡ Some x.rank) xs
    → AllByRecursion (λ (x : Entry). get (ranked_places xs rs prank) x.id ≡ Some x.rank) (reranked xs rs)
ranked_held [] rs prank once held = tt
ranked_held (x ∷ xs) [] prank once held = held
ranked_held (x ∷ xs) (r ∷ rs) prank once held =
    let next = set prank x.id (Some r) in (
      ranked_missing x.id xs rs next once.0 ∙ get-set_same id_order prank x.id (Some r),
      ranked_held xs rs next once.1 (set_on x.id (Some r) prank xs once.0 held.1),
    )

placed_still : (m n : State) (p : Place) (e : IdBytes) → ((y : IdBytes) → text_eq e y ≡ false → get n.place y ≡ get m.place y)
    → (xs : List Entry) (rs : List ℕ) → has_id e xs ≡ false → AllByRecursion (λ (x : Entry). get m.place x.id ≡ Some p) xs
    → AllByRecursion (λ (x : Entry). get n.place x.id ≡ Some p) (reranked xs rs)
placed_still m n p e alike [] rs far all = tt
placed_still m n p e alike (x ∷ xs) [] far all = (alike x.id (or_first (text_eq e x.id) _ far) ∙ all.0, whole xs (or_second (text_eq e x.id) _ far) all.1)
  where
    whole : (xs : List Entry) → has_id e xs ≡ false → AllByRecursion (λ (x : Entry). get m.place x.id ≡ Some p) xs
        → AllByRecursion (λ (x : Entry). get n.place x.id ≡ Some p) xs
    whole [] far all = tt
    whole (x ∷ xs) far all = (alike x.id (or_first (text_eq e x.id) _ far) ∙ all.0, whole xs (or_second (text_eq e x.id) _ far) all.1)
placed_still m n p e alike (x ∷ xs) (r ∷ rs) far all =
    (alike x.id (or_first (text_eq e x.id) _ far) ∙ all.0, placed_still m n p e alike xs rs (or_second (text_eq e x.id) _ far) all.1)

same_place : (x y : Place) → Some x ≡ Some y → x ≡ y
same_place x y e = cc

-- an element of the list stands in its place
found : (m : State) (p : Place) (y : IdBytes) (xs : List Entry) → AllByRecursion (λ (x : Entry). get m.place x.id ≡ Some p) xs → has_id y xs ≡ true
    → get m.place y ≡ Some p
found m p y [] all has = cc
found m p y (x ∷ xs) all has =
    elim (text_eq y x.id) as (λ b. text_eq y x.id ≡ b → b || has_id y xs ≡ true → get m.place y ≡ Some p) [
      | true ↦ λ same _. ap (get m.place) (text_equality.exact y x.id same) ∙ all.0
      | false ↦ λ _ later. found m p y xs all.1 later
    ] refl has

-- the element is put into the place, with the rank of its spot among the others there
pub record Arrives (m n : State) (p : Place) (e : IdBytes) (k r : ℕ) (others : List Entry) : Type 0 where
  pub are : without_entry e (children m.place m.prank p) ≡ others
  pub here : get n.place e ≡ Some p
  pub elsewhere : (y : IdBytes) → text_eq e y ≡ false → get n.place y ≡ get m.place y
  pub ranks : n.prank ≡ set (ranked_places others (spot others k).ranks m.prank) e (Some r)
  pub within : k ≤ length others
  pub ranked : (spot others k).rank ≡ Some r

module _ (meta : Meta) (m n : State) (good : Good meta m) (good' : Good meta n) (p : Place) (e : IdBytes) (k r : ℕ) (others : List Entry)
    (a : Arrives m n p e k r others) where
  abbrev rs : List ℕ
  rs = (spot others k).ranks

  abbrev next : Ranks
  next = ranked_places others rs m.prank

  far : has_id e others ≡ false
  far = subst (λ l. has_id e l ≡ false) a.are (none_without e (children m.place m.prank p))

  others_apart : Apart others
  others_apart = subst Apart a.are (apart_filter (λ (x : Entry). not (text_eq e x.id)) (children m.place m.prank p) (children_tell meta m good p).once)

  others_there : AllByRecursion (λ (x : Entry). get m.place x.id ≡ Some p) others
  others_there = subst (AllByRecursion (λ (x : Entry). get m.place x.id ≡ Some p)) a.are
      (all_filter (λ (x : Entry). get m.place x.id ≡ Some p) (λ (x : Entry). not (text_eq e x.id)) (children m.place m.prank p) (children_there m p))

  others_ranks : AllByRecursion (λ (x : Entry). get m.prank x.id ≡ Some x.rank) others
  others_ranks = subst (AllByRecursion (λ (x : Entry). get m.prank x.id ≡ Some x.rank)) a.are
      (all_filter (λ (x : Entry). get m.prank x.id ≡ Some x.rank) (λ (x : Entry). not (text_eq e x.id)) (children m.place m.prank p)
      (child_ranks meta m good p))

  new_ranks : AllByRecursion (λ (x : Entry). get n.prank x.id ≡ Some x.rank) (reranked others rs)
  new_ranks = subst (λ w. AllByRecursion (λ (x : Entry). get w x.id ≡ Some x.rank) (reranked others rs)) (sym a.ranks)
      (set_on e (Some r) next (reranked others rs) (has-reranked e others rs ∙ far) (ranked_held others rs m.prank others_apart others_ranks))

  rank_kept : (y : IdBytes) → text_eq e y ≡ false → has_id y others ≡ false → get n.prank y ≡ get m.prank y
  rank_kept y differ none =
      ap (λ w. get w y) a.ranks ∙ get-set_other id_order next e (Some r) y (names_differ e y differ) ∙ ranked_missing y others rs m.prank none

  pub arrives_here : StandsAt (children m.place m.prank p) (children n.place n.prank p) e k
  arrives_here = stands (ranks_there m p) (ranks_there n p) (children m.place m.prank p) (children n.place n.prank p) others e k r (record {
    old = children_tell meta m good p;
    new = children_tell meta n good' p;
    are = a.are;
    here = ap (λ o. rank_there p o (get n.prank e)) a.here ∙ ap (λ b. cond b (get n.prank e) None) (place_equality.own p) ∙ ap (λ w. get w e) a.ranks
        ∙ get-set_same id_order next e (Some r);
    held = both_held n p (reranked others rs) (placed_still m n p e a.elsewhere others rs far others_there) new_ranks;
    still = λ y differ none. ap (λ o. rank_there p o (get n.prank y)) (a.elsewhere y differ) ∙ ap (rank_there p (get m.place y)) (rank_kept y differ none);
  }) a.within a.ranked

  -- ---- another place
  module _ (q : Place) (apart : place_eq p q ≡ false) where
    turned : place_eq q p ≡ false
    turned = not_so (place_eq q p) (λ same. true_false (place_eq p q) (ap (place_eq p) (place_equality.exact q p same) ∙ place_equality.own p) apart)

    alike_at : (y : IdBytes) → text_eq e y ≡ false → (o : Option Place) → get m.place y ≡ o → rank_there q o (get n.prank y) ≡ rank_there q o (get m.prank y)
    alike_at y differ None at = refl
    alike_at y differ (Some z) at =
        elim (place_eq q z) as (λ b. place_eq q z ≡ b → cond b (get n.prank y) None ≡ cond b (get m.prank y) None) [
          | true ↦ λ same. rank_kept y differ (not_so (has_id y others) (λ among.
              let both : p ≡ z = same_place p z (sym (found m p y others others_there among) ∙ at) in
              true_false (place_eq p q) (ap (place_eq p) (place_equality.exact q z same ∙ sym both) ∙ place_equality.own p) apart))
          | false ↦ λ _. refl
        ] refl

    alike : (y : IdBytes) → text_eq e y ≡ false → ranks_there n q y ≡ ranks_there m q y
    alike y differ = ap (λ o. rank_there q o (get n.prank y)) (a.elsewhere y differ) ∙ alike_at y differ (get m.place y) refl

    held_out : (xs : List Entry) → AllHeld (ranks_there m q) xs → AllHeld (ranks_there n q) (without_entry e xs)
    held_out [] held = tt
    held_out (x ∷ xs) held =
        elim (text_eq e x.id) as (λ b. text_eq e x.id ≡ b
        → AllHeld (ranks_there n q) (cond {A = List Entry} (not b) (x ∷ without_entry e xs) (without_entry e xs))) [
          | true ↦ λ _. held_out xs held.1
          | false ↦ λ differ. (alike x.id differ ∙ held.0, held_out xs held.1)
        ] refl

    has_out : (y : IdBytes) (s : ℕ) → ranks_there n q y ≡ Some s → has_id y (without_entry e (children m.place m.prank q)) ≡ true
    has_out y s is =
        elim (text_eq e y) as (λ b. text_eq e y ≡ b → has_id y (without_entry e (children m.place m.prank q)) ≡ true) [
          | true ↦ λ same. absurd (some_none (ranks_there n q y) s is (
              ap (ranks_there n q) (sym (text_equality.exact e y same)) ∙ ap (λ o. rank_there q o (get n.prank e)) a.here
              ∙ ap (λ b. cond b (get n.prank e) None) turned))
          | false ↦ λ differ. has-without e y (children m.place m.prank q) differ ∙ (children_tell meta m good q).has y s (sym (alike y differ) ∙ is)
        ] refl

    pub arrives_others : children n.place n.prank q ≡ without_entry e (children m.place m.prank q)
    arrives_others = one_list (children n.place n.prank q) (without_entry e (children m.place m.prank q)) (ranks_there n q)
        (children_tell meta n good' q) (record {
          up = rises_filter (λ (x : Entry). not (text_eq e x.id)) (children m.place m.prank q) (children_tell meta m good q).up;
          once = apart_filter (λ (x : Entry). not (text_eq e x.id)) (children m.place m.prank q) (children_tell meta m good q).once;
          held = held_out (children m.place m.prank q) (children_tell meta m good q).held;
          has = has_out;
        })

  pub arrives : Placed m n e p k
  arrives = record { here = arrives_here; others = arrives_others }

number_le : (n k : ℕ) → nat_le n k ≡ true → n ≤ k
number_le n k h = grind (arith, nat_tests)

-- ---- create
pub create_stands : CreateStands
create_stands meta sound m good e c p may =
    let xs = children m.place m.prank p in
    let s = end_spot xs in
    let r = unwrap_or s.rank 0 in
    let so : s.rank ≡ Some r = some_of s.rank may.ranked in
    let n : State = create_after m e c p in
    let good' : Good meta n = steps_keep_good meta sound m n good (create_made m e c p) (create_meets meta sound m good e c p may) in
    let new : has_id e xs ≡ false =
    not_so (has_id e xs) (λ among. true_false (is_live m e) (placed meta m good e p (found m p e xs (children_there m p) among)).0 may.fresh) in
    arrives meta m n good good' p e (length xs) r xs (record {
      are = without_none e xs new;
      here = get-set_same id_order m.place e (Some p);
      elsewhere = λ y differ. get-set_other id_order m.place e (Some p) y (names_differ e y differ);
      ranks = ap (set (ranked_places xs s.ranks m.prank) e) so;
      within = omega arith;
      ranked = so;
    })

-- ---- move
module _ (meta : Meta) (sound : Sound meta) (m : State) (good : Good meta m) (e : IdBytes) (p : Place) (k : ℕ) (may : MayMoveWithin m e p k)
    (inside : nat_le k (length (without_entry e (children m.place m.prank p))) ≡ true) where
  abbrev rest : List Entry
  rest = without_entry e (children m.place m.prank p)

  abbrev put : State
  put = record m { prank = set (ranked_places rest (spot rest k).ranks m.prank) e (spot rest k).rank }

  stays_placed : stands_at e k (children m.place m.prank p) ≡ true → Placed m m e p k
  stays_placed at = record {
    here = stands_still e k (children m.place m.prank p) (children_tell meta m good p).once at;
    others = λ q apart. sym (without_none e (children m.place m.prank q) (not_there meta m good e p q may.stands apart));
  }

  goes_placed : stands_at e k (children m.place m.prank p) ≡ false → Good meta put → Placed m put e p k
  goes_placed away good' =
      let r = unwrap_or (spot rest k).rank 0 in
      let so : (spot rest k).rank ≡ Some r = some_of (spot rest k).rank (may.ranked away) in
      arrives meta m put good good' p e k r rest (record {
        are = refl;
        here = may.stands;
        elsewhere = λ y differ. refl;
        ranks = ap (set (ranked_places rest (spot rest k).ranks m.prank) e) so;
        within = number_le k (length rest) inside;
        ranked = so;
      })

  pub within_placed : Good meta (move_within_after m e p k) → Placed m (move_within_after m e p k) e p k
  within_placed =
      elim (stands_at e k (children m.place m.prank p)) as (λ t. stands_at e k (children m.place m.prank p) ≡ t → Good meta (cond t m put)
      → Placed m (cond t m put) e p k) [
        | true ↦ λ at _. stays_placed at
        | false ↦ λ away good'. goes_placed away good'
      ] refl

pub move_within_stands : MoveWithinStands
move_within_stands meta sound m good e p k may inside =
    within_placed meta sound m good e p k may inside
    (steps_keep_good meta sound m (move_within_after m e p k) good (move_within_made m e p k) (move_within_meets meta sound m good e p k may))

pub move_to_stands : MoveToStands
move_to_stands meta sound m good e from to k up down may inside =
    let xs = children m.place m.prank to in
    let s = spot xs k in
    let r = unwrap_or s.rank 0 in
    let so : s.rank ≡ Some r = some_of s.rank may.ranked in
    let n : State = move_to_after m e to k in
    let good' : Good meta n =
    steps_keep_good meta sound m n good (move_to_made m e from to k up down) (move_to_meets meta sound m good e from to k up down may) in
    arrives meta m n good good' to e k r xs (record {
      are = without_none e xs (not_there meta m good e from to may.stands may.elsewhere);
      here = get-set_same id_order m.place e (Some to);
      elsewhere = λ y differ. get-set_other id_order m.place e (Some to) y (names_differ e y differ);
      ranks = ap (set (ranked_places xs s.ranks m.prank) e) so;
      within = number_le k (length xs) inside;
      ranked = so;
    })
