-- Creating an element at the end of a place.
use Rattle.std.proofs.Common.{◌≡◌, ℕ, ◌+◌, ◌≤◌, Bool, true, false, cond, List, [], ◌∷◌, refl, sym, ap, subst, ◌∙◌, ◌&&◌, arith, nat_eq, map}
use Rattle.std.specs.Prelude.{Option, None, Some, is_some, unwrap_or}
use Rattle.std.specs.List.{list_any, filter, AllByRecursion}
use Rattle.std.specs.Ordering.{eq_by_cmp}
use Rattle.std.specs.FinMap.{FinMap, get, entries}
use Rattle.finite_maps.specs.Equal.{option_eq, text_eq}
use Rattle.finite_maps.specs.Maps.{set, count, counts, tally}
use Rattle.finite_maps.specs.Sorts.{picked}
use Rattle.finite_maps.proofs.MapLaws.{get-set_other, get-set_same, set_here, same_key}
use Rattle.finite_maps.proofs.CountLaws.{count-set, count_none}
use Rattle.finite_maps.proofs.SortLaws.{tally-in_order, tally-map}
use Rattle.finite_maps.proofs.EqualLaws.{apart, and_second, nat_equality, text_equality}
use Rattle.ecore_meta.specs.Meta.{Meta}
use Rattle.model_state.specs.declared.entry.Entry.{Entry}
use Rattle.model_state.specs.declared.step.Place.{Place}
use Rattle.model_state.specs.declared.step.Step.{Step}
use Rattle.model_state.specs.declared.step.Step.TheVariants.{New, RerankPlace}
use Rattle.model_state.specs.Keys.{IdBytes, id_cmp}
use Rattle.model_state.specs.State.{State, is_live, place_eq}
use Rattle.model_state.specs.Steps.{tests, Can, fold}
use Rattle.model_state.specs.Good.{Good, Sound, PlaceOk}
use Rattle.model_state.specs.Listing.{children, rank_at, entry_cmp}
use Rattle.model_state.proofs.Orders.{id_order}
use Rattle.model_state.proofs.StepTests.{pass, number_equality, place_equality}
use Rattle.finite_maps.proofs.Cases.{not_false, not_so, true_false, some_none, or_first, or_second}
use Rattle.model_laws.proofs.Runs.{undoes, fold_more, fold_append}
use Rattle.edit_steps.specs.Spot.{end_spot}
use Rattle.edit_steps.specs.Places.{Ranks, ranked_places, rerank_places}
use Rattle.edit_steps.specs.Laws.{CreateMeets}
use Rattle.edit_steps.proofs.Lists.{Apart, apart_from, all-in_order, tally-filter, entries_held}
use Rattle.edit_steps.proofs.Pairs.{some_of}

-- the elements have these ranks, and each is there once
abbrev pub Stand : State → List Entry → Type 0
Stand m [] = Unit {0}
Stand m (x ∷ xs) = (is_live m x.id ≡ true) × (get m.prank x.id ≡ Some x.rank) × (list_any (λ (y : Entry). text_eq x.id y.id) xs ≡ false) × Stand m xs

pub names_differ : (x y : IdBytes) → text_eq x y ≡ false → eq_by_cmp id_cmp y x ≡ false
names_differ x y differ =
    not_so (eq_by_cmp id_cmp y x) (λ same. true_false (text_eq x y) (ap (text_eq x) (same_key id_order y x same) ∙ text_equality.own x) differ)

stand_still : (m : State) (x : IdBytes) (v : Option ℕ) (xs : List Entry) → list_any (λ (y : Entry). text_eq x y.id) xs ≡ false → Stand m xs
    → Stand (record m { prank = set m.prank x v }) xs
stand_still m x v [] differ stand = tt
stand_still m x v (y ∷ ys) differ stand = (
  stand.0,
  get-set_other id_order m.prank x v y.id (names_differ x y.id (or_first (text_eq x y.id) _ differ)) ∙ stand.1,
  stand.2,
  stand_still m x v ys (or_second (text_eq x y.id) _ differ) stand.3,
)

place_can : (meta : Meta) (m : State) (e : IdBytes) (old new : ℕ) → is_live m e ≡ true → get m.prank e ≡ Some old → nat_eq old new ≡ false
    → Can meta m (RerankPlace e old new)
place_can meta m e old new live here differ =
    pass (tests meta m (RerankPlace e old new))
    (live, (not_false _ differ, (ap (λ o. option_eq nat_eq o (Some old)) here ∙ number_equality.own (Some old), tt)))

pub record Ranked (meta : Meta) (m : State) (ss : List Step) (prank : Ranks) : Type 0 where
  pub run : fold meta m ss ≡ Some (record m { prank = prank })
  pub good : Good meta (record m { prank = prank })

pub rerank_leads : (meta : Meta) → Sound meta → (xs : List Entry) (rs : List ℕ) (m : State) → Good meta m → Stand m xs
    → Ranked meta m (rerank_places xs rs) (ranked_places xs rs m.prank)
rerank_leads meta sound [] rs m good stand = record { run = refl; good = good }
rerank_leads meta sound (x ∷ xs) [] m good stand = record { run = refl; good = good }
rerank_leads meta sound (x ∷ xs) (r ∷ rs) m good stand =
    let next = set m.prank x.id (Some r) in
    elim (nat_eq x.rank r) as (λ b. nat_eq x.rank r ≡ b
    → Ranked meta m (cond b (rerank_places xs rs) (RerankPlace x.id x.rank r ∷ rerank_places xs rs)) (ranked_places xs rs next)) [
      | true ↦ λ equal.
          let here : next ≡ m.prank = set_here id_order m.prank x.id (Some r) (stand.1 ∙ ap Some (nat_equality.exact x.rank r equal)) in
          subst (λ prank. Ranked meta m (rerank_places xs rs) (ranked_places xs rs prank)) (sym here) (rerank_leads meta sound xs rs m good stand.3)
      | false ↦ λ differ.
          let can = place_can meta m x.id x.rank r stand.0 stand.1 differ in
          let rest = rerank_leads meta sound xs rs (record m { prank = next }) (undoes meta sound m good (RerankPlace x.id x.rank r) can).keeps
          (stand_still m x.id (Some r) xs stand.2 stand.3) in
          record { run = fold_more meta m (RerankPlace x.id x.rank r) (rerank_places xs rs) can ∙ rest.run; good = rest.good }
    ] refl

-- ---- the elements of a place
pub placed_live : (meta : Meta) (kind : FinMap id_cmp ℕ) (c : Option ℕ) (p : Place) (r : Option ℕ) → PlaceOk meta kind c (Some p) r
    → (is_some c ≡ true) × (r ≡ Some (unwrap_or r 0))
placed_live meta kind None p None ok = absurd ok
placed_live meta kind None p (Some r) ok = absurd ok
placed_live meta kind (Some c) p None ok = absurd ok
placed_live meta kind (Some c) p (Some r) ok = (refl, refl)

abbrev pub spot_of : FinMap id_cmp ℕ → IdBytes × Place → Entry
spot_of prank e = record { rank = rank_at prank e.0; id = e.0 }

-- each of a place's children stands there
module _ (m : State) (p : Place) where
  there : (es : List (IdBytes × Place)) → AllByRecursion (λ (e : IdBytes × Place). get m.place e.0 ≡ Some e.1) es
      → AllByRecursion (λ (x : Entry). get m.place x.id ≡ Some p) (map (spot_of m.prank) (filter (λ (e : IdBytes × Place). place_eq p e.1) es))
  there [] all = tt
  there (e ∷ es) all =
      elim (place_eq p e.1) as (λ b. place_eq p e.1 ≡ b
      → AllByRecursion (λ (x : Entry). get m.place x.id ≡ Some p)
      (map (spot_of m.prank)
      (cond {A = List (IdBytes × Place)} b (e ∷ filter (λ (e : IdBytes × Place). place_eq p e.1) es)
      (filter (λ (e : IdBytes × Place). place_eq p e.1) es)))) [
        | true ↦ λ is. (all.0 ∙ ap Some (sym (place_equality.exact p e.1 is)), there es all.1)
        | false ↦ λ _. there es all.1
      ] refl

  pub children_there : AllByRecursion (λ (x : Entry). get m.place x.id ≡ Some p) (children m.place m.prank p)
  children_there = all-in_order entry_cmp (λ (x : Entry). get m.place x.id ≡ Some p) _ (there (entries m.place) (entries_held id_order m.place))

abbrev pub LiveHere : State → Entry → Type 0
LiveHere m x = (is_live m x.id ≡ true) × (get m.prank x.id ≡ Some x.rank)

module _ (meta : Meta) (m : State) (good : Good meta m) (p : Place) where
  mapped : (es : List (IdBytes × Place)) → AllByRecursion (λ (e : IdBytes × Place). get m.place e.0 ≡ Some e.1) es
      → AllByRecursion (LiveHere m) (map (spot_of m.prank) (filter (λ (e : IdBytes × Place). place_eq p e.1) es))
  mapped [] all = tt
  mapped (e ∷ es) all =
      let rest = mapped es all.1 in
      let ok = placed_live meta m.kind (get m.kind e.0) e.1 (get m.prank e.0)
      (subst (λ o. PlaceOk meta m.kind (get m.kind e.0) o (get m.prank e.0)) all.0 (good.places.stands e.0)) in
      elim (place_eq p e.1) as (λ b.
      AllByRecursion (LiveHere m)
      (map (spot_of m.prank)
      (cond {A = List (IdBytes × Place)} b (e ∷ filter (λ (e : IdBytes × Place). place_eq p e.1) es)
      (filter (λ (e : IdBytes × Place). place_eq p e.1) es)))) [
        | true ↦ ((ok.0, ok.1), rest)
        | false ↦ rest
      ]

  pub children_live : AllByRecursion (LiveHere m) (children m.place m.prank p)
  children_live = all-in_order entry_cmp (LiveHere m) _ (mapped (entries m.place) (entries_held id_order m.place))

  pub one_child : (i : IdBytes) → tally (λ (x : Entry). text_eq i x.id) (children m.place m.prank p) ≤ 1
  one_child i =
      let q = λ (e : IdBytes × Place). place_eq p e.1 && text_eq i e.0 in
      let same : tally (λ (x : Entry). text_eq i x.id) (children m.place m.prank p) ≡ count q m.place =
      tally-in_order entry_cmp (λ (x : Entry). text_eq i x.id) (map (spot_of m.prank) (picked (λ e. place_eq p e.1) m.place))
      ∙ tally-map (λ (x : Entry). text_eq i x.id) (spot_of m.prank) (picked (λ e. place_eq p e.1) m.place)
      ∙ tally-filter (λ (e : IdBytes × Place). place_eq p e.1) (λ (e : IdBytes × Place). text_eq i e.0) (entries m.place) in
      let none : count q (set m.place i None) ≡ 0 = count_none id_order q (set m.place i None) (λ k v is.
      not_so (q (k, v)) (λ pass.
      some_none (get (set m.place i None) k) v is
      (ap (get (set m.place i None)) (sym (text_equality.exact i k (and_second (place_eq p v) _ pass))) ∙ get-set_same id_order m.place i None))) in
      let sum : count q (set m.place i None) + counts q i (get m.place i) ≡ count q m.place + 0 = count-set id_order q m.place i None in
      subst (λ n. n ≤ 1) (sym same) (at_most (counts q i (get m.place i)) (count q (set m.place i None)) (count q m.place) (counted (get m.place i)) none sum)
    where
      at_most : (c n t : ℕ) → c ≤ 1 → n ≡ 0 → n + c ≡ t + 0 → t ≤ 1
      at_most c n t h e s = omega arith

      one : (b : Bool) → cond b 1 0 ≤ 1
      one true = omega arith
      one false = omega arith

      counted : (o : Option Place) → counts (λ (e : IdBytes × Place). place_eq p e.1 && text_eq i e.0) i o ≤ 1
      counted None = omega arith
      counted (Some v) = one (place_eq p v && text_eq i i)

  pub stand_from : (xs : List Entry) → AllByRecursion (LiveHere m) xs → Apart xs → Stand m xs
  stand_from [] all apart = tt
  stand_from (x ∷ xs) all apart = (all.0.0, all.0.1, apart.0, stand_from xs all.1 apart.1)

  pub children_stand : Stand m (children m.place m.prank p)
  children_stand = stand_from (children m.place m.prank p) children_live (apart_from (children m.place m.prank p) one_child)

pub create_meets : CreateMeets
create_meets meta sound m good e c p may =
    let xs = children m.place m.prank p in
    let s = end_spot xs in
    let first = rerank_leads meta sound xs s.ranks m good (children_stand meta m good p) in
    let n : State = record m { prank = ranked_places xs s.ranks m.prank } in
    let last : List Step = New e c p (unwrap_or s.rank 0) ∷ [] in
    let can : Can meta n (New e c p (unwrap_or s.rank 0)) =
    pass (tests meta n (New e c p (unwrap_or s.rank 0))) (not_false _ may.fresh, (may.parent, (may.concrete, (may.typed, (may.room, tt))))) in
    fold_append meta m n (rerank_places xs s.ranks) last first.run
    ∙ fold_more meta n (New e c p (unwrap_or s.rank 0)) [] can
    ∙ ap (λ w. Some (record m { kind = set m.kind e (Some c); place = set m.place e (Some p); prank = set (ranked_places xs s.ranks m.prank) e w }))
    (sym (some_of s.rank may.ranked))
