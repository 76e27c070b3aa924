-- The elements of a document are created.
use Rattle.std.proofs.lemmas.Bool.Decides.{nat_tests}
use Rattle.std.proofs.Common.{◌≡◌, ℕ, suc, ◌+◌, ◌<◌, ◌≤◌, Bool, true, false, cond, ◌&&◌, List, [], ◌∷◌, ◌++◌, length, drop, take, refl, sym, ap}
use Rattle.std.proofs.Common.{subst, ◌∙◌, arith, nat_eq, nat_lt}
use Rattle.std.specs.Prelude.{Option, None, Some, is_some, Result, Ok, Err, if◌then◌else◌, slice_get}
use Rattle.std.specs.List.{count_by, list_any}
use Rattle.std.specs.FinMap.{get}
use Rattle.std.specs.Ordering.{eq_by_cmp}
use Rattle.finite_maps.specs.Equal.{option_eq}
use Rattle.finite_maps.specs.Maps.{count, counts, is_below, set}
use Rattle.finite_maps.proofs.Cases.{no_some}
use Rattle.finite_maps.proofs.CountLaws.{count-set, count_none}
use Rattle.finite_maps.proofs.EqualLaws.{and_both, and_first, and_second, nat_equality}
use Rattle.finite_maps.proofs.MapLaws.{get-set_other, get-set_same}
use Rattle.ecore_meta.specs.Meta.{Meta}
use Rattle.model_state.specs.declared.entry.Entry.{Entry}
use Rattle.model_state.specs.declared.step.Place.{Place}
use Rattle.model_state.specs.declared.step.Place.TheVariants.{Root, Inside}
use Rattle.model_state.specs.declared.step.Step.{Step}
use Rattle.model_state.specs.Good.{Good, Sound}
use Rattle.model_state.specs.Keys.{IdBytes, id_cmp}
use Rattle.model_state.specs.Listing.{children}
use Rattle.model_state.specs.State.{State, child_count, is_inside, is_live, place_eq}
use Rattle.model_state.specs.Steps.{class_has, fold, has_room, may_stand, place_live}
use Rattle.model_state.specs.Typing.{child_upper, contains_to, kind_of}
use Rattle.model_state.proofs.Orders.{id_order}
use Rattle.model_laws.proofs.Births.{dead_inner, dead_place}
use Rattle.model_laws.proofs.Runs.{fold_append}
use Rattle.edit_steps.specs.declared.fault.EditFault.{EditFault}
use Rattle.edit_steps.specs.declared.fault.EditFault.TheVariants.{Bound}
use Rattle.edit_steps.specs.Places.{Ranks}
use Rattle.edit_steps.proofs.Creates.{Stand, children_stand, names_differ}
use Rattle.model_documents.specs.declared.doc.DocParent.{DocParent}
use Rattle.model_documents.specs.declared.doc.DocRow.{DocRow}
use Rattle.model_documents.specs.Fits.{DocumentFits, StandsFit, standing}
use Rattle.model_documents.specs.Laws.{parents_before, parent_before}
use Rattle.model_documents.specs.Places.{parent_eq}
use Rattle.import_laws.specs.After.{Kinds, Places, kinds_from, places_from, ranks_after, ranks_from}
use Rattle.import_laws.specs.Laws.{ids_differ}
use Rattle.import_laws.specs.Names.{name_at}
use Rattle.import_laws.specs.News as news
use Rattle.import_laws.specs.News.{element_made, inside, news_from, place_of, roots_after}
use Rattle.import_laws.proofs.Indexed.{at_less, count_next, count_within, differ_at, drop_all, drop_at, drop_less, drop_next, drop_none, named}
use Rattle.import_laws.proofs.Indexed.{none_at, same_at, take_none}
use Rattle.import_laws.proofs.Standing.{Arrives, arrives, with_new}
use Rattle.import_laws.proofs.ValuesLead.{room}

abbrev pub placed : State → Kinds → Places → Ranks → State
placed m kind place prank = record m { kind = kind; place = place; prank = prank }

less_is : (a b : ℕ) → nat_lt a b ≡ true → a < b
less_is a b h = grind (arith, nat_tests)

swapped : (a b : ℕ) → nat_eq a b ≡ nat_eq b a
swapped a b =
    elim (nat_eq b a) as (λ t. nat_eq b a ≡ t → nat_eq a b ≡ t) [
      | true ↦ λ e. ap (nat_eq a) (nat_equality.exact b a e) ∙ nat_equality.own a
      | false ↦ λ e. apart_numbers a b e
    ] refl
  where
    apart_numbers : (a b : ℕ) → nat_eq b a ≡ false → nat_eq a b ≡ false
    apart_numbers a b e = grind (arith, nat_tests)

module _ (meta : Meta) (sound : Sound meta) (m : State) (names : List IdBytes) (rows : List DocRow) (fit : DocumentFits meta rows)
    (as_many : length names ≡ length rows) (differ : ids_differ names ≡ true) where
  abbrev at : ℕ → IdBytes
  at i = name_at names i

  -- the elements of the first n rows are created
  pub record Come (n : ℕ) (s : State) (xs : List Entry) : Type 0 where
    pub good : Good meta s
    pub stand : Stand s xs
    pub behind : (i : ℕ) (r : DocRow) → i < n → slice_get rows i ≡ Some r → get s.kind (name_at names i) ≡ Some r.class
    pub ahead : (i : ℕ) → n ≤ i → i < length names → is_live s (name_at names i) ≡ false
    pub stood : (p f : ℕ) → p < length names → child_count s (Inside (name_at names p) f) ≡ standing (Some (record { row = p; feature = f })) (take n rows)

  -- those of all rows are created
  pub record Led (ss : List Step) (s : State) : Type 0 where
    pub run : fold meta m ss ≡ Some s
    pub good : Good meta s
    pub kinds : (i : ℕ) (r : DocRow) → slice_get rows i ≡ Some r → get s.kind (name_at names i) ≡ Some r.class

  module _ (n : ℕ) (r : DocRow) (rest : List DocRow) (left : drop n rows ≡ r ∷ rest) where
    here : slice_get rows n ≡ Some r
    here = drop_at n rows r rest left

    within : n < length names
    within = let less = drop_less n rows r rest left in omega (arith, as_many, less)

    parent_within : (p : DocParent) → parent_before n (Some p) ≡ true → p.row < length names
    parent_within p before = let less = less_is p.row n before in let w = within in omega (arith, less, w)

    -- ---- its element may be created
    abbrev MayCome : State → ℕ → Place → Type 0
    MayCome s c p = (place_live s p ≡ true) × (may_stand meta s c p ≡ true) × (has_room meta s p ≡ true)

    inside_may : (s : State) (xs : List Entry) → Come n s xs → (c : ℕ) (p : DocParent) → r.parent ≡ Some p → parent_before n (Some p) ≡ true
        → StandsFit meta rows c (Some p) → MayCome s c (Inside (at p.row) p.feature)
    inside_may s xs come c p is before fits =
        let less = less_is p.row n before in
        let kind : get s.kind (at p.row) ≡ Some fits.0.class = come.behind p.row fits.0 less fits.1 in
        let mine : count_by (λ (q : DocRow). option_eq parent_eq q.parent (Some p)) (r ∷ []) ≡ 1 =
        counted (option_eq parent_eq r.parent (Some p)) (ap (λ o. option_eq parent_eq o (Some p)) is ∙ own p) in
        let more = count_within (λ (q : DocRow). option_eq parent_eq q.parent (Some p)) n rows r rest left in
        let space : standing (Some p) (take n rows) + 1 ≤ standing (Some p) rows = omega (arith, mine, more) in (
          ap is_some kind,
          and_both _ (contains_to meta (kind_of meta p.feature) c) (ap (λ o. class_has meta o p.feature) kind ∙ fits.2) fits.3,
          ap (λ k. is_below k (child_upper meta p.feature)) (come.stood p.row p.feature (parent_within p before))
              ∙ room (standing (Some p) (take n rows)) (standing (Some p) rows) (child_upper meta p.feature) space (fit.bound p),
        )
      where
        own : (p : DocParent) → parent_eq p p ≡ true
        own p = and_both _ _ (nat_equality.own p.row) (nat_equality.own p.feature)

        counted : (b : Bool) → b ≡ true → 0 + cond b 1 0 ≡ 1
        counted b h = ap (λ t. 0 + cond t 1 0) h

    may_come : (s : State) (xs : List Entry) → Come n s xs → (c : ℕ) (o : Option DocParent) → r.parent ≡ o → parent_before n o ≡ true
        → StandsFit meta rows c o → MayCome s c (place_of names o)
    may_come s xs come c None is before fits = (refl, refl, refl)
    may_come s xs come c (Some p) is before fits =
        subst (λ x. MayCome s c (inside x p.feature)) (sym (named names p.row (parent_within p before))) (inside_may s xs come c p is before fits)

    -- ---- how many stand in a place then
    place_same : (o : Option DocParent) → parent_before n o ≡ true → (p f : ℕ) → p < length names
        → place_eq (Inside (at p) f) (place_of names o) ≡ option_eq parent_eq o (Some (record { row = p; feature = f }))
    place_same None before p f small = refl
    place_same (Some q) before p f small =
        ap (λ x. place_eq (Inside (at p) f) (inside x q.feature)) (named names q.row (parent_within q before))
        ∙ ap (λ b. b && nat_eq f q.feature) (same_at names differ p q.row small (parent_within q before) ∙ swapped p q.row)
        ∙ ap (λ b. nat_eq q.row p && b) (swapped f q.feature)

    stood_next : (s : State) (xs : List Entry) → Come n s xs → parent_before n r.parent ≡ true → (prank : Ranks) (p f : ℕ) → p < length names
        → child_count (with_new s (at n) r.class (place_of names r.parent) prank) (Inside (at p) f) ≡ standing
        (Some (record { row = p; feature = f })) (take (suc n) rows)
    stood_next s xs come before prank p f small =
        let e = at n in
        let to = place_of names r.parent in
        let test = λ (x : IdBytes × Place). place_eq (Inside (at p) f) x.1 in
        let parent : DocParent = record { row = p; feature = f } in
        let sum : count test (set s.place e (Some to)) + counts test e (get s.place e) ≡ count test s.place + counts test e (Some to) =
        count-set id_order test s.place e (Some to) in
        let none : counts test e (get s.place e) ≡ 0 = ap (counts test e) (dead_place meta s come.good e (no_some _ (come.ahead n (itself n) within))).0 in
        let one : counts test e (Some to) ≡ cond (option_eq parent_eq r.parent (Some parent)) 1 0 =
        ap (λ b. cond b 1 0) (place_same r.parent before p f small) in
        let old : count test s.place ≡ standing (Some parent) (take n rows) = come.stood p f small in
        let next : standing (Some parent) (take (suc n) rows) ≡ standing (Some parent)
        (take n rows) + (0 + cond (option_eq parent_eq r.parent (Some parent)) 1 0) =
        count_next (λ (q : DocRow). option_eq parent_eq q.parent (Some parent)) n rows r rest left in
        added _ _ _ _ _ _ _ sum none one old next
      where
        itself : (n : ℕ) → n ≤ n
        itself n = omega arith

        added : (new none was one k k' b : ℕ) → new + none ≡ was + one → none ≡ 0 → one ≡ b → was ≡ k → k' ≡ k + (0 + b) → new ≡ k'
        added new none was one k k' b h g i j l = omega arith

    -- ---- its element is created
    come_next : (s : State) (xs : List Entry) → Come n s xs → parent_before n r.parent ≡ true → (k : ℕ) → news.has_room xs (place_of names r.parent) ≡ true
        → Arrives meta s (element_made xs (place_of names r.parent) (at n) r.class k)
        (with_new s (at n) r.class (place_of names r.parent) (ranks_after xs (place_of names r.parent) (at n) k s.prank))
        (roots_after xs (place_of names r.parent) (at n))
        × Come (suc n) (with_new s (at n) r.class (place_of names r.parent) (ranks_after xs (place_of names r.parent) (at n) k s.prank))
        (roots_after xs (place_of names r.parent) (at n))
    come_next s xs come before k end =
        let row = fit.each n r here in
        let e = at n in
        let to = place_of names r.parent in
        let may = may_come s xs come r.class r.parent refl before row.stands in
        let dead : is_live s e ≡ false = come.ahead n (itself n) within in
        let arrived = arrives meta sound s come.good xs come.stand e r.class dead row.concrete to k may.0 may.1 may.2 end in (
          arrived,
          record {
            good = arrived.good;
            stand = arrived.stand;
            behind = λ i q less is. elim (nat_eq i n) as (λ b. nat_eq i n ≡ b → get (set s.kind e (Some r.class)) (at i) ≡ Some q.class) [
              | true ↦ λ same.
                  let now : i ≡ n = nat_equality.exact i n same in
                  ap (λ j. get (set s.kind e (Some r.class)) (at j)) now ∙ get-set_same id_order s.kind e (Some r.class)
                  ∙ same_class q (sym is ∙ ap (slice_get rows) now ∙ here)
              | false ↦ λ other.
                  let less' : i < n = earlier i n other less in
                  get-set_other id_order s.kind e (Some r.class) (at i) (other_name i (λ same. not_self i n less' same) (small i n less' within))
                  ∙ come.behind i q less' is
            ] refl;
            ahead = λ i later small.
                ap is_some (get-set_other id_order s.kind e (Some r.class) (at i) (other_name i (λ same. not_next i n later same) small))
                ∙ come.ahead i (from_next i n later) small;
            stood = stood_next s xs come before (ranks_after xs to e k s.prank);
          },
        )
      where
        itself : (n : ℕ) → n ≤ n
        itself n = omega arith

        same_class : (q : DocRow) → ◌≡◌ {A = Option DocRow} (Some q) (Some r) → ◌≡◌ {A = Option ℕ} (Some r.class) (Some q.class)
        same_class q is = cc

        other_name : (i : ℕ) → (i ≡ n → ⊥) → i < length names → eq_by_cmp id_cmp (at i) (at n) ≡ false
        other_name i other small = names_differ (at n) (at i) (differ_at names differ n i within small (λ same. other (sym same)))

        earlier : (i n : ℕ) → nat_eq i n ≡ false → i < suc n → i < n
        earlier i n other less = grind (arith, nat_tests)

        not_self : (i n : ℕ) → i < n → i ≡ n → ⊥
        not_self i n less same = omega arith

        small : (i n : ℕ) → i < n → n < length names → i < length names
        small i n less more = omega arith

        not_next : (i n : ℕ) → suc n ≤ i → i ≡ n → ⊥
        not_next i n later same = omega arith

        from_next : (i n : ℕ) → suc n ≤ i → n ≤ i
        from_next i n later = omega arith

  news_lead : (rest : List DocRow) (n : ℕ) (kind : Kinds) (place : Places) (prank : Ranks) (xs : List Entry) (steps ss : List Step)
      → drop n rows ≡ rest → parents_before n rest ≡ true → Come n (placed m kind place prank) xs
      → fold meta m steps ≡ Some (placed m kind place prank) → news_from names rows steps n xs rest ≡ Ok ss
      → Led ss (placed m (kinds_from names n kind rest) (places_from names n place rest) (ranks_from names rows n xs prank rest))
  news_lead [] n kind place prank xs steps ss left before come run made = record {
    run = ap (fold meta m) (sym (same_steps steps ss made)) ∙ run;
    good = come.good;
    kinds = λ i r is. come.behind i r (all i r is) is;
  }
    where
      same_steps : (steps ss : List Step) → ◌≡◌ {A = Result (List Step) EditFault} (Ok steps) (Ok ss) → steps ≡ ss
      same_steps steps ss h = cc

      all : (i : ℕ) (r : DocRow) → slice_get rows i ≡ Some r → i < n
      all i r is = let less = at_less rows i r is in let most = drop_all n rows left in omega (arith, less, most)
  news_lead (r ∷ rest) n kind place prank xs steps ss left before come run made =
      let s = placed m kind place prank in
      let e = at n in
      let to = place_of names r.parent in
      let k = standing r.parent (take n rows) in
      let ss' = steps ++ element_made xs to e r.class k in
      elim (news.has_room xs to) as (λ b. news.has_room xs to ≡ b
      → (if b then news_from names rows ss' (suc n) (roots_after xs to e) rest else Err Bound) ≡ Ok ss
      → Led ss (placed m (kinds_from names (suc n) (set kind e (Some r.class)) rest) (places_from names (suc n) (set place e (Some to)) rest)
      (ranks_from names rows (suc n) (roots_after xs to e) (ranks_after xs to e k prank) rest))) [
        | true ↦ λ end made.
            let next = come_next n r rest left s xs come (and_first _ _ before) k end in
            news_lead rest (suc n) (set kind e (Some r.class)) (set place e (Some to)) (ranks_after xs to e k prank) (roots_after xs to e) ss' ss
            (drop_next n rows r rest left) (and_second (parent_before n r.parent) _ before) next.1
            (fold_append meta m s steps (element_made xs to e r.class k) run ∙ next.0.run) made
        | false ↦ λ end made. cc
      ] refl made

  -- no element of the document is live
  module _ (good : Good meta m) (dead : list_any (is_live m) names ≡ false) where
    none_inside : (p f : ℕ) → p < length names → child_count m (Inside (at p) f) ≡ 0
    none_inside p f small =
        count_none id_order (λ (x : IdBytes × Place). place_eq (Inside (at p) f) x.1) m.place (λ q v is.
        outside v (dead_inner meta m good (at p) (no_some _ (none_at (is_live m) names p dead small)) q v is))
      where
        outside : (v : Place) → is_inside (at p) v ≡ false → place_eq (Inside (at p) f) v ≡ false
        outside Root out = refl
        outside (Inside b g) out = ap (λ t. t && nat_eq f g) out

    come_none : Come 0 m (children m.place m.prank Root)
    come_none = record {
      good = good;
      stand = children_stand meta m good Root;
      behind = λ i r less is. absurd (none i less);
      ahead = λ i later small. none_at (is_live m) names i dead small;
      stood = λ p f small. none_inside p f small ∙ sym (ap (standing (Some (record { row = p; feature = f }))) (take_none rows));
    }
      where
        none : (i : ℕ) → i < 0 → ⊥
        none i less = omega arith

    pub news_led : (ss : List Step) → news.news_made (children m.place m.prank Root) names rows ≡ Ok ss
        → Led ss (placed m (kinds_from names 0 m.kind rows) (places_from names 0 m.place rows)
        (ranks_from names rows 0 (children m.place m.prank Root) m.prank rows))
    news_led ss made = news_lead rows 0 m.kind m.place m.prank (children m.place m.prank Root) [] ss (drop_none rows) fit.parents come_none refl made
