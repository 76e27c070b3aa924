-- The names of rows that describe a model. No two are the same, each element has one, and they stand in the order of the lists.
use Rattle.std.proofs.Common.{◌≡◌, ◌∙◌, ℕ, zero, suc, ◌+◌, ◌<◌, ◌≤◌, Bool, true, false, cond, ◌&&◌, not, List, [], ◌∷◌, ◌++◌, drop, length, take}
use Rattle.std.proofs.Common.{nat_eq, refl, sym, ap, arith}
use Rattle.std.specs.Prelude.{Option, None, Some, is_some, slice_get}
use Rattle.std.specs.List.{count_by, list_any}
use Rattle.std.specs.FinMap.{get}
use Rattle.std.proofs.lemmas.List.Sums.{sum_by-cons}
use Rattle.finite_maps.specs.Equal.{option_eq, text_eq}
use Rattle.finite_maps.specs.Maps.{tally}
use Rattle.finite_maps.proofs.Cases.{not_false, or_first, or_second}
use Rattle.finite_maps.proofs.EqualLaws.{and_both, text_equality}
use Rattle.ecore_meta.specs.Meta.{Meta}
use Rattle.model_state.specs.declared.entry.Entry.{Entry}
use Rattle.model_state.specs.declared.step.Place.{Place}
use Rattle.model_state.specs.declared.step.Place.TheVariants.{Root, Inside}
use Rattle.model_state.specs.Good.{Good, PlaceOk}
use Rattle.model_state.specs.Keys.{IdBytes}
use Rattle.model_state.specs.Listing.{children, entry_cmp, rank_at}
use Rattle.model_state.specs.State.{State, is_live, place_eq}
use Rattle.model_state.proofs.Orders.{id_order}
use Rattle.model_state.proofs.StepTests.{place_equality}
use Rattle.model_laws.proofs.Inserts.{or_none}
use Rattle.edit_steps.proofs.Lists.{any-in_order, any-map, picked_has}
use Rattle.model_documents.specs.declared.doc.DocParent.{DocParent}
use Rattle.model_documents.specs.declared.doc.DocRow.{DocRow}
use Rattle.model_documents.specs.Fits.{DocumentFits, StandsFit, standing}
use Rattle.model_documents.specs.Laws.{gives_id, ids_repeat, is_given}
use Rattle.model_documents.specs.Places.{parent_eq}
use Rattle.model_texts.specs.Tree.{child_ids}
use Rattle.import_laws.specs.Laws.{ids_differ}
use Rattle.import_laws.specs.Names.{name_at}
use Rattle.import_laws.specs.News.{inside, place_of}
use Rattle.import_laws.proofs.Indexed.{at_less, drop_at, drop_next, drop_none, named, same_at, take_next}
use Rattle.round_trip.specs.Describes.{Describes, standing_in}
use Rattle.round_trip.proofs.ListsInOrder.{any_id, any_index}

-- ---- no two names are the same
-- a name that none of the rows gives is none of theirs
none_gives : (e : IdBytes) (rest : List DocRow) (es : List IdBytes) → length es ≡ length rest
    → ((n : ℕ) (r : DocRow) (x : IdBytes) → slice_get rest n ≡ Some r → slice_get es n ≡ Some x → r.id ≡ Some x) → list_any (gives_id e) rest ≡ false
    → list_any (text_eq e) es ≡ false
none_gives e rest [] many each h = refl
none_gives e [] (x ∷ es) many each h = absurd (omega (arith, many))
none_gives e (r ∷ rest) (x ∷ es) many each h =
    or_none (text_eq e x) _ (sym (ap (option_eq text_eq (Some e)) (each 0 r x refl refl)) ∙ or_first (gives_id e r) _ h)
    (none_gives e rest es (omega (arith, many)) (λ n. each (suc n)) (or_second (gives_id e r) _ h))

names_differ : (rest : List DocRow) (es : List IdBytes) → length es ≡ length rest
    → ((n : ℕ) (r : DocRow) (x : IdBytes) → slice_get rest n ≡ Some r → slice_get es n ≡ Some x → r.id ≡ Some x) → ids_repeat rest ≡ false
    → ids_differ es ≡ true
names_differ rest [] many each h = refl
names_differ [] (x ∷ es) many each h = absurd (omega (arith, many))
names_differ (r ∷ rest) (x ∷ es) many each h =
    and_both (not (list_any (text_eq x) es)) (ids_differ es)
    (not_false _ (none_gives x rest es (omega (arith, many)) (λ n. each (suc n))
    (ap (λ o. is_given o rest) (sym (each 0 r x refl refl)) ∙ or_first (is_given r.id rest) _ h)))
    (names_differ rest es (omega (arith, many)) (λ n. each (suc n)) (or_second (is_given r.id rest) _ h))

-- ---- how many pass
pub tally_append : {X : Type 0} (p : X → Bool) (xs ys : List X) → tally p (xs ++ ys) ≡ tally p xs + tally p ys
tally_append p [] ys = omega arith
tally_append p (x ∷ xs) ys = let rest = tally_append p xs ys in omega (arith, rest)

tally_first : {X : Type 0} (p : X → Bool) (n : ℕ) (xs : List X) → tally p (take n xs) ≤ n
tally_first p zero [] = omega arith
tally_first p zero (x ∷ xs) = omega arith
tally_first p (suc n) [] = omega arith
tally_first p (suc n) (x ∷ xs) = let rest = tally_first p n xs in one (p x) (tally p (take n xs)) n rest
  where
    one : (b : Bool) (k n : ℕ) → k ≤ n → cond b 1 0 + k ≤ suc n
    one true k n h = omega arith
    one false k n h = omega arith

counted : {X : Type 0} (p q : X → Bool) (xs : List X) → ((j : ℕ) (x : X) → slice_get xs j ≡ Some x → p x ≡ q x) → count_by p xs ≡ tally q xs
counted p q [] same = refl
counted p q (x ∷ xs) same = sum_by-cons (λ x. cond (p x) 1 0) x xs ∙ (λ i. cond (same 0 x refl i) 1 0 + counted p q xs (λ j. same (suc j)) i)

take_in : {X : Type 0} (n : ℕ) (xs : List X) (j : ℕ) (x : X) → slice_get (take n xs) j ≡ Some x → slice_get xs j ≡ Some x
take_in zero [] j x is = is
take_in zero (y ∷ ys) j x is = cc
take_in (suc n) [] j x is = is
take_in (suc n) (y ∷ ys) zero x is = is
take_in (suc n) (y ∷ ys) (suc j) x is = take_in n ys j x is

-- ---- the rows by their places
module _ (names : List IdBytes) (rows : List DocRow) where
  -- how many of the first n rows stand in a place
  abbrev pub before : Place → ℕ → ℕ
  before p n = tally (λ (r : DocRow). place_eq (place_of names r.parent) p) (take n rows)

  pub before_next : (p : Place) (n : ℕ) (r : DocRow) (rest : List DocRow) → drop n rows ≡ r ∷ rest → (b : Bool)
      → place_eq (place_of names r.parent) p ≡ b → before p (suc n) ≡ before p n + cond b 1 0
  before_next p n r rest left b is =
      ap (tally (λ (r : DocRow). place_eq (place_of names r.parent) p)) (take_next n rows r rest left)
      ∙ tally_append (λ (r : DocRow). place_eq (place_of names r.parent) p) (take n rows) (r ∷ [])
      ∙ ap (λ c. before p n + (cond c 1 0 + 0)) is
      ∙ ap (λ k. before p n + k) (last (cond b 1 0))
    where
      last : (k : ℕ) → k + 0 ≡ k
      last k = omega arith

  pub before_few : (p : Place) (n : ℕ) → before p n ≤ n
  before_few p n = tally_first (λ (r : DocRow). place_eq (place_of names r.parent) p) n rows

  -- a name is that of a row in the place, after k others there
  pub record StandsAs (p : Place) (k : ℕ) (x : IdBytes) : Type 0 where
    pub row : ℕ
    pub r : DocRow
    pub is_row : slice_get rows row ≡ Some r
    pub named : x ≡ name_at names row
    pub there : place_of names r.parent ≡ p
    pub behind : before p row ≡ k

  stands_first : (p : Place) (r : DocRow) (rest : List DocRow) (n : ℕ) → drop n rows ≡ r ∷ rest → place_eq (place_of names r.parent) p ≡ true
      → ((j : ℕ) (x : IdBytes) → slice_get (standing_in names p (suc n) rest) j ≡ Some x → (k : ℕ) → k ≡ before p (suc n) + j → StandsAs p k x)
      → (j : ℕ) (x : IdBytes) → slice_get (name_at names n ∷ standing_in names p (suc n) rest) j ≡ Some x → (k : ℕ) → k ≡ before p n + j → StandsAs p k x
  stands_first p r rest n left here later zero x is k at = record {
    row = n;
    r = r;
    is_row = drop_at n rows r rest left;
    named = same_name x (name_at names n) is;
    there = place_equality.exact (place_of names r.parent) p here;
    behind = sym (at ∙ none (before p n));
  }
    where
      same_name : (x y : IdBytes) → ◌≡◌ {A = Option IdBytes} (Some y) (Some x) → x ≡ y
      same_name x y is = cc

      none : (k : ℕ) → k + 0 ≡ k
      none k = omega arith
  stands_first p r rest n left here later (suc j) x is k at =
      later j x is k (next k (before p n) (before p (suc n)) j at (before_next p n r rest left true here))
    where
      next : (k b c j : ℕ) → k ≡ b + suc j → c ≡ b + 1 → k ≡ c + j
      next k b c j h g = omega arith

  pub stands_as : (p : Place) (rest : List DocRow) (n : ℕ) → drop n rows ≡ rest → (j : ℕ) (x : IdBytes)
      → slice_get (standing_in names p n rest) j ≡ Some x → (k : ℕ) → k ≡ before p n + j → StandsAs p k x
  stands_as p [] n left j x is k at = cc
  stands_as p (r ∷ rest) n left j x is k at =
      elim (place_eq (place_of names r.parent) p) as (λ b. place_eq (place_of names r.parent) p ≡ b
      → slice_get (cond b (name_at names n ∷ standing_in names p (suc n) rest) (standing_in names p (suc n) rest)) j ≡ Some x → StandsAs p k x) [
        | true ↦ λ here is. stands_first p r rest n left here (stands_as p rest (suc n) (drop_next n rows r rest left)) j x is k at
        | false ↦ λ other is. stands_as p rest (suc n) (drop_next n rows r rest left) j x is k
            (next k (before p n) (before p (suc n)) j at (before_next p n r rest left false other))
      ] refl is
    where
      next : (k b c j : ℕ) → k ≡ b + j → c ≡ b + 0 → k ≡ c + j
      next k b c j h g = omega arith

-- ---- rows that fit stand in one place where they have one parent
module _ (names : List IdBytes) (differ : ids_differ names ≡ true) where
  -- the parent is the root or one of the rows
  abbrev InRange : Option DocParent → Type 0
  InRange None = Unit {0}
  InRange (Some p) = p.row < length names

  same_parents : (a b : Option DocParent) → InRange a → InRange b → option_eq parent_eq a b ≡ place_eq (place_of names a) (place_of names b)
  same_parents None None g h = refl
  same_parents None (Some q) g h = sym (ap (λ o. place_eq Root (inside o q.feature)) (named names q.row h))
  same_parents (Some p) None g h = sym (ap (λ o. place_eq (inside o p.feature) Root) (named names p.row g))
  same_parents (Some p) (Some q) g h =
      sym (ap (λ o. place_eq (inside o p.feature) (place_of names (Some q))) (named names p.row g)
      ∙ ap (λ o. place_eq (Inside (name_at names p.row) p.feature) (inside o q.feature)) (named names q.row h)
      ∙ ap (λ b. b && nat_eq p.feature q.feature) (same_at names differ p.row q.row g h))

  module _ (meta : Meta) (rows : List DocRow) (fit : DocumentFits meta rows) (as_many : length names ≡ length rows) where
    in_range : (c : ℕ) (o : Option DocParent) → StandsFit meta rows c o → InRange o
    in_range c None stands = tt
    in_range c (Some p) stands = let less = at_less rows p.row stands.0 stands.1 in omega (arith, less, as_many)

    row_in_range : (i : ℕ) (r : DocRow) → slice_get rows i ≡ Some r → InRange r.parent
    row_in_range i r is = in_range r.class r.parent (fit.each i r is).stands

    pub standing_before : (n : ℕ) (i : ℕ) (r : DocRow) → slice_get rows i ≡ Some r
        → standing r.parent (take n rows) ≡ before names rows (place_of names r.parent) n
    standing_before n i r is =
        counted (λ (x : DocRow). option_eq parent_eq x.parent r.parent) (λ (x : DocRow). place_eq (place_of names x.parent) (place_of names r.parent))
        (take n rows)
        (λ j x at. same_parents x.parent r.parent (row_in_range j x (take_in n rows j x at)) (row_in_range i r is))

-- ---- each row describes its element, and each element has a row
-- a row has the name
pub record HasRow (names : List IdBytes) (rows : List DocRow) (e : IdBytes) : Type 0 where
  pub row : ℕ
  pub r : DocRow
  pub is_row : slice_get rows row ≡ Some r
  pub named : e ≡ name_at names row

module _ (m : State) (names : List IdBytes) (rows : List DocRow) (tells : Describes m names rows) where
  pub names_apart : ids_repeat rows ≡ false → ids_differ names ≡ true
  names_apart apart = names_differ rows names tells.as_many (λ n r x is at. (tells.each n r x is at).id) apart

  pub child_at : (e : IdBytes) (p : Place) → get m.place e ≡ Some p → (j : ℕ) × (slice_get (child_ids m p) j ≡ Some e)
  child_at e p is =
      any_index e (child_ids m p)
      (sym (any_id e (children m.place m.prank p))
      ∙ any-in_order entry_cmp (λ (x : Entry). text_eq e x.id) _
      ∙ any-map (λ (x : Entry). text_eq e x.id) (λ (s : IdBytes × Place). record { rank = rank_at m.prank s.0; id = s.0 }) _
      ∙ picked_has id_order (λ (s : IdBytes × Place). place_eq p s.1) m.place (λ (s : IdBytes × Place). text_eq e s.0) e p is (place_equality.own p)
      (text_equality.own e))

  pub child_stands : (p : Place) (j : ℕ) (e : IdBytes) → slice_get (child_ids m p) j ≡ Some e → StandsAs names rows p j e
  child_stands p j e is =
      stands_as names rows p rows 0 (drop_none rows) j e (ap (λ xs. slice_get xs j) (tells.lists p) ∙ is) j
      (none (before names rows p 0) j (before_few names rows p 0))
    where
      none : (b j : ℕ) → b ≤ 0 → j ≡ b + j
      none b j h = omega arith

  placed_row : (e : IdBytes) (p : Place) → get m.place e ≡ Some p → HasRow names rows e
  placed_row e p is =
      let child = child_at e p is in
      let stands = child_stands p child.0 e child.1 in
      record { row = stands.row; r = stands.r; is_row = stands.is_row; named = stands.named }

  pub live_row : (meta : Meta) → Good meta m → (e : IdBytes) → is_live m e ≡ true → HasRow names rows e
  live_row meta good e live = by_place (get m.kind e) (get m.place e) (get m.prank e) refl (good.places.stands e) live
    where
      by_place : (c : Option ℕ) (o : Option Place) (r : Option ℕ) → get m.place e ≡ o → PlaceOk meta m.kind c o r → is_some c ≡ true → HasRow names rows e
      by_place None o r is ok live = cc
      by_place (Some c) None r is ok live = absurd ok
      by_place (Some c) (Some p) r is ok live = placed_row e p is
