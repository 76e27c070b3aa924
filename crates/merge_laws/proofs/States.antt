-- The three-way merge of states: by cells, of one outcome, and without loss.
use Rattle.std.proofs.Common.{◌≡◌, ◌≢◌, ◌⊎◌, inl, inr, ℕ, suc, Bool, true, false, cond, List, [], ◌∷◌, refl, sym, ap, ◌∙◌}
use Rattle.std.specs.Prelude.{Option, None, Some}
use Rattle.std.specs.FinMap.{FinMap, get}
use Rattle.finite_maps.proofs.MapLaws.{same}
use Rattle.ecore_meta.specs.Meta.{Meta}
use Rattle.ecore_meta.specs.declared.meta.Value.{Value}
use Rattle.model_state.specs.Keys.{IdBytes, AttrKey, RowKey, id_cmp}
use Rattle.model_state.specs.Good.{Good, PlaceOk, AttrOk, RowOk}
use Rattle.model_state.specs.declared.step.Place.{Place}
use Rattle.model_state.specs.State.{State}
use Rattle.model_state.specs.declared.operation.Operation.{Operation}
use Rattle.model_state.proofs.Orders.{id_order, attr_order, row_order}
use Rattle.model_laws.specs.Cells.{Cell, OfKind, OfPlace, OfRank, OfAttr, OfRow, OfWhole, About, is_bounded, side, Agree}
use Rattle.footprint.specs.Same.{IsCell}
use Rattle.merge_laws.specs.Merge.{dropped}
use Rattle.merge_laws.specs.ThreeWay.{Takes, TakesAt, TakesEither, IsThreeWay, IsOfEither, Keeps, SameElement}
use Rattle.merge_laws.specs.ThreeWayLaws.{ThreeWayIsOne, NoChangeIsLost, NoElementIsLost}

-- ---- what states have in common at a cell
pub agree_turn : (meta : Meta) (m n : State) (c : Cell) → Agree meta m n c → Agree meta n m c
agree_turn meta m n (OfKind e) h = sym h
agree_turn meta m n (OfPlace e) h = sym h
agree_turn meta m n (OfRank e) h = sym h
agree_turn meta m n (OfAttr e f) h = sym h
agree_turn meta m n (OfRow a f b) h = λ is. sym (h is)
agree_turn meta m n (OfWhole a f) h = (λ is b. sym (h.0 is b), λ is x. sym (h.1 is x))
agree_turn meta m n (About e) h = (λ f. sym (h.0 f), λ f b. sym (h.1 f b), λ a f. sym (h.2 a f), λ x. sym (h.3 x))

pub agree_join : (meta : Meta) (m n k : State) (c : Cell) → Agree meta m n c → Agree meta n k c → Agree meta m k c
agree_join meta m n k (OfKind e) g h = g ∙ h
agree_join meta m n k (OfPlace e) g h = g ∙ h
agree_join meta m n k (OfRank e) g h = g ∙ h
agree_join meta m n k (OfAttr e f) g h = g ∙ h
agree_join meta m n k (OfRow a f b) g h = λ is. g is ∙ h is
agree_join meta m n k (OfWhole a f) g h = (λ is b. g.0 is b ∙ h.0 is b, λ is x. g.1 is x ∙ h.1 is x)
agree_join meta m n k (About e) g h = (λ f. g.0 f ∙ h.0 f, λ f b. g.1 f b ∙ h.1 f b, λ a f. g.2 a f ∙ h.2 a f, λ x. g.3 x ∙ h.3 x)

-- the cell of a row
side_is : (meta : Meta) (a : IdBytes) (f : ℕ) (b : IdBytes) → IsCell (side meta a f b)
side_is meta a f b =
    elim (is_bounded meta f) as (λ t. IsCell (elim t as (λ _. Cell) [ true ↦ OfWhole a f | false ↦ OfRow a f b ])) [ true ↦ tt | false ↦ tt ]

side_row : (meta : Meta) (a : IdBytes) (f : ℕ) (b : IdBytes) (m n : State) → Agree meta m n (side meta a f b) → get m.row (a, f, b) ≡ get n.row (a, f, b)
side_row meta a f b m n =
    elim (is_bounded meta f) as (λ t. is_bounded meta f ≡ t → Agree meta m n (elim t as (λ _. Cell) [ true ↦ OfWhole a f | false ↦ OfRow a f b ])
    → get m.row (a, f, b) ≡ get n.row (a, f, b)) [
      | true ↦ λ is h. h.0 is b
      | false ↦ λ is h. h is
    ] refl

-- ---- from cells to entries
takes_of : {A : Type 0} (meta : Meta) (base theirs mine merged : State) (c : Cell) (view : State → A)
    → ((m n : State) → Agree meta m n c → view m ≡ view n) → TakesAt meta base theirs mine merged c
    → Takes (view base) (view theirs) (view mine) (view merged)
takes_of meta base theirs mine merged c view see (inl h) = inl (sym (see base theirs h.0), sym (see mine merged h.1))
takes_of meta base theirs mine merged c view see (inr h) = inr (sym (see base mine h.0), sym (see theirs merged h.1))

pub by_cells : (meta : Meta) (base theirs mine merged : State) → ((c : Cell) → IsCell c → TakesAt meta base theirs mine merged c)
    → IsThreeWay base theirs mine merged
by_cells meta base theirs mine merged h = record {
  kind = λ e. takes_of meta base theirs mine merged (OfKind e) (λ m. get m.kind e) (λ m n a. a) (h (OfKind e) tt);
  place = λ e. takes_of meta base theirs mine merged (OfPlace e) (λ m. get m.place e) (λ m n a. a) (h (OfPlace e) tt);
  rank = λ e. takes_of meta base theirs mine merged (OfRank e) (λ m. get m.prank e) (λ m n a. a) (h (OfRank e) tt);
  attr = λ e f. takes_of meta base theirs mine merged (OfAttr e f) (λ m. get m.attr (e, f)) (λ m n a. a) (h (OfAttr e f) tt);
  row = λ a f b. takes_of meta base theirs mine merged (side meta a f b) (λ m. get m.row (a, f, b)) (side_row meta a f b)
      (h (side meta a f b) (side_is meta a f b));
}

-- the sides as they have become since, at a cell where they have not changed
pub takes_on : (meta : Meta) (base theirs mine head work merged : State) (c : Cell) → Agree meta theirs head c → Agree meta mine work c
    → TakesAt meta base theirs mine merged c → TakesAt meta base head work merged c
takes_on meta base theirs mine head work merged c t m (inl h) =
    inl (agree_join meta base theirs head c h.0 t, agree_join meta work mine merged c (agree_turn meta mine work c m) h.1)
takes_on meta base theirs mine head work merged c t m (inr h) =
    inr (agree_join meta base mine work c h.0 m, agree_join meta head theirs merged c (agree_turn meta theirs head c t) h.1)

-- at each cell as one of the two sides, so at each entry
abbrev pub AgreesEither : Meta → State → State → State → Cell → Type 0
AgreesEither meta theirs mine merged c = Agree meta theirs merged c ⊎ Agree meta mine merged c

pub of_takes : (meta : Meta) (base theirs mine merged : State) (c : Cell) → TakesAt meta base theirs mine merged c → AgreesEither meta theirs mine merged c
of_takes meta base theirs mine merged c (inl h) = inr h.1
of_takes meta base theirs mine merged c (inr h) = inl h.1

either_of : {A : Type 0} (meta : Meta) (theirs mine merged : State) (c : Cell) (view : State → A) → ((m n : State) → Agree meta m n c → view m ≡ view n)
    → AgreesEither meta theirs mine merged c → TakesEither (view theirs) (view mine) (view merged)
either_of meta theirs mine merged c view see (inl h) = inl (sym (see theirs merged h))
either_of meta theirs mine merged c view see (inr h) = inr (sym (see mine merged h))

pub either_by_cells : (meta : Meta) (theirs mine merged : State) → ((c : Cell) → IsCell c → AgreesEither meta theirs mine merged c)
    → IsOfEither theirs mine merged
either_by_cells meta theirs mine merged h = record {
  kind = λ e. either_of meta theirs mine merged (OfKind e) (λ m. get m.kind e) (λ m n a. a) (h (OfKind e) tt);
  place = λ e. either_of meta theirs mine merged (OfPlace e) (λ m. get m.place e) (λ m n a. a) (h (OfPlace e) tt);
  rank = λ e. either_of meta theirs mine merged (OfRank e) (λ m. get m.prank e) (λ m n a. a) (h (OfRank e) tt);
  attr = λ e f. either_of meta theirs mine merged (OfAttr e f) (λ m. get m.attr (e, f)) (λ m n a. a) (h (OfAttr e f) tt);
  row = λ a f b. either_of meta theirs mine merged (side meta a f b) (λ m. get m.row (a, f, b)) (side_row meta a f b)
      (h (side meta a f b) (side_is meta a f b));
}

pub none_dropped : (p : ℕ → Bool) (os : List Operation) → ((i : ℕ) → p i ≡ false) → dropped p os ≡ []
none_dropped p [] out = refl
none_dropped p (o ∷ os) out =
    ap (λ t. cond t (o ∷ dropped (λ i. p (suc i)) os) (dropped (λ i. p (suc i)) os)) (out 0)
    ∙ none_dropped (λ i. p (suc i)) os (λ i. out (suc i))

-- ---- one outcome
takes_one : {A : Type 0} (base theirs mine x y : A) → Takes base theirs mine x → Takes base theirs mine y → x ≡ y
takes_one base theirs mine x y (inl h) (inl g) = h.1 ∙ sym g.1
takes_one base theirs mine x y (inl h) (inr g) = h.1 ∙ g.0 ∙ sym h.0 ∙ sym g.1
takes_one base theirs mine x y (inr h) (inl g) = h.1 ∙ g.0 ∙ sym h.0 ∙ sym g.1
takes_one base theirs mine x y (inr h) (inr g) = h.1 ∙ sym g.1

pub three_way_is_one : ThreeWayIsOne
three_way_is_one base theirs mine m n h g =
    let k = same id_order m.kind n.kind (λ e. takes_one _ _ _ _ _ (h.kind e) (g.kind e)) in
    let p = same id_order m.place n.place (λ e. takes_one _ _ _ _ _ (h.place e) (g.place e)) in
    let r = same id_order m.prank n.prank (λ e. takes_one _ _ _ _ _ (h.rank e) (g.rank e)) in
    let a = same attr_order m.attr n.attr (λ (q : AttrKey). takes_one _ _ _ _ _ (h.attr q.0 q.1) (g.attr q.0 q.1)) in
    let w = same row_order m.row n.row (λ (q : RowKey). takes_one _ _ _ _ _ (h.row q.0 q.1 q.2) (g.row q.0 q.1 q.2)) in
    λ i. record { kind = k i; place = p i; prank = r i; attr = a i; row = w i }

-- ---- nothing is lost
theirs_taken : {A : Type 0} (base theirs mine merged : A) → Takes base theirs mine merged → mine ≡ base → merged ≡ theirs
theirs_taken base theirs mine merged (inl h) m = h.1 ∙ m ∙ sym h.0
theirs_taken base theirs mine merged (inr h) m = h.1

mine_taken : {A : Type 0} (base theirs mine merged : A) → Takes base theirs mine merged → theirs ≡ base → merged ≡ mine
mine_taken base theirs mine merged (inl h) t = h.1
mine_taken base theirs mine merged (inr h) t = h.1 ∙ t ∙ sym h.0

theirs_changed : {A : Type 0} (base theirs mine merged : A) → Takes base theirs mine merged → theirs ≢ base → merged ≡ theirs
theirs_changed base theirs mine merged (inl h) new = absurd (new h.0)
theirs_changed base theirs mine merged (inr h) new = h.1

mine_changed : {A : Type 0} (base theirs mine merged : A) → Takes base theirs mine merged → mine ≢ base → merged ≡ mine
mine_changed base theirs mine merged (inl h) new = h.1
mine_changed base theirs mine merged (inr h) new = absurd (new h.0)

keeps : {A : Type 0} (base theirs mine merged : A) → Takes base theirs mine merged → Keeps base theirs mine merged
keeps base theirs mine merged h =
    (theirs_changed base theirs mine merged h, mine_changed base theirs mine merged h, λ t m. mine_taken base theirs mine merged h t ∙ m)

pub no_change_is_lost : NoChangeIsLost
no_change_is_lost base theirs mine merged h = record {
  kind = λ e. keeps _ _ _ _ (h.kind e);
  place = λ e. keeps _ _ _ _ (h.place e);
  rank = λ e. keeps _ _ _ _ (h.rank e);
  attr = λ e f. keeps _ _ _ _ (h.attr e f);
  row = λ a f b. keeps _ _ _ _ (h.row a f b);
}

-- what is not there has no place, no rank, no values and no rows
no_place : (meta : Meta) (kind : FinMap id_cmp ℕ) (c : Option ℕ) (p : Option Place) (r : Option ℕ) → c ≡ None → PlaceOk meta kind c p r
    → (p ≡ None) × (r ≡ None)
no_place meta kind None None None is h = (refl, refl)
no_place meta kind None None (Some r) is h = absurd h
no_place meta kind None (Some p) r is h = absurd h
no_place meta kind (Some c) p r is h = cc

no_values : (meta : Meta) (c : Option ℕ) (f : ℕ) (o : Option (List Value)) → c ≡ None → AttrOk meta c f o → o ≡ None
no_values meta c f None is h = refl
no_values meta None f (Some vs) is h = absurd h
no_values meta (Some c) f (Some vs) is h = cc

no_row_from : (meta : Meta) (c : Option ℕ) (f : ℕ) (d : Option ℕ) (o : Option ℕ) → c ≡ None → RowOk meta c f d o → o ≡ None
no_row_from meta c f d None is h = refl
no_row_from meta None f d (Some r) is h = cc
no_row_from meta (Some c) f d (Some r) is h = cc

no_row_to : (meta : Meta) (c : Option ℕ) (f : ℕ) (d : Option ℕ) (o : Option ℕ) → d ≡ None → RowOk meta c f d o → o ≡ None
no_row_to meta c f d None is h = refl
no_row_to meta None f d (Some r) is h = cc
no_row_to meta (Some c) f None (Some r) is h = cc
no_row_to meta (Some c) f (Some d) (Some r) is h = cc

record Bare (m : State) (e : IdBytes) : Type 0 where
  place : get m.place e ≡ None
  rank : get m.prank e ≡ None
  attr : (f : ℕ) → get m.attr (e, f) ≡ None
  row : (f : ℕ) (b : IdBytes) → get m.row (e, f, b) ≡ None
  incoming : (a : IdBytes) (f : ℕ) → get m.row (a, f, e) ≡ None

bare : (meta : Meta) (m : State) → Good meta m → (e : IdBytes) → get m.kind e ≡ None → Bare m e
bare meta m good e is =
    let p = no_place meta m.kind (get m.kind e) (get m.place e) (get m.prank e) is (good.places.stands e) in
    record {
      place = p.0;
      rank = p.1;
      attr = λ f. no_values meta (get m.kind e) f (get m.attr (e, f)) is (good.attrs.typed e f);
      row = λ f b. no_row_from meta (get m.kind e) f (get m.kind b) (get m.row (e, f, b)) is (good.rows.typed e f b);
      incoming = λ a f. no_row_to meta (get m.kind a) f (get m.kind e) (get m.row (a, f, e)) is (good.rows.typed a f e);
    }

-- the three-way merge with the sides exchanged
takes_turned : {A : Type 0} (base theirs mine merged : A) → Takes base theirs mine merged → Takes base mine theirs merged
takes_turned base theirs mine merged (inl h) = inr h
takes_turned base theirs mine merged (inr h) = inl h

three_way_turned : (base theirs mine merged : State) → IsThreeWay base theirs mine merged → IsThreeWay base mine theirs merged
three_way_turned base theirs mine merged h = record {
  kind = λ e. takes_turned _ _ _ _ (h.kind e);
  place = λ e. takes_turned _ _ _ _ (h.place e);
  rank = λ e. takes_turned _ _ _ _ (h.rank e);
  attr = λ e f. takes_turned _ _ _ _ (h.attr e f);
  row = λ a f b. takes_turned _ _ _ _ (h.row a f b);
}

made : (base theirs mine merged : State) → IsThreeWay base theirs mine merged → (e : IdBytes) → get base.kind e ≡ None → get mine.kind e ≡ None
    → Bare base e → Bare mine e → SameElement theirs merged e
made base theirs mine merged h e old not_mine b m = record {
  kind = sym (theirs_taken _ _ _ _ (h.kind e) (not_mine ∙ sym old));
  place = sym (theirs_taken _ _ _ _ (h.place e) (m.place ∙ sym b.place));
  rank = sym (theirs_taken _ _ _ _ (h.rank e) (m.rank ∙ sym b.rank));
  attr = λ f. sym (theirs_taken _ _ _ _ (h.attr e f) (m.attr f ∙ sym (b.attr f)));
  row = λ f x. sym (theirs_taken _ _ _ _ (h.row e f x) (m.row f x ∙ sym (b.row f x)));
  incoming = λ a f. sym (theirs_taken _ _ _ _ (h.row a f e) (m.incoming a f ∙ sym (b.incoming a f)));
}

pub no_element_is_lost : NoElementIsLost
no_element_is_lost meta base theirs mine merged good_b good_t good_m h e = record {
  theirs_made = λ old not_mine. made base theirs mine merged h e old not_mine (bare meta base good_b e old) (bare meta mine good_m e not_mine);
  mine_made = λ old not_theirs. made base mine theirs merged (three_way_turned base theirs mine merged h) e old not_theirs
      (bare meta base good_b e old) (bare meta theirs good_t e not_theirs);
  theirs_deleted = λ old gone. theirs_changed _ _ _ _ (h.kind e) (λ same. old (sym same ∙ gone)) ∙ gone;
  mine_deleted = λ old gone. mine_changed _ _ _ _ (h.kind e) (λ same. old (sym same ∙ gone)) ∙ gone;
}
