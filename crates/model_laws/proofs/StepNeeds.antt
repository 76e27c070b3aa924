-- Each step goes by what it needs alone.
use Rattle.std.proofs.Common.{◌≡◌, ℕ, Bool, true, false, cond, not, List, [], ◌∷◌, ◌++◌, refl, sym, ap, subst, ◌∙◌, ◌||◌, ◌&&◌, map, nat_eq}
use Rattle.std.specs.Prelude.{Option, None, Some, is_some}
use Rattle.std.specs.FinMap.{get}
use Rattle.finite_maps.specs.Equal.{option_eq, list_eq, text_eq}
use Rattle.finite_maps.specs.Maps.{passes, is_below}
use Rattle.finite_maps.proofs.CountLaws.{count_alike}
use Rattle.finite_maps.proofs.EqualLaws.{and_first, and_second, and_both, text_equality, nat_equality}
use Rattle.ecore_meta.specs.Meta.{Meta}
use Rattle.ecore_meta.specs.declared.meta.Value.{Value}
use Rattle.model_state.specs.declared.step.Place.{Place}
use Rattle.model_state.specs.declared.step.Place.TheVariants.{Root, Inside}
use Rattle.model_state.specs.declared.step.Step.TheVariants.{Put, Ins, Del, Shift, Link, Unlink, RerankRow, New, Gone, Move, RerankPlace}
use Rattle.model_state.specs.declared.step.StepFault.TheVariants.{NotThere, There, OldDiffers, Bound, WrongType, Chain, NotEmpty, BadStep}
use Rattle.model_state.specs.Keys.{IdBytes, RowKey}
use Rattle.model_state.specs.Typing.{kind_of, is_attr, value_eq, opposite_of, row_upper, upper_of, is_containment, is_concrete, contains_to}
use Rattle.model_state.specs.State.{State, place_eq, row_count, child_count, value_count, link_count, inner_count, is_inside}
use Rattle.model_state.specs.Steps.{first_fault, fault, writes, class_has, value_fits, not_default, single, may_link, mirror_given, mirror_room}
use Rattle.model_state.specs.Steps.{mirror_at, place_live, has_room}
use Rattle.model_laws.specs.Cells.{Cell, OfKind, OfPlace, OfRank, OfAttr, OfRow, OfWhole, About, is_bounded, cell_eq, has, stands_in, stands_inside}
use Rattle.model_laws.specs.Cells.{side, mirror_side, place_list, Agree, AgreeAt, needs}
use Rattle.model_state.proofs.Orders.{id_order, attr_order, row_order}
use Rattle.model_state.specs.Good.{Good, PlaceOk}
use Rattle.model_laws.specs.Cells.{step_reads, parents_of}
use Rattle.model_state.specs.Steps.{chain_is, may_move}
use Rattle.std.specs.List.{list_any, insert, remove}
use Rattle.std.proofs.Common.{nat_le, nat_lt, length}
use Rattle.std.specs.Prelude.{slice_get}
use Rattle.model_state.specs.Lists.{entry_of, values_of, shifted}
use Rattle.model_state.specs.State.{no_writes}
use Rattle.model_state.specs.Typing.{is_plain, is_many, is_unique, many_fits}
use Rattle.model_laws.proofs.Exchange.{GoesByNeeds, has_first, has_second, or_cases}
use Rattle.std.specs.FinMap.{FinMap}
use Rattle.model_state.specs.Keys.{AttrKey, id_cmp}
use Rattle.model_state.specs.Ranks.{most_entries}

pub cell_own : (c : Cell) → cell_eq c c ≡ true
cell_own (OfKind e) = text_equality.own e
cell_own (OfPlace e) = text_equality.own e
cell_own (OfRank e) = text_equality.own e
cell_own (OfAttr e f) = and_both _ _ (text_equality.own e) (nat_equality.own f)
cell_own (OfRow a f b) = and_both _ _ (and_both _ _ (text_equality.own a) (nat_equality.own f)) (text_equality.own b)
cell_own (OfWhole a f) = and_both _ _ (text_equality.own a) (nat_equality.own f)
cell_own (About e) = text_equality.own e

pub at_first : (c : Cell) (cs : List Cell) → has (c ∷ cs) c ≡ true
at_first c cs = ap (λ b. b || has cs c) (cell_own c)

pub further : (x c : Cell) (cs : List Cell) → has cs c ≡ true → has (x ∷ cs) c ≡ true
further x c cs h = elim (cell_eq c x) as (λ b. b || has cs c ≡ true) [ true ↦ refl | false ↦ h ]

-- the row, by the cell of its end
row_at : (meta : Meta) (m n : State) (a : IdBytes) (f : ℕ) (b : IdBytes) → Agree meta m n (side meta a f b) → get m.row (a, f, b) ≡ get n.row (a, f, b)
row_at meta m n a f b h =
    elim (is_bounded meta f) as (λ t. is_bounded meta f ≡ t → Agree meta m n (elim t [ true ↦ OfWhole a f | false ↦ OfRow a f b ])
    → get m.row (a, f, b) ≡ get n.row (a, f, b)) [
      | true ↦ λ is g. g.0 is b
      | false ↦ λ is g. g is
    ] refl h

never : (a : IdBytes) (f : ℕ) (q : RowKey) → text_eq a q.0 && nat_eq f q.1 ≡ false → (o : Option ℕ)
    → passes (λ (e : RowKey × ℕ). text_eq a e.0.0 && nat_eq f e.0.1) q o ≡ false
never a f q h None = refl
never a f q h (Some v) = h

-- where there is a bound, the list's rows
room_at : (meta : Meta) (m n : State) (a : IdBytes) (f : ℕ) (b : IdBytes) → Agree meta m n (side meta a f b)
    → is_below (row_count m a f) (row_upper meta f) ≡ is_below (row_count n a f) (row_upper meta f)
room_at meta m n a f b h =
    elim (is_bounded meta f) as (λ t. is_bounded meta f ≡ t → Agree meta m n (elim t [ true ↦ OfWhole a f | false ↦ OfRow a f b ])
    → is_below (row_count m a f) (row_upper meta f) ≡ is_below (row_count n a f) (row_upper meta f)) [
      | true ↦ λ is g. ap (λ k. is_below k (row_upper meta f)) (count_alike row_order (λ e. text_eq a e.0.0 && nat_eq f e.0.1) m.row n.row (λ q.
          elim (text_eq a q.0 && nat_eq f q.1) as (λ t. text_eq a q.0 && nat_eq f q.1 ≡ t
          → passes (λ (e : RowKey × ℕ). text_eq a e.0.0 && nat_eq f e.0.1) q (get m.row q) ≡ passes
          (λ (e : RowKey × ℕ). text_eq a e.0.0 && nat_eq f e.0.1) q (get n.row q)) [
            | true ↦ λ same.
                let x : a ≡ q.0 = text_equality.exact a q.0 (and_first _ _ same) in
                let y : f ≡ q.1 = nat_equality.exact f q.1 (and_second (text_eq a q.0) _ same) in
                ap (passes (λ (e : RowKey × ℕ). text_eq a e.0.0 && nat_eq f e.0.1) q)
                (subst (λ z. get m.row (z, q.1, q.2) ≡ get n.row (z, q.1, q.2)) x
                (subst (λ z. get m.row (a, z, q.2) ≡ get n.row (a, z, q.2)) y (g.0 is q.2)))
            | false ↦ λ other. never a f q other (get m.row q) ∙ sym (never a f q other (get n.row q))
          ] refl))
      | false ↦ λ is g. ap (λ t. is_below (row_count m a f) (cond t (upper_of meta f) None)) is
          ∙ sym (ap (λ t. is_below (row_count n a f) (cond t (upper_of meta f) None)) is)
    ] refl h

-- agreement at each cell of a list, one by one
abbrev AllAgree : Meta → State → State → List Cell → Type 0
AllAgree meta m n [] = Unit {0}
AllAgree meta m n (c ∷ cs) = Agree meta m n c × AllAgree meta m n cs

all_agree : (meta : Meta) (m n : State) (cs : List Cell) → AgreeAt meta m n cs → AllAgree meta m n cs
all_agree meta m n [] h = tt
all_agree meta m n (c ∷ cs) h = (h c (at_first c cs), all_agree meta m n cs (λ d g. h d (further c d cs g)))

put_goes : (meta : Meta) (m n : State) (e : IdBytes) (f : ℕ) (old new : Option Value) → AgreeAt meta m n (needs meta (Put e f old new))
    → fault meta m (Put e f old new) ≡ fault meta n (Put e f old new)
put_goes meta m n e f old new alike =
    let p = all_agree meta m n (needs meta (Put e f old new)) alike in
    ap first_fault (λ i.
    (is_some (p.0 i), NotThere)
    ∷ (class_has meta (p.0 i) f, WrongType)
    ∷ (is_attr (kind_of meta f), WrongType)
    ∷ (value_fits meta f old, WrongType)
    ∷ (value_fits meta f new, WrongType)
    ∷ (not (option_eq value_eq old new), BadStep)
    ∷ (not_default meta f old, BadStep)
    ∷ (not_default meta f new, BadStep)
    ∷ (option_eq (list_eq value_eq) (p.1.0 i) (single old), OldDiffers)
    ∷ [])

-- room for the mirror, and its rank
mirror_room_at : (meta : Meta) (m n : State) (o : Option ℕ) (a b : IdBytes) → AllAgree meta m n (mirror_side meta o a b)
    → mirror_room meta m o b ≡ mirror_room meta n o b
mirror_room_at meta m n None a b h = refl
mirror_room_at meta m n (Some g) a b h = room_at meta m n b g a h.0

mirror_rank_at : (meta : Meta) (m n : State) (o : Option ℕ) (a b : IdBytes) (rb : Option ℕ) → AllAgree meta m n (mirror_side meta o a b)
    → mirror_at m o a b rb ≡ mirror_at n o a b rb
mirror_rank_at meta m n None a b rb h = refl
mirror_rank_at meta m n (Some g) a b rb h = ap (λ x. option_eq nat_eq x rb) (row_at meta m n b g a h.0)

link_goes : (meta : Meta) (m n : State) (a : IdBytes) (f : ℕ) (ra : ℕ) (b : IdBytes) (rb : Option ℕ)
    → AgreeAt meta m n (needs meta (Link a f ra b rb)) → fault meta m (Link a f ra b rb) ≡ fault meta n (Link a f ra b rb)
link_goes meta m n a f ra b rb alike =
    let p = all_agree meta m n (needs meta (Link a f ra b rb)) alike in
    let row = row_at meta m n a f b p.1.1.0 in
    let room = room_at meta m n a f b p.1.1.0 in
    let mirror = mirror_room_at meta m n (opposite_of meta f) a b p.1.1.1 in
    ap first_fault (λ i.
    (is_some (p.0 i), NotThere)
    ∷ (is_some (p.1.0 i), NotThere)
    ∷ (may_link meta (p.0 i) f (p.1.0 i), WrongType)
    ∷ (mirror_given (opposite_of meta f) f rb, BadStep)
    ∷ (not (is_some (row i)), There)
    ∷ (room i, Bound)
    ∷ (mirror i, Bound)
    ∷ [])

unlink_goes : (meta : Meta) (m n : State) (a : IdBytes) (f : ℕ) (ra : ℕ) (b : IdBytes) (rb : Option ℕ)
    → AgreeAt meta m n (needs meta (Unlink a f ra b rb)) → fault meta m (Unlink a f ra b rb) ≡ fault meta n (Unlink a f ra b rb)
unlink_goes meta m n a f ra b rb alike =
    let p = all_agree meta m n (needs meta (Unlink a f ra b rb)) alike in
    let row = row_at meta m n a f b p.1.1.0 in
    let mirror = mirror_rank_at meta m n (opposite_of meta f) a b rb p.1.1.1 in
    ap first_fault (λ i.
    (is_some (p.0 i), NotThere)
    ∷ (is_some (p.1.0 i), NotThere)
    ∷ (may_link meta (p.0 i) f (p.1.0 i), WrongType)
    ∷ (mirror_given (opposite_of meta f) f rb, BadStep)
    ∷ (is_some (row i), NotThere)
    ∷ (option_eq nat_eq (row i) (Some ra), OldDiffers)
    ∷ (mirror i, OldDiffers)
    ∷ [])

-- room in a place, where its list has a cell
place_room_at : (meta : Meta) (m n : State) (a : IdBytes) (f : ℕ) → AllAgree meta m n (place_list meta (Inside a f))
    → has_room meta m (Inside a f) ≡ has_room meta n (Inside a f)
place_room_at meta m n a f h =
    elim (is_containment (kind_of meta f)) as (λ t. is_containment (kind_of meta f) ≡ t
    → AllAgree meta m n (elim (t && is_some (upper_of meta f)) [ true ↦ OfWhole a f ∷ [] | false ↦ [] ])
    → is_below (child_count m (Inside a f)) (cond t (upper_of meta f) None) ≡ is_below (child_count n (Inside a f)) (cond t (upper_of meta f) None)) [
      | true ↦ λ is g. elim (upper_of meta f) as (λ o. upper_of meta f ≡ o
          → AllAgree meta m n (elim (is_some o) [ true ↦ OfWhole a f ∷ [] | false ↦ [] ])
          → is_below (child_count m (Inside a f)) o ≡ is_below (child_count n (Inside a f)) o) [
            | None ↦ λ _ _. refl
            | Some u ↦ λ bound k. ap (λ x. is_below x (Some u)) (count_alike id_order (λ (e : IdBytes × Place). place_eq (Inside a f) e.1) m.place n.place (λ q.
                mark (Inside a f) q (get m.place q) ∙ k.0.1 (and_both _ _ is (ap is_some bound)) q ∙ sym (mark (Inside a f) q (get n.place q))))
          ] refl g
      | false ↦ λ is g. refl
    ] refl h
  where
    mark : (p : Place) (q : IdBytes) (o : Option Place) → passes (λ (e : IdBytes × Place). place_eq p e.1) q o ≡ stands_in p o
    mark p q None = refl
    mark p q (Some r) = refl

new_goes : (meta : Meta) (m n : State) (e : IdBytes) (class : ℕ) (place : Place) (rank : ℕ) → AgreeAt meta m n (needs meta (New e class place rank))
    → fault meta m (New e class place rank) ≡ fault meta n (New e class place rank)
new_goes meta m n e class Root rank alike =
    let p = all_agree meta m n (needs meta (New e class Root rank)) alike in
    ap first_fault (λ i. (not (is_some (p.1.0 i)), There) ∷ (true, NotThere) ∷ (is_concrete meta class, WrongType) ∷ (true, WrongType) ∷ (true, Bound) ∷ [])
new_goes meta m n e class (Inside a f) rank alike =
    let p = all_agree meta m n (needs meta (New e class (Inside a f) rank)) alike in
    let room = place_room_at meta m n a f p.1.1.1.1.1 in
    ap first_fault (λ i. (not (is_some (p.1.1.0 i)), There) ∷ (is_some (p.0 i), NotThere) ∷ (
      is_concrete meta class,
      WrongType,
    ) ∷ (class_has meta (p.0 i) f && contains_to meta (kind_of meta f) class, WrongType) ∷ (room i, Bound) ∷ [])

-- what hangs on an element, counted
inner_mark : (e q : IdBytes) (o : Option Place) → passes (λ (x : IdBytes × Place). is_inside e x.1) q o ≡ stands_inside e o
inner_mark e q None = refl
inner_mark e q (Some r) = refl

-- entries that are the same wherever the test on the key holds
alike_where : {K X : Type 0} (t : K → Bool) (q : K) (o p : Option X) → (t q ≡ true → o ≡ p)
    → passes (λ (e : K × X). t e.0) q o ≡ passes (λ (e : K × X). t e.0) q p
alike_where {K} {X} t q o p h =
    elim (t q) as (λ b. t q ≡ b → passes (λ (e : K × X). t e.0) q o ≡ passes (λ (e : K × X). t e.0) q p) [
      | true ↦ λ is. ap (passes (λ (e : K × X). t e.0) q) (h is)
      | false ↦ λ is. fails o is ∙ sym (fails p is)
    ] refl
  where
    fails : (o : Option X) → t q ≡ false → passes (λ (e : K × X). t e.0) q o ≡ false
    fails None is = refl
    fails (Some v) is = is

about_counts : (meta : Meta) (m n : State) (e : IdBytes) → Agree meta m n (About e)
    → (value_count m e ≡ value_count n e) × (link_count m e ≡ link_count n e) × (inner_count m e ≡ inner_count n e)
about_counts meta m n e h = (
  count_alike attr_order (λ (x : AttrKey × List Value). text_eq e x.0.0) m.attr n.attr
      (λ q. alike_where (λ (q : AttrKey). text_eq e q.0) q (get m.attr q) (get n.attr q) (λ is.
      subst (λ z. get m.attr (z, q.1) ≡ get n.attr (z, q.1)) (text_equality.exact e q.0 is) (h.0 q.1))),
  count_alike row_order (λ (x : RowKey × ℕ). text_eq e x.0.0 || text_eq e x.0.2) m.row n.row
      (λ q. alike_where (λ (q : RowKey). text_eq e q.0 || text_eq e q.2) q (get m.row q) (get n.row q) (λ is.
      or_cases (text_eq e q.0) (text_eq e q.2) is
      (λ from. subst (λ z. get m.row (z, q.1, q.2) ≡ get n.row (z, q.1, q.2)) (text_equality.exact e q.0 from) (h.1 q.1 q.2))
      (λ to. subst (λ z. get m.row (q.0, q.1, z) ≡ get n.row (q.0, q.1, z)) (text_equality.exact e q.2 to) (h.2 q.0 q.1)))),
  count_alike id_order (λ (x : IdBytes × Place). is_inside e x.1) m.place n.place
      (λ q. inner_mark e q (get m.place q) ∙ h.3 q ∙ sym (inner_mark e q (get n.place q))),
)

gone_goes : (meta : Meta) (m n : State) (e : IdBytes) (class : ℕ) (place : Place) (rank : ℕ) → AgreeAt meta m n (needs meta (Gone e class place rank))
    → fault meta m (Gone e class place rank) ≡ fault meta n (Gone e class place rank)
gone_goes meta m n e class place rank alike =
    let p = all_agree meta m n (About e ∷ OfKind e ∷ OfPlace e ∷ OfRank e ∷ [])
    (λ c h. alike c (has_second (step_reads (Gone e class place rank)) _ c
    (has_first (About e ∷ OfKind e ∷ OfPlace e ∷ OfRank e ∷ []) (place_list meta place) c h))) in
    let counts = about_counts meta m n e p.0 in
    ap first_fault (λ i.
    (is_some (p.1.0 i), NotThere)
    ∷ (option_eq nat_eq (p.1.0 i) (Some class), OldDiffers)
    ∷ (option_eq place_eq (p.1.1.0 i) (Some place), OldDiffers)
    ∷ (option_eq nat_eq (p.1.1.1.0 i) (Some rank), OldDiffers)
    ∷ (nat_eq (counts.0 i) 0, NotEmpty)
    ∷ (nat_eq (counts.1 i) 0, NotEmpty)
    ∷ (nat_eq (counts.2 i) 0, NotEmpty)
    ∷ [])

-- in a good state an element is live where it has a place
live_placed : (meta : Meta) (kind : FinMap id_cmp ℕ) (c : Option ℕ) (p : Option Place) (r : Option ℕ) → PlaceOk meta kind c p r → is_some c ≡ is_some p
live_placed meta kind None None None h = refl
live_placed meta kind None None (Some r) h = absurd h
live_placed meta kind None (Some p) r h = absurd h
live_placed meta kind (Some c) None r h = absurd h
live_placed meta kind (Some c) (Some p) None h = absurd h
live_placed meta kind (Some c) (Some p) (Some r) h = refl

place_goes : (meta : Meta) (m n : State) → Good meta m → Good meta n → (e : IdBytes) (old new : ℕ)
    → AgreeAt meta m n (needs meta (RerankPlace e old new)) → fault meta m (RerankPlace e old new) ≡ fault meta n (RerankPlace e old new)
place_goes meta m n good goodn e old new alike =
    let p = all_agree meta m n (needs meta (RerankPlace e old new)) alike in
    let live = live_placed meta m.kind (get m.kind e) (get m.place e) (get m.prank e) (good.places.stands e) ∙ ap is_some p.0
    ∙ sym (live_placed meta n.kind (get n.kind e) (get n.place e) (get n.prank e) (goodn.places.stands e)) in
    ap first_fault (λ i. (live i, NotThere) ∷ (not (nat_eq old new), BadStep) ∷ (option_eq nat_eq (p.1.0 i) (Some old), OldDiffers) ∷ [])

-- a chain, by the places of its elements
chain_alike : (p q : FinMap id_cmp Place) (o : Option Place) (xs : List IdBytes)
    → ((x : IdBytes) → has (map OfPlace xs) (OfPlace x) ≡ true → get p x ≡ get q x) → chain_is p o xs ≡ chain_is q o xs
chain_alike p q None xs h = refl
chain_alike p q (Some Root) [] h = refl
chain_alike p q (Some Root) (x ∷ xs) h = refl
chain_alike p q (Some (Inside a f)) [] h = refl
chain_alike p q (Some (Inside a f)) (x ∷ xs) h =
    ap (λ t. text_eq x a && t)
    (ap (λ o. chain_is p o xs) (h x (at_first (OfPlace x) (map OfPlace xs)))
    ∙ chain_alike p q (get q x) xs (λ y g. h y (further (OfPlace x) (OfPlace y) (map OfPlace xs) g)))

-- a place is live, and may hold, by the class of its parent
parent_in : (a : IdBytes) (f : ℕ) (xs : List IdBytes) → has (map OfKind (parents_of (Inside a f) ++ xs)) (OfKind a) ≡ true
parent_in a f xs = at_first (OfKind a) (map OfKind xs)

later_in : (xs ys : List IdBytes) (a : IdBytes) → has (map OfKind ys) (OfKind a) ≡ true → has (map OfKind (xs ++ ys)) (OfKind a) ≡ true
later_in [] ys a h = h
later_in (x ∷ xs) ys a h = further (OfKind x) (OfKind a) (map OfKind (xs ++ ys)) (later_in xs ys a h)

places_split : (xs ys : List IdBytes) (x : IdBytes)
    → (has (map OfPlace xs) (OfPlace x) ≡ true → has (map OfPlace (xs ++ ys)) (OfPlace x) ≡ true)
    × (has (map OfPlace ys) (OfPlace x) ≡ true → has (map OfPlace (xs ++ ys)) (OfPlace x) ≡ true)
places_split [] ys x = (λ h. cc, λ h. h)
places_split (z ∷ xs) ys x =
    let r = places_split xs ys x in (
      λ h. or_cases (text_eq x z) (has (map OfPlace xs) (OfPlace x)) h (λ here. ap (λ b. b || has (map OfPlace (xs ++ ys)) (OfPlace x)) here)
          (λ later. further (OfPlace z) (OfPlace x) (map OfPlace (xs ++ ys)) (r.0 later)),
      λ h. further (OfPlace z) (OfPlace x) (map OfPlace (xs ++ ys)) (r.1 h),
    )

to_live : (meta : Meta) (m n : State) (to : Place) → ((a : IdBytes) (f : ℕ) → to ≡ Inside a f → get m.kind a ≡ get n.kind a) → place_live m to ≡ place_live n to
to_live meta m n Root h = refl
to_live meta m n (Inside a f) h = ap is_some (h a f refl)

to_may : (meta : Meta) (m n : State) (c : Option ℕ) (to : Place) → ((a : IdBytes) (f : ℕ) → to ≡ Inside a f → get m.kind a ≡ get n.kind a)
    → may_move meta m c to ≡ may_move meta n c to
to_may meta m n None to h = refl
to_may meta m n (Some c) Root h = refl
to_may meta m n (Some c) (Inside a f) h = ap (λ k. class_has meta k f && contains_to meta (kind_of meta f) c) (h a f refl)

to_room : (meta : Meta) (m n : State) (to : Place) → AllAgree meta m n (place_list meta to) → has_room meta m to ≡ has_room meta n to
to_room meta m n Root h = refl
to_room meta m n (Inside a f) h = place_room_at meta m n a f h

move_goes : (meta : Meta) (m n : State) (e : IdBytes) (from : Place) (from_rank : ℕ) (to : Place) (to_rank : ℕ) (above_from above_to : List IdBytes)
    → AgreeAt meta m n (needs meta (Move e from from_rank to to_rank above_from above_to))
    → fault meta m (Move e from from_rank to to_rank above_from above_to) ≡ fault meta n (Move e from from_rank to to_rank above_from above_to)
move_goes meta m n e from from_rank to to_rank above_from above_to alike =
    let s = Move e from from_rank to to_rank above_from above_to in
    let read : (c : Cell) → has (step_reads s) c ≡ true
    → Agree meta m n c = λ c h. alike c (has_first (step_reads s) (OfPlace e ∷ OfRank e ∷ (place_list meta from ++ place_list meta to)) c h) in
    let wrote : (c : Cell) → has (OfPlace e ∷ OfRank e ∷ (place_list meta from ++ place_list meta to)) c ≡ true
    → Agree meta m n c = λ c h. alike c (has_second (step_reads s) (OfPlace e ∷ OfRank e ∷ (place_list meta from ++ place_list meta to)) c h) in
    let kinds : (c : Cell) → has (map OfKind (e ∷ (parents_of from ++ parents_of to))) c ≡ true
    → Agree meta m n c = λ c h. read c (has_first (map OfKind (e ∷ (parents_of from ++ parents_of to))) (map OfPlace (above_from ++ above_to)) c h) in
    let places : (x : IdBytes) → has (map OfPlace (above_from ++ above_to)) (OfPlace x) ≡ true
    → get m.place x ≡ get n.place x =
    λ x h. read (OfPlace x) (has_second (map OfKind (e ∷ (parents_of from ++ parents_of to))) (map OfPlace (above_from ++ above_to)) (OfPlace x) h) in
    let kind : get m.kind e ≡ get n.kind e = kinds (OfKind e) (at_first (OfKind e) (map OfKind (parents_of from ++ parents_of to))) in
    let place : get m.place e ≡ get n.place e = wrote (OfPlace e) (at_first (OfPlace e) (OfRank e ∷ (place_list meta from ++ place_list meta to))) in
    let rank : get m.prank e ≡ get n.prank e =
    wrote (OfRank e) (further (OfPlace e) (OfRank e) (OfRank e ∷ (place_list meta from ++ place_list meta to))
    (at_first (OfRank e) (place_list meta from ++ place_list meta to))) in
    let parent : (a : IdBytes) (f : ℕ) → to ≡ Inside a f
    → get m.kind a ≡ get n.kind a =
    λ a f is. kinds (OfKind a)
    (further (OfKind e) (OfKind a) (map OfKind (parents_of from ++ parents_of to))
    (later_in (parents_of from) (parents_of to) a
    (subst (λ p. has (map OfKind (parents_of p)) (OfKind a) ≡ true) (sym is) (at_first (OfKind a) [])))) in
    let live = to_live meta m n to parent in
    let may = ap (λ c. may_move meta m c to) kind ∙ to_may meta m n (get n.kind e) to parent in
    let up = chain_alike m.place n.place (Some from) above_from (λ x h. places x ((places_split above_from above_to x).0 h)) in
    let up' = chain_alike m.place n.place (Some to) above_to (λ x h. places x ((places_split above_from above_to x).1 h)) in
    let room = to_room meta m n to
    (all_agree meta m n (place_list meta to)
    (λ c h. wrote c (further (OfPlace e) c (OfRank e ∷ (place_list meta from ++ place_list meta to))
    (further (OfRank e) c (place_list meta from ++ place_list meta to) (has_second (place_list meta from) (place_list meta to) c h))))) in
    ap first_fault (λ i.
    (is_some (kind i), NotThere)
    ∷ (option_eq place_eq (place i) (Some from), OldDiffers)
    ∷ (option_eq nat_eq (rank i) (Some from_rank), OldDiffers)
    ∷ (not (place_eq from to), BadStep)
    ∷ (live i, NotThere)
    ∷ (may i, WrongType)
    ∷ (up i, Chain)
    ∷ (up' i, Chain)
    ∷ (not (list_any (text_eq e) above_to), Chain)
    ∷ (room i, Bound)
    ∷ [])

ins_goes : (meta : Meta) (m n : State) (e : IdBytes) (f at : ℕ) (v : Value) → AgreeAt meta m n (needs meta (Ins e f at v))
    → (fault meta m (Ins e f at v) ≡ fault meta n (Ins e f at v)) × (writes meta m (Ins e f at v) ≡ writes meta n (Ins e f at v))
ins_goes meta m n e f at v alike =
    let p = all_agree meta m n (needs meta (Ins e f at v)) alike in (
      ap first_fault (λ i.
          (is_some (p.0 i), NotThere)
          ∷ (class_has meta (p.0 i) f, WrongType)
          ∷ (is_many (kind_of meta f), WrongType)
          ∷ (many_fits meta (kind_of meta f) v, WrongType)
          ∷ (nat_le at (length (values_of (p.1.0 i))), BadStep)
          ∷ (not (is_unique (kind_of meta f) && list_any (value_eq v) (values_of (p.1.0 i))), There)
          ∷ (is_below (length (values_of (p.1.0 i))) (upper_of meta f), Bound)
          ∷ (nat_lt (length (values_of (p.1.0 i))) most_entries, Bound)
          ∷ []),
      λ i. record no_writes { attr = ((e, f), entry_of (insert (values_of (p.1.0 i)) at v)) ∷ [] },
    )

del_goes : (meta : Meta) (m n : State) (e : IdBytes) (f at : ℕ) (v : Value) → AgreeAt meta m n (needs meta (Del e f at v))
    → (fault meta m (Del e f at v) ≡ fault meta n (Del e f at v)) × (writes meta m (Del e f at v) ≡ writes meta n (Del e f at v))
del_goes meta m n e f at v alike =
    let p = all_agree meta m n (needs meta (Del e f at v)) alike in (
      ap first_fault (λ i.
          (is_some (p.0 i), NotThere)
          ∷ (class_has meta (p.0 i) f, WrongType)
          ∷ (is_many (kind_of meta f), WrongType)
          ∷ (many_fits meta (kind_of meta f) v, WrongType)
          ∷ (nat_lt at (length (values_of (p.1.0 i))), BadStep)
          ∷ (option_eq value_eq (slice_get (values_of (p.1.0 i)) at) (Some v), OldDiffers)
          ∷ []),
      λ i. record no_writes { attr = ((e, f), entry_of (remove (values_of (p.1.0 i)) at)) ∷ [] },
    )

row_goes : (meta : Meta) (m n : State) (a : IdBytes) (f : ℕ) (b : IdBytes) (old new : ℕ) → AgreeAt meta m n (needs meta (RerankRow a f b old new))
    → fault meta m (RerankRow a f b old new) ≡ fault meta n (RerankRow a f b old new)
row_goes meta m n a f b old new alike =
    let p = all_agree meta m n (needs meta (RerankRow a f b old new)) alike in
    let row = row_at meta m n a f b p.1.1.0 in
    ap first_fault (λ i. (is_some (p.0 i), NotThere) ∷ (class_has meta (p.0 i) f, WrongType) ∷ (
      is_plain (kind_of meta f),
      WrongType,
    ) ∷ (is_some (row i), NotThere) ∷ (not (nat_eq old new), BadStep) ∷ (option_eq nat_eq (row i) (Some old), OldDiffers) ∷ [])

shift_goes : (meta : Meta) (m n : State) (e : IdBytes) (f from to : ℕ) → AgreeAt meta m n (needs meta (Shift e f from to))
    → (fault meta m (Shift e f from to) ≡ fault meta n (Shift e f from to)) × (writes meta m (Shift e f from to) ≡ writes meta n (Shift e f from to))
shift_goes meta m n e f from to alike =
    let p = all_agree meta m n (needs meta (Shift e f from to)) alike in (
      ap first_fault (λ i. (is_some (p.0 i), NotThere) ∷ (class_has meta (p.0 i) f, WrongType) ∷ (
        is_many (kind_of meta f),
        WrongType,
      ) ∷ (not (nat_eq from to), BadStep) ∷ (
        nat_lt from (length (values_of (p.1.0 i))),
        BadStep,
      ) ∷ (nat_lt to (length (values_of (p.1.0 i))), BadStep) ∷ []),
      λ i. record no_writes { attr = ((e, f), entry_of (shifted (values_of (p.1.0 i)) from to)) ∷ [] },
    )

pub goes_by_needs : (meta : Meta) → GoesByNeeds meta
goes_by_needs meta m n good goodn (Put e f old new) alike = (put_goes meta m n e f old new alike, refl)
goes_by_needs meta m n good goodn (New e class place rank) alike = (new_goes meta m n e class place rank alike, refl)
goes_by_needs meta m n good goodn (Gone e class place rank) alike = (gone_goes meta m n e class place rank alike, refl)
goes_by_needs meta m n good goodn (Link a f ra b rb) alike = (link_goes meta m n a f ra b rb alike, refl)
goes_by_needs meta m n good goodn (Unlink a f ra b rb) alike = (unlink_goes meta m n a f ra b rb alike, refl)
goes_by_needs meta m n good goodn (RerankPlace e old new) alike = (place_goes meta m n good goodn e old new alike, refl)
goes_by_needs meta m n good goodn (Move e from from_rank to to_rank above_from above_to) alike =
    (move_goes meta m n e from from_rank to to_rank above_from above_to alike, refl)
goes_by_needs meta m n good goodn (Ins e f at v) alike = ins_goes meta m n e f at v alike
goes_by_needs meta m n good goodn (Del e f at v) alike = del_goes meta m n e f at v alike
goes_by_needs meta m n good goodn (RerankRow a f b old new) alike = (row_goes meta m n a f b old new alike, refl)
goes_by_needs meta m n good goodn (Shift e f from to) alike = shift_goes meta m n e f from to alike
