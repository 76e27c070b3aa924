-- Where the targets of references stand after an edit.
use Rattle.std.proofs.Common.{◌≡◌, ℕ, ◌≤◌, suc, Bool, true, false, cond, not, List, [], ◌∷◌, refl, sym, ap, subst, ◌∙◌, ◌&&◌, ◌||◌, arith, length}
use Rattle.std.proofs.Common.{nat_eq, nat_lt, nat_le, map}
use Rattle.std.proofs.lemmas.Bool.Decides.{nat_tests}
use Rattle.std.specs.Prelude.{Option, None, Some, is_some, unwrap_or}
use Rattle.std.specs.List.{filter}
use Rattle.std.specs.Ordering.{eq_by_cmp}
use Rattle.std.specs.FinMap.{get}
use Rattle.std.proofs.lemmas.Bool.{or_right}
use Rattle.finite_maps.specs.Equal.{text_eq}
use Rattle.finite_maps.specs.Maps.{set}
use Rattle.finite_maps.specs.Sorts.{without, picked}
use Rattle.finite_maps.proofs.Cases.{not_so, some_none, true_false, or_first, or_second}
use Rattle.finite_maps.proofs.EqualLaws.{apart, and_both, nat_equality, text_equality}
use Rattle.finite_maps.proofs.MapLaws.{get-set, get-set_other, get-set_same, same, same_key}
use Rattle.finite_maps.proofs.NestedLaws.{get-without}
use Rattle.finite_maps.proofs.SortLaws.{rises-in_order}
use Rattle.ecore_meta.specs.Meta.{Meta}
use Rattle.model_state.specs.declared.entry.Entry.{Entry}
use Rattle.model_state.specs.Keys.{IdBytes, RowKey, row_cmp}
use Rattle.model_state.specs.Typing.{opposite_of}
use Rattle.model_state.specs.State.{State}
use Rattle.model_state.specs.Good.{Good, Sound}
use Rattle.model_state.specs.Listing.{is_of, row_entry, targets}
use Rattle.model_state.proofs.Orders.{entry_order, row_order}
use Rattle.edit_steps.specs.Spot.{spot, end_spot}
use Rattle.edit_steps.specs.Rows.{Rows, is_row_or_mirror, clear, ranked}
use Rattle.edit_steps.specs.References.{holds_one, clear_there, join, rank_there, without_entry, stands_at, MayLink, MayReorder, MaySet, link_after}
use Rattle.edit_steps.specs.References.{reorder_after, set_ref_after}
use Rattle.edit_steps.specs.Standing.{reranked, StandsAt, StandsLast, is_displaced, staying, is_list, is_end, Joined}
use Rattle.edit_steps.proofs.Lists.{Apart, targets_held, targets_has, targets_apart, targets_alike}
use Rattle.edit_steps.proofs.Pairs.{rows_apart, some_of}
use Rattle.edit_steps.proofs.Clears.{targets_differ}
use Rattle.edit_steps.proofs.Joins.{no_targets, not_of, ranked_other}
use Rattle.edit_steps.specs.Laws.{LinkStands, SetRefStands, ReorderStands}
use Rattle.edit_steps.proofs.LinkEdits as links
use Rattle.edit_steps.proofs.Sets as sets
use Rattle.edit_steps.proofs.Sets.{no_mirror}
use Rattle.edit_steps.proofs.LinkEdits.{all_filter, left_targets, none_without, ranked_missing}
use Rattle.edit_steps.proofs.Told.{Ranking, AllHeld, Tells, has_id, one_list, apart_filter, has-reranked, rises_filter, stands, stands_still}
use Rattle.edit_steps.proofs.Told.{length_without, without_none}
use Rattle.model_state.specs.Ranks.{rank_gap}

-- the targets of a feature have the ranks of its rows
abbrev pub ranks_in : Rows → IdBytes → ℕ → Ranking
ranks_in row a f y = get row (a, f, y)

pub targets_tell : (row : Rows) (a : IdBytes) (f : ℕ) → Tells (ranks_in row a f) (targets row a f)
targets_tell row a f = record {
  up = rises-in_order entry_order (map row_entry (picked (λ e. is_of a f e.0) row));
  once = targets_apart row a f;
  held = targets_held row a f;
  has = targets_has row a f;
}

-- ---- the ranks that a list gets
held_on : (row : Rows) (a : IdBytes) (f : ℕ) (e : IdBytes) (v : Option ℕ) (xs : List Entry) → has_id e xs ≡ false → AllHeld (ranks_in row a f) xs
    → AllHeld (ranks_in (set row (a, f, e) v) a f) xs
held_on row a f e v [] far held = tt
held_on row a f e v (x ∷ xs) far held = (
  get-set_other row_order row (a, f, e) v (a, f, x.id) (targets_differ a f e x.id (or_first (text_eq e x.id) _ far)) ∙ held.0,
  held_on row a f e v xs (or_second (text_eq e x.id) _ far) held.1,
)

ranked_held : (a : IdBytes) (f : ℕ) (xs : List Entry) (rs : List ℕ) (row : Rows) → Apart xs → AllHeld (ranks_in row a f) xs
    → AllHeld (ranks_in (ranked a f xs rs row) a f) (reranked xs rs)
ranked_held a f [] rs row once held = tt
ranked_held a f (x ∷ xs) [] row once held = held
ranked_held a f (x ∷ xs) (r ∷ rs) row once held =
    let next = set row (a, f, x.id) (Some r) in (
      ranked_missing a f x.id xs rs next once.0 ∙ get-set_same row_order row (a, f, x.id) (Some r),
      ranked_held a f xs rs next once.1 (held_on row a f x.id (Some r) xs once.0 held.1),
    )

-- a row that is added with the rank of its spot, the others with theirs
module _ (row : Rows) (a : IdBytes) (f : ℕ) (b : IdBytes) (k r : ℕ) (others : List Entry) (are : without_entry b (targets row a f) ≡ others) where
  abbrev after : Rows
  after = set (ranked a f others (spot others k).ranks row) (a, f, b) (Some r)

  far : has_id b others ≡ false
  far = subst (λ l. has_id b l ≡ false) are (none_without b (targets row a f))

  others_apart : Apart others
  others_apart = subst Apart are (apart_filter (λ (x : Entry). not (text_eq b x.id)) (targets row a f) (targets_apart row a f))

  others_held : AllHeld (ranks_in row a f) others
  others_held = subst (AllHeld (ranks_in row a f)) are
      (all_filter (λ (x : Entry). get row (a, f, x.id) ≡ Some x.rank) (λ (x : Entry). not (text_eq b x.id)) (targets row a f) (targets_held row a f))

  pub row_stands : k ≤ length others → (spot others k).rank ≡ Some r → StandsAt (targets row a f) (targets after a f) b k
  row_stands le is =
      let next = ranked a f others (spot others k).ranks row in
      stands (ranks_in row a f) (ranks_in after a f) (targets row a f) (targets after a f) others b k r (record {
        old = targets_tell row a f;
        new = targets_tell after a f;
        are = are;
        here = get-set_same row_order next (a, f, b) (Some r);
        held = held_on next a f b (Some r) (reranked others (spot others k).ranks) (has-reranked b others (spot others k).ranks ∙ far)
            (ranked_held a f others (spot others k).ranks row others_apart others_held);
        still = λ y differ none. get-set_other row_order next (a, f, b) (Some r) (a, f, y) (targets_differ a f b y differ)
            ∙ ranked_missing a f y others (spot others k).ranks row none;
      }) le is

-- ---- rows that are removed
filter_has : (p : Entry → Bool) (y : IdBytes) (r : ℕ) (g : Ranking) (xs : List Entry) → AllHeld g xs → g y ≡ Some r → has_id y xs ≡ true
    → p (record { rank = r; id = y }) ≡ true → has_id y (filter p xs) ≡ true
filter_has p y r g [] held is has pass = cc
filter_has p y r g (x ∷ xs) held is has pass =
    elim (text_eq y x.id) as (λ b. text_eq y x.id ≡ b → has_id y (cond {A = List Entry} (p x) (x ∷ filter p xs) (filter p xs)) ≡ true) [
      | true ↦ λ same.
          let id : y ≡ x.id = text_equality.exact y x.id same in
          let rank : r ≡ x.rank = same_number r x.rank (sym is ∙ ap g id ∙ held.0) in
          let passes : p x ≡ true = ap p (sym (entry_is id rank)) ∙ pass in
          ap (λ b. has_id y (cond {A = List Entry} b (x ∷ filter p xs) (filter p xs))) passes ∙ ap (λ b. b || has_id y (filter p xs)) same
      | false ↦ λ differ.
          let later : has_id y (filter p xs) ≡ true = filter_has p y r g xs held.1 is (other_or (text_eq y x.id) _ has differ) pass in
          elim (p x) as (λ b. has_id y (cond {A = List Entry} b (x ∷ filter p xs) (filter p xs)) ≡ true) [
            | true ↦ or_right (text_eq y x.id) _ later
            | false ↦ later
          ]
    ] refl
  where
    same_number : (n k : ℕ) → Some n ≡ Some k → n ≡ k
    same_number n k e = cc

    entry_is : y ≡ x.id → r ≡ x.rank → ◌≡◌ {A = Entry} (record { rank = r; id = y }) x
    entry_is id rank = λ i. record { rank = rank i; id = id i }

    other_or : (b c : Bool) → b || c ≡ true → b ≡ false → c ≡ true
    other_or true c h g = cc
    other_or false c h g = h

module _ (gone : RowKey → Bool) (row : Rows) (x : IdBytes) (h : ℕ) where
  kept_held : (es : List Entry) → AllHeld (ranks_in row x h) es → AllHeld (ranks_in (without gone row) x h) (filter (λ (e : Entry). not (gone (x, h, e.id))) es)
  kept_held [] held = tt
  kept_held (e ∷ es) held =
      elim (gone (x, h, e.id)) as (λ b. gone (x, h, e.id) ≡ b
      → AllHeld (ranks_in (without gone row) x h)
      (cond {A = List Entry} (not b) (e ∷ filter (λ (e : Entry). not (gone (x, h, e.id))) es) (filter (λ (e : Entry). not (gone (x, h, e.id))) es))) [
        | true ↦ λ _. kept_held es held.1
        | false ↦ λ stays. (get-without row_order gone row (x, h, e.id) ∙ ap (λ b. cond b None (get row (x, h, e.id))) stays ∙ held.0, kept_held es held.1)
      ] refl

  kept_has : (y : IdBytes) (r : ℕ) → get (without gone row) (x, h, y) ≡ Some r → has_id y (staying gone row x h) ≡ true
  kept_has y r is =
      elim (gone (x, h, y)) as (λ b. gone (x, h, y) ≡ b → cond b None (get row (x, h, y)) ≡ Some r → has_id y (staying gone row x h) ≡ true) [
        | true ↦ λ _ none. cc
        | false ↦ λ stays there.
            filter_has (λ (e : Entry). not (gone (x, h, e.id))) y r (ranks_in row x h) (targets row x h) (targets_held row x h) there
            (targets_has row x h y r there) (ap not stays)
      ] refl (sym (get-without row_order gone row (x, h, y)) ∙ is)

  -- the list is what stays of it
  pub targets_without : targets (without gone row) x h ≡ staying gone row x h
  targets_without = one_list (targets (without gone row) x h) (staying gone row x h) (ranks_in (without gone row) x h)
      (targets_tell (without gone row) x h) (record {
        up = rises_filter (λ (e : Entry). not (gone (x, h, e.id))) (targets row x h) (targets_tell row x h).up;
        once = apart_filter (λ (e : Entry). not (gone (x, h, e.id))) (targets row x h) (targets_apart row x h);
        held = kept_held (targets row x h) (targets_held row x h);
        has = kept_has;
      })

-- where the opposite holds one, the rows to b are removed
there_without : (meta : Meta) (o : Option ℕ) (f : ℕ) (b : IdBytes) (row : Rows) → clear_there meta o f b row ≡ without (is_displaced meta o f b) row
there_without meta None f b row = same row_order _ _ (λ q. sym (get-without row_order (λ (k : RowKey). false) row q))
there_without meta (Some g) f b row =
    elim (holds_one meta g) as (λ t. cond t (clear (Some f) b g row) row ≡ without (λ (k : RowKey). t && is_row_or_mirror (Some f) b g k) row) [
      | true ↦ refl
      | false ↦ same row_order _ _ (λ q. sym (get-without row_order (λ (k : RowKey). false) row q))
    ]

without_twice : (p q : RowKey → Bool) (row : Rows) → without q (without p row) ≡ without (λ (k : RowKey). p k || q k) row
without_twice p q row = same row_order _ _ (λ k.
    get-without row_order q (without p row) k
    ∙ ap (cond (q k) None) (get-without row_order p row k)
    ∙ either (p k) (q k) (get row k)
    ∙ sym (get-without row_order (λ (k : RowKey). p k || q k) row k))
  where
    either : (b c : Bool) (o : Option ℕ) → cond c None (cond b None o) ≡ cond (b || c) None o
    either true true o = refl
    either true false o = refl
    either false true o = refl
    either false false o = refl

-- ---- a row and its mirror
other_list : (a : IdBytes) (f : ℕ) (b x : IdBytes) (h : ℕ) (y : IdBytes) → is_list a f x h ≡ false → eq_by_cmp row_cmp (x, h, y) (a, f, b) ≡ false
other_list a f b x h y away = not_so (eq_by_cmp row_cmp (x, h, y) (a, f, b)) (λ same.
    true_false (is_list a f x h) (ap (is_of a f) (same_key row_order (x, h, y) (a, f, b) same) ∙ and_both _ _ (text_equality.own a) (nat_equality.own f)) away)

not_among : (g : Ranking) (e : IdBytes) (xs : List Entry) → AllHeld g xs → g e ≡ None → has_id e xs ≡ false
not_among g e [] held none = refl
not_among g e (x ∷ xs) held none =
    ap (λ b. b || has_id e xs) (not_so (text_eq e x.id) (λ same. some_none (g x.id) x.rank held.0 (ap g (sym (text_equality.exact e x.id same)) ∙ none)))
    ∙ not_among g e xs held.1 none

module _ (meta : Meta) (sound : Sound meta) (a : IdBytes) (f : ℕ) (ra : Option ℕ) (b : IdBytes) (row : Rows) where
  abbrev there : ℕ → List Entry
  there g = targets row b g

  abbrev evened_row : ℕ → Rows
  evened_row g = ranked b g (there g) (end_spot (there g)).ranks row

  -- a's list
  pub join_here : (o : Option ℕ) → opposite_of meta f ≡ o → targets (join o a f ra b row) a f ≡ targets (set row (a, f, b) ra) a f
  join_here None is = refl
  join_here (Some g) is = targets_alike (join (Some g) a f ra b row) (set row (a, f, b) ra) a f (λ y.
      get-set_other row_order (set (evened_row g) (a, f, b) ra) (b, g, a) (end_spot (there g)).rank (a, f, y) (rows_apart a f y b g a (sound.other f g is))
      ∙ get-set row_order (evened_row g) (a, f, b) ra (a, f, y)
      ∙ ap (cond (eq_by_cmp row_cmp (a, f, y) (a, f, b)) ra)
      (ranked_other b g (there g) (end_spot (there g)).ranks row (a, f, y) (not_of b g a f y (apart nat_eq nat_equality f g (sound.other f g is))))
      ∙ sym (get-set row_order row (a, f, b) ra (a, f, y)))

  -- the opposite's list
  pub join_there : (g : ℕ) → opposite_of meta f ≡ Some g → get row (b, g, a) ≡ None → is_some (end_spot (there g)).rank ≡ true
      → StandsLast (there g) (targets (join (Some g) a f ra b row) b g) a
  join_there g is none some =
      let s = end_spot (there g) in
      let away : has_id a (there g) ≡ false = not_among (ranks_in row b g) a (there g) (targets_held row b g) none in
      let alone : without_entry a (there g) ≡ there g = without_none a (there g) away in
      let list : targets (join (Some g) a f ra b row) b g ≡ targets (set (evened_row g) (b, g, a) s.rank) b g =
      targets_alike (join (Some g) a f ra b row) (set (evened_row g) (b, g, a) s.rank) b g (λ y.
      get-set row_order (set (evened_row g) (a, f, b) ra) (b, g, a) s.rank (b, g, y)
      ∙ ap (cond (eq_by_cmp row_cmp (b, g, y) (b, g, a)) s.rank)
      (get-set_other row_order (evened_row g) (a, f, b) ra (b, g, y) (rows_apart b g y a f b (apart nat_eq nat_equality f g (sound.other f g is))))
      ∙ sym (get-set row_order (evened_row g) (b, g, a) s.rank (b, g, y))) in
      let last : StandsAt (there g) (targets (set (evened_row g) (b, g, a) (Some (unwrap_or s.rank 0))) b g) a (length (there g)) =
      row_stands row b g a (length (there g)) (unwrap_or s.rank 0) (there g) alone (omega arith) (some_of s.rank some) in
      subst (λ zs. StandsLast (there g) zs a) (sym list)
      (subst (λ l. StandsAt (there g) (targets (set (evened_row g) (b, g, a) s.rank) b g) a (length l)) (sym alone)
      (subst (λ w. StandsAt (there g) (targets (set (evened_row g) (b, g, a) w) b g) a (length (there g))) (sym (some_of s.rank some)) last))

  -- the other lists
  pub join_others : (o : Option ℕ) (x : IdBytes) (h : ℕ) → is_end o a f b x h ≡ false → targets (join o a f ra b row) x h ≡ targets row x h
  join_others None x h away =
      targets_alike (set row (a, f, b) ra) row x h (λ y. get-set_other row_order row (a, f, b) ra (x, h, y) (other_list a f b x h y away))
  join_others (Some g) x h away = targets_alike (join (Some g) a f ra b row) row x h (λ y.
      get-set_other row_order (set (evened_row g) (a, f, b) ra) (b, g, a) (end_spot (there g)).rank (x, h, y)
      (other_list b g a x h y (or_second (is_list a f x h) _ away))
      ∙ get-set_other row_order (evened_row g) (a, f, b) ra (x, h, y) (other_list a f b x h y (or_first (is_list a f x h) _ away))
      ∙ ranked_other b g (there g) (end_spot (there g)).ranks row (x, h, y) (or_second (is_list a f x h) _ away))

-- ---- link
number_le : (n k : ℕ) → nat_le n k ≡ true → n ≤ k
number_le n k h = grind (arith, nat_tests)

module _ (meta : Meta) (sound : Sound meta) (m : State) (good : Good meta m) (a : IdBytes) (f : ℕ) (b : IdBytes) (k : ℕ)
    (may : MayLink meta m a f b k) (inside : nat_le k (length (targets m.row a f)) ≡ true) where
  abbrev left : Option ℕ → Rows
  left o = clear_there meta o f b m.row

  abbrev others : Option ℕ → List Entry
  others o = targets (left o) a f

  abbrev next : Option ℕ → Rows
  next o = ranked a f (others o) (spot (others o) k).ranks (left o)

  abbrev linked : Option ℕ → Rows
  linked o = join o a f (spot (others o) k).rank b (next o)

  module _ (o : Option ℕ) (is : opposite_of meta f ≡ o) where
    same_list : others o ≡ targets m.row a f
    same_list = left_targets meta sound m good a f b k may o is

    left_list : (x : IdBytes) (h : ℕ) → targets (left o) x h ≡ staying (is_displaced meta o f b) m.row x h
    left_list x h = ap (λ row. targets row x h) (there_without meta o f b m.row) ∙ targets_without (is_displaced meta o f b) m.row x h

    ranked_so : (spot (others o) k).rank ≡ Some (unwrap_or (spot (others o) k).rank 0)
    ranked_so = some_of (spot (others o) k).rank (ap (λ xs. is_some (spot xs k).rank) same_list ∙ may.ranked)

    no_row : get (left o) (a, f, b) ≡ None
    no_row = ap (λ row. get row (a, f, b)) (there_without meta o f b m.row) ∙ get-without row_order (is_displaced meta o f b) m.row (a, f, b)
        ∙ none_either (is_displaced meta o f b (a, f, b)) (get m.row (a, f, b)) may.absent
      where
        none_either : (b : Bool) (o : Option ℕ) → o ≡ None → cond b None o ≡ None
        none_either true o h = refl
        none_either false o h = h

    link_here : StandsAt (others o) (targets (linked o) a f) b k
    link_here =
        let alone : without_entry b (others o) ≡ others o =
        without_none b (others o) (not_among (ranks_in (left o) a f) b (others o) (targets_held (left o) a f) no_row) in
        let le : k ≤ length (others o) = subst (λ xs. k ≤ length xs) (sym same_list) (number_le k _ inside) in
        let r = unwrap_or (spot (others o) k).rank 0 in
        subst (λ zs. StandsAt (others o) zs b k) (sym (join_here meta sound a f (spot (others o) k).rank b (next o) o is))
        (subst (λ w. StandsAt (others o) (targets (set (next o) (a, f, b) w) a f) b k) (sym ranked_so)
        (row_stands (left o) a f b k r (others o) alone le ranked_so))

    own_away : (x : IdBytes) (h : ℕ) (o : Option ℕ) → is_end o a f b x h ≡ false → is_list a f x h ≡ false
    own_away x h None away = away
    own_away x h (Some g) away = or_first (is_list a f x h) _ away

    link_others : (x : IdBytes) (h : ℕ) → is_end o a f b x h ≡ false → targets (linked o) x h ≡ staying (is_displaced meta o f b) m.row x h
    link_others x h away =
        join_others meta sound a f (spot (others o) k).rank b (next o) o x h away
        ∙ targets_alike (next o) (left o) x h (λ y. ranked_other a f (others o) (spot (others o) k).ranks (left o) (x, h, y) (own_away x h o away))
        ∙ left_list x h

  link_there : (g : ℕ) (is : opposite_of meta f ≡ Some g) → StandsLast (staying (is_displaced meta (Some g) f b) m.row b g) (targets (linked (Some g)) b g) a
  link_there g is =
      let same_there : targets (next (Some g)) b g ≡ targets (left (Some g)) b g =
      targets_alike (next (Some g)) (left (Some g)) b g
      (λ y. ranked_other a f (others (Some g)) (spot (others (Some g)) k).ranks (left (Some g)) (b, g, y) (not_of a f b g y (sound.other f g is))) in
      let none : get (left (Some g)) (b, g, a) ≡ None =
      ap (λ row. get row (b, g, a)) (there_without meta (Some g) f b m.row) ∙ get-without row_order (is_displaced meta (Some g) f b) m.row (b, g, a)
      ∙ none_either (is_displaced meta (Some g) f b (b, g, a)) (get m.row (b, g, a)) (no_mirror meta sound m good a f b g is may.absent) in
      let rank : is_some (end_spot (targets (next (Some g)) b g)).rank ≡ true =
      ap (λ xs. is_some (end_spot xs).rank) (links.others_are meta sound m good a f b k may (Some g) is)
      ∙ ap (λ o. is_some (rank_there meta m.row o b)) (sym is) ∙ may.ranked_there in
      subst (λ xs. StandsLast xs (targets (linked (Some g)) b g) a) (same_there ∙ left_list (Some g) is b g)
      (join_there meta sound a f (spot (others (Some g)) k).rank b (next (Some g)) g is
      (ranked_other a f (others (Some g)) (spot (others (Some g)) k).ranks (left (Some g)) (b, g, a) (not_of a f b g a (sound.other f g is)) ∙ none) rank)
    where
      none_either : (b : Bool) (o : Option ℕ) → o ≡ None → cond b None o ≡ None
      none_either true o h = refl
      none_either false o h = h

  joined_by : (o : Option ℕ) (is : opposite_of meta f ≡ o) → Joined meta (is_displaced meta o f b) m.row (linked o) a f b k
  joined_by o is = record {
    here = subst (λ xs. StandsAt xs (targets (linked o) a f) b k) (left_list o is a f) (link_here o is);
    mirror = λ g there.
        let same_o : o ≡ Some g = sym is ∙ there in
        subst (λ o. StandsLast (staying (is_displaced meta o f b) m.row b g) (targets (linked o) b g) a) (sym same_o) (link_there g there);
    others = λ x h away. link_others o is x h (ap (λ o. is_end o a f b x h) (sym is) ∙ away);
  }

  pub link_joins : Joined meta (is_displaced meta (opposite_of meta f) f b) m.row (link_after meta a f b k m.row) a f b k
  link_joins = joined_by (opposite_of meta f) refl

  pub link_comes : StandsAt (targets m.row a f) (targets (link_after meta a f b k m.row) a f) b k
  link_comes = subst (λ xs. StandsAt xs (targets (linked (opposite_of meta f)) a f) b k) (same_list (opposite_of meta f) refl)
      (link_here (opposite_of meta f) refl)

pub link_stands : LinkStands
link_stands meta sound m good a f b k may inside = (link_comes meta sound m good a f b k may inside, link_joins meta sound m good a f b k may inside)

-- ---- set
module _ (meta : Meta) (sound : Sound meta) (m : State) (good : Good meta m) (a : IdBytes) (f : ℕ) (b : IdBytes) (may : MaySet meta m a f b)
    (none : get m.row (a, f, b) ≡ None) where
  abbrev gone : Option ℕ → RowKey → Bool
  gone o k = is_row_or_mirror o a f k || is_displaced meta o f b k

  abbrev kept : Option ℕ → Rows
  kept o = clear_there meta o f b (clear o a f m.row)

  abbrev set_row : Option ℕ → Rows
  set_row o = join o a f (Some rank_gap) b (kept o)

  kept_without : (o : Option ℕ) → kept o ≡ without (gone o) m.row
  kept_without o = there_without meta o f b (clear o a f m.row) ∙ without_twice (is_row_or_mirror o a f) (is_displaced meta o f b) m.row

  kept_list : (o : Option ℕ) (x : IdBytes) (h : ℕ) → targets (kept o) x h ≡ staying (gone o) m.row x h
  kept_list o x h = ap (λ row. targets row x h) (kept_without o) ∙ targets_without (gone o) m.row x h

  set_here : (o : Option ℕ) → opposite_of meta f ≡ o → StandsAt (targets (kept o) a f) (targets (set_row o) a f) b 0
  set_here o is =
      let empty : targets (kept o) a f ≡ [] = no_targets (kept o) a f (sets.none_left meta sound m good a f b may none o) in
      subst (λ zs. StandsAt (targets (kept o) a f) zs b 0) (sym (join_here meta sound a f (Some rank_gap) b (kept o) o is))
      (row_stands (kept o) a f b 0 rank_gap [] (ap (without_entry b) empty) (omega arith) refl)

  set_there : (g : ℕ) (is : opposite_of meta f ≡ Some g) → StandsLast (targets (kept (Some g)) b g) (targets (set_row (Some g)) b g) a
  set_there g is =
      let gone_row : get (kept (Some g)) (b, g, a) ≡ None =
      ap (λ row. get row (b, g, a)) (kept_without (Some g)) ∙ get-without row_order (gone (Some g)) m.row (b, g, a)
      ∙ none_either (gone (Some g) (b, g, a)) (get m.row (b, g, a)) (no_mirror meta sound m good a f b g is none) in
      let rank : is_some (end_spot (targets (kept (Some g)) b g)).rank ≡ true =
      ap (λ xs. is_some (end_spot xs).rank) (sets.others_are meta sound m good a f b may none (Some g) is)
      ∙ ap (λ o. is_some (rank_there meta m.row o b)) (sym is) ∙ may.ranked none in
      join_there meta sound a f (Some rank_gap) b (kept (Some g)) g is gone_row rank
    where
      none_either : (b : Bool) (o : Option ℕ) → o ≡ None → cond b None o ≡ None
      none_either true o h = refl
      none_either false o h = h

  set_joined : (o : Option ℕ) (is : opposite_of meta f ≡ o) → Joined meta (gone o) m.row (set_row o) a f b 0
  set_joined o is = record {
    here = subst (λ xs. StandsAt xs (targets (set_row o) a f) b 0) (kept_list o a f) (set_here o is);
    mirror = λ g there.
        let same_o : o ≡ Some g = sym is ∙ there in
        subst (λ o. StandsLast (staying (gone o) m.row b g) (targets (set_row o) b g) a) (sym same_o)
        (subst (λ xs. StandsLast xs (targets (set_row (Some g)) b g) a) (kept_list (Some g) b g) (set_there g there));
    others = λ x h away. join_others meta sound a f (Some rank_gap) b (kept o) o x h (ap (λ o. is_end o a f b x h) (sym is) ∙ away) ∙ kept_list o x h;
  }

  pub set_joins : Joined meta (gone (opposite_of meta f)) m.row (set_ref_after meta a f b m.row) a f b 0
  set_joins = subst (λ row. Joined meta (gone (opposite_of meta f)) m.row row a f b 0)
      (sym (ap (λ (o : Option ℕ). cond (is_some o) m.row (set_row (opposite_of meta f))) none)) (set_joined (opposite_of meta f) refl)

pub set_ref_stands : SetRefStands
set_ref_stands meta sound m good a f b may none = set_joins meta sound m good a f b may none

-- ---- reorder
number_lt : (n k : ℕ) → nat_lt n k ≡ true → suc n ≤ k
number_lt n k h = grind (arith, nat_tests)

module _ (meta : Meta) (m : State) (a : IdBytes) (f : ℕ) (b : IdBytes) (k : ℕ) (may : MayReorder m a f b k)
    (inside : nat_lt k (length (targets m.row a f)) ≡ true) where
  abbrev list : List Entry
  list = targets m.row a f

  abbrev rest : List Entry
  rest = without_entry b list

  abbrev put : Rows
  put = set (ranked a f rest (spot rest k).ranks m.row) (a, f, b) (spot rest k).rank

  le_rest : k ≤ length rest
  le_rest =
      let has : has_id b list ≡ true = targets_has m.row a f b (unwrap_or (get m.row (a, f, b)) 0) (some_of (get m.row (a, f, b)) may.there) in
      shorter k (length list) (length rest) (number_lt k (length list) inside) (length_without b list (targets_apart m.row a f) has)
    where
      shorter : (k n l : ℕ) → suc k ≤ n → n ≡ suc l → k ≤ l
      shorter k n l h e = omega arith

  pub reorder_here : StandsAt list (targets (reorder_after a f b k m.row) a f) b k
  reorder_here =
      elim (stands_at b k list) as (λ t. stands_at b k list ≡ t → StandsAt list (targets (cond t m.row put) a f) b k) [
        | true ↦ λ at. stands_still b k list (targets_apart m.row a f) at
        | false ↦ λ away.
            let r = unwrap_or (spot rest k).rank 0 in
            let so : (spot rest k).rank ≡ Some r = some_of (spot rest k).rank (may.ranked away) in
            subst (λ w. StandsAt list (targets (set (ranked a f rest (spot rest k).ranks m.row) (a, f, b) w) a f) b k) (sym so)
            (row_stands m.row a f b k r rest refl le_rest so)
      ] refl

  pub reorder_others : (x : IdBytes) (h : ℕ) → is_list a f x h ≡ false → targets (reorder_after a f b k m.row) x h ≡ targets m.row x h
  reorder_others x h away =
      elim (stands_at b k list) as (λ t. targets (cond t m.row put) x h ≡ targets m.row x h) [
        | true ↦ refl
        | false ↦ targets_alike put m.row x h (λ y.
            get-set_other row_order (ranked a f rest (spot rest k).ranks m.row) (a, f, b) (spot rest k).rank (x, h, y) (other_list a f b x h y away)
            ∙ ranked_other a f rest (spot rest k).ranks m.row (x, h, y) away)
      ]

pub reorder_stands : ReorderStands
reorder_stands meta sound m good a f b k may inside = (reorder_here meta m a f b k may inside, reorder_others meta m a f b k may inside)
