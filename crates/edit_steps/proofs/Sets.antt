-- Setting a reference.
use Rattle.std.proofs.Common.{◌≡◌, ℕ, Bool, true, false, cond, List, [], ◌∷◌, ◌++◌, refl, sym, ap, subst, ◌∙◌, ◌||◌, nat_eq}
use Rattle.std.specs.Prelude.{Option, None, Some, is_some, unwrap_or}
use Rattle.std.specs.FinMap.{get}
use Rattle.finite_maps.specs.Equal.{text_eq}
use Rattle.finite_maps.specs.Maps.{count, is_below}
use Rattle.finite_maps.proofs.NestedLaws.{get-without}
use Rattle.finite_maps.proofs.EqualLaws.{apart, and_first, and_second, and_both, nat_equality, text_equality}
use Rattle.ecore_meta.specs.Meta.{Meta}
use Rattle.model_state.specs.declared.entry.Entry.{Entry}
use Rattle.model_state.specs.Keys.{IdBytes, RowKey}
use Rattle.model_state.specs.Typing.{opposite_of, row_upper}
use Rattle.model_state.specs.State.{State, row_count}
use Rattle.model_state.specs.Steps.{fold}
use Rattle.model_state.specs.Good.{Good, Sound}
use Rattle.model_state.specs.Listing.{is_of, targets}
use Rattle.model_state.proofs.Orders.{row_order}
use Rattle.finite_maps.proofs.Cases.{true_false, no_some}
use Rattle.edit_steps.specs.Spot.{end_spot}
use Rattle.edit_steps.specs.Rows.{Rows, is_row_or_mirror, is_mirror, clear, link_step, mirror_rank, unlinks, unlink_step}
use Rattle.edit_steps.specs.References.{holds_one, clear_there, join, displace, others_there, rank_there, reranks_there, room_there, MaySet}
use Rattle.edit_steps.specs.Laws.{SetRefMeets}
use Rattle.edit_steps.proofs.Lists.{targets_alike}
use Rattle.edit_steps.proofs.Clears.{Leads, stays, clear_leads}
use Rattle.edit_steps.proofs.Joins.{leads_on, join_leads, join_steps, CanJoin, targets_there, count_at, one_room, no_targets}
use Rattle.model_state.specs.Ranks.{rank_gap}

-- a row that is not there is not missed
pub clear_kept : (o : Option ℕ) (a : IdBytes) (f : ℕ) (row : Rows) (q : RowKey) → (is_row_or_mirror o a f q ≡ true → get row q ≡ None)
    → get (clear o a f row) q ≡ get row q
clear_kept o a f row q absent =
    get-without row_order (is_row_or_mirror o a f) row q
    ∙ elim (is_row_or_mirror o a f q) as (λ b. is_row_or_mirror o a f q ≡ b
    → cond b None (get row q) ≡ get row q) [ true ↦ λ near. sym (absent near) | false ↦ λ _. refl ] refl

pub clear_gone : (o : Option ℕ) (a : IdBytes) (f : ℕ) (row : Rows) (q : RowKey) → is_row_or_mirror o a f q ≡ true → get (clear o a f row) q ≡ None
clear_gone o a f row q near = get-without row_order (is_row_or_mirror o a f) row q ∙ ap (λ b. cond b None (get row q)) near

pub clear_none : (o : Option ℕ) (a : IdBytes) (f : ℕ) (row : Rows) (q : RowKey) → get row q ≡ None → get (clear o a f row) q ≡ None
clear_none o a f row q none = clear_kept o a f row q (λ _. none) ∙ none

pub own_near : (o : Option ℕ) (a : IdBytes) (f : ℕ) (y : IdBytes) → is_row_or_mirror o a f (a, f, y) ≡ true
own_near o a f y = ap (λ b. b || is_mirror o a (a, f, y)) (and_both _ _ (text_equality.own a) (nat_equality.own f))

near_cases : (P : Type 0) (b c : Bool) → b || c ≡ true → (b ≡ true → P) → (c ≡ true → P) → P
near_cases P true c h left right = left refl
near_cases P false c h left right = right h

unlinks_alike : (row row' : Rows) (o : Option ℕ) (a : IdBytes) (f : ℕ) → ((y : IdBytes) → mirror_rank row o a y ≡ mirror_rank row' o a y)
    → (xs : List Entry) → unlinks row o a f xs ≡ unlinks row' o a f xs
unlinks_alike row row' o a f alike [] = refl
unlinks_alike row row' o a f alike (x ∷ xs) = let head = alike x.id in let rest = unlinks_alike row row' o a f alike xs
    in λ i. unlink_step o a f x.rank x.id (head i) ∷ rest i

module _ (meta : Meta) (sound : Sound meta) (m : State) (good : Good meta m) (a : IdBytes) (f : ℕ) (b : IdBytes) (g : ℕ)
    (is : opposite_of meta f ≡ Some g) (none : get m.row (a, f, b) ≡ None) where
  pub no_mirror : get m.row (b, g, a) ≡ None
  no_mirror = no_some _ (sym (good.rows.mirrored a f b g is) ∙ ap is_some none)

  -- where a's rows are removed, those of b's opposite list and their mirrors stay
  pub there_kept : (y : IdBytes) → get (clear (Some g) a f m.row) (b, g, y) ≡ get m.row (b, g, y)
  there_kept y = clear_kept (Some g) a f m.row (b, g, y) (λ near.
      near_cases (get m.row (b, g, y) ≡ None) (is_of a f (b, g, y)) (is_mirror (Some g) a (b, g, y)) near
      (λ of. absurd (true_false (nat_eq f g) (and_second (text_eq a b) _ of) (sound.other f g is)))
      (λ mirror. ap (λ (z : IdBytes). get m.row (b, g, z)) (sym (text_equality.exact a y (and_second (nat_eq g g) _ mirror))) ∙ no_mirror))

  pub here_kept : (y : IdBytes) → get (clear (Some g) a f m.row) (y, f, b) ≡ get m.row (y, f, b)
  here_kept y = clear_kept (Some g) a f m.row (y, f, b) (λ near.
      near_cases (get m.row (y, f, b) ≡ None) (is_of a f (y, f, b)) (is_mirror (Some g) a (y, f, b)) near
      (λ of. ap (λ (z : IdBytes). get m.row (z, f, b)) (sym (text_equality.exact a y (and_first _ _ of))) ∙ none)
      (λ mirror. absurd (true_false (nat_eq g f) (and_first _ _ mirror) (apart nat_eq nat_equality f g (sound.other f g is)))))

-- the rows that b's opposite list displaces
pub displace_leads : (meta : Meta) → Sound meta → (m : State) → Good meta m → (f : ℕ) (b : IdBytes) (o : Option ℕ) → opposite_of meta f ≡ o
    → Leads meta m (displace meta m.row o f b) (clear_there meta o f b m.row)
displace_leads meta sound m good f b None is = stays meta m good
displace_leads meta sound m good f b (Some g) is =
    elim (holds_one meta g) as (λ t. Leads meta m (cond t (unlinks m.row (Some f) b g (targets m.row b g)) []) (cond t (clear (Some f) b g m.row) m.row)) [
      | true ↦ subst (λ o. Leads meta m (unlinks m.row o b g (targets m.row b g)) (clear o b g m.row)) (sound.both f g is) (clear_leads meta sound b g m good)
      | false ↦ stays meta m good
    ]

-- the end of the run, by the state that is left before it
module _ (meta : Meta) (sound : Sound meta) (m : State) (good : Good meta m) (a : IdBytes) (f : ℕ) (b : IdBytes) (may : MaySet meta m a f b)
    (none : get m.row (a, f, b) ≡ None) where
  abbrev gone : Option ℕ → Rows
  gone o = clear o a f m.row

  abbrev left : Option ℕ → Rows
  left o = clear_there meta o f b (gone o)

  displaces_alike : (o : Option ℕ) → opposite_of meta f ≡ o → displace meta m.row o f b ≡ displace meta (gone o) o f b
  displaces_alike None is = refl
  displaces_alike (Some g) is =
      let lists = targets_alike m.row (gone (Some g)) b g (λ y. sym (there_kept meta sound m good a f b g is none y)) in
      ap (λ ss. cond (holds_one meta g) ss []) (
      unlinks_alike m.row (gone (Some g)) (Some f) b g (λ y. ap (λ o. unwrap_or o 0) (sym (here_kept meta sound m good a f b g is none y))) (targets m.row b g)
      ∙ ap (unlinks (gone (Some g)) (Some f) b g) lists)

  -- a has no row left
  pub none_left : (o : Option ℕ) (y : IdBytes) → get (left o) (a, f, y) ≡ None
  none_left None y = clear_gone None a f m.row (a, f, y) (own_near None a f y)
  none_left (Some g) y =
      let here = clear_gone (Some g) a f m.row (a, f, y) (own_near (Some g) a f y) in
      elim (holds_one meta g) as (λ t. get (cond t (clear (Some f) b g (gone (Some g))) (gone (Some g))) (a, f, y) ≡ None) [
        | true ↦ clear_none (Some f) b g (gone (Some g)) (a, f, y) here
        | false ↦ here
      ]

  -- the entries that stay beside the mirror
  pub others_are : (o : Option ℕ) → opposite_of meta f ≡ o → targets_there (left o) o b ≡ others_there meta m.row o b
  others_are None is = refl
  others_are (Some g) is =
      elim (holds_one meta g) as (λ t. targets (cond t (clear (Some f) b g (gone (Some g))) (gone (Some g))) b g ≡ cond t [] (targets m.row b g)) [
        | true ↦ no_targets (clear (Some f) b g (gone (Some g))) b g (λ y. clear_gone (Some f) b g (gone (Some g)) (b, g, y) (own_near (Some f) b g y))
        | false ↦ targets_alike (gone (Some g)) m.row b g (there_kept meta sound m good a f b g is none)
      ]

  room_left : (g : ℕ) → opposite_of meta f ≡ Some g → room_there meta m (Some g) b ≡ true
      → is_below (count (λ (e : RowKey × ℕ). is_of b g e.0) (left (Some g))) (row_upper meta g) ≡ true
  room_left g is room =
      elim (holds_one meta g) as (λ t. holds_one meta g ≡ t → t || is_below (row_count m b g) (row_upper meta g) ≡ true
      → is_below (count (λ (e : RowKey × ℕ). is_of b g e.0) (cond t (clear (Some f) b g (gone (Some g))) (gone (Some g))))
      (row_upper meta g) ≡ true) [
        | true ↦ λ one _. one_room meta (clear (Some f) b g (gone (Some g))) b g one
            (λ y. clear_gone (Some f) b g (gone (Some g)) (b, g, y) (own_near (Some f) b g y))
        | false ↦ λ _ room. ap (λ n. is_below n (row_upper meta g)) (count_at (gone (Some g)) m.row b g (there_kept meta sound m good a f b g is none)) ∙ room
      ] refl room

  can_join : (o : Option ℕ) → opposite_of meta f ≡ o → room_there meta m o b ≡ true → is_some (rank_there meta m.row o b) ≡ true
      → CanJoin meta (record m { row = left o }) o b
  can_join None is room rank = tt
  can_join (Some g) is room rank = (room_left g is room, ap (λ xs. is_some (end_spot xs).rank) (others_are (Some g) is) ∙ rank)

  -- the steps at the end are those that the state before gives
  ends_alike : (o : Option ℕ) → opposite_of meta f ≡ o → (ra : ℕ)
      → join_steps o a f ra b (targets_there (left o) o b) ≡ reranks_there meta m.row o b
      ++ link_step o a f ra b (unwrap_or (rank_there meta m.row o b) 0) ∷ []
  ends_alike None is ra = refl
  ends_alike (Some g) is ra = ap (join_steps (Some g) a f ra b) (others_are (Some g) is)

  set_by : (o : Option ℕ) → opposite_of meta f ≡ o
      → Leads meta m (unlinks m.row o a f (targets m.row a f)
      ++ (displace meta m.row o f b
      ++ (reranks_there meta m.row o b ++ link_step o a f rank_gap b (unwrap_or (rank_there meta m.row o b) 0) ∷ [])))
      (join o a f (Some rank_gap) b (left o))
  set_by o is =
      let first : Leads meta m (unlinks m.row o a f (targets m.row a f)) (gone o) =
      subst (λ o. Leads meta m (unlinks m.row o a f (targets m.row a f)) (clear o a f m.row)) is (clear_leads meta sound a f m good) in
      let n : State = record m { row = gone o } in
      let second : Leads meta n (displace meta m.row o f b) (left o) =
      subst (λ ss. Leads meta n ss (left o)) (sym (displaces_alike o is)) (displace_leads meta sound n first.good f b o is) in
      let k : State = record m { row = left o } in
      let room : room_there meta m o b ≡ true = ap (λ o. room_there meta m o b) (sym is) ∙ may.room none in
      let rank : is_some (rank_there meta m.row o b) ≡ true = ap (λ o. is_some (rank_there meta m.row o b)) (sym is) ∙ may.ranked none in
      let third = join_leads meta sound k second.good a f rank_gap b may.typed (none_left o b) (one_room meta (left o) a f may.one (none_left o)) o is
      (can_join o is room rank) in
      leads_on meta m _ _ (gone o) _ first
      (leads_on meta n _ _ (left o) _ second
      (subst (λ ss. Leads meta k ss (join o a f (Some rank_gap) b (left o))) (ends_alike o is rank_gap) third))

pub set_ref_meets : SetRefMeets
set_ref_meets meta sound m good a f b may =
    elim (get m.row (a, f, b)) as (λ r. get m.row (a, f, b) ≡ r
    → fold meta m (cond (is_some r) []
    (unlinks m.row (opposite_of meta f) a f (targets m.row a f)
    ++ (displace meta m.row (opposite_of meta f) f b
    ++ (reranks_there meta m.row (opposite_of meta f) b
    ++ link_step (opposite_of meta f) a f rank_gap b (unwrap_or (rank_there meta m.row (opposite_of meta f) b) 0) ∷ []))))
    ≡ Some (record m {
      row =
          cond (is_some r) m.row
          (join (opposite_of meta f) a f (Some rank_gap) b (clear_there meta (opposite_of meta f) f b (clear (opposite_of meta f) a f m.row)));
    })) [
      | None ↦ λ none. (set_by meta sound m good a f b may none (opposite_of meta f) refl).run
      | Some r ↦ λ _. refl
    ] refl
