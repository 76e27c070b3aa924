-- Linking, unlinking, unsetting and reordering.
use Rattle.std.proofs.Common.{◌≡◌, ℕ, ◌+◌, ◌≤◌, Bool, true, false, cond, not, List, [], ◌∷◌, ◌++◌, refl, sym, ap, subst, ◌∙◌, ◌||◌, arith}
use Rattle.std.specs.Prelude.{Option, None, Some, is_some, unwrap_or}
use Rattle.std.specs.List.{list_any, filter, AllByRecursion}
use Rattle.std.specs.FinMap.{get}
use Rattle.finite_maps.specs.Equal.{text_eq}
use Rattle.finite_maps.specs.Maps.{set, count, is_below, tally}
use Rattle.finite_maps.proofs.MapLaws.{get-set_other}
use Rattle.finite_maps.proofs.EqualLaws.{apart, text_equality}
use Rattle.ecore_meta.specs.Meta.{Meta}
use Rattle.model_state.specs.declared.entry.Entry.{Entry}
use Rattle.model_state.specs.declared.step.Step.{Step}
use Rattle.model_state.specs.Keys.{IdBytes, RowKey}
use Rattle.model_state.specs.Typing.{opposite_of, row_upper}
use Rattle.model_state.specs.State.{State, row_count}
use Rattle.model_state.specs.Steps.{fold}
use Rattle.model_state.specs.Good.{Good, Sound}
use Rattle.model_state.specs.Listing.{is_of, targets}
use Rattle.model_state.proofs.Orders.{row_order}
use Rattle.finite_maps.proofs.Cases.{no_some, or_first, or_second}
use Rattle.edit_steps.specs.Spot.{spot, end_spot}
use Rattle.edit_steps.specs.Rows.{Rows, clear, ranked, link_step, reranks}
use Rattle.edit_steps.specs.References.{holds_one, clear_there, join, displace, others_there, rank_there, reranks_there, room_there, MayLink}
use Rattle.edit_steps.specs.References.{MayReorder, backwards, without_entry, stands_at}
use Rattle.edit_steps.specs.Laws.{LinkMeets, UnlinkMeets, UnsetMeets, ReorderMeets}
use Rattle.edit_steps.proofs.Lists.{Apart, targets_held, targets_has, targets_apart, targets_alike, apart_from, one_passes}
use Rattle.edit_steps.proofs.Pairs.{some_of}
use Rattle.edit_steps.proofs.Clears.{Leads, Held, held_from, unlinks_lead, cleared_is, reranks_lead, targets_differ}
use Rattle.edit_steps.proofs.Joins.{leads_on, join_leads, join_steps, CanJoin, targets_there, count_at, count_there, one_room, no_targets}
use Rattle.edit_steps.proofs.Joins.{ranked_other, ranked_there, not_of}
use Rattle.edit_steps.proofs.Sets.{clear_gone, own_near, no_mirror, there_kept, displace_leads}

module _ (meta : Meta) (sound : Sound meta) (m : State) (good : Good meta m) (a : IdBytes) (f : ℕ) (b : IdBytes) (k : ℕ) (may : MayLink meta m a f b k) where
  abbrev left : Option ℕ → Rows
  left o = clear_there meta o f b m.row

  -- a's list is not displaced
  a_kept : (o : Option ℕ) → opposite_of meta f ≡ o → (y : IdBytes) → get (left o) (a, f, y) ≡ get m.row (a, f, y)
  a_kept None is y = refl
  a_kept (Some g) is y =
      elim (holds_one meta g) as (λ t. get (cond t (clear (Some f) b g m.row) m.row) (a, f, y) ≡ get m.row (a, f, y)) [
        | true ↦ there_kept meta sound m good b g a f (sound.both f g is) (no_mirror meta sound m good a f b g is may.absent) y
        | false ↦ refl
      ]

  module _ (o : Option ℕ) (is : opposite_of meta f ≡ o) where
    xs : List Entry
    xs = targets (left o) a f

    pub left_targets : targets (left o) a f ≡ targets m.row a f
    left_targets = targets_alike (left o) m.row a f (a_kept o is)

    abbrev next : Rows
    next = ranked a f (targets (left o) a f) (spot (targets (left o) a f) k).ranks (left o)

    held : Held (left o) (left o) None a f (targets (left o) a f)
    held = held_from (left o) None a f (targets (left o) a f) (targets_held (left o) a f) (targets_apart (left o) a f)

    next_there : (q : RowKey) → is_some (get next q) ≡ is_some (get (left o) q)
    next_there q = ranked_there a f meta sound (targets (left o) a f) (spot (targets (left o) a f) k).ranks (left o) held q

    next_none : get next (a, f, b) ≡ None
    next_none = no_some _ (next_there (a, f, b) ∙ ap is_some (a_kept o is b ∙ may.absent))

    next_free : is_below (count (λ (e : RowKey × ℕ). is_of a f e.0) next) (row_upper meta f) ≡ true
    next_free = ap (λ n. is_below n (row_upper meta f)) (count_there next (left o) a f next_there ∙ count_at (left o) m.row a f (a_kept o is)) ∙ may.free

  -- b's list in the end
  b_same : (g : ℕ) (is : opposite_of meta f ≡ Some g) (y : IdBytes) → get (next (Some g) is) (b, g, y) ≡ get (left (Some g)) (b, g, y)
  b_same g is y = ranked_other a f (targets (left (Some g)) a f) (spot (targets (left (Some g)) a f) k).ranks (left (Some g)) (b, g, y)
      (not_of a f b g y (sound.other f g is))

  pub others_are : (o : Option ℕ) (is : opposite_of meta f ≡ o) → targets_there (next o is) o b ≡ others_there meta m.row o b
  others_are None is = refl
  others_are (Some g) is =
      targets_alike (next (Some g) is) (left (Some g)) b g (b_same g is)
      ∙ elim (holds_one meta g) as (λ t. targets (cond t (clear (Some f) b g m.row) m.row) b g ≡ cond t [] (targets m.row b g)) [
        | true ↦ no_targets (clear (Some f) b g m.row) b g (λ y. clear_gone (Some f) b g m.row (b, g, y) (own_near (Some f) b g y))
        | false ↦ refl
      ]

  room_left : (g : ℕ) (is : opposite_of meta f ≡ Some g) → room_there meta m (Some g) b ≡ true
      → is_below (count (λ (e : RowKey × ℕ). is_of b g e.0) (next (Some g) is)) (row_upper meta g) ≡ true
  room_left g is room =
      ap (λ n. is_below n (row_upper meta g)) (count_at (next (Some g) is) (left (Some g)) b g (b_same g is))
      ∙ elim (holds_one meta g) as (λ t. holds_one meta g ≡ t → t || is_below (row_count m b g) (row_upper meta g) ≡ true
      → is_below (count (λ (e : RowKey × ℕ). is_of b g e.0) (cond t (clear (Some f) b g m.row) m.row)) (row_upper meta g) ≡ true) [
        | true ↦ λ one _. one_room meta (clear (Some f) b g m.row) b g one (λ y. clear_gone (Some f) b g m.row (b, g, y) (own_near (Some f) b g y))
        | false ↦ λ _ room. room
      ] refl room

  can_join : (o : Option ℕ) (is : opposite_of meta f ≡ o) → room_there meta m o b ≡ true → is_some (rank_there meta m.row o b) ≡ true
      → CanJoin meta (record m { row = next o is }) o b
  can_join None is room rank = tt
  can_join (Some g) is room rank = (room_left g is room, ap (λ xs. is_some (end_spot xs).rank) (others_are (Some g) is) ∙ rank)

  ends_alike : (o : Option ℕ) (is : opposite_of meta f ≡ o) (ra : ℕ)
      → join_steps o a f ra b (targets_there (next o is) o b) ≡ reranks_there meta m.row o b
      ++ link_step o a f ra b (unwrap_or (rank_there meta m.row o b) 0) ∷ []
  ends_alike None is ra = refl
  ends_alike (Some g) is ra = ap (join_steps (Some g) a f ra b) (others_are (Some g) is)

  link_by : (o : Option ℕ) (is : opposite_of meta f ≡ o)
      → Leads meta m (displace meta m.row o f b
      ++ (reranks a f (targets m.row a f) (spot (targets m.row a f) k).ranks
      ++ (reranks_there meta m.row o b
      ++ link_step o a f (unwrap_or (spot (targets m.row a f) k).rank 0) b (unwrap_or (rank_there meta m.row o b) 0) ∷ [])))
      (join o a f (spot (targets (left o) a f) k).rank b (next o is))
  link_by o is =
      let ra = unwrap_or (spot (targets m.row a f) k).rank 0 in
      let first : Leads meta m (displace meta m.row o f b) (left o) = displace_leads meta sound m good f b o is in
      let n : State = record m { row = left o } in
      let second : Leads meta n (reranks a f (targets m.row a f) (spot (targets m.row a f) k).ranks) (next o is) =
      subst (λ xs. Leads meta n (reranks a f xs (spot xs k).ranks) (next o is)) (left_targets o is)
      (reranks_lead meta sound a f (targets (left o) a f) (spot (targets (left o) a f) k).ranks n first.good (held o is)) in
      let l : State = record m { row = next o is } in
      let room : room_there meta m o b ≡ true = ap (λ o. room_there meta m o b) (sym is) ∙ may.room in
      let rank : is_some (rank_there meta m.row o b) ≡ true = ap (λ o. is_some (rank_there meta m.row o b)) (sym is) ∙ may.ranked_there in
      let third = join_leads meta sound l second.good a f ra b may.typed (next_none o is) (next_free o is) o is (can_join o is room rank) in
      let ranked_so : Some ra ≡ (spot (targets (left o) a f) k).rank =
      sym (some_of (spot (targets m.row a f) k).rank may.ranked) ∙ ap (λ xs. (spot xs k).rank) (sym (left_targets o is)) in
      leads_on meta m _ _ (left o) _ first
      (leads_on meta n _ _ (next o is) _ second
      (subst (λ w. Leads meta l (reranks_there meta m.row o b ++ link_step o a f ra b (unwrap_or (rank_there meta m.row o b) 0) ∷ [])
      (join o a f w b (next o is))) ranked_so
      (subst (λ ss. Leads meta l ss (join o a f (Some ra) b (next o is))) (ends_alike o is ra) third)))

pub link_meets : LinkMeets
link_meets meta sound m good a f b k may = (link_by meta sound m good a f b k may (opposite_of meta f) refl).run

pub unlink_meets : UnlinkMeets
unlink_meets meta sound m good a f b there =
    (unlinks_lead meta sound a f m.row (record { rank = unwrap_or (get m.row (a, f, b)) 0; id = b } ∷ []) m good
    (some_of (get m.row (a, f, b)) there, refl, refl, tt)).run

-- ---- unset
tally-last : {X : Type 0} (p : X → Bool) (xs : List X) (x : X) → tally p (xs ++ x ∷ []) ≡ cond (p x) 1 0 + tally p xs
tally-last p [] x = refl
tally-last p (z ∷ xs) x = ap (λ n. cond (p z) 1 0 + n) (tally-last p xs x) ∙ swap_sums (cond (p z) 1 0) (cond (p x) 1 0) (tally p xs)
  where
    swap_sums : (a b n : ℕ) → a + (b + n) ≡ b + (a + n)
    swap_sums a b n = omega arith

tally-backwards : (p : Entry → Bool) (xs : List Entry) → tally p (backwards xs) ≡ tally p xs
tally-backwards p [] = refl
tally-backwards p (x ∷ xs) = tally-last p (backwards xs) x ∙ ap (λ n. cond (p x) 1 0 + n) (tally-backwards p xs)

all_last : (P : Entry → Type 0) (xs : List Entry) (x : Entry) → AllByRecursion P xs → P x → AllByRecursion P (xs ++ x ∷ [])
all_last P [] x all here = (here, tt)
all_last P (z ∷ xs) x all here = (all.0, all_last P xs x all.1 here)

all_backwards : (P : Entry → Type 0) (xs : List Entry) → AllByRecursion P xs → AllByRecursion P (backwards xs)
all_backwards P [] all = tt
all_backwards P (x ∷ xs) all = all_last P (backwards xs) x (all_backwards P xs all.1) all.0

any-last : (p : Entry → Bool) (xs : List Entry) (x : Entry) → list_any p (xs ++ x ∷ []) ≡ p x || list_any p xs
any-last p [] x = refl
any-last p (z ∷ xs) x = ap (λ b. p z || b) (any-last p xs x) ∙ or_swap (p z) (p x) (list_any p xs)
  where
    or_swap : (a b c : Bool) → a || (b || c) ≡ b || (a || c)
    or_swap true true c = refl
    or_swap true false c = refl
    or_swap false true c = refl
    or_swap false false c = refl

any-backwards : (p : Entry → Bool) (xs : List Entry) → list_any p (backwards xs) ≡ list_any p xs
any-backwards p [] = refl
any-backwards p (x ∷ xs) = any-last p (backwards xs) x ∙ ap (λ b. p x || b) (any-backwards p xs)

pub unset_meets : UnsetMeets
unset_meets meta sound m good a f =
    let xs = targets m.row a f in
    let o = opposite_of meta f in
    let apart : Apart (backwards xs) =
    apart_from (backwards xs) (λ i. subst (λ n. n ≤ 1) (sym (tally-backwards (λ (x : Entry). text_eq i x.id) xs)) (one_passes m.row a f i)) in
    let held : Held m.row m.row o a f (backwards xs) =
    held_from m.row o a f (backwards xs) (all_backwards (λ (x : Entry). get m.row (a, f, x.id) ≡ Some x.rank) xs (targets_held m.row a f)) apart in
    (unlinks_lead meta sound a f m.row (backwards xs) m good held).run
    ∙ ap (λ row. Some (record m { row = row }))
    (cleared_is meta sound a f m good (backwards xs) (λ y r is. any-backwards (λ (x : Entry). text_eq y x.id) xs ∙ targets_has m.row a f y r is))

-- ---- reorder
pub all_filter : (P : Entry → Type 0) (p : Entry → Bool) (xs : List Entry) → AllByRecursion P xs → AllByRecursion P (filter p xs)
all_filter P p [] all = tt
all_filter P p (x ∷ xs) all =
    elim (p x) as (λ b. AllByRecursion P
    (cond {A = List Entry} b (x ∷ filter p xs) (filter p xs))) [ true ↦ (all.0, all_filter P p xs all.1) | false ↦ all_filter P p xs all.1 ]

pub fewer : (p q : Entry → Bool) (xs : List Entry) → tally q (filter p xs) ≤ tally q xs
fewer p q [] = omega arith
fewer p q (x ∷ xs) =
    elim (p x) as (λ b. tally q (cond {A = List Entry} b (x ∷ filter p xs) (filter p xs)) ≤ cond (q x) 1 0 + tally q xs) [
      | true ↦ let h = fewer p q xs in more (cond (q x) 1 0) _ _ h
      | false ↦ let h = fewer p q xs in later (cond (q x) 1 0) _ _ h
    ]
  where
    more : (c n k : ℕ) → n ≤ k → c + n ≤ c + k
    more c n k h = omega arith

    later : (c n k : ℕ) → n ≤ k → n ≤ c + k
    later c n k h = omega arith

pub none_without : (b : IdBytes) (xs : List Entry) → list_any (λ (x : Entry). text_eq b x.id) (without_entry b xs) ≡ false
none_without b [] = refl
none_without b (x ∷ xs) =
    elim (text_eq b x.id) as (λ t. text_eq b x.id ≡ t
    → list_any (λ (x : Entry). text_eq b x.id) (cond {A = List Entry} (not t) (x ∷ without_entry b xs) (without_entry b xs)) ≡ false) [
      | true ↦ λ _. none_without b xs
      | false ↦ λ is. ap (λ t. t || list_any (λ (x : Entry). text_eq b x.id) (without_entry b xs)) is ∙ none_without b xs
    ] refl

pub ranked_missing : (a : IdBytes) (f : ℕ) (b : IdBytes) (xs : List Entry) (rs : List ℕ) (row : Rows)
    → list_any (λ (x : Entry). text_eq b x.id) xs ≡ false → get (ranked a f xs rs row) (a, f, b) ≡ get row (a, f, b)
ranked_missing a f b [] rs row h = refl
ranked_missing a f b (x ∷ _) [] row h = refl
ranked_missing a f b (x ∷ xs) (r ∷ rs) row h =
    ranked_missing a f b xs rs (set row (a, f, x.id) (Some r)) (or_second (text_eq b x.id) _ h)
    ∙ get-set_other row_order row (a, f, x.id) (Some r) (a, f, b)
    (targets_differ a f x.id b (apart text_eq text_equality b x.id (or_first (text_eq b x.id) _ h)))

pub at_most : (n k : ℕ) → n ≤ k → k ≤ 1 → n ≤ 1
at_most n k h g = omega arith

module _ (meta : Meta) (sound : Sound meta) (m : State) (good : Good meta m) (a : IdBytes) (f : ℕ) (b : IdBytes) (k : ℕ) (may : MayReorder m a f b k) where
  abbrev others : List Entry
  others = without_entry b (targets m.row a f)

  abbrev mine : List Entry
  mine = record { rank = unwrap_or (get m.row (a, f, b)) 0; id = b } ∷ []

  abbrev steps : List Step
  steps = reranks a f others (spot others k).ranks ++ reranks a f mine (unwrap_or (spot others k).rank 0 ∷ [])

  abbrev moved_row : Rows
  moved_row = set (ranked a f others (spot others k).ranks m.row) (a, f, b) (spot others k).rank

  pub others_held : Held m.row m.row None a f others
  others_held = held_from m.row None a f others
      (all_filter (λ (x : Entry). get m.row (a, f, x.id) ≡ Some x.rank) (λ x. not (text_eq b x.id)) (targets m.row a f) (targets_held m.row a f))
      (apart_from others (λ i. at_most _ _ (fewer (λ x. not (text_eq b x.id)) (λ x. text_eq i x.id) (targets m.row a f)) (one_passes m.row a f i)))

  moved : is_some (spot others k).rank ≡ true → fold meta m steps ≡ Some (record m { row = moved_row })
  moved some =
      let next = ranked a f others (spot others k).ranks m.row in
      let n : State = record m { row = next } in
      let first : Leads meta m (reranks a f others (spot others k).ranks) next = reranks_lead meta sound a f others (spot others k).ranks m good others_held in
      let here : get next (a, f, b) ≡ Some (unwrap_or (get m.row (a, f, b)) 0) =
      ranked_missing a f b others (spot others k).ranks m.row (none_without b (targets m.row a f)) ∙ some_of (get m.row (a, f, b)) may.there in
      let second = reranks_lead meta sound a f mine (unwrap_or (spot others k).rank 0 ∷ []) n first.good (here, refl, refl, tt) in
      (leads_on meta m _ _ next _ first second).run ∙ ap (λ w. Some (record m { row = set next (a, f, b) w })) (sym (some_of (spot others k).rank some))

  reordered : fold meta m (cond (stands_at b k (targets m.row a f)) [] steps) ≡ Some
      (record m { row = cond (stands_at b k (targets m.row a f)) m.row moved_row })
  reordered =
      elim (stands_at b k (targets m.row a f)) as (λ t. stands_at b k (targets m.row a f) ≡ t
      → fold meta m (cond t [] steps) ≡ Some (record m { row = cond t m.row moved_row })) [
        | true ↦ λ _. refl
        | false ↦ λ away. moved (may.ranked away)
      ] refl

pub reorder_meets : ReorderMeets
reorder_meets meta sound m good a f b k may = reordered meta sound m good a f b k may
