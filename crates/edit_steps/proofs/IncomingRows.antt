-- The rows to elements that are left are unlinked.
use Rattle.std.proofs.Common.{◌≡◌, ℕ, Bool, true, false, cond, not, List, [], ◌∷◌, refl, sym, ap, subst, ◌∙◌, ◌||◌, ◌&&◌, map}
use Rattle.std.specs.Prelude.{Option, None, Some, T}
use Rattle.std.specs.List.{filter, AllByRecursion}
use Rattle.std.specs.declared.cmp.Ordering.{Ordering}
use Rattle.std.specs.declared.cmp.Ordering.TheVariants.{Less, Equal, Greater}
use Rattle.std.specs.Ordering.{eq_by_cmp, is_eq, is_lt, ordering_reverse}
use Rattle.std.specs.FinMap.{get, entries, entries_sorted, is_sorted, find, get-entries}
use Rattle.std.specs.FinMap.Entries.{below_all}
use Rattle.finite_maps.specs.Equal.{text_eq}
use Rattle.finite_maps.specs.Maps.{set}
use Rattle.finite_maps.specs.Sorts.{without}
use Rattle.finite_maps.proofs.Cases.{not_false, not_so, true_false, or_first}
use Rattle.finite_maps.proofs.EqualLaws.{apart, text_equality}
use Rattle.finite_maps.proofs.MapLaws.{same, same_key, by_key, get-set_same, get-set_other}
use Rattle.finite_maps.proofs.NestedLaws.{get-without}
use Rattle.finite_maps.proofs.Truths.{first, second}
use Rattle.ecore_meta.specs.Meta.{Meta}
use Rattle.model_state.specs.declared.entry.Incoming.{Incoming}
use Rattle.model_state.specs.declared.step.Step.{Step}
use Rattle.model_state.specs.Keys.{IdBytes, AttrKey, RowKey, row_cmp}
use Rattle.model_state.specs.Listing.{row_incoming}
use Rattle.model_state.specs.State.{State}
use Rattle.model_state.specs.Typing.{opposite_of}
use Rattle.model_state.specs.Good.{Good, Sound}
use Rattle.model_state.proofs.Orders.{row_order}
use Rattle.edit_steps.specs.Rows.{Rows, mirror_rank, set_pair, unlink_step}
use Rattle.edit_steps.proofs.Clears.{Leads, stays, goes_on, good_after}
use Rattle.edit_steps.proofs.Joins.{leads_on}
use Rattle.edit_steps.proofs.Lists.{entries_held}
use Rattle.edit_steps.proofs.Pairs.{Takes, unlink_takes}
use Rattle.edit_steps.specs.Deletes.{incoming_unlink, incoming_left, incoming_made, is_touched}
use Rattle.edit_steps.specs.Subtree.{is_among}
use Rattle.edit_steps.proofs.Outgoing.{still_there}

-- ---- each key of a map is one of its entries, once
abbrev Behind : RowKey → List (RowKey × ℕ) → Type 0
Behind k [] = Unit {0}
Behind k (e ∷ es) = (eq_by_cmp row_cmp e.0 k ≡ false) × Behind k es

abbrev Keyed : List (RowKey × ℕ) → Type 0
Keyed [] = Unit {0}
Keyed (e ∷ es) = Behind e.0 es × Keyed es

less_differs : (x y : RowKey) → T (is_lt (row_cmp x y)) → eq_by_cmp row_cmp y x ≡ false
less_differs x y h = ap is_eq (row_order.total.antisymm y x) ∙ reversed (row_cmp x y) h
  where
    reversed : (r : Ordering) → T (is_lt r) → is_eq (ordering_reverse r) ≡ false
    reversed Less h = refl
    reversed Equal h = absurd h
    reversed Greater h = absurd h

behind : (k : RowKey) (es : List (RowKey × ℕ)) → T (below_all row_cmp k es) → Behind k es
behind k [] h = tt
behind k (e ∷ es) h = (less_differs k e.0 (first _ _ h), behind k es (second _ _ h))

keyed : (es : List (RowKey × ℕ)) → T (is_sorted row_cmp es) → Keyed es
keyed [] h = tt
keyed (e ∷ es) h = (behind e.0 es (first _ _ h), keyed es (second _ _ h))

module _ (meta : Meta) (sound : Sound meta) (row : Rows) (slots : List AttrKey) (x : IdBytes) where
  -- the row is one to x that is left
  abbrev wanted : RowKey × ℕ → Bool
  wanted e = text_eq x e.0.2 && not (is_touched meta slots e.0)

  -- the rows without those of some entries
  abbrev swept : List (RowKey × ℕ) → Rows → Rows
  swept [] now = now
  swept (e ∷ es) now = cond (wanted e) (swept es (set now e.0 None)) (swept es now)

  -- those of some entries that end at x, as x sees them; and of these the ones that are left
  abbrev ending_of : List (RowKey × ℕ) → List (RowKey × ℕ)
  ending_of es = filter (λ (e : RowKey × ℕ). text_eq x e.0.2) es

  abbrev is_left : Incoming → Bool
  is_left i = not (is_touched meta slots (i.source, i.feature, x))

  abbrev left_of : List (RowKey × ℕ) → List Incoming
  left_of es = filter is_left (map row_incoming (ending_of es))

  abbrev made_of : List (RowKey × ℕ) → List Step
  made_of es = map (incoming_unlink meta row x) (left_of es)

  -- an entry that is wanted makes a step, and no other does
  abbrev step_of : RowKey × ℕ → Step
  step_of e = incoming_unlink meta row x (row_incoming e)

  made_more : (e : RowKey × ℕ) (es : List (RowKey × ℕ)) → made_of (e ∷ es) ≡ cond (wanted e) (step_of e ∷ made_of es) (made_of es)
  made_more e es =
      elim (text_eq x e.0.2) as (λ b. text_eq x e.0.2 ≡ b
      → map (incoming_unlink meta row x)
      (filter is_left (map row_incoming (cond {A = List (RowKey × ℕ)} b (e ∷ ending_of es) (ending_of es))))
      ≡ cond (b && not (is_touched meta slots e.0)) (step_of e ∷ made_of es) (made_of es)) [
        | false ↦ λ _. refl
        | true ↦ λ is.
            let key : is_touched meta slots (e.0.0, e.0.1, x) ≡ is_touched meta slots e.0 =
            ap (λ (z : IdBytes). is_touched meta slots (e.0.0, e.0.1, z)) (text_equality.exact x e.0.2 is) in
            ap (λ t. map (incoming_unlink meta row x) (cond {A = List Incoming} (not t) (row_incoming e ∷ left_of es) (left_of es))) key
            ∙ taken (is_touched meta slots e.0)
      ] refl
    where
      taken : (t : Bool) → map (incoming_unlink meta row x) (cond {A = List Incoming} (not t) (row_incoming e ∷ left_of es) (left_of es))
          ≡ cond (not t) (step_of e ∷ made_of es) (made_of es)
      taken true = refl
      taken false = refl

  -- the wanted entries are there, and have no opposite
  abbrev Ready : Rows → List (RowKey × ℕ) → Type 0
  Ready now [] = Unit {0}
  Ready now (e ∷ es) = (wanted e ≡ true → (get now e.0 ≡ Some e.1) × (opposite_of meta e.0.1 ≡ None)) × Ready now es

  ready_still : (now : Rows) (k : RowKey) (es : List (RowKey × ℕ)) → Behind k es → Ready now es → Ready (set now k None) es
  ready_still now k [] far ready = tt
  ready_still now k (e ∷ es) far ready =
      (λ is. let was = ready.0 is in (get-set_other row_order now k None e.0 far.0 ∙ was.0, was.1), ready_still now k es far.1 ready.1)

  one_takes : (m : State) → Good meta m → (e : RowKey × ℕ) → wanted e ≡ true → get m.row e.0 ≡ Some e.1 → opposite_of meta e.0.1 ≡ None
      → Takes meta m (step_of e) (set m.row e.0 None)
  one_takes m good e is here none =
      let s = e.0.0 in
      let f = e.0.1 in
      let key : x ≡ e.0.2 = text_equality.exact x e.0.2 (first_true (text_eq x e.0.2) _ is) in
      let there : get m.row (s, f, x) ≡ Some e.1 = ap (λ (z : IdBytes). get m.row (s, f, z)) key ∙ here in
      let takes = unlink_takes meta sound m good s f e.1 x there in
      let by : (o : Option ℕ) → o ≡ None → Takes meta m (unlink_step o s f e.1 x (mirror_rank m.row o s x)) (set_pair m.row s f x o None None)
      → Takes meta m (unlink_step o s f e.1 x (mirror_rank row o s x)) (set m.row (s, f, x) None) = plain s f e.1 m in
      subst (λ (z : IdBytes). Takes meta m (step_of e) (set m.row (s, f, z) None)) key (by (opposite_of meta f) none takes)
    where
      first_true : (a b : Bool) → a && b ≡ true → a ≡ true
      first_true true b h = refl
      first_true false b h = h

      plain : (s : IdBytes) (f r : ℕ) (m : State) (o : Option ℕ) → o ≡ None
          → Takes meta m (unlink_step o s f r x (mirror_rank m.row o s x)) (set_pair m.row s f x o None None)
          → Takes meta m (unlink_step o s f r x (mirror_rank row o s x)) (set m.row (s, f, x) None)
      plain s f r m None is takes = takes
      plain s f r m (Some g) is takes = cc

  sweep_leads : (es : List (RowKey × ℕ)) (m : State) → Good meta m → Keyed es → Ready m.row es → Leads meta m (made_of es) (swept es m.row)
  sweep_leads [] m good keys ready = stays meta m good
  sweep_leads (e ∷ es) m good keys ready =
      subst (λ ss. Leads meta m ss (swept (e ∷ es) m.row)) (sym (made_more e es))
      (elim (wanted e) as (λ b. wanted e ≡ b
      → Leads meta m (cond b (step_of e ∷ made_of es) (made_of es)) (cond b (swept es (set m.row e.0 None)) (swept es m.row))) [
        | true ↦ λ is.
            let was = ready.0 is in
            let takes = one_takes m good e is was.0 was.1 in
            let next = set m.row e.0 None in
            goes_on meta sound m good (step_of e) (made_of es) next (swept es next) takes
            (sweep_leads es (record m { row = next }) (good_after meta sound m good (step_of e) next takes) keys.1 (ready_still m.row e.0 es keys.0 ready.1))
        | false ↦ λ _. sweep_leads es m good keys.1 ready.1
      ] refl)

  -- ---- what is left of the rows
  swept_none : (es : List (RowKey × ℕ)) (now : Rows) (k : RowKey) → get now k ≡ None → get (swept es now) k ≡ None
  swept_none [] now k h = h
  swept_none (e ∷ es) now k h =
      elim (wanted e) as (λ b. get (cond b (swept es (set now e.0 None)) (swept es now)) k ≡ None) [
        | true ↦ swept_none es (set now e.0 None) k
            (by_key row_order (λ q. get now q ≡ None → get (set now e.0 None) q ≡ None) e.0 k (λ _. get-set_same row_order now e.0 None)
            (λ apart g. get-set_other row_order now e.0 None k apart ∙ g) h)
        | false ↦ swept_none es now k h
      ]

  swept_gone : (es : List (RowKey × ℕ)) (now : Rows) (k : RowKey) (r : ℕ) → find row_cmp k es ≡ Some r → wanted (k, r) ≡ true → get (swept es now) k ≡ None
  swept_gone [] now k r h is = cc
  swept_gone (e ∷ es) now k r h is =
      elim (eq_by_cmp row_cmp k e.0) as (λ b. eq_by_cmp row_cmp k e.0 ≡ b → cond b (Some e.1) (find row_cmp k es) ≡ Some r
      → get (swept (e ∷ es) now) k ≡ None) [
        | true ↦ λ tied _.
            let key = same_key row_order k e.0 tied in
            let same_test : wanted e ≡ true = ap (λ (q : RowKey). text_eq x q.2 && not (is_touched meta slots q)) (sym key) ∙ is in
            ap (λ b. get (cond b (swept es (set now e.0 None)) (swept es now)) k) same_test
            ∙ swept_none es (set now e.0 None) k (ap (get (set now e.0 None)) key ∙ get-set_same row_order now e.0 None)
        | false ↦ λ _ g.
            elim (wanted e) as (λ b. get (cond b (swept es (set now e.0 None)) (swept es now)) k ≡ None) [
              | true ↦ swept_gone es (set now e.0 None) k r g is
              | false ↦ swept_gone es now k r g is
            ]
      ] refl h

  swept_other : (es : List (RowKey × ℕ)) (now : Rows) (k : RowKey) → text_eq x k.2 ≡ false → get (swept es now) k ≡ get now k
  swept_other [] now k far = refl
  swept_other (e ∷ es) now k far =
      elim (wanted e) as (λ b. wanted e ≡ b → get (cond b (swept es (set now e.0 None)) (swept es now)) k ≡ get now k) [
        | true ↦ λ is. swept_other es (set now e.0 None) k far ∙ get-set_other row_order now e.0 None k (not_so (eq_by_cmp row_cmp k e.0) (λ tied.
            true_false (text_eq x k.2) (ap (λ (q : RowKey). text_eq x q.2) (same_key row_order k e.0 tied) ∙ first_true (text_eq x e.0.2) _ is) far))
        | false ↦ λ _. swept_other es now k far
      ] refl
    where
      first_true : (a b : Bool) → a && b ≡ true → a ≡ true
      first_true true b h = refl
      first_true false b h = h

-- the row is touched, or ends at one of the elements
abbrev pub is_gone : Meta → List AttrKey → List IdBytes → RowKey → Bool
is_gone meta slots done k = is_touched meta slots k || is_among done k.2

-- a row to one of the elements that isn't touched has no opposite
abbrev pub NoOpposites : Meta → Rows → List AttrKey → List IdBytes → Type 0
NoOpposites meta row slots xs = (s : IdBytes) (f : ℕ) (x : IdBytes) (r : ℕ) → is_among xs x ≡ true → get row (s, f, x) ≡ Some r
    → is_touched meta slots (s, f, x) ≡ false → opposite_of meta f ≡ None

module _ (meta : Meta) (sound : Sound meta) (row : Rows) (slots : List AttrKey) (xs : List IdBytes) (alone : NoOpposites meta row slots xs) where
  module _ (m : State) (good : Good meta m) (done : List IdBytes) (same_row : m.row ≡ without (is_gone meta slots done) row) (x : IdBytes)
      (fresh : is_among done x ≡ false) (one : is_among xs x ≡ true) where
    read : (k : RowKey) → get m.row k ≡ cond (is_gone meta slots done k) None (get row k)
    read k = ap (λ w. get w k) same_row ∙ get-without row_order (is_gone meta slots done) row k

    not_wanted : (a b : Bool) → a && not b ≡ true → (a ≡ true) × (b ≡ false)
    not_wanted true true h = cc
    not_wanted true false h = (refl, refl)
    not_wanted false b h = cc

    ready : (es : List (RowKey × ℕ)) → AllByRecursion (λ (e : RowKey × ℕ). get row e.0 ≡ Some e.1) es → Ready meta sound row slots x m.row es
    ready [] all = tt
    ready (e ∷ es) all = (
      λ is.
          let test = not_wanted (text_eq x e.0.2) (is_touched meta slots e.0) is in
          let key : x ≡ e.0.2 = text_equality.exact x e.0.2 test.0 in
          let stays_on : is_gone meta slots done e.0 ≡ false = ap (λ b. b || is_among done e.0.2) test.1 ∙ ap (is_among done) (sym key) ∙ fresh in
          (read e.0 ∙ ap (λ b. cond b None (get row e.0)) stays_on ∙ all.0, alone e.0.0 e.0.1 e.0.2 e.1 (ap (is_among xs) (sym key) ∙ one) all.0 test.1),
      ready es all.1,
    )

    swept_is : swept meta sound row slots x (entries row) m.row ≡ without (is_gone meta slots (x ∷ done)) row
    swept_is = same row_order _ _ (λ k.
        elim (text_eq x k.2) as (λ b. text_eq x k.2 ≡ b
        → get (swept meta sound row slots x (entries row) m.row) k ≡ get (without (is_gone meta slots (x ∷ done)) row) k) [
          | true ↦ λ is.
              let there : is_gone meta slots (x ∷ done) k ≡ true =
              ap (λ b. is_touched meta slots k || (b || is_among done k.2)) (turned x k.2 is) ∙ or_true (is_touched meta slots k) in
              here k is (get m.row k) refl
              ∙ sym (get-without row_order (is_gone meta slots (x ∷ done)) row k ∙ ap (λ b. cond b None (get row k)) there)
          | false ↦ λ far.
              swept_other meta sound row slots x (entries row) m.row k far ∙ read k
              ∙ sym (get-without row_order (is_gone meta slots (x ∷ done)) row k
              ∙ ap (λ b. cond (is_touched meta slots k || (b || is_among done k.2)) None (get row k)) (apart text_eq text_equality x k.2 far))
        ] refl)
      where
        or_true : (b : Bool) → b || true ≡ true
        or_true true = refl
        or_true false = refl

        turned : (x y : IdBytes) → text_eq x y ≡ true → text_eq y x ≡ true
        turned x y h = ap (λ (z : IdBytes). text_eq z x) (sym (text_equality.exact x y h)) ∙ text_equality.own x

        here : (k : RowKey) → text_eq x k.2 ≡ true → (o : Option ℕ) → get m.row k ≡ o → get (swept meta sound row slots x (entries row) m.row) k ≡ None
        here k is None none = swept_none meta sound row slots x (entries row) m.row k none
        here k is (Some r) some =
            let at = still_there (is_gone meta slots done k) (get row k) r (sym (read k) ∙ some) in
            let test : wanted meta sound row slots x (k, r) ≡ true =
            ap (λ b. b && not (is_touched meta slots k)) is ∙ not_false (is_touched meta slots k) (or_first (is_touched meta slots k) _ at.0) in
            swept_gone meta sound row slots x (entries row) m.row k r (sym (get-entries row k) ∙ at.1) test

    pub one_leads : Leads meta m (map (incoming_unlink meta row x) (incoming_left meta row slots x)) (without (is_gone meta slots (x ∷ done)) row)
    one_leads = subst (λ w. Leads meta m (map (incoming_unlink meta row x) (incoming_left meta row slots x)) w) swept_is
        (sweep_leads meta sound row slots x (entries row) m good (keyed (entries row) (entries_sorted row))
        (ready (entries row) (entries_held row_order row)))

-- the elements after others, the last first
abbrev pub gathered : List IdBytes → List IdBytes → List IdBytes
gathered [] done = done
gathered (x ∷ xs) done = gathered xs (x ∷ done)

module _ (meta : Meta) (sound : Sound meta) (row : Rows) (slots : List AttrKey) (xs : List IdBytes) (alone : NoOpposites meta row slots xs) where
  -- each is one of xs, and none was before
  abbrev pub Fresh : List IdBytes → List IdBytes → Type 0
  Fresh done [] = Unit {0}
  Fresh done (y ∷ ys) = (is_among done y ≡ false) × (is_among xs y ≡ true) × Fresh (y ∷ done) ys

  pub incoming_leads : (ys done : List IdBytes) (m : State) → Good meta m → m.row ≡ without (is_gone meta slots done) row → Fresh done ys
      → Leads meta m (incoming_made meta row slots ys) (without (is_gone meta slots (gathered ys done)) row)
  incoming_leads [] done m good is fresh = subst (λ w. Leads meta m [] w) is (stays meta m good)
  incoming_leads (y ∷ ys) done m good is fresh =
      let next = without (is_gone meta slots (y ∷ done)) row in
      let first_part = one_leads meta sound row slots xs alone m good done is y fresh.0 fresh.1 in
      leads_on meta m (map (incoming_unlink meta row y) (incoming_left meta row slots y)) (incoming_made meta row slots ys) next _ first_part
      (incoming_leads ys (y ∷ done) (record m { row = next }) first_part.good refl fresh.2)
