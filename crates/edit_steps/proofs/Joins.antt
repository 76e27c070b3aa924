-- A row that is added at the end of its opposite's list.
use Rattle.std.proofs.Common.{◌≡◌, ℕ, true, false, List, [], ◌∷◌, ◌++◌, refl, sym, ap, subst, ◌∙◌, nat_eq}
use Rattle.std.specs.Prelude.{Option, None, Some, is_some, unwrap_or}
use Rattle.std.specs.List.{AllByRecursion}
use Rattle.std.specs.Ordering.{eq_by_cmp}
use Rattle.std.specs.FinMap.{get}
use Rattle.finite_maps.specs.Equal.{text_eq}
use Rattle.finite_maps.specs.Maps.{set, count, is_below, passes}
use Rattle.finite_maps.proofs.MapLaws.{get-set_other, get-set_same, by_key, same_key}
use Rattle.finite_maps.proofs.CountLaws.{count_alike, count_none}
use Rattle.finite_maps.proofs.EqualLaws.{apart, and_second, and_both, nat_equality, text_equality}
use Rattle.ecore_meta.specs.Meta.{Meta}
use Rattle.model_state.specs.declared.entry.Entry.{Entry}
use Rattle.model_state.specs.declared.step.Step.{Step}
use Rattle.model_state.specs.Keys.{IdBytes, RowKey, row_cmp}
use Rattle.model_state.specs.Typing.{opposite_of, row_upper}
use Rattle.model_state.specs.State.{State, row_count}
use Rattle.model_state.specs.Steps.{may_link, mirror_room}
use Rattle.model_state.specs.Good.{Good, Sound}
use Rattle.model_state.specs.Listing.{is_of, targets}
use Rattle.model_state.proofs.Orders.{row_order}
use Rattle.model_laws.proofs.Runs.{fold_append}
use Rattle.finite_maps.proofs.Cases.{not_so, true_false, some_none}
use Rattle.model_state.proofs.StepTests.{number_equality}
use Rattle.edit_steps.specs.Spot.{end_spot}
use Rattle.edit_steps.specs.Rows.{Rows, set_pair, ranked, link_step, reranks}
use Rattle.edit_steps.specs.References.{holds_one, join}
use Rattle.edit_steps.proofs.Lists.{targets_held, targets_apart, of_exact}
use Rattle.edit_steps.proofs.Pairs.{link_takes, some_of}
use Rattle.edit_steps.proofs.Clears.{Leads, stays, goes_on, good_after, Held, held_from, reranks_lead, ranks_still}

-- one run after another
pub leads_on : (meta : Meta) (m : State) (ss ts : List Step) (row row' : Rows) → Leads meta m ss row → Leads meta (record m { row = row }) ts row'
    → Leads meta m (ss ++ ts) row'
leads_on meta m ss ts row row' first next = record {
  run = fold_append meta m (record m { row = row }) ss ts first.run ∙ next.run;
  good = next.good;
}

-- ---- what reranks leave
pub not_of : (b : IdBytes) (g : ℕ) (a : IdBytes) (f : ℕ) (y : IdBytes) → nat_eq g f ≡ false → is_of b g (a, f, y) ≡ false
not_of b g a f y differ = not_so (is_of b g (a, f, y)) (λ h. true_false (nat_eq g f) (and_second (text_eq b a) _ h) differ)

of_true : (b : IdBytes) (g : ℕ) (y : IdBytes) → is_of b g (b, g, y) ≡ true
of_true b g y = and_both _ _ (text_equality.own b) (nat_equality.own g)

module _ (b : IdBytes) (g : ℕ) where
  pub ranked_other : (xs : List Entry) (rs : List ℕ) (row : Rows) (q : RowKey) → is_of b g q ≡ false → get (ranked b g xs rs row) q ≡ get row q
  ranked_other [] rs row q away = refl
  ranked_other (x ∷ xs) [] row q away = refl
  ranked_other (x ∷ xs) (r ∷ rs) row q away =
      ranked_other xs rs (set row (b, g, x.id) (Some r)) q away
      ∙ get-set_other row_order row (b, g, x.id) (Some r) q
      (not_so (eq_by_cmp row_cmp q (b, g, x.id))
      (λ same. true_false (is_of b g q) (ap (is_of b g) (same_key row_order q (b, g, x.id) same) ∙ of_true b g x.id) away))

  -- the same rows are there
  pub ranked_there : (meta : Meta) → Sound meta → (xs : List Entry) (rs : List ℕ) (row : Rows) → Held row row None b g xs → (q : RowKey)
      → is_some (get (ranked b g xs rs row) q) ≡ is_some (get row q)
  ranked_there meta sound [] rs row held q = refl
  ranked_there meta sound (x ∷ xs) [] row held q = refl
  ranked_there meta sound (x ∷ xs) (r ∷ rs) row held q =
      let next = set row (b, g, x.id) (Some r) in
      ranked_there meta sound xs rs next (ranks_still meta sound b g row x.id (Some r) xs held.2 held.3 next refl) q
      ∙ by_key row_order (λ q. is_some (get next q) ≡ is_some (get row q)) (b, g, x.id) q
      (ap is_some (get-set_same row_order row (b, g, x.id) (Some r)) ∙ sym (ap is_some held.0))
      (λ other. ap is_some (get-set_other row_order row (b, g, x.id) (Some r) q other))

-- ---- counts
same_passes : (x : IdBytes) (h : ℕ) (q : RowKey) (o o' : Option ℕ) → is_some o ≡ is_some o'
    → passes (λ (e : RowKey × ℕ). is_of x h e.0) q o ≡ passes (λ (e : RowKey × ℕ). is_of x h e.0) q o'
same_passes x h q None None e = refl
same_passes x h q None (Some v) e = cc
same_passes x h q (Some v) None e = cc
same_passes x h q (Some v) (Some w) e = refl

pub count_there : (r s : Rows) (x : IdBytes) (h : ℕ) → ((q : RowKey) → is_some (get r q) ≡ is_some (get s q))
    → count (λ (e : RowKey × ℕ). is_of x h e.0) r ≡ count (λ (e : RowKey × ℕ). is_of x h e.0) s
count_there r s x h alike = count_alike row_order (λ e. is_of x h e.0) r s (λ q. same_passes x h q (get r q) (get s q) (alike q))

away_passes : (x : IdBytes) (h : ℕ) (q : RowKey) (o : Option ℕ) → is_of x h q ≡ false → passes (λ (e : RowKey × ℕ). is_of x h e.0) q o ≡ false
away_passes x h q None away = refl
away_passes x h q (Some v) away = away

-- where the rows of a feature are the same, so is their number
pub count_at : (r s : Rows) (x : IdBytes) (h : ℕ) → ((y : IdBytes) → get r (x, h, y) ≡ get s (x, h, y))
    → count (λ (e : RowKey × ℕ). is_of x h e.0) r ≡ count (λ (e : RowKey × ℕ). is_of x h e.0) s
count_at r s x h alike = count_alike row_order (λ e. is_of x h e.0) r s (λ q.
    elim (is_of x h q) as (λ t. is_of x h q ≡ t
    → passes (λ (e : RowKey × ℕ). is_of x h e.0) q (get r q) ≡ passes (λ (e : RowKey × ℕ). is_of x h e.0) q (get s q)) [
      | true ↦ λ is. same_passes x h q (get r q) (get s q) (ap is_some (ap (get r) (of_exact x h q is) ∙ alike q.2 ∙ ap (get s) (sym (of_exact x h q is))))
      | false ↦ λ is. away_passes x h q (get r q) is ∙ sym (away_passes x h q (get s q) is)
    ] refl)

-- no row of a feature
pub none_counted_at : (r : Rows) (x : IdBytes) (h : ℕ) → ((y : IdBytes) → get r (x, h, y) ≡ None) → count (λ (e : RowKey × ℕ). is_of x h e.0) r ≡ 0
none_counted_at r x h none =
    count_none row_order (λ e. is_of x h e.0) r
    (λ q v is. not_so (is_of x h q) (λ of. some_none (get r q) v is (ap (get r) (of_exact x h q of) ∙ none q.2)))

pub no_targets : (r : Rows) (x : IdBytes) (h : ℕ) → ((y : IdBytes) → get r (x, h, y) ≡ None) → targets r x h ≡ []
no_targets r x h none = no_first (targets r x h) (targets_held r x h)
  where
    no_first : (xs : List Entry) → AllByRecursion (λ (e : Entry). get r (x, h, e.id) ≡ Some e.rank) xs → xs ≡ []
    no_first [] all = refl
    no_first (e ∷ xs) all = absurd (some_none (get r (x, h, e.id)) e.rank all.0 (none e.id))

one_upper : (meta : Meta) (f : ℕ) → holds_one meta f ≡ true → row_upper meta f ≡ Some 1
one_upper meta f one = number_equality.exact (row_upper meta f) (Some 1) one

-- where there is none, a feature that holds one has room
pub one_room : (meta : Meta) (r : Rows) (x : IdBytes) (h : ℕ) → holds_one meta h ≡ true → ((y : IdBytes) → get r (x, h, y) ≡ None)
    → is_below (count (λ (e : RowKey × ℕ). is_of x h e.0) r) (row_upper meta h) ≡ true
one_room meta r x h one none = ap (λ n. is_below n (row_upper meta h)) (none_counted_at r x h none) ∙ ap (is_below 0) (one_upper meta h one)

-- ---- the end of a run: reranks of the opposite's list, and the link
abbrev pub join_steps : Option ℕ → IdBytes → ℕ → ℕ → IdBytes → List Entry → List Step
join_steps None a f ra b xs = link_step None a f ra b 0 ∷ []
join_steps (Some g) a f ra b xs = reranks b g xs (end_spot xs).ranks ++ link_step (Some g) a f ra b (unwrap_or (end_spot xs).rank 0) ∷ []

-- room for the mirror, and a rank
abbrev pub CanJoin : Meta → State → Option ℕ → IdBytes → Type 0
CanJoin meta m None b = Unit {0}
CanJoin meta m (Some g) b = (is_below (row_count m b g) (row_upper meta g) ≡ true) × (is_some (end_spot (targets m.row b g)).rank ≡ true)

abbrev pub targets_there : Rows → Option ℕ → IdBytes → List Entry
targets_there row None b = []
targets_there row (Some g) b = targets row b g

module _ (meta : Meta) (sound : Sound meta) (m : State) (good : Good meta m) (a : IdBytes) (f : ℕ) (ra : ℕ) (b : IdBytes)
    (typed : may_link meta (get m.kind a) f (get m.kind b) ≡ true) (none : get m.row (a, f, b) ≡ None)
    (room : is_below (row_count m a f) (row_upper meta f) ≡ true) where
  link_last : (rb : ℕ) → mirror_room meta m (opposite_of meta f) b ≡ true
      → Leads meta m (link_step (opposite_of meta f) a f ra b rb ∷ []) (set_pair m.row a f b (opposite_of meta f) (Some ra) (Some rb))
  link_last rb room' =
      let next = set_pair m.row a f b (opposite_of meta f) (Some ra) (Some rb) in
      let takes = link_takes meta sound m good a f ra b rb typed none room room' in
      goes_on meta sound m good (link_step (opposite_of meta f) a f ra b rb) [] next next takes
      (stays meta (record m { row = next }) (good_after meta sound m good _ next takes))

pub join_leads : (meta : Meta) (sound : Sound meta) (m : State) (good : Good meta m) (a : IdBytes) (f : ℕ) (ra : ℕ) (b : IdBytes)
    → may_link meta (get m.kind a) f (get m.kind b) ≡ true → get m.row (a, f, b) ≡ None → is_below (row_count m a f) (row_upper meta f) ≡ true
    → (o : Option ℕ) → opposite_of meta f ≡ o → CanJoin meta m o b
    → Leads meta m (join_steps o a f ra b (targets_there m.row o b)) (join o a f (Some ra) b m.row)
join_leads meta sound m good a f ra b typed none room None is can =
    subst (λ o. Leads meta m (link_step o a f ra b 0 ∷ []) (set_pair m.row a f b o (Some ra) (Some 0))) is
    (link_last meta sound m good a f ra b typed none room 0 (ap (λ o. mirror_room meta m o b) is))
join_leads meta sound m good a f ra b typed none room (Some g) is can =
    let xs = targets m.row b g in
    let s = end_spot xs in
    let rb = unwrap_or s.rank 0 in
    let row = ranked b g xs s.ranks m.row in
    let held : Held m.row m.row None b g xs = held_from m.row None b g xs (targets_held m.row b g) (targets_apart m.row b g) in
    let n : State = record m { row = row } in
    let leads : Leads meta m (reranks b g xs s.ranks) row = reranks_lead meta sound b g xs s.ranks m good held in
    let none' : get row (a, f, b) ≡ None =
    ranked_other b g xs s.ranks m.row (a, f, b) (not_of b g a f b (apart nat_eq nat_equality f g (sound.other f g is))) ∙ none in
    let counts_same : (x : IdBytes) (h : ℕ)
    → row_count n x h ≡ row_count m x h = λ x h. count_there row m.row x h (ranked_there b g meta sound xs s.ranks m.row held) in
    let room' : is_below (row_count n a f) (row_upper meta f) ≡ true = ap (λ k. is_below k (row_upper meta f)) (counts_same a f) ∙ room in
    let there : is_below (row_count n b g) (row_upper meta g) ≡ true = ap (λ k. is_below k (row_upper meta g)) (counts_same b g) ∙ can.0 in
    let last : Leads meta n (link_step (Some g) a f ra b rb ∷ []) (set_pair row a f b (Some g) (Some ra) (Some rb)) =
    subst (λ o. Leads meta n (link_step o a f ra b rb ∷ []) (set_pair row a f b o (Some ra) (Some rb))) is
    (link_last meta sound n leads.good a f ra b typed none' room' rb (ap (λ o. mirror_room meta n o b) is ∙ there)) in
    leads_on meta m (reranks b g xs s.ranks) (link_step (Some g) a f ra b rb ∷ []) row (join (Some g) a f (Some ra) b m.row) leads
    (subst (λ w. Leads meta n (link_step (Some g) a f ra b rb ∷ []) (set (set row (a, f, b) (Some ra)) (b, g, a) w)) (sym (some_of s.rank can.1)) last)
