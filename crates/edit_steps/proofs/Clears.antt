-- Runs of unlinks and of reranks.
use Rattle.std.proofs.Common.{◌≡◌, ℕ, Bool, true, false, cond, List, [], ◌∷◌, refl, sym, ap, subst, ◌∙◌, ◌||◌, nat_eq}
use Rattle.std.specs.Prelude.{Option, None, Some, is_some, unwrap_or}
use Rattle.std.specs.List.{list_any, AllByRecursion}
use Rattle.std.specs.Ordering.{eq_by_cmp}
use Rattle.std.specs.FinMap.{get}
use Rattle.finite_maps.specs.Equal.{text_eq}
use Rattle.finite_maps.specs.Maps.{set}
use Rattle.finite_maps.proofs.MapLaws.{same, get-set_other, get-set_same, set_here, same_key, by_key}
use Rattle.finite_maps.proofs.NestedLaws.{get-without}
use Rattle.finite_maps.proofs.EqualLaws.{apart, and_first, and_second, and_both, nat_equality, text_equality}
use Rattle.ecore_meta.specs.Meta.{Meta}
use Rattle.model_state.specs.declared.entry.Entry.{Entry}
use Rattle.model_state.specs.declared.step.Step.{Step}
use Rattle.model_state.specs.declared.step.Step.TheVariants.{RerankRow}
use Rattle.model_state.specs.Keys.{IdBytes, RowKey, row_cmp}
use Rattle.model_state.specs.Typing.{opposite_of}
use Rattle.model_state.specs.State.{State}
use Rattle.model_state.specs.Steps.{fold}
use Rattle.model_state.specs.Good.{Good, Sound}
use Rattle.model_state.specs.Listing.{is_of, targets}
use Rattle.model_state.proofs.Orders.{row_order}
use Rattle.model_laws.proofs.Runs.{undoes, fold_more}
use Rattle.finite_maps.proofs.Cases.{not_so, true_false, no_some, or_first, or_second}
use Rattle.edit_steps.specs.Rows.{Rows, set_pair, is_row_or_mirror, is_mirror, clear, ranked, unlink_step, mirror_rank, unlinks, reranks}
use Rattle.edit_steps.proofs.Lists.{Apart, targets_held, targets_has, targets_apart, of_exact}
use Rattle.edit_steps.proofs.Pairs.{Takes, unlink_takes, rerank_takes, rows_apart}

-- a run leads to a good state with these rows
pub record Leads (meta : Meta) (m : State) (ss : List Step) (row : Rows) : Type 0 where
  pub run : fold meta m ss ≡ Some (record m { row = row })
  pub good : Good meta (record m { row = row })

pub stays : (meta : Meta) (m : State) → Good meta m → Leads meta m [] m.row
stays meta m good = record { run = refl; good = good }

-- a step, and a run from where it leads
pub goes_on : (meta : Meta) → Sound meta → (m : State) → Good meta m → (s : Step) (ss : List Step) (row row' : Rows) → Takes meta m s row
    → Leads meta (record m { row = row }) ss row' → Leads meta m (s ∷ ss) row'
goes_on meta sound m good s ss row row' takes leads = record {
  run = fold_more meta m s ss takes.can ∙ ap (λ x. fold meta x ss) takes.leaves ∙ leads.run;
  good = leads.good;
}

pub good_after : (meta : Meta) → Sound meta → (m : State) → Good meta m → (s : Step) (row : Rows) → Takes meta m s row → Good meta (record m { row = row })
good_after meta sound m good s row takes = subst (λ x. Good meta x) takes.leaves (undoes meta sound m good s takes.can).keeps

-- ---- the entries of a list and their mirrors have these ranks, and each is there once
abbrev pub Held : Rows → Rows → Option ℕ → IdBytes → ℕ → List Entry → Type 0
Held before row o a f [] = Unit {0}
Held before row o a f (x ∷ xs) =
    (get row (a, f, x.id) ≡ Some x.rank) × (mirror_rank row o a x.id ≡ mirror_rank before o a x.id)
    × (list_any (λ (y : Entry). text_eq x.id y.id) xs ≡ false) × Held before row o a f xs

pub held_from : (row : Rows) (o : Option ℕ) (a : IdBytes) (f : ℕ) (xs : List Entry)
    → AllByRecursion (λ (x : Entry). get row (a, f, x.id) ≡ Some x.rank) xs → Apart xs → Held row row o a f xs
held_from row o a f [] all apart = tt
held_from row o a f (x ∷ xs) all apart = (all.0, refl, apart.0, held_from row o a f xs all.1 apart.1)

-- the rows without the entries
abbrev pub cleared : Option ℕ → IdBytes → ℕ → List Entry → Rows → Rows
cleared o a f [] row = row
cleared o a f (x ∷ xs) row = cleared o a f xs (set_pair row a f x.id o None None)

-- rows to different elements, and from different elements
pub targets_differ : (a : IdBytes) (f : ℕ) (x y : IdBytes) → text_eq x y ≡ false → eq_by_cmp row_cmp (a, f, y) (a, f, x) ≡ false
targets_differ a f x y differ = not_so (eq_by_cmp row_cmp (a, f, y) (a, f, x)) (λ same.
    true_false (text_eq x y) (ap (λ (q : RowKey). text_eq x q.2) (same_key row_order (a, f, y) (a, f, x) same) ∙ text_equality.own x) differ)

sources_differ : (a : IdBytes) (g : ℕ) (x y : IdBytes) → text_eq x y ≡ false → eq_by_cmp row_cmp (y, g, a) (x, g, a) ≡ false
sources_differ a g x y differ = not_so (eq_by_cmp row_cmp (y, g, a) (x, g, a)) (λ same.
    true_false (text_eq x y) (ap (λ (q : RowKey). text_eq x q.0) (same_key row_order (y, g, a) (x, g, a) same) ∙ text_equality.own x) differ)

module _ (meta : Meta) (sound : Sound meta) (a : IdBytes) (f : ℕ) where
  -- another entry of the list, and its mirror
  row_still : (o : Option ℕ) → opposite_of meta f ≡ o → (row : Rows) (x y : IdBytes) (v w : Option ℕ) → text_eq x y ≡ false
      → get (set_pair row a f x o v w) (a, f, y) ≡ get row (a, f, y)
  row_still None is row x y v w differ = get-set_other row_order row (a, f, x) v (a, f, y) (targets_differ a f x y differ)
  row_still (Some g) is row x y v w differ =
      get-set_other row_order (set row (a, f, x) v) (x, g, a) w (a, f, y) (rows_apart a f y x g a (sound.other f g is))
      ∙ get-set_other row_order row (a, f, x) v (a, f, y) (targets_differ a f x y differ)

  mirror_still : (o : Option ℕ) → opposite_of meta f ≡ o → (row : Rows) (x y : IdBytes) (v w : Option ℕ) → text_eq x y ≡ false
      → mirror_rank (set_pair row a f x o v w) o a y ≡ mirror_rank row o a y
  mirror_still None is row x y v w differ = refl
  mirror_still (Some g) is row x y v w differ =
      ap (λ o. unwrap_or o 0) (
      get-set_other row_order (set row (a, f, x) v) (x, g, a) w (y, g, a) (sources_differ a g x y differ)
      ∙ get-set_other row_order row (a, f, x) v (y, g, a) (rows_apart y g a a f x (apart nat_eq nat_equality f g (sound.other f g is))))

  held_still : (before row : Rows) (x : IdBytes) (v w : Option ℕ) (xs : List Entry) → list_any (λ (y : Entry). text_eq x y.id) xs ≡ false
      → Held before row (opposite_of meta f) a f xs → Held before (set_pair row a f x (opposite_of meta f) v w) (opposite_of meta f) a f xs
  held_still before row x v w [] differ held = tt
  held_still before row x v w (y ∷ ys) differ held =
      let other : text_eq x y.id ≡ false = or_first (text_eq x y.id) (list_any (λ (y : Entry). text_eq x y.id) ys) differ in (
        row_still (opposite_of meta f) refl row x y.id v w other ∙ held.0,
        mirror_still (opposite_of meta f) refl row x y.id v w other ∙ held.1,
        held.2,
        held_still before row x v w ys (or_second (text_eq x y.id) _ differ) held.3,
      )

  -- the unlinks of a list's entries
  pub unlinks_lead : (before : Rows) (xs : List Entry) (m : State) → Good meta m → Held before m.row (opposite_of meta f) a f xs
      → Leads meta m (unlinks before (opposite_of meta f) a f xs) (cleared (opposite_of meta f) a f xs m.row)
  unlinks_lead before [] m good held = stays meta m good
  unlinks_lead before (x ∷ xs) m good held =
      let o = opposite_of meta f in
      let next = set_pair m.row a f x.id o None None in
      let takes : Takes meta m (unlink_step o a f x.rank x.id (mirror_rank before o a x.id)) next =
      subst (λ r. Takes meta m (unlink_step o a f x.rank x.id r) next) held.1 (unlink_takes meta sound m good a f x.rank x.id held.0) in
      goes_on meta sound m good _ (unlinks before o a f xs) next _ takes
      (unlinks_lead before xs (record m { row = next }) (good_after meta sound m good _ next takes) (held_still before m.row x.id None None xs held.2 held.3))

  -- ---- what is left
  pub pair_other : (o : Option ℕ) (row : Rows) (x : IdBytes) (v w : Option ℕ) (q : RowKey) → is_row_or_mirror o a f q ≡ false
      → get (set_pair row a f x o v w) q ≡ get row q
  pair_other None row x v w q away = get-set_other row_order row (a, f, x) v q (not_so (eq_by_cmp row_cmp q (a, f, x)) (λ same.
      true_false (is_of a f q) (ap (is_of a f) (same_key row_order q (a, f, x) same) ∙ and_both _ _ (text_equality.own a) (nat_equality.own f))
      (or_first (is_of a f q) false away)))
  pair_other (Some g) row x v w q away =
      get-set_other row_order (set row (a, f, x) v) (x, g, a) w q (not_so (eq_by_cmp row_cmp q (x, g, a)) (λ same.
      true_false (is_mirror (Some g) a q)
      (ap (is_mirror (Some g) a) (same_key row_order q (x, g, a) same) ∙ and_both _ _ (nat_equality.own g) (text_equality.own a))
      (or_second (is_of a f q) _ away)))
      ∙ get-set_other row_order row (a, f, x) v q (not_so (eq_by_cmp row_cmp q (a, f, x)) (λ same.
      true_false (is_of a f q) (ap (is_of a f) (same_key row_order q (a, f, x) same) ∙ and_both _ _ (text_equality.own a) (nat_equality.own f))
      (or_first (is_of a f q) _ away)))

  cleared_other : (o : Option ℕ) (xs : List Entry) (row : Rows) (q : RowKey) → is_row_or_mirror o a f q ≡ false → get (cleared o a f xs row) q ≡ get row q
  cleared_other o [] row q away = refl
  cleared_other o (x ∷ xs) row q away = cleared_other o xs (set_pair row a f x.id o None None) q away ∙ pair_other o row x.id None None q away

  none_set : (row : Rows) (k q : RowKey) → get row q ≡ None → get (set row k None) q ≡ None
  none_set row k q none =
      by_key row_order (λ q. get row q ≡ None → get (set row k None) q ≡ None) k q (λ _. get-set_same row_order row k None)
      (λ other h. get-set_other row_order row k None q other ∙ h) none

  none_pair : (o : Option ℕ) (row : Rows) (x : IdBytes) (q : RowKey) → get row q ≡ None → get (set_pair row a f x o None None) q ≡ None
  none_pair None row x q none = none_set row (a, f, x) q none
  none_pair (Some g) row x q none = none_set (set row (a, f, x) None) (x, g, a) q (none_set row (a, f, x) q none)

  none_stays : (o : Option ℕ) (xs : List Entry) (row : Rows) (q : RowKey) → get row q ≡ None → get (cleared o a f xs row) q ≡ None
  none_stays o [] row q none = none
  none_stays o (x ∷ xs) row q none = none_stays o xs (set_pair row a f x.id o None None) q (none_pair o row x.id q none)

  pub pair_row : (o : Option ℕ) (row : Rows) (x : IdBytes) → get (set_pair row a f x o None None) (a, f, x) ≡ None
  pair_row None row x = get-set_same row_order row (a, f, x) None
  pair_row (Some g) row x = none_set (set row (a, f, x) None) (x, g, a) (a, f, x) (get-set_same row_order row (a, f, x) None)

  cleared_row : (o : Option ℕ) (xs : List Entry) (row : Rows) (y : IdBytes) → list_any (λ (x : Entry). text_eq y x.id) xs ≡ true
      → get (cleared o a f xs row) (a, f, y) ≡ None
  cleared_row o [] row y h = cc
  cleared_row o (x ∷ xs) row y h =
      elim (text_eq y x.id) as (λ b. text_eq y x.id ≡ b → b || list_any (λ (x : Entry). text_eq y x.id) xs ≡ true
      → get (cleared o a f xs (set_pair row a f x.id o None None)) (a, f, y) ≡ None) [
        | true ↦ λ same _. none_stays o xs (set_pair row a f x.id o None None) (a, f, y)
            (ap (λ (z : IdBytes). get (set_pair row a f x.id o None None) (a, f, z)) (text_equality.exact y x.id same) ∙ pair_row o row x.id)
        | false ↦ λ _ later. cleared_row o xs (set_pair row a f x.id o None None) y later
      ] refl h

  cleared_mirror : (g : ℕ) (xs : List Entry) (row : Rows) (y : IdBytes) → list_any (λ (x : Entry). text_eq y x.id) xs ≡ true
      → get (cleared (Some g) a f xs row) (y, g, a) ≡ None
  cleared_mirror g [] row y h = cc
  cleared_mirror g (x ∷ xs) row y h =
      let next = set_pair row a f x.id (Some g) None None in
      elim (text_eq y x.id) as (λ b. text_eq y x.id ≡ b → b || list_any (λ (x : Entry). text_eq y x.id) xs ≡ true
      → get (cleared (Some g) a f xs next) (y, g, a) ≡ None) [
        | true ↦ λ same _. none_stays (Some g) xs next (y, g, a)
            (ap (λ (z : IdBytes). get next (z, g, a)) (text_equality.exact y x.id same)
            ∙ get-set_same row_order (set row (a, f, x.id) None) (x.id, g, a) None)
        | false ↦ λ _ later. cleared_mirror g xs next y later
      ] refl h

  -- each row of the feature is in the list
  abbrev pub Covers : Rows → List Entry → Type 0
  Covers row xs = (y : IdBytes) (r : ℕ) → get row (a, f, y) ≡ Some r → list_any (λ (x : Entry). text_eq y x.id) xs ≡ true

  gone_row : (o : Option ℕ) (row : Rows) (xs : List Entry) → Covers row xs → (y : IdBytes) → get (cleared o a f xs row) (a, f, y) ≡ None
  gone_row o row xs covers y =
      elim (get row (a, f, y)) as (λ r. get row (a, f, y) ≡ r → get (cleared o a f xs row) (a, f, y) ≡ None) [
        | None ↦ λ none. none_stays o xs row (a, f, y) none
        | Some r ↦ λ is. cleared_row o xs row y (covers y r is)
      ] refl

  gone_mirror : (m : State) → Good meta m → (g : ℕ) → opposite_of meta f ≡ Some g → (xs : List Entry) → Covers m.row xs → (y : IdBytes)
      → get (cleared (Some g) a f xs m.row) (y, g, a) ≡ None
  gone_mirror m good g is xs covers y =
      elim (get m.row (a, f, y)) as (λ r. get m.row (a, f, y) ≡ r → get (cleared (Some g) a f xs m.row) (y, g, a) ≡ None) [
        | None ↦ λ none. none_stays (Some g) xs m.row (y, g, a) (no_some _ (sym (good.rows.mirrored a f y g is) ∙ ap is_some none))
        | Some r ↦ λ there. cleared_mirror g xs m.row y (covers y r there)
      ] refl

  mirror_exact : (g : ℕ) (q : RowKey) → is_mirror (Some g) a q ≡ true → q ≡ (q.0, g, a)
  mirror_exact g q h =
      let feature = sym (nat_equality.exact g q.1 (and_first _ _ h)) in
      let same = sym (text_equality.exact a q.2 (and_second (nat_eq g q.1) _ h)) in
      λ i. (q.0, feature i, same i)

  gone : (m : State) → Good meta m → (o : Option ℕ) → opposite_of meta f ≡ o → (xs : List Entry) → Covers m.row xs → (q : RowKey)
      → is_row_or_mirror o a f q ≡ true → get (cleared o a f xs m.row) q ≡ None
  gone m good None is xs covers q near =
      ap (get (cleared None a f xs m.row)) (of_exact a f q (or_none (is_of a f q) near)) ∙ gone_row None m.row xs covers q.2
    where
      or_none : (b : Bool) → b || false ≡ true → b ≡ true
      or_none true h = refl
      or_none false h = h
  gone m good (Some g) is xs covers q near =
      elim (is_of a f q) as (λ b. is_of a f q ≡ b → b || is_mirror (Some g) a q ≡ true → get (cleared (Some g) a f xs m.row) q ≡ None) [
        | true ↦ λ own _. ap (get (cleared (Some g) a f xs m.row)) (of_exact a f q own) ∙ gone_row (Some g) m.row xs covers q.2
        | false ↦ λ _ mirror. ap (get (cleared (Some g) a f xs m.row)) (mirror_exact g q mirror) ∙ gone_mirror m good g is xs covers q.0
      ] refl near

  -- where the list has each row of the feature, its rows and their mirrors are removed
  pub cleared_is : (m : State) → Good meta m → (xs : List Entry) → Covers m.row xs
      → cleared (opposite_of meta f) a f xs m.row ≡ clear (opposite_of meta f) a f m.row
  cleared_is m good xs covers = same row_order _ _ (λ q.
      elim (is_row_or_mirror (opposite_of meta f) a f q) as (λ b. is_row_or_mirror (opposite_of meta f) a f q ≡ b
      → get (cleared (opposite_of meta f) a f xs m.row) q ≡ get (clear (opposite_of meta f) a f m.row) q) [
        | true ↦ λ near. gone m good (opposite_of meta f) refl xs covers q near
            ∙ sym (get-without row_order (is_row_or_mirror (opposite_of meta f) a f) m.row q ∙ ap (λ b. cond b None (get m.row q)) near)
        | false ↦ λ away. cleared_other (opposite_of meta f) xs m.row q away
            ∙ sym (get-without row_order (is_row_or_mirror (opposite_of meta f) a f) m.row q ∙ ap (λ b. cond b None (get m.row q)) away)
      ] refl)

  -- to unlink all targets clears the feature
  pub clear_leads : (m : State) → Good meta m → Leads meta m (unlinks m.row (opposite_of meta f) a f (targets m.row a f)) (clear (opposite_of meta f) a f m.row)
  clear_leads m good =
      subst (λ row. Leads meta m (unlinks m.row (opposite_of meta f) a f (targets m.row a f)) row)
      (cleared_is m good (targets m.row a f) (targets_has m.row a f))
      (unlinks_lead m.row (targets m.row a f) m good
      (held_from m.row (opposite_of meta f) a f (targets m.row a f) (targets_held m.row a f) (targets_apart m.row a f)))

  -- ---- reranks
  pub ranks_still : (row : Rows) (x : IdBytes) (v : Option ℕ) (xs : List Entry) → list_any (λ (y : Entry). text_eq x y.id) xs ≡ false
      → Held row row None a f xs → (row' : Rows) → row' ≡ set row (a, f, x) v → Held row' row' None a f xs
  ranks_still row x v [] differ held row' is = tt
  ranks_still row x v (y ∷ ys) differ held row' is =
      let other : text_eq x y.id ≡ false = or_first (text_eq x y.id) (list_any (λ (y : Entry). text_eq x y.id) ys) differ in (
        ap (λ r. get r (a, f, y.id)) is ∙ get-set_other row_order row (a, f, x) v (a, f, y.id) (targets_differ a f x y.id other) ∙ held.0,
        refl,
        held.2,
        ranks_still row x v ys (or_second (text_eq x y.id) _ differ) held.3 row' is,
      )

  pub reranks_lead : (xs : List Entry) (rs : List ℕ) (m : State) → Good meta m → Held m.row m.row None a f xs
      → Leads meta m (reranks a f xs rs) (ranked a f xs rs m.row)
  reranks_lead [] rs m good held = stays meta m good
  reranks_lead (x ∷ xs) [] m good held = stays meta m good
  reranks_lead (x ∷ xs) (r ∷ rs) m good held =
      let next = set m.row (a, f, x.id) (Some r) in
      elim (nat_eq x.rank r) as (λ b. nat_eq x.rank r ≡ b
      → Leads meta m (cond b (reranks a f xs rs) (RerankRow a f x.id x.rank r ∷ reranks a f xs rs)) (ranked a f xs rs next)) [
        | true ↦ λ equal.
            let here : next ≡ m.row = set_here row_order m.row (a, f, x.id) (Some r) (held.0 ∙ ap Some (nat_equality.exact x.rank r equal)) in
            subst (λ row. Leads meta m (reranks a f xs rs) (ranked a f xs rs row)) (sym here) (reranks_lead xs rs m good held.3)
        | false ↦ λ differ.
            let takes : Takes meta m (RerankRow a f x.id x.rank r) next = rerank_takes meta sound m good a f x.id x.rank r held.0 differ in
            goes_on meta sound m good _ (reranks a f xs rs) next _ takes
            (reranks_lead xs rs (record m { row = next }) (good_after meta sound m good _ next takes)
            (ranks_still m.row x.id (Some r) xs held.2 held.3 next refl))
      ] refl
