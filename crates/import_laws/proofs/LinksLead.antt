-- The elements of a document are linked.
use Rattle.std.proofs.lemmas.Bool.Decides.{nat_tests}
use Rattle.std.proofs.Common.{◌≡◌, ℕ, zero, suc, ◌+◌, ◌<◌, ◌≤◌, true, false, cond, not, ◌||◌, List, [], ◌∷◌, map, length, refl, sym, ap, subst, ◌∙◌}
use Rattle.std.proofs.Common.{arith, nat_eq}
use Rattle.std.specs.Prelude.{Option, None, Some, is_some, slice_get}
use Rattle.std.specs.List.{list_any}
use Rattle.std.specs.FinMap.{get}
use Rattle.std.specs.Option.{option_map_or}
use Rattle.finite_maps.specs.Maps.{count, is_within, tally}
use Rattle.finite_maps.proofs.Cases.{not_true, some_none, true_false}
use Rattle.finite_maps.proofs.CountLaws.{le_of_le}
use Rattle.finite_maps.proofs.EqualLaws.{and_first, and_second, nat_equality}
use Rattle.finite_maps.proofs.MapLaws.{same}
use Rattle.ecore_meta.specs.Meta.{Meta}
use Rattle.model_state.specs.Good.{Good, Sound}
use Rattle.model_state.specs.Keys.{IdBytes, RowKey}
use Rattle.model_state.specs.Listing.{is_of}
use Rattle.model_state.specs.State.{State}
use Rattle.model_state.specs.Steps.{fold, may_link}
use Rattle.model_state.specs.Typing.{links, opposite_of, row_upper}
use Rattle.model_state.proofs.Orders.{row_order}
use Rattle.edit_steps.specs.Rows.{Rows}
use Rattle.edit_steps.proofs.Joins.{none_counted_at}
use Rattle.model_documents.specs.declared.doc.DocRefs.{DocRefs}
use Rattle.model_documents.specs.declared.doc.DocRow.{DocRow}
use Rattle.model_documents.specs.Fits as fits
use Rattle.model_documents.specs.Fits.{DocumentFits}
use Rattle.model_documents.specs.Completed.{targets_at}
use Rattle.import_laws.specs.After.{rows_from}
use Rattle.import_laws.specs.Laws.{ids_differ}
use Rattle.import_laws.specs.Links.{index_in, is_made, links_made, mirror_of, refs_at}
use Rattle.import_laws.specs.Names.{name_at}
use Rattle.import_laws.specs.News.{rank_of}
use Rattle.import_laws.proofs.Indexed.{at_less, drop_none, or_later}
use Rattle.import_laws.proofs.Linking.{Due, Linked, covered, links_lead, made_there, turns_held, turns_other}
use Rattle.import_laws.proofs.RowCounts.{count_turns, within}
use Rattle.import_laws.proofs.Turns.{Alone, Each, Turn, alone_from, each_both, each_from, each_map, found_from, is_mine, key_of, links_are, rows_are}
use Rattle.import_laws.proofs.Turns.{tally_from, turns_from, turns_set}

-- ---- lists by index
pub any_at : (bs : List ℕ) (j b : ℕ) → slice_get bs j ≡ Some b → list_any (nat_eq b) bs ≡ true
any_at [] j b is = cc
any_at (c ∷ bs) zero b is = ap (λ x. x || list_any (nat_eq b) bs) (ap (nat_eq b) (same_item c b is) ∙ nat_equality.own b)
  where
    same_item : (c b : ℕ) → ◌≡◌ {A = Option ℕ} (Some c) (Some b) → c ≡ b
    same_item c b is = cc
any_at (c ∷ bs) (suc j) b is = or_later (nat_eq b c) _ (any_at bs j b is)

-- where each number comes once, it stands at one index
pub index_is : (bs : List ℕ) (j n : ℕ) → fits.numbers_differ bs ≡ true → slice_get bs j ≡ Some n → index_in n bs ≡ j
index_is [] j n ok is = cc
index_is (c ∷ bs) zero n ok is = ap (λ t. cond t 0 (suc (index_in n bs))) (ap (nat_eq n) (same_item c n is) ∙ nat_equality.own n)
  where
    same_item : (c b : ℕ) → ◌≡◌ {A = Option ℕ} (Some c) (Some b) → c ≡ b
    same_item c b is = cc
index_is (c ∷ bs) (suc j) n ok is =
    elim (nat_eq n c) as (λ t. nat_eq n c ≡ t → cond t 0 (suc (index_in n bs)) ≡ suc j) [
      | true ↦ λ equal. absurd
          (true_false (list_any (nat_eq n) bs) (any_at bs j n is)
          (ap (λ x. list_any (nat_eq x) bs) (nat_equality.exact n c equal) ∙ not_true (list_any (nat_eq c) bs) (and_first _ _ ok)))
      | false ↦ λ _. ap suc (index_is bs j n (and_second (not (list_any (nat_eq c) bs)) _ ok) is)
    ] refl

item_at : (rows : List DocRow) (i : ℕ) → i < length rows → (r : DocRow) × (slice_get rows i ≡ Some r)
item_at [] i h = absurd (omega arith)
item_at (r ∷ rows) zero h = (r, refl)
item_at (r ∷ rows) (suc i) h = item_at rows i (omega arith)

-- what holds of each list holds of the one of a feature
at_feature : (P : ℕ → List ℕ → Type 0) (g : ℕ) → P g [] → (refs : List DocRefs)
    → ((l : ℕ) (q : DocRefs) → slice_get refs l ≡ Some q → P q.feature q.targets) → P g (targets_at g refs)
at_feature P g none [] each = none
at_feature P g none (q ∷ refs) each =
    elim (nat_eq g q.feature) as (λ b. nat_eq g q.feature ≡ b → P g (cond b q.targets (targets_at g refs))) [
      | true ↦ λ equal. subst (λ f. P f q.targets) (sym (nat_equality.exact g q.feature equal)) (each 0 q refl)
      | false ↦ λ _. at_feature P g none refs (λ l. each (suc l))
    ] refl

abbrev features : List DocRefs → List ℕ
features refs = map (λ (q : DocRefs). q.feature) refs

feature_there : (refs : List DocRefs) (l : ℕ) (q : DocRefs) → slice_get refs l ≡ Some q
    → list_any (nat_eq q.feature) (map (λ (x : DocRefs). x.feature) refs) ≡ true
feature_there [] l q is = cc
feature_there (x ∷ refs) zero q is =
    ap (λ b. b || list_any (nat_eq q.feature) (map (λ (x : DocRefs). x.feature) refs))
    (ap (nat_eq q.feature) (same_feature x q is) ∙ nat_equality.own q.feature)
  where
    same_feature : (x q : DocRefs) → ◌≡◌ {A = Option DocRefs} (Some x) (Some q) → x.feature ≡ q.feature
    same_feature x q is = cc
feature_there (x ∷ refs) (suc l) q is = or_later (nat_eq q.feature x.feature) _ (feature_there refs l q is)

-- the list of a feature that comes once
pub list_is : (refs : List DocRefs) (l : ℕ) (q : DocRefs) → fits.numbers_differ (map (λ (x : DocRefs). x.feature) refs) ≡ true
    → slice_get refs l ≡ Some q → targets_at q.feature refs ≡ q.targets
list_is [] l q ok is = cc
list_is (x ∷ refs) zero q ok is =
    ap (λ b. cond b x.targets (targets_at q.feature refs))
    (ap (nat_eq q.feature) (ap (λ (z : DocRefs). z.feature) (same_refs x q is)) ∙ nat_equality.own q.feature)
    ∙ ap (λ (z : DocRefs). z.targets) (same_refs x q is)
  where
    same_refs : (x q : DocRefs) → ◌≡◌ {A = Option DocRefs} (Some x) (Some q) → x ≡ q
    same_refs x q is = cc
list_is (x ∷ refs) (suc l) q ok is =
    elim (nat_eq q.feature x.feature) as (λ b. nat_eq q.feature x.feature ≡ b → cond b x.targets (targets_at q.feature refs) ≡ q.targets) [
      | true ↦ λ equal. absurd (true_false (list_any (nat_eq x.feature) (features refs))
          (ap (λ f. list_any (nat_eq f) (features refs)) (sym (nat_equality.exact q.feature x.feature equal)) ∙ feature_there refs l q is)
          (not_true (list_any (nat_eq x.feature) (features refs)) (and_first _ _ ok)))
      | false ↦ λ _. list_is refs l q (and_second (not (list_any (nat_eq x.feature) (features refs))) _ ok) is
    ] refl

within_less : (n k : ℕ) (upper : Option ℕ) → n ≤ k → is_within k upper ≡ true → is_within n upper ≡ true
within_less n k None less h = refl
within_less n k (Some u) less h = le_of_le n k u less h

none_within : (upper : Option ℕ) → is_within 0 upper ≡ true
none_within None = refl
none_within (Some u) = grind (arith, nat_tests)

-- what a document that fits says of a turn
pub record Sits (meta : Meta) (rows : List DocRow) (t : Turn) : Type 0 where
  pub source : DocRow
  pub is_source : slice_get rows t.row ≡ Some source
  pub to : DocRow
  pub is_to : slice_get rows t.target ≡ Some to
  pub linked : links meta source.class t.feature to.class ≡ true
  pub among : slice_get (targets_at t.feature source.refs) t.index ≡ Some t.target

module _ (meta : Meta) (rows : List DocRow) (fit : DocumentFits meta rows) where
  pub all_sit : Each (Sits meta rows) (turns_from 0 rows)
  all_sit = each_from (Sits meta rows) rows rows 0 (drop_none rows) (λ i r is l q at j b here.
      let row = fit.each i r is in
      let refs = row.refs l q at in
      let typed = refs.typed b (any_at q.targets j b here) in
      record {
        source = r;
        is_source = is;
        to = typed.0;
        is_to = typed.1;
        linked = typed.2;
        among = ap (λ bs. slice_get bs j) (list_is r.refs l q row.refs_apart at) ∙ here;
      })

  pub all_alone : Alone (turns_from 0 rows)
  all_alone = alone_from rows rows 0 (drop_none rows) (λ i r is. (fit.each i r is).refs_apart) (λ i r is l q at. ((fit.each i r is).refs l q at).apart)

  -- each target is there once
  pub list_apart : (i : ℕ) (r : DocRow) → slice_get rows i ≡ Some r → (g : ℕ) → fits.numbers_differ (targets_at g r.refs) ≡ true
  list_apart i r is g = at_feature (λ f bs. fits.numbers_differ bs ≡ true) g refl r.refs (λ l q at. ((fit.each i r is).refs l q at).apart)

  list_within : (i : ℕ) (r : DocRow) → slice_get rows i ≡ Some r → (g : ℕ) → is_within (length (targets_at g r.refs)) (row_upper meta g) ≡ true
  list_within i r is g = at_feature (λ f bs. is_within (length bs) (row_upper meta f) ≡ true) g (none_within (row_upper meta g)) r.refs
      (λ l q at. ((fit.each i r is).refs l q at).bound)

  -- the other side of a link is in the opposite's list
  back_there : (t : Turn) (sits : Sits meta rows t) (g : ℕ) → opposite_of meta t.feature ≡ Some g → list_any (nat_eq t.row) (targets_at g sits.to.refs) ≡ true
  back_there t sits g is =
      sym (fit.mirrored t.row sits.source t.feature t.target sits.to g sits.is_source sits.is_to is)
      ∙ any_at (targets_at t.feature sits.source.refs) t.index t.target sits.among

module _ (meta : Meta) (sound : Sound meta) (s : State) (good : Good meta s) (names : List IdBytes) (rows : List DocRow)
    (fit : DocumentFits meta rows) (as_many : length names ≡ length rows) (differ : ids_differ names ≡ true)
    (kinds : (i : ℕ) (r : DocRow) → slice_get rows i ≡ Some r → get s.kind (name_at names i) ≡ Some r.class)
    (free : (i f : ℕ) (y : IdBytes) → i < length names → get s.row (name_at names i, f, y) ≡ None) where
  abbrev ts : List Turn
  ts = turns_from 0 rows

  abbrev whole : Rows
  whole = turns_set names s.row ts

  small_is : (i : ℕ) (r : DocRow) → slice_get rows i ≡ Some r → i < length names
  small_is i r is = let less = at_less rows i r is in omega (arith, less, as_many)

  abbrev Small : Turn → Type 0
  Small t = (t.row < length names) × (t.target < length names)

  all_small : Each Small ts
  all_small = each_map (Sits meta rows) Small (λ t sits. (small_is t.row sits.source sits.is_source, small_is t.target sits.to sits.is_to)) ts
      (all_sit meta rows fit)

  all_held : Each (λ t. get whole (key_of names t) ≡ Some (rank_of t.index)) ts
  all_held = turns_held names differ ts s.row all_small (all_alone meta rows fit)

  -- ---- no list is above its bound
  bound : (i h : ℕ) → i < length names → is_within (count (λ (e : RowKey × ℕ). is_of (name_at names i) h e.0) whole) (row_upper meta h) ≡ true
  bound i h small =
      let item = item_at rows i (omega (arith, small, as_many)) in
      let few = count_turns names differ i small h ts s.row (each_map Small (λ t. t.row < length names) (λ t h. h.0) ts all_small) in
      let none : count (λ (e : RowKey × ℕ). is_of (name_at names i) h e.0) s.row ≡ 0 = none_counted_at s.row (name_at names i) h (λ y. free i h y small) in
      let mine = tally_from rows 0 i i h item.0 item.1 (own i) (fit.each i item.0 item.1).refs_apart in
      within_less _ (length (targets_at h item.0.refs)) (row_upper meta h)
      (fewer (count (λ (e : RowKey × ℕ). is_of (name_at names i) h e.0) whole) (count (λ (e : RowKey × ℕ). is_of (name_at names i) h e.0) s.row)
      (tally (is_mine i h) ts) (length (targets_at h item.0.refs)) few none mine)
      (list_within meta rows fit i item.0 item.1 h)
    where
      own : (i : ℕ) → i ≡ 0 + i
      own i = omega arith

      fewer : (w n t k : ℕ) → w ≤ n + t → n ≡ 0 → t ≡ k → w ≤ k
      fewer w n t k h g e = omega arith

  -- ---- the links that are due
  abbrev Ranked : ℕ → ℕ → ℕ → Type 0
  Ranked i f b = (j : ℕ) × (slice_get (targets_at f (refs_at rows i)) j ≡ Some b) × (get whole (name_at names i, f, name_at names b) ≡ Some (rank_of j))

  refs_are : (i : ℕ) (r : DocRow) → slice_get rows i ≡ Some r → refs_at rows i ≡ r.refs
  refs_are i r is = ap (λ (o : Option DocRow). option_map_or {T = DocRow} {U = List DocRefs} (λ x. x.refs) o []) is

  all_ranked : Each (λ t. Ranked t.row t.feature t.target) ts
  all_ranked = each_map (λ t. Sits meta rows t × (get whole (key_of names t) ≡ Some (rank_of t.index))) (λ t. Ranked t.row t.feature t.target)
      (λ t h. (t.index, ap (λ refs. slice_get (targets_at t.feature refs) t.index) (refs_are t.row h.0.source h.0.is_source) ∙ h.0.among, h.1)) ts
      (each_both (Sits meta rows) (λ t. get whole (key_of names t) ≡ Some (rank_of t.index)) ts (all_sit meta rows fit) all_held)

  mirror_due : (t : Turn) → Sits meta rows t → (g : ℕ) → opposite_of meta t.feature ≡ Some g
      → get whole (name_at names t.target, g, name_at names t.row) ≡ Some (mirror_of rows (Some g) t.row t.target)
  mirror_due t sits g is =
      let there = found_from Ranked rows 0 t.target sits.to g t.row all_ranked sits.is_to (back_there meta rows fit t sits g is) t.target (own t.target) in
      let refs = refs_are t.target sits.to sits.is_to in
      let index : index_in t.row (targets_at g (refs_at rows t.target)) ≡ there.0 =
      index_is (targets_at g (refs_at rows t.target)) there.0 t.row
      (ap (λ x. fits.numbers_differ (targets_at g x)) refs ∙ list_apart meta rows fit t.target sits.to sits.is_to g) there.1 in
      there.2 ∙ ap (λ j. Some (rank_of j)) (sym index)
    where
      own : (i : ℕ) → i ≡ 0 + i
      own i = omega arith

  all_due : Each (Due meta sound s names rows differ whole bound) ts
  all_due = each_map (λ t. Sits meta rows t × (get whole (key_of names t) ≡ Some (rank_of t.index))) (Due meta sound s names rows differ whole bound)
      (λ t h. record {
        small = (small_is t.row h.0.source h.0.is_source, small_is t.target h.0.to h.0.is_to);
        typed = ap (λ c. may_link meta c t.feature (get s.kind (name_at names t.target))) (kinds t.row h.0.source h.0.is_source)
            ∙ ap (λ d. may_link meta (Some h.0.source.class) t.feature d) (kinds t.target h.0.to h.0.is_to) ∙ h.0.linked;
        due = h.1;
        mirror = mirror_due t h.0;
      }) ts
      (each_both (Sits meta rows) (λ t. get whole (key_of names t) ≡ Some (rank_of t.index)) ts (all_sit meta rows fit) all_held)

  -- the old rows stay
  old_within : within s.row whole
  old_within q r is =
      turns_other names differ ts s.row q
      (each_map Small (λ t. q ≡ key_of names t → ⊥)
      (λ t small at. some_none (get s.row q) r is (ap (get s.row) at ∙ free t.row t.feature (name_at names t.target) small.0)) ts all_small)
      ∙ is

  all_absent : Each (λ t. is_made (opposite_of meta t.feature) t.row t.feature t.target ≡ false → get s.row (key_of names t) ≡ None) ts
  all_absent = each_map Small (λ t. is_made (opposite_of meta t.feature) t.row t.feature t.target ≡ false → get s.row (key_of names t) ≡ None)
      (λ t small _. free t.row t.feature (name_at names t.target) small.0) ts all_small

  run_all : Linked meta sound s names rows differ whole bound s.row ts
  run_all = links_lead meta sound s names rows differ whole bound ts s.row good old_within all_due (all_alone meta rows fit) all_absent

  -- ---- all links are there then, from both sides
  module _ (last : Rows) (after : Good meta (record s { row = last })) (inside : within last whole)
      (grows : (q : RowKey) → is_some (get s.row q) ≡ true → is_some (get last q) ≡ true)
      (made : Each (λ t. is_made (opposite_of meta t.feature) t.row t.feature t.target ≡ false → is_some (get last (key_of names t)) ≡ true) ts) where
    abbrev Made : ℕ → ℕ → ℕ → Type 0
    Made i f b = is_made (opposite_of meta f) i f b ≡ false → is_some (get last (name_at names i, f, name_at names b)) ≡ true

    by_mirror : (t : Turn) → Sits meta rows t → (o : Option ℕ) → opposite_of meta t.feature ≡ o → is_made o t.row t.feature t.target ≡ true
        → is_some (get last (key_of names t)) ≡ true
    by_mirror t sits None is done = cc
    by_mirror t sits (Some g) is done =
        let there : Made t.target g t.row =
        found_from Made rows 0 t.target sits.to g t.row made sits.is_to (back_there meta rows fit t sits g is) t.target (own t.target) in
        after.rows.mirrored (name_at names t.row) t.feature (name_at names t.target) g is
        ∙ there (ap (λ o. is_made o t.target g t.row) (sound.both t.feature g is) ∙ made_there t.row t.feature t.target g done)
      where
        own : (i : ℕ) → i ≡ 0 + i
        own i = omega arith

    all_there : Each (λ t. is_some (get last (key_of names t)) ≡ true) ts
    all_there = each_map (λ t. Sits meta rows t × Made t.row t.feature t.target) (λ t. is_some (get last (key_of names t)) ≡ true)
        (λ t h. elim (is_made (opposite_of meta t.feature) t.row t.feature t.target) as (λ b.
        is_made (opposite_of meta t.feature) t.row t.feature t.target ≡ b → is_some (get last (key_of names t)) ≡ true) [
          | true ↦ λ done. by_mirror t h.0 (opposite_of meta t.feature) refl done
          | false ↦ λ unmade. h.1 unmade
        ] refl) ts
        (each_both (Sits meta rows) (λ t. Made t.row t.feature t.target) ts (all_sit meta rows fit) made)

    last_is : last ≡ whole
    last_is = same row_order last whole (λ q.
        elim (get whole q) as (λ o. get whole q ≡ o → get last q ≡ o) [
          | None ↦ λ none. missing q (get last q) refl none
          | Some r ↦ λ is. present q (get last q) refl r is (covered names differ last ts s.row grows all_there q (ap is_some is))
        ] refl)
      where
        missing : (q : RowKey) (o : Option ℕ) → get last q ≡ o → get whole q ≡ None → get last q ≡ None
        missing q None is none = is
        missing q (Some r) is none = absurd (some_none (get whole q) r (inside q r is) none)

        present : (q : RowKey) (o : Option ℕ) → get last q ≡ o → (r : ℕ) → get whole q ≡ Some r → is_some (get last q) ≡ true → get last q ≡ Some r
        present q None is r there some = absurd (true_false (is_some (get last q)) some (ap is_some is))
        present q (Some v) is r there some = is ∙ sym (inside q v is) ∙ there

  pub links_led : fold meta s (links_made meta names rows) ≡ Some (record s { row = rows_from names 0 s.row rows })
  links_led =
      let all = run_all in
      ap (fold meta s) (links_are meta names rows 0 rows) ∙ all.run
      ∙ ap (λ row. Some (record s { row = row })) (last_is all.last all.good all.inside all.grows all.made ∙ sym (rows_are names 0 s.row rows))
