-- The rows out of elements are unlinked, feature by feature.
use Rattle.std.proofs.Common.{◌≡◌, ℕ, Bool, true, false, cond, not, List, [], ◌∷◌, ◌++◌, refl, sym, ap, subst, ◌∙◌, ◌||◌, append_assoc}
use Rattle.std.proofs.lemmas.List.{append-nil}
use Rattle.std.proofs.lemmas.List.Folds.{list_any-append}
use Rattle.std.specs.Prelude.{Option, None, Some, is_some, unwrap_or}
use Rattle.std.specs.List.{filter, list_any, AllByRecursion}
use Rattle.std.specs.FinMap.{get}
use Rattle.finite_maps.specs.Equal.{text_eq}
use Rattle.finite_maps.specs.Sorts.{without}
use Rattle.finite_maps.proofs.Cases.{not_false}
use Rattle.finite_maps.proofs.EqualLaws.{text_equality}
use Rattle.finite_maps.proofs.MapLaws.{same}
use Rattle.finite_maps.proofs.NestedLaws.{get-without}
use Rattle.ecore_meta.specs.Meta.{Meta}
use Rattle.model_state.specs.declared.entry.Entry.{Entry}
use Rattle.model_state.specs.Keys.{IdBytes, AttrKey, RowKey}
use Rattle.model_state.specs.Listing.{targets}
use Rattle.model_state.specs.State.{State}
use Rattle.model_state.specs.Typing.{opposite_of}
use Rattle.model_state.specs.Good.{Good, Sound}
use Rattle.model_state.proofs.Orders.{row_order}
use Rattle.edit_steps.specs.Rows.{Rows, is_row_or_mirror, clear, mirror_rank, unlinks}
use Rattle.edit_steps.proofs.Clears.{Leads, stays, Held, Covers, cleared_is, unlinks_lead}
use Rattle.edit_steps.proofs.Joins.{leads_on}
use Rattle.edit_steps.proofs.Lists.{Apart, targets_held, targets_has, targets_apart}
use Rattle.edit_steps.specs.Deletes.{is_touched, targets_left, outgoing_made}

none_any : (y : IdBytes) (q : Entry → Bool) (xs : List Entry) → list_any (λ (x : Entry). text_eq y x.id) xs ≡ false
    → list_any (λ (x : Entry). text_eq y x.id) (filter q xs) ≡ false
none_any y q [] h = refl
none_any y q (x ∷ xs) h =
    elim (text_eq y x.id) as (λ t. text_eq y x.id ≡ t → t || list_any (λ (x : Entry). text_eq y x.id) xs ≡ false
    → list_any (λ (x : Entry). text_eq y x.id) (filter q (x ∷ xs)) ≡ false) [
      | true ↦ λ _ g. cc
      | false ↦ λ is g.
          elim (q x) as (λ b. list_any (λ (x : Entry). text_eq y x.id) (cond b (x ∷ filter q xs) (filter q xs)) ≡ false) [
            | true ↦ ap (λ b. b || list_any (λ (x : Entry). text_eq y x.id) (filter q xs)) is ∙ none_any y q xs g
            | false ↦ none_any y q xs g
          ]
    ] refl h

some_any : (y : IdBytes) (q : IdBytes → Bool) (xs : List Entry) → q y ≡ true → list_any (λ (x : Entry). text_eq y x.id) xs ≡ true
    → list_any (λ (x : Entry). text_eq y x.id) (filter (λ (x : Entry). q x.id) xs) ≡ true
some_any y q [] pass h = h
some_any y q (x ∷ xs) pass h =
    elim (text_eq y x.id) as (λ t. text_eq y x.id ≡ t → t || list_any (λ (x : Entry). text_eq y x.id) xs ≡ true
    → list_any (λ (x : Entry). text_eq y x.id) (filter (λ (x : Entry). q x.id) (x ∷ xs)) ≡ true) [
      | true ↦ λ is _.
          ap (λ b. list_any (λ (x : Entry). text_eq y x.id) (cond b (x ∷ filter (λ (x : Entry). q x.id) xs) (filter (λ (x : Entry). q x.id) xs)))
          (ap q (sym (text_equality.exact y x.id is)) ∙ pass)
          ∙ ap (λ b. b || list_any (λ (x : Entry). text_eq y x.id) (filter (λ (x : Entry). q x.id) xs)) is
      | false ↦ λ _ g.
          elim (q x.id) as (λ b.
          list_any (λ (x : Entry). text_eq y x.id) (cond b (x ∷ filter (λ (x : Entry). q x.id) xs) (filter (λ (x : Entry). q x.id) xs)) ≡ true) [
            | true ↦ ap (λ b. text_eq y x.id || b) (some_any y q xs pass g) ∙ or_true (text_eq y x.id)
            | false ↦ some_any y q xs pass g
          ]
    ] refl h
  where
    or_true : (b : Bool) → b || true ≡ true
    or_true true = refl
    or_true false = refl

-- what is there without some rows is there with them, and isn't one of those
pub still_there : (b : Bool) (o : Option ℕ) (r : ℕ) → cond b None o ≡ Some r → (b ≡ false) × (o ≡ Some r)
still_there true o r h = cc
still_there false o r h = (refl, h)

module _ (meta : Meta) (sound : Sound meta) (row : Rows) (before : List AttrKey) where
  abbrev left : Rows
  left = without (is_touched meta before) row

  read : (k : RowKey) → get left k ≡ cond (is_touched meta before k) None (get row k)
  read k = get-without row_order (is_touched meta before) row k

  module _ (m : State) (good : Good meta m) (same_row : m.row ≡ left) (a : IdBytes) (f : ℕ) where
    mirror_left : (o : Option ℕ) → opposite_of meta f ≡ o → (x : IdBytes) (r : ℕ) → get m.row (a, f, x) ≡ Some r
        → mirror_rank m.row o a x ≡ mirror_rank row o a x
    mirror_left None is x r here = refl
    mirror_left (Some g) is x r here =
        let there : is_some (get m.row (x, g, a)) ≡ true = sym (good.rows.mirrored a f x g is) ∙ ap is_some here in
        let at : get m.row (x, g, a) ≡ cond (is_touched meta before (x, g, a)) None (get row (x, g, a)) = ap (λ w. get w (x, g, a)) same_row ∙ read (x, g, a) in
        ap (λ o. unwrap_or o 0) (at ∙ kept (is_touched meta before (x, g, a)) (get row (x, g, a)) (sym (ap is_some at) ∙ there))
      where
        kept : (b : Bool) (o : Option ℕ) → is_some (cond b None o) ≡ true → cond b None o ≡ o
        kept true o h = cc
        kept false o h = refl

    held_left : (ts : List Entry) → AllByRecursion (λ (x : Entry). get row (a, f, x.id) ≡ Some x.rank) ts → Apart ts
        → Held row m.row (opposite_of meta f) a f (filter (λ (x : Entry). not (is_touched meta before (a, f, x.id))) ts)
    held_left [] all apart = tt
    held_left (x ∷ ts) all apart =
        let rest = held_left ts all.1 apart.1 in
        let q = λ (x : Entry). not (is_touched meta before (a, f, x.id)) in
        elim (is_touched meta before (a, f, x.id)) as (λ b. is_touched meta before (a, f, x.id) ≡ b
        → Held row m.row (opposite_of meta f) a f (cond {A = List Entry} (not b) (x ∷ filter q ts) (filter q ts))) [
          | true ↦ λ _. rest
          | false ↦ λ away.
              let here : get m.row (a, f, x.id) ≡ Some x.rank =
              ap (λ w. get w (a, f, x.id)) same_row ∙ read (a, f, x.id) ∙ ap (λ b. cond b None (get row (a, f, x.id))) away ∙ all.0 in
              (here, mirror_left (opposite_of meta f) refl x.id x.rank here, none_any x.id q ts apart.0, rest)
        ] refl

    covers_left : Covers meta sound a f m.row (targets_left meta row before (a, f))
    covers_left y r is =
        let at = still_there (is_touched meta before (a, f, y)) (get row (a, f, y)) r (sym (ap (λ w. get w (a, f, y)) same_row ∙ read (a, f, y)) ∙ is) in
        some_any y (λ (z : IdBytes). not (is_touched meta before (a, f, z))) (targets row a f) (not_false _ at.0) (targets_has row a f y r at.1)

    cleared_next : clear (opposite_of meta f) a f m.row ≡ without (is_touched meta (before ++ (a, f) ∷ [])) row
    cleared_next = same row_order _ _ (λ k.
        get-without row_order (is_row_or_mirror (opposite_of meta f) a f) m.row k
        ∙ ap (λ (o : Option ℕ). cond (is_row_or_mirror (opposite_of meta f) a f k) None o) (ap (λ w. get w k) same_row ∙ read k)
        ∙ either (is_row_or_mirror (opposite_of meta f) a f k) (is_touched meta before k) (get row k)
        ∙ ap (λ b. cond b None (get row k)) (sym (list_any-append (λ (s : AttrKey). is_row_or_mirror (opposite_of meta s.1) s.0 s.1 k) before ((a, f) ∷ [])))
        ∙ sym (get-without row_order (is_touched meta (before ++ (a, f) ∷ [])) row k))
      where
        either : (b c : Bool) (o : Option ℕ) → cond b None (cond c None o) ≡ cond (c || (b || false)) None o
        either true true o = refl
        either true false o = refl
        either false true o = refl
        either false false o = refl

    pub one_lead : Leads meta m (unlinks row (opposite_of meta f) a f (targets_left meta row before (a, f)))
        (without (is_touched meta (before ++ (a, f) ∷ [])) row)
    one_lead =
        let ts = targets_left meta row before (a, f) in
        let run = unlinks_lead meta sound a f row ts m good (held_left (targets row a f) (targets_held row a f) (targets_apart row a f)) in
        subst (λ w. Leads meta m (unlinks row (opposite_of meta f) a f ts) w) (cleared_is meta sound a f m good ts covers_left ∙ cleared_next) run

-- all features in turn
pub outgoing_leads : (meta : Meta) → Sound meta → (row : Rows) (ss before : List AttrKey) (m : State) → Good meta m
    → m.row ≡ without (is_touched meta before) row → Leads meta m (outgoing_made meta row before ss) (without (is_touched meta (before ++ ss)) row)
outgoing_leads meta sound row [] before m good is =
    subst (λ w. Leads meta m [] w) (is ∙ ap (λ (ss : List AttrKey). without (is_touched meta ss) row) (sym (append-nil before))) (stays meta m good)
outgoing_leads meta sound row (s ∷ ss) before m good is =
    let next = without (is_touched meta (before ++ s ∷ [])) row in
    let first : Leads meta m (unlinks row (opposite_of meta s.1) s.0 s.1 (targets_left meta row before s)) next =
    one_lead meta sound row before m good is s.0 s.1 in
    let rest = outgoing_leads meta sound row ss (before ++ s ∷ []) (record m { row = next }) first.good refl in
    subst (λ (w : List AttrKey). Leads meta m (outgoing_made meta row before (s ∷ ss)) (without (is_touched meta w) row)) (append_assoc before (s ∷ []) ss)
    (leads_on meta m _ _ next _ first rest)
