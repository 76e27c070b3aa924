-- The elements are deleted, the last first.
use Rattle.std.proofs.Common.{◌≡◌, ℕ, Bool, true, false, cond, List, [], ◌∷◌, refl, sym, ap, subst, ◌∙◌, ◌||◌, nat_eq, inl, inr}
use Rattle.std.specs.Prelude.{Option, None, Some, is_some, unwrap_or}
use Rattle.std.specs.FinMap.{FinMap, get}
use Rattle.std.specs.Ordering.{eq_by_cmp}
use Rattle.finite_maps.specs.Equal.{option_eq, text_eq}
use Rattle.finite_maps.specs.Maps.{set}
use Rattle.finite_maps.specs.Sorts.{without}
use Rattle.finite_maps.proofs.Cases.{not_so, true_false}
use Rattle.finite_maps.proofs.CountLaws.{count_none}
use Rattle.finite_maps.proofs.EqualLaws.{option_equality, text_equality}
use Rattle.finite_maps.proofs.MapLaws.{same, own_key, by_key, get-set_same, get-set_other}
use Rattle.finite_maps.proofs.NestedLaws.{get-without}
use Rattle.ecore_meta.specs.Meta.{Meta}
use Rattle.ecore_meta.specs.declared.meta.Value.{Value}
use Rattle.model_state.specs.declared.step.Place.{Place}
use Rattle.model_state.specs.declared.step.Place.TheVariants.{Root, Inside}
use Rattle.model_state.specs.Keys.{IdBytes, AttrKey, RowKey, id_cmp}
use Rattle.model_state.specs.Listing.{rank_at}
use Rattle.model_state.specs.State.{State, inner_count, is_inside, is_live, link_count, place_eq, value_count}
use Rattle.model_state.specs.Steps.{Can, fold, tests}
use Rattle.model_state.specs.Good.{Good}
use Rattle.model_state.proofs.Orders.{attr_order, id_order, row_order}
use Rattle.model_state.proofs.StepTests.{number_equality, pass, place_equality}
use Rattle.model_laws.proofs.Runs.{fold_append, fold_more}
use Rattle.edit_steps.specs.Rows.{Rows}
use Rattle.edit_steps.specs.Deletes.{gone_made, gone_step}
use Rattle.edit_steps.specs.Subtree.{is_among}
use Rattle.edit_steps.proofs.Containers.{live_place}
use Rattle.edit_steps.proofs.Members.{In, in_among, not_among}
use Rattle.edit_steps.proofs.Trees.{HasChildren, Ordered}
use Rattle.edit_steps.proofs.ValuesGone.{Attrs}

-- a map without some elements, and without one more
one_more : {X : Type 0} (map : FinMap id_cmp X) (x : IdBytes) (xs : List IdBytes) → set (without (is_among xs) map) x None ≡ without (is_among (x ∷ xs)) map
one_more map x xs = same id_order _ _ (λ q.
    by_key id_order (λ q. get (set (without (is_among xs) map) x None) q ≡ cond (is_among (x ∷ xs) q) None (get map q)) x q
    (get-set_same id_order (without (is_among xs) map) x None ∙ sym (ap (λ b. cond (b || is_among xs x) None (get map x)) (text_equality.own x)))
    (λ far.
    get-set_other id_order (without (is_among xs) map) x None q far ∙ get-without id_order (is_among xs) map q
    ∙ ap (λ b. cond (b || is_among xs q) None (get map q)) (sym (other q far)))
    ∙ sym (get-without id_order (is_among (x ∷ xs)) map q))
  where
    other : (q : IdBytes) → eq_by_cmp id_cmp q x ≡ false → text_eq q x ≡ false
    other q far = not_so (text_eq q x)
        (λ e. true_false (eq_by_cmp id_cmp q x) (subst (λ (z : IdBytes). eq_by_cmp id_cmp q z ≡ true) (text_equality.exact q x e) (own q)) far)
      where
        own : (q : IdBytes) → eq_by_cmp id_cmp q q ≡ true
        own q = own_key id_order q

still_there : {X : Type 0} (b : Bool) (o : Option X) (v : X) → cond b None o ≡ Some v → (b ≡ false) × (o ≡ Some v)
still_there true o v h = cc
still_there false o v h = (refl, h)

some_of : (o : Option ℕ) → is_some o ≡ true → o ≡ Some (unwrap_or o 0)
some_of None h = cc
some_of (Some r) h = refl

-- no value and no row is of one of these elements
pub record Bare (attr : Attrs) (row : Rows) (xs : List IdBytes) : Type 0 where
  pub values : (k : AttrKey) (vs : List Value) → get attr k ≡ Some vs → In k.0 xs → ⊥
  pub rows_out : (k : RowKey) (r : ℕ) → get row k ≡ Some r → In k.0 xs → ⊥
  pub rows_in : (k : RowKey) (r : ℕ) → get row k ≡ Some r → In k.2 xs → ⊥

-- the model without some elements, and with these values and rows
abbrev pub stripped : State → Attrs → Rows → List IdBytes → State
stripped m attr row xs =
    record { kind = without (is_among xs) m.kind; place = without (is_among xs) m.place; prank = without (is_among xs) m.prank; attr = attr; row = row }

abbrev pub AllLive : State → List IdBytes → Type 0
AllLive m [] = Unit {0}
AllLive m (x ∷ xs) = (is_live m x ≡ true) × AllLive m xs

module _ (meta : Meta) (m : State) (good : Good meta m) (known : HasChildren meta m) (attr : Attrs) (row : Rows) where
  gone_can : (x : IdBytes) (xs : List IdBytes) → is_live m x ≡ true → (In x xs → ⊥)
      → ((c : IdBytes) (f : ℕ) → get m.place c ≡ Some (Inside x f) → In c xs) → Bare attr row (x ∷ xs) → Can meta (stripped m attr row xs) (gone_step m x)
  gone_can x xs live apart_ children bare =
      let n = stripped m attr row xs in
      let far : is_among xs x ≡ false = not_among x xs apart_ in
      let at = live_place meta m good x live in
      let kind_is : get n.kind x ≡ Some (unwrap_or (get m.kind x) 0) =
      get-without id_order (is_among xs) m.kind x ∙ ap (λ b. cond b None (get m.kind x)) far ∙ some_of (get m.kind x) live in
      let place_is : get n.place x ≡ Some (unwrap_or (get m.place x) Root) =
      get-without id_order (is_among xs) m.place x ∙ ap (λ b. cond b None (get m.place x)) far ∙ at.1
      ∙ ap Some (sym (ap (λ o. unwrap_or o Root) at.1)) in
      let prank_is : get n.prank x ≡ Some (rank_at m.prank x) =
      get-without id_order (is_among xs) m.prank x ∙ ap (λ b. cond b None (get m.prank x)) far ∙ some_of (get m.prank x) at.2 in
      let no_values : value_count n x ≡ 0 =
      count_none attr_order (λ (e : AttrKey × List Value). text_eq x e.0.0) attr
      (λ k vs is. not_so (text_eq x k.0) (λ e. bare.values k vs is (inl (sym (text_equality.exact x k.0 e))))) in
      let no_links : link_count n x ≡ 0 =
      count_none row_order (λ (e : RowKey × ℕ). text_eq x e.0.0 || text_eq x e.0.2) row
      (λ k r is. neither (text_eq x k.0) (text_eq x k.2) (λ e. bare.rows_out k r is (inl (sym (text_equality.exact x k.0 e))))
      (λ e. bare.rows_in k r is (inl (sym (text_equality.exact x k.2 e))))) in
      let no_inner : inner_count n x ≡ 0 =
      count_none id_order (λ (e : IdBytes × Place). is_inside x e.1) n.place
      (λ q p is. outside q p (still_there (is_among xs q) (get m.place q) p (sym (get-without id_order (is_among xs) m.place q) ∙ is))) in
      pass (tests meta n (gone_step m x)) (
        ap is_some kind_is,
        (
          ap (λ o. option_eq nat_eq o (Some (unwrap_or (get m.kind x) 0))) kind_is ∙ number_equality.own (Some (unwrap_or (get m.kind x) 0)),
          (
            ap (λ o. option_eq place_eq o (Some (unwrap_or (get m.place x) Root))) place_is
                ∙ (option_equality place_eq place_equality).own (Some (unwrap_or (get m.place x) Root)),
            (
              ap (λ o. option_eq nat_eq o (Some (rank_at m.prank x))) prank_is ∙ number_equality.own (Some (rank_at m.prank x)),
              (
                ap (λ k. nat_eq k 0) no_values,
                (ap (λ k. nat_eq k 0) no_links, (ap (λ k. nat_eq k 0) no_inner, tt)),
              ),
            ),
          ),
        ),
      )
    where
      neither : (a b : Bool) → (a ≡ true → ⊥) → (b ≡ true → ⊥) → a || b ≡ false
      neither true b h g = absurd (h refl)
      neither false b h g = not_so b g

      outside : (q : IdBytes) (p : Place) → (is_among xs q ≡ false) × (get m.place q ≡ Some p) → is_inside x p ≡ false
      outside q Root at = refl
      outside q (Inside a f) at =
          not_so (text_eq x a) (λ e.
          true_false (is_among xs q)
          (in_among q xs (children q f (at.1 ∙ ap (λ (z : IdBytes). Some (Inside z f)) (sym (text_equality.exact x a e))))) at.0)

  less_bare : (x : IdBytes) (xs : List IdBytes) → Bare attr row (x ∷ xs) → Bare attr row xs
  less_bare x xs bare = record {
    values = λ k vs is h. bare.values k vs is (inr h);
    rows_out = λ k r is h. bare.rows_out k r is (inr h);
    rows_in =
        λ k r is h. bare.rows_in k r is (inr h);
  }

  pub elements_lead : (xs : List IdBytes) → AllLive m xs → Ordered meta m good known xs → Bare attr row xs
      → fold meta (stripped m attr row []) (gone_made m xs) ≡ Some (stripped m attr row xs)
  elements_lead [] live order bare = refl
  elements_lead (x ∷ xs) live order bare =
      let before : State = stripped m attr row xs in
      let next : State = record { kind = set before.kind x None; place = set before.place x None; prank = set before.prank x None; attr = attr; row = row } in
      let same_state : next ≡ stripped m attr row (x ∷ xs) =
      λ i. record { kind = one_more m.kind x xs i; place = one_more m.place x xs i; prank = one_more m.prank x xs i; attr = attr; row = row } in
      fold_append meta (stripped m attr row []) before (gone_made m xs) (gone_step m x ∷ []) (elements_lead xs live.1 order.2 (less_bare x xs bare))
      ∙ fold_more meta before (gone_step m x) [] (gone_can x xs live.0 order.1 order.0 bare)
      ∙ ap Some same_state
