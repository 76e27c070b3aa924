-- The steps of a deletion lead to the model without the subtree, and the subtree is what stands at or below the element.
use Rattle.std.proofs.Common.{◌≡◌, ℕ, Bool, true, false, cond, suc, zero, List, [], ◌∷◌, refl, sym, ap, subst, ◌∙◌, ◌||◌, inl, inr}
use Rattle.std.specs.Prelude.{Option, None, Some}
use Rattle.std.specs.FinMap.{FinMap, get}
use Rattle.finite_maps.specs.Sorts.{without}
use Rattle.finite_maps.proofs.Cases.{true_false}
use Rattle.finite_maps.proofs.MapLaws.{same}
use Rattle.finite_maps.proofs.NestedLaws.{get-without}
use Rattle.ecore_meta.specs.Meta.{Meta}
use Rattle.model_state.specs.declared.step.Place.TheVariants.{Inside}
use Rattle.model_state.specs.Keys.{IdBytes, AttrKey, RowKey, id_cmp}
use Rattle.model_state.specs.State.{State, is_live}
use Rattle.model_state.specs.Steps.{fold}
use Rattle.model_state.specs.Typing.{is_plain}
use Rattle.model_state.specs.Good.{Good, Sound, PlaceOk}
use Rattle.model_state.specs.Chains.{IsChain}
use Rattle.model_state.proofs.Orders.{attr_order, id_order, row_order}
use Rattle.model_laws.proofs.Runs.{fold_append}
use Rattle.edit_steps.specs.Rows.{Rows}
use Rattle.edit_steps.proofs.Clears.{Leads}
use Rattle.edit_steps.proofs.Creates.{placed_live}
use Rattle.edit_steps.specs.Deletes.{removal_after, removal_made, gone_made, incoming_made, holds_values, is_touched, outgoing_made, slots_of, values_made}
use Rattle.edit_steps.specs.Subtree.{is_among, subtree_of}
use Rattle.edit_steps.proofs.Forests.{IsSubtree}
use Rattle.edit_steps.proofs.Levels.{in_order, subtree_is}
use Rattle.edit_steps.specs.PlaceLaws.{DeleteLeads, SubtreeIsBelow, SubtreeIsInOrder, SubtreeIsLive}
use Rattle.edit_steps.proofs.Children.{has_children}
use Rattle.edit_steps.proofs.ElementsGone.{AllLive, Bare, elements_lead, stripped}
use Rattle.edit_steps.proofs.IncomingRows.{Fresh, incoming_leads, is_gone}
use Rattle.edit_steps.proofs.Members.{In, Distinct, among_in, in_among, not_among}
use Rattle.edit_steps.proofs.Outgoing.{outgoing_leads}
use Rattle.edit_steps.proofs.Slots.{no_opposites, rows_left, slots_distinct}
use Rattle.edit_steps.proofs.Trees.{HasChildren, Ordered, Up, all_below, chain_up, forest_below, forest_has, forest_ordered, up_in}
use Rattle.edit_steps.proofs.ValuesGone.{Attrs, attributes, kept_all, values_lead, values_left}

module _ (meta : Meta) (m : State) (good : Good meta m) (e : IdBytes) (xs : List IdBytes) (subtree : IsSubtree meta m e xs) where
  known : HasChildren meta m
  known = has_children meta m good

  order : Ordered meta m good known xs
  order = forest_ordered meta m good known (e ∷ []) xs (tt, tt) subtree

  -- each is at or below the element
  at_or_below : (y : IdBytes) → In y xs → (n : ℕ) × Up m.place n y e
  at_or_below y is =
      let under = forest_below meta m good known (e ∷ []) xs subtree y is in
      elim under.1 [
        | inl same_root ↦ (under.2, subst (λ z. Up m.place under.2 y z) same_root under.3)
        | inr none ↦ absurd none
      ]

  -- and each that is there is at or below it
  all_in : (y : IdBytes) (n : ℕ) → Up m.place n y e → In y xs
  all_in y n up = all_below meta m good known xs order n y e (forest_has meta m good known (e ∷ []) xs subtree e (inl refl)) up

  live_at : is_live m e ≡ true → (y : IdBytes) (n : ℕ) → Up m.place n y e → is_live m y ≡ true
  live_at live y zero up = ap (is_live m) up ∙ live
  live_at live y (suc n) up =
      (placed_live meta m.kind (get m.kind y) (Inside up.0 up.1) (get m.prank y)
      (subst (λ o. PlaceOk meta m.kind (get m.kind y) o (get m.prank y)) up.2 (good.places.stands y))).0

  pub below_live : is_live m e ≡ true → (y : IdBytes) → In y xs → is_live m y ≡ true
  below_live live y is = let at = at_or_below y is in live_at live y at.0 at.1

  pub below_is : (y : IdBytes) (up : List IdBytes) → IsChain m.place (get m.place y) up → is_among xs y ≡ is_among (y ∷ up) e
  below_is y up chain =
      elim (is_among xs y) as (λ b. is_among xs y ≡ b → b ≡ is_among (y ∷ up) e) [
        | true ↦ λ is. let at = at_or_below y (among_in y xs is) in sym (in_among e (y ∷ up) (up_in m.place at.0 y e up chain at.1))
        | false ↦ λ far. sym (not_among e (y ∷ up)
            (λ is. let at = chain_up m.place y e up chain is in true_false (is_among xs y) (in_among y xs (all_in y at.0 at.1)) far))
      ] refl

  distinct_from : (ys : List IdBytes) → Ordered meta m good known ys → Distinct ys
  distinct_from [] o = tt
  distinct_from (y ∷ ys) o = (o.1, distinct_from ys o.2)

  fresh_from : (sound : Sound meta) (ys done : List IdBytes) → ((y : IdBytes) → In y ys → is_among xs y ≡ true)
      → ((y : IdBytes) → In y ys → In y done → ⊥) → Distinct ys
      → Fresh meta sound m.row (slots_of meta m is_plain xs) xs (no_opposites meta sound m good xs) done ys
  fresh_from sound [] done one far d = tt
  fresh_from sound (y ∷ ys) done one far d = (
    not_among y done (far y (inl refl)),
    one y (inl refl),
    fresh_from sound ys (y ∷ done) (λ z h. one z (inr h))
        (λ z h g. elim g [ inl same_one ↦ d.0 (subst (λ (w : IdBytes). In w ys) same_one h) | inr l ↦ far z (inr h) l ]) d.1,
  )

  all_live : is_live m e ≡ true → (ys : List IdBytes) → ((y : IdBytes) → In y ys → In y xs) → AllLive m ys
  all_live live [] h = tt
  all_live live (y ∷ ys) h = (below_live live y (h y (inl refl)), all_live live ys (λ z l. h z (inr l)))

  with_none : {X : Type 0} (map : FinMap id_cmp X) → map ≡ without (is_among []) map
  with_none map = same id_order _ _ (λ q. sym (get-without id_order (is_among []) map q))

  -- ---- the four parts
  module _ (sound : Sound meta) (live : is_live m e ≡ true) where
    abbrev references : List AttrKey
    references = slots_of meta m is_plain xs

    abbrev row_out : Rows
    row_out = without (is_touched meta references) m.row

    abbrev row_left : Rows
    row_left = without (λ (k : RowKey). is_among xs k.0 || is_among xs k.2) m.row

    abbrev attr_left : Attrs
    attr_left = without (λ (k : AttrKey). is_among xs k.0) m.attr

    no_slots : m.row ≡ without (is_touched meta []) m.row
    no_slots = same row_order _ _ (λ k. sym (get-without row_order (is_touched meta []) m.row k))

    none_done : row_out ≡ without (is_gone meta references []) m.row
    none_done = same row_order _ _
        (λ k. get-without row_order (is_touched meta references) m.row k
        ∙ ap (λ b. cond b None (get m.row k)) (sym (or_false (is_touched meta references k)))
        ∙ sym (get-without row_order (is_gone meta references []) m.row k))
      where
        or_false : (b : Bool) → b || false ≡ b
        or_false true = refl
        or_false false = refl

    part_out : Leads meta m (outgoing_made meta m.row [] references) row_out
    part_out = outgoing_leads meta sound m.row references [] m good no_slots

    part_in : Leads meta (record m { row = row_out }) (incoming_made meta m.row references xs) row_left
    part_in =
        subst (λ w. Leads meta (record m { row = row_out }) (incoming_made meta m.row references xs) w) (rows_left meta sound m good xs)
        (incoming_leads meta sound m.row references xs (no_opposites meta sound m good xs) xs [] (record m { row = row_out }) part_out.good none_done
        (fresh_from sound xs [] (λ y h. in_among y xs h) (λ y h none. none) (distinct_from xs order)))

    part_values : fold meta (record m { row = row_left }) (values_made meta m (slots_of meta m holds_values xs)) ≡ Some
        (record m { row = row_left; attr = attr_left })
    part_values =
        values_lead meta sound m (slots_of meta m holds_values xs) (record m { row = row_left }) part_in.good (attributes meta m good xs)
        (slots_distinct meta m holds_values xs (distinct_from xs order)) (kept_all meta sound m (slots_of meta m holds_values xs))
        ∙ ap (λ (attr : Attrs). Some (record m { row = row_left; attr = attr })) (values_left meta m good xs)

    gone_in : {X : Type 0} (b : Bool) (o : Option X) (v : X) → cond b None o ≡ Some v → b ≡ true → ⊥
    gone_in true o v h is = cc
    gone_in false o v h is = cc

    bare : Bare attr_left row_left xs
    bare = record {
      values = λ k vs is one.
          gone_in (is_among xs k.0) (get m.attr k) vs (sym (get-without attr_order (λ (k : AttrKey). is_among xs k.0) m.attr k) ∙ is)
          (in_among k.0 xs one);
      rows_out = λ k r is one.
          gone_in (is_among xs k.0 || is_among xs k.2) (get m.row k) r
          (sym (get-without row_order (λ (k : RowKey). is_among xs k.0 || is_among xs k.2) m.row k) ∙ is)
          (ap (λ b. b || is_among xs k.2) (in_among k.0 xs one));
      rows_in = λ k r is one.
          gone_in (is_among xs k.0 || is_among xs k.2) (get m.row k) r
          (sym (get-without row_order (λ (k : RowKey). is_among xs k.0 || is_among xs k.2) m.row k) ∙ is)
          (ap (λ b. is_among xs k.0 || b) (in_among k.2 xs one) ∙ or_true (is_among xs k.0));
    }
      where
        or_true : (b : Bool) → b || true ≡ true
        or_true true = refl
        or_true false = refl

    part_gone : fold meta (record m { row = row_left; attr = attr_left }) (gone_made m xs) ≡ Some (removal_after m xs)
    part_gone =
        let before : State = record m { row = row_left; attr = attr_left } in
        let same_state : before ≡ stripped m attr_left row_left [] =
        λ i. record { kind = with_none m.kind i; place = with_none m.place i; prank = with_none m.prank i; attr = attr_left; row = row_left } in
        ap (λ (n : State). fold meta n (gone_made m xs)) same_state
        ∙ elements_lead meta m good known attr_left row_left xs (all_live live xs (λ y h. h)) order bare

    pub delete_leads_to : fold meta m (removal_made meta m xs) ≡ Some (removal_after m xs)
    delete_leads_to =
        fold_append meta m (record m { row = row_out }) (outgoing_made meta m.row [] references) _ part_out.run
        ∙ fold_append meta (record m { row = row_out }) (record m { row = row_left }) (incoming_made meta m.row references xs) _ part_in.run
        ∙ fold_append meta (record m { row = row_left }) (record m { row = row_left; attr = attr_left })
        (values_made meta m (slots_of meta m holds_values xs)) (gone_made m xs) part_values
        ∙ part_gone

pub delete_leads : DeleteLeads
delete_leads meta sound m good e live = delete_leads_to meta m good e (subtree_of meta m e) (subtree_is meta m good (has_children meta m good) e) sound live

pub subtree_is_in_order : SubtreeIsInOrder
subtree_is_in_order meta m good e = in_order meta m good (has_children meta m good) e

pub subtree_is_below : SubtreeIsBelow
subtree_is_below meta m good e y up chain = below_is meta m good e (subtree_of meta m e) (subtree_is meta m good (has_children meta m good) e) y up chain

pub subtree_is_live : SubtreeIsLive
subtree_is_live meta m good e live y is =
    below_live meta m good e (subtree_of meta m e) (subtree_is meta m good (has_children meta m good) e) live y (among_in y (subtree_of meta m e) is)
