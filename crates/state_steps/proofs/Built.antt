-- The steps that take a state apart lead to the empty one, and so their reversals build it.
use Rattle.std.proofs.Common.{◌≡◌, ℕ, Bool, true, false, cond, List, [], ◌++◌, refl, sym, ap, subst, ◌∙◌}
use Rattle.std.specs.Prelude.{Option, None, Some, is_some}
use Rattle.std.specs.FinMap.{FinMap, get, empty, get-empty}
use Rattle.ecore_meta.specs.Meta.{Meta}
use Rattle.ecore_meta.specs.declared.meta.Value.{Value}
use Rattle.finite_maps.specs.Sorts.{without}
use Rattle.finite_maps.proofs.MapLaws.{IsKeyOrder, same}
use Rattle.finite_maps.proofs.NestedLaws.{get-without}
use Rattle.std.specs.declared.cmp.Ordering.{Ordering}
use Rattle.model_state.specs.declared.step.Place.{Place}
use Rattle.model_state.specs.Keys.{IdBytes, AttrKey, id_cmp, attr_cmp, row_cmp}
use Rattle.model_state.specs.Good.{Good, Sound, AttrOk, PlaceOk}
use Rattle.model_state.specs.State.{State, nothing}
use Rattle.model_state.specs.Steps.{fold}
use Rattle.model_state.specs.Typing.{is_plain}
use Rattle.model_state.proofs.Orders.{id_order, attr_order, row_order}
use Rattle.model_laws.proofs.Runs.{fold_append, reversal_undoes}
use Rattle.edit_steps.specs.Rows.{Rows}
use Rattle.edit_steps.proofs.Clears.{Leads}
use Rattle.edit_steps.specs.Deletes.{gone_made, holds_values, is_touched, outgoing_made, slots_of, values_made}
use Rattle.edit_steps.specs.Subtree.{is_among}
use Rattle.edit_steps.proofs.Children.{has_children}
use Rattle.edit_steps.proofs.ElementsGone.{Bare, elements_lead, stripped}
use Rattle.edit_steps.proofs.Members.{Distinct, distinct_filter}
use Rattle.edit_steps.proofs.Outgoing.{outgoing_leads}
use Rattle.edit_steps.proofs.Slots.{slots_distinct}
use Rattle.edit_steps.proofs.ValuesGone.{attributes, kept_all, values_lead, values_left}
use Rattle.state_steps.specs.Whole.{elements_of, leads, links_of, unlinked, unmade, StepsBuild}
use Rattle.state_steps.proofs.Apart.{all_out, lead_filtered, touched_all}
use Rattle.state_steps.proofs.Turned.{all_turned}
use Rattle.state_steps.proofs.Everyone.{all_ordered, all_live, among_all, distinct_from, everyone}

-- a map without all that it has
all_gone : {K X : Type 0} {R : K → K → Ordering} (o : IsKeyOrder R) (p : K → Bool) (m : FinMap R X)
    → ((k : K) (v : X) → get m k ≡ Some v → p k ≡ true) → without p m ≡ empty
all_gone {X = X} {R = R} o p m h = same o (without p m) empty (λ k.
    get-without o p m k
    ∙ elim (get m k) as (λ w. get m k ≡ w → cond (p k) None w ≡ None) [
      | None ↦ λ _. nothing_left (p k)
      | Some v ↦ λ is. ap (λ b. cond b None (Some v)) (h k v is)
    ] refl
    ∙ sym (get-empty R k))
  where
    nothing_left : (b : Bool) → ◌≡◌ {A = Option X} (cond b None None) None
    nothing_left true = refl
    nothing_left false = refl

no_entry : {K X : Type 0} (R : K → K → Ordering) (k : K) (v : X) → get (empty {X = X} {R = R}) k ≡ Some v → ⊥
no_entry {X = X} R k v h = clash (get empty k) (get-empty R k) h
  where
    clash : (o : Option X) → o ≡ None → o ≡ Some v → ⊥
    clash o h k = cc

attr_live : (meta : Meta) (c : Option ℕ) (f : ℕ) (vs : List Value) → AttrOk meta c f (Some vs) → is_some c ≡ true
attr_live meta None f vs ok = absurd ok
attr_live meta (Some c) f vs ok = refl

place_live : (meta : Meta) (kind : FinMap id_cmp ℕ) (c : Option ℕ) (p : Place) (r : Option ℕ) → PlaceOk meta kind c (Some p) r → is_some c ≡ true
place_live meta kind None p None ok = absurd ok
place_live meta kind None p (Some r) ok = absurd ok
place_live meta kind (Some c) p r ok = refl

rank_live : (meta : Meta) (kind : FinMap id_cmp ℕ) (c : Option ℕ) (p : Option Place) (r : ℕ) → PlaceOk meta kind c p (Some r) → is_some c ≡ true
rank_live meta kind None None r ok = absurd ok
rank_live meta kind None (Some p) r ok = absurd ok
rank_live meta kind (Some c) p r ok = refl

module _ (meta : Meta) (sound : Sound meta) (m : State) (good : Good meta m) where
  abbrev xs : List IdBytes
  xs = elements_of meta m

  abbrev links : List AttrKey
  links = links_of meta m xs

  abbrev slots : List AttrKey
  slots = slots_of meta m holds_values xs

  once : Distinct xs
  once = distinct_from meta m good xs (all_ordered meta m good)

  -- ---- the references
  no_slots : m.row ≡ without (is_touched meta []) m.row
  no_slots = same row_order _ _ (λ k. sym (get-without row_order (is_touched meta []) m.row k))

  out_is : outgoing_made meta m.row [] links ≡ unlinked meta m.row links
  out_is =
      all_out meta sound m.row links [] tt (lead_filtered meta sound (slots_of meta m is_plain xs))
      (distinct_filter (leads meta) (slots_of meta m is_plain xs) (slots_distinct meta m is_plain xs once)) (λ s h none. none)

  no_rows : without (is_touched meta links) m.row ≡ empty
  no_rows = all_gone row_order (is_touched meta links) m.row (λ k r is. touched_all meta sound m good xs (everyone meta m good) k r is)

  part_out : Leads meta m (unlinked meta m.row links) empty
  part_out = subst (λ ss. Leads meta m ss empty) out_is
      (subst (λ (w : Rows). Leads meta m (outgoing_made meta m.row [] links) w) no_rows (outgoing_leads meta sound m.row links [] m good no_slots))

  -- ---- the values
  no_values : without (λ (k : AttrKey). is_among xs k.0) m.attr ≡ empty
  no_values = all_gone attr_order (λ (k : AttrKey). is_among xs k.0) m.attr (λ k vs is.
      among_all meta m good k.0 (attr_live meta (get m.kind k.0) k.1 vs (subst (λ o. AttrOk meta (get m.kind k.0) k.1 o) is (good.attrs.typed k.0 k.1))))

  part_values : fold meta (record m { row = empty }) (values_made meta m slots) ≡ Some (record m { row = empty; attr = empty })
  part_values =
      values_lead meta sound m slots (record m { row = empty }) part_out.good (attributes meta m good xs) (slots_distinct meta m holds_values xs once)
      (kept_all meta sound m slots)
      ∙ ap (λ (attr : FinMap _ (List Value)). Some (record m { row = empty; attr = attr })) (values_left meta m good xs ∙ no_values)

  -- ---- the elements
  with_none : {X : Type 0} (map : FinMap id_cmp X) → map ≡ without (is_among []) map
  with_none map = same id_order _ _ (λ q. sym (get-without id_order (is_among []) map q))

  bare : Bare empty empty xs
  bare = record {
    values = λ k vs is one. no_entry attr_cmp k vs is;
    rows_out = λ k r is one. no_entry row_cmp k r is;
    rows_in =
        λ k r is one. no_entry row_cmp k r is;
  }

  live_some : {X : Type 0} (o : Option X) (v : X) → o ≡ Some v → is_some o ≡ true
  live_some o v h = ap is_some h

  part_gone : fold meta (record m { row = empty; attr = empty }) (gone_made m xs) ≡ Some nothing
  part_gone =
      let before : State = record m { row = empty; attr = empty } in
      let same_state : before ≡ stripped m empty empty [] =
      λ i. record { kind = with_none m.kind i; place = with_none m.place i; prank = with_none m.prank i; attr = empty; row = empty } in
      let no_kind = all_gone id_order (is_among xs) m.kind (λ e c is. among_all meta m good e (live_some (get m.kind e) c is)) in
      let no_place = all_gone id_order (is_among xs) m.place
      (λ e p is. among_all meta m good e
      (place_live meta m.kind (get m.kind e) p (get m.prank e)
      (subst (λ o. PlaceOk meta m.kind (get m.kind e) o (get m.prank e)) is (good.places.stands e)))) in
      let no_prank = all_gone id_order (is_among xs) m.prank
      (λ e r is. among_all meta m good e
      (rank_live meta m.kind (get m.kind e) (get m.place e) r
      (subst (λ o. PlaceOk meta m.kind (get m.kind e) (get m.place e) o) is (good.places.stands e)))) in
      let all_stripped : stripped m empty empty xs ≡ nothing =
      λ i. record { kind = no_kind i; place = no_place i; prank = no_prank i; attr = empty; row = empty } in
      ap (λ (n : State). fold meta n (gone_made m xs)) same_state
      ∙ elements_lead meta m good (has_children meta m good) empty empty xs (all_live meta m good xs (λ y h. h)) (all_ordered meta m good) bare
      ∙ ap Some all_stripped

  pub unmade_leads : fold meta m (unmade meta m) ≡ Some nothing
  unmade_leads =
      fold_append meta m (record m { row = empty }) (unlinked meta m.row links) (values_made meta m slots ++ gone_made m xs) part_out.run
      ∙ fold_append meta (record m { row = empty }) (record m { row = empty; attr = empty }) (values_made meta m slots) (gone_made m xs) part_values
      ∙ part_gone

pub steps_build : StepsBuild
steps_build meta sound m good =
    ap (fold meta nothing) (sym (all_turned meta m (elements_of meta m)))
    ∙ reversal_undoes meta sound m nothing good (unmade meta m) (unmade_leads meta sound m good)
