-- The attributes of elements are emptied, one after another.
use Rattle.std.proofs.Common.{◌≡◌, ℕ, Bool, true, false, cond, List, [], ◌∷◌, refl, sym, ap, subst, ◌∙◌, ◌||◌, ◌&&◌, length, inl, inr}
use Rattle.std.specs.Prelude.{Option, None, Some}
use Rattle.std.specs.FinMap.{FinMap, get}
use Rattle.std.specs.Ordering.{eq_by_cmp}
use Rattle.finite_maps.specs.Equal.{option_eq}
use Rattle.finite_maps.specs.Maps.{set}
use Rattle.finite_maps.specs.Sorts.{without}
use Rattle.finite_maps.proofs.Cases.{not_so, true_false}
use Rattle.finite_maps.proofs.MapLaws.{same, same_key, by_key, get-set_same, get-set_other}
use Rattle.finite_maps.proofs.NestedLaws.{get-without}
use Rattle.ecore_meta.specs.Meta.{Meta}
use Rattle.ecore_meta.specs.declared.meta.Kind.{Kind}
use Rattle.ecore_meta.specs.declared.meta.Kind.TheVariants.{Attr, AttrMany, Bounded, Free, Contains, Container, Skip}
use Rattle.ecore_meta.specs.declared.meta.Value.{Value}
use Rattle.model_state.specs.declared.step.Step.{Step}
use Rattle.model_state.specs.declared.step.Step.TheVariants.{Put}
use Rattle.model_state.specs.Keys.{IdBytes, AttrKey, attr_cmp, id_cmp}
use Rattle.model_state.specs.Lists.{values_of}
use Rattle.model_state.specs.State.{State}
use Rattle.model_state.specs.Steps.{class_has, fold}
use Rattle.model_state.specs.Typing.{kind_of, is_attr, upper_of, value_eq}
use Rattle.model_state.specs.Good.{Good, Sound, AttrOk, ValuesOk}
use Rattle.model_state.proofs.Orders.{attr_order}
use Rattle.model_laws.proofs.Runs.{fold_append, steps_keep_good}
use Rattle.edit_steps.specs.Attributes.{single_value, put_made}
use Rattle.edit_steps.specs.ManyValues.{clear_made, dels}
use Rattle.edit_steps.proofs.AttributeEdits.{put_meets}
use Rattle.edit_steps.proofs.ManyEdits.{clear_meets}
use Rattle.edit_steps.specs.Deletes.{emptied_made, values_made, holds_values, slots_of}
use Rattle.edit_steps.specs.Subtree.{is_among, numbers}
use Rattle.edit_steps.proofs.Members.{In, Distinct, in_filter, among_in, in_among}
use Rattle.edit_steps.proofs.Children.{feature_listed}
use Rattle.edit_steps.proofs.Slots.{slot_in, in_slots}

abbrev pub Attrs : Type 0
Attrs = FinMap attr_cmp (List Value)

-- the attributes without some of them
abbrev pub emptied : List AttrKey → Attrs → Attrs
emptied [] attr = attr
emptied (s ∷ ss) attr = emptied ss (set attr s None)

keys_apart : (s t : AttrKey) → (s ≡ t → ⊥) → eq_by_cmp attr_cmp t s ≡ false
keys_apart s t differ = not_so (eq_by_cmp attr_cmp t s) (λ tied. differ (sym (same_key attr_order t s tied)))

-- attributes of their elements' classes
abbrev pub Attributes : Meta → FinMap id_cmp ℕ → List AttrKey → Type 0
Attributes meta kind [] = Unit {0}
Attributes meta kind (s ∷ ss) = (class_has meta (get kind s.0) s.1 ≡ true) × (holds_values (kind_of meta s.1) ≡ true) × Attributes meta kind ss

or_right : (b c : Bool) → b || c ≡ true → b ≡ false → c ≡ true
or_right true c h g = cc
or_right false c h g = h

-- the step that unsets an attribute, by its entry
abbrev put_by : AttrKey → Option (List Value) → List Step
put_by s o = cond (option_eq value_eq (single_value o) None) [] (Put s.0 s.1 (single_value o) None ∷ [])

module _ (meta : Meta) (sound : Sound meta) (m : State) where
  -- these attributes are as before
  abbrev pub Kept : Attrs → List AttrKey → Type 0
  Kept attr [] = Unit {0}
  Kept attr (s ∷ ss) = (get attr s ≡ get m.attr s) × Kept attr ss

  kept_still : (attr : Attrs) (s : AttrKey) (ss : List AttrKey) → (In s ss → ⊥) → Kept attr ss → Kept (set attr s None) ss
  kept_still attr s [] apart kept = tt
  kept_still attr s (t ∷ ts) apart kept =
      (get-set_other attr_order attr s None t (keys_apart s t (λ e. apart (inl e))) ∙ kept.0, kept_still attr s ts (λ h. apart (inr h)) kept.1)

  pub kept_all : (ss : List AttrKey) → Kept m.attr ss
  kept_all [] = tt
  kept_all (s ∷ ss) = (refl, kept_all ss)

  one_empty : (n : State) → Good meta n → (s : AttrKey) → class_has meta (get n.kind s.0) s.1 ≡ true → holds_values (kind_of meta s.1) ≡ true
      → get n.attr s ≡ get m.attr s → fold meta n (emptied_made meta m s) ≡ Some (record n { attr = set n.attr s None })
  one_empty n good s has is kept =
      elim (is_attr (kind_of meta s.1)) as (λ b. is_attr (kind_of meta s.1) ≡ b
      → fold meta n (cond b (put_made m s.0 s.1 None) (clear_made m s.0 s.1)) ≡ Some (record n { attr = set n.attr s None })) [
        | true ↦ λ single. ap (fold meta n) (put_same single) ∙ put_meets meta n good s.0 s.1 None (has, single) refl refl
        | false ↦ λ many. ap (fold meta n) (ap (λ o. dels s.0 s.1 0 (values_of o)) (sym kept))
            ∙ clear_meets meta n good s.0 s.1 (has, or_right (is_attr (kind_of meta s.1)) _ is many)
      ] refl
    where
      put_same : is_attr (kind_of meta s.1) ≡ true → put_made m s.0 s.1 None ≡ put_made n s.0 s.1 None
      put_same single = ap (put_by s) (sym kept)

  pub values_lead : (ss : List AttrKey) (n : State) → Good meta n → Attributes meta n.kind ss → Distinct ss → Kept n.attr ss
      → fold meta n (values_made meta m ss) ≡ Some (record n { attr = emptied ss n.attr })
  values_lead [] n good all d kept = refl
  values_lead (s ∷ ss) n good all d kept =
      let next : State = record n { attr = set n.attr s None } in
      let first = one_empty n good s all.0 all.1 kept.0 in
      fold_append meta n next (emptied_made meta m s) (values_made meta m ss) first
      ∙ values_lead ss next (steps_keep_good meta sound n next good (emptied_made meta m s) first) all.2 d.1 (kept_still n.attr s ss d.0 kept.1)

-- ---- what is left
emptied_none : (ss : List AttrKey) (attr : Attrs) (k : AttrKey) → get attr k ≡ None → get (emptied ss attr) k ≡ None
emptied_none [] attr k h = h
emptied_none (s ∷ ss) attr k h =
    emptied_none ss (set attr s None) k
    (by_key attr_order (λ q. get attr q ≡ None → get (set attr s None) q ≡ None) s k (λ _. get-set_same attr_order attr s None)
    (λ far g. get-set_other attr_order attr s None k far ∙ g) h)

emptied_here : (ss : List AttrKey) (attr : Attrs) (k : AttrKey) → In k ss → get (emptied ss attr) k ≡ None
emptied_here [] attr k h = absurd h
emptied_here (s ∷ ss) attr k (inl e) = emptied_none ss (set attr s None) k (ap (get (set attr s None)) e ∙ get-set_same attr_order attr s None)
emptied_here (s ∷ ss) attr k (inr h) = emptied_here ss (set attr s None) k h

emptied_other : (ss : List AttrKey) (attr : Attrs) (k : AttrKey) → (In k ss → ⊥) → get (emptied ss attr) k ≡ get attr k
emptied_other [] attr k far = refl
emptied_other (s ∷ ss) attr k far =
    emptied_other ss (set attr s None) k (λ h. far (inr h)) ∙ get-set_other attr_order attr s None k (keys_apart s k (λ e. far (inl (sym e))))

value_kind : (meta : Meta) (k : Kind) (upper : Option ℕ) (vs : List Value) → ValuesOk meta k upper vs → holds_values k ≡ true
value_kind meta (Attr scalar default) upper vs ok = refl
value_kind meta (AttrMany scalar unique) upper vs ok = refl
value_kind meta (Bounded t o) upper vs ok = absurd ok
value_kind meta (Free t o) upper vs ok = absurd ok
value_kind meta (Contains t o) upper vs ok = absurd ok
value_kind meta (Container t o) upper vs ok = absurd ok
value_kind meta Skip upper vs ok = absurd ok

entry_kind : (meta : Meta) (c : Option ℕ) (f : ℕ) (vs : List Value) → AttrOk meta c f (Some vs)
    → (class_has meta c f ≡ true) × (holds_values (kind_of meta f) ≡ true)
entry_kind meta None f vs ok = absurd ok
entry_kind meta (Some c) f vs ok = (ok.0, value_kind meta (kind_of meta f) (upper_of meta f) vs ok.1)

module _ (meta : Meta) (m : State) (good : Good meta m) (xs : List IdBytes) where
  abbrev slots : List AttrKey
  slots = slots_of meta m holds_values xs

  and_pair : (a b : Bool) → a && b ≡ true → (a ≡ true) × (b ≡ true)
  and_pair true b h = (refl, h)
  and_pair false b h = cc

  all_attributes : (ss : List AttrKey) → ((s : AttrKey) → In s ss → In s slots) → Attributes meta m.kind ss
  all_attributes [] h = tt
  all_attributes (s ∷ ss) h =
      let listed = (in_slots meta m holds_values s xs (h s (inl refl))).1 in
      let is = and_pair _ _ (in_filter (λ f. class_has meta (get m.kind s.0) f && holds_values (kind_of meta f)) s.1
      (numbers (length meta.features)) listed).1 in
      (is.0, is.1, all_attributes ss (λ t l. h t (inr l)))

  pub attributes : Attributes meta m.kind slots
  attributes = all_attributes slots (λ s h. h)

  -- the entries that stay are those of other elements
  pub values_left : emptied slots m.attr ≡ without (λ (k : AttrKey). is_among xs k.0) m.attr
  values_left = same attr_order _ _ (λ k.
      elim (is_among xs k.0) as (λ b. is_among xs k.0 ≡ b → get (emptied slots m.attr) k ≡ cond b None (get m.attr k)) [
        | true ↦ λ one. here k one (get m.attr k) refl
        | false ↦ λ none. emptied_other slots m.attr k (λ h. true_false (is_among xs k.0) (in_among k.0 xs (in_slots meta m holds_values k xs h).0) none)
      ] refl
      ∙ sym (get-without attr_order (λ (k : AttrKey). is_among xs k.0) m.attr k))
    where
      here : (k : AttrKey) → is_among xs k.0 ≡ true → (o : Option (List Value)) → get m.attr k ≡ o → get (emptied slots m.attr) k ≡ None
      here k one None is = emptied_none slots m.attr k is
      here k one (Some vs) is =
          let ok = entry_kind meta (get m.kind k.0) k.1 vs (subst (λ o. AttrOk meta (get m.kind k.0) k.1 o) is (good.attrs.typed k.0 k.1)) in
          emptied_here slots m.attr k
          (slot_in meta m holds_values k.0 k.1 xs (among_in k.0 xs one) (feature_listed meta holds_values (get m.kind k.0) k.1 refl ok.0 ok.1))
