-- Setting and unsetting a single attribute.
use Rattle.std.proofs.Common.{◌≡◌, ℕ, Bool, true, false, cond, not, List, [], ◌∷◌, refl, sym, ap, ◌∙◌}
use Rattle.std.specs.Prelude.{Option, None, Some}
use Rattle.std.specs.FinMap.{get}
use Rattle.finite_maps.specs.Equal.{option_eq, list_eq}
use Rattle.finite_maps.proofs.MapLaws.{set_here}
use Rattle.finite_maps.proofs.EqualLaws.{option_equality}
use Rattle.ecore_meta.specs.Meta.{Meta}
use Rattle.ecore_meta.specs.declared.meta.Value.{Value}
use Rattle.ecore_meta.specs.declared.meta.Kind.{Kind}
use Rattle.ecore_meta.specs.declared.meta.Kind.TheVariants.{Attr, AttrMany, Bounded, Free, Contains, Container, Skip}
use Rattle.model_state.specs.declared.step.Step.TheVariants.{Put}
use Rattle.model_state.specs.Keys.{IdBytes}
use Rattle.model_state.specs.Typing.{value_eq, kind_of, upper_of, is_attr, attr_fits, is_default}
use Rattle.model_state.specs.State.{State}
use Rattle.model_state.specs.Steps.{tests, Can, fold, single, value_fits, not_default}
use Rattle.model_state.specs.Good.{Good, AttrOk, ValuesOk}
use Rattle.model_state.proofs.Orders.{attr_order}
use Rattle.model_state.proofs.StepTests.{pass, value_equality, values_equality}
use Rattle.finite_maps.proofs.Cases.{not_false}
use Rattle.model_laws.proofs.Births.{has_class}
use Rattle.model_laws.proofs.Runs.{fold_more}
use Rattle.edit_steps.specs.Attributes.{single_value, taken, put_after, put_made, IsAttribute}
use Rattle.edit_steps.specs.Laws.{SetAttrMeets, UnsetAttrMeets}

abbrev fits_by : Meta → Kind → Option Value → Bool
fits_by meta k None = true
fits_by meta k (Some v) = attr_fits meta k v

abbrev differs_by : Kind → Option Value → Bool
differs_by k None = true
differs_by k (Some v) = not (is_default k v)

abbrev Facts : Meta → Kind → Option (List Value) → Type 0
Facts meta k o = (o ≡ single (single_value o)) × (fits_by meta k (single_value o) ≡ true) × (differs_by k (single_value o) ≡ true)

by_values : (meta : Meta) (k : Kind) (upper : Option ℕ) (vs : List Value) → is_attr k ≡ true → ValuesOk meta k upper vs → Facts meta k (Some vs)
by_values meta (Attr scalar default) upper [] is ok = absurd ok
by_values meta (Attr scalar default) upper (v ∷ []) is ok = (refl, ok.0, ap not ok.1)
by_values meta (Attr scalar default) upper (v ∷ w ∷ ws) is ok = absurd ok
by_values meta (AttrMany scalar unique) upper vs is ok = cc
by_values meta (Bounded t o) upper vs is ok = cc
by_values meta (Free t o) upper vs is ok = cc
by_values meta (Contains t o) upper vs is ok = cc
by_values meta (Container t o) upper vs is ok = cc
by_values meta Skip upper vs is ok = cc

facts : (meta : Meta) (c : Option ℕ) (f : ℕ) (o : Option (List Value)) → is_attr (kind_of meta f) ≡ true → AttrOk meta c f o → Facts meta (kind_of meta f) o
facts meta c f None is ok = (refl, refl, refl)
facts meta None f (Some vs) is ok = absurd ok
facts meta (Some c) f (Some vs) is ok = by_values meta (kind_of meta f) (upper_of meta f) vs is ok.1

value_fits_is : (meta : Meta) (f : ℕ) (o : Option Value) → fits_by meta (kind_of meta f) o ≡ true → value_fits meta f o ≡ true
value_fits_is meta f None h = refl
value_fits_is meta f (Some v) h = h

not_default_is : (meta : Meta) (f : ℕ) (o : Option Value) → differs_by (kind_of meta f) o ≡ true → not_default meta f o ≡ true
not_default_is meta f None h = refl
not_default_is meta f (Some v) h = h

pub put_meets : (meta : Meta) (m : State) → Good meta m → (e : IdBytes) (f : ℕ) (new : Option Value) → IsAttribute meta m e f
    → value_fits meta f new ≡ true → not_default meta f new ≡ true
    → fold meta m (put_made m e f new) ≡ Some (put_after m e f new)
put_meets meta m good e f new is fits differs =
    let o = get m.attr (e, f) in
    let known = facts meta (get m.kind e) f o is.1 (good.attrs.typed e f) in
    elim (option_eq value_eq (single_value o) new) as (λ t. option_eq value_eq (single_value o) new ≡ t
    → fold meta m (cond t [] (Put e f (single_value o) new ∷ [])) ≡ Some (put_after m e f new)) [
      | true ↦ λ equal.
          let same : o ≡ single new = known.0 ∙ ap single ((option_equality value_eq value_equality).exact (single_value o) new equal) in
          ap (λ attr. Some (record m { attr = attr })) (sym (set_here attr_order m.attr (e, f) (single new) same))
      | false ↦ λ apart.
          let can : Can meta m (Put e f (single_value o) new) = pass (tests meta m (Put e f (single_value o) new)) (
            has_class meta (get m.kind e) f is.0,
            (
              is.0,
              (
                is.1,
                (
                  value_fits_is meta f (single_value o) known.1,
                  (
                    fits,
                    (
                      not_false _ apart,
                      (
                        not_default_is meta f (single_value o) known.2,
                        (
                          differs,
                          (ap (λ x. option_eq (list_eq value_eq) x (single (single_value o))) known.0 ∙ values_equality.own (single (single_value o)), tt),
                        ),
                      ),
                    ),
                  ),
                ),
              ),
            ),
          ) in
          fold_more meta m (Put e f (single_value o) new) [] can
    ] refl

pub taken_fits : (meta : Meta) (f : ℕ) (v : Value) → attr_fits meta (kind_of meta f) v ≡ true → value_fits meta f (taken meta f v) ≡ true
taken_fits meta f v fits = elim (is_default (kind_of meta f) v) as (λ t. value_fits meta f (cond t None (Some v)) ≡ true) [ true ↦ refl | false ↦ fits ]

pub taken_differs : (meta : Meta) (f : ℕ) (v : Value) → not_default meta f (taken meta f v) ≡ true
taken_differs meta f v =
    elim (is_default (kind_of meta f) v) as (λ t. is_default (kind_of meta f) v ≡ t
    → not_default meta f (cond t None (Some v)) ≡ true) [ true ↦ λ _. refl | false ↦ λ is. not_false _ is ] refl

pub set_attr_meets : SetAttrMeets
set_attr_meets meta sound m good e f v is fits = put_meets meta m good e f (taken meta f v) is (taken_fits meta f v fits) (taken_differs meta f v)

pub unset_attr_meets : UnsetAttrMeets
unset_attr_meets meta sound m good e f is = put_meets meta m good e f None is refl refl
