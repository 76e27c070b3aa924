-- The row of an element gives its values.
use Rattle.std.proofs.Common.{◌≡◌, ℕ, zero, suc, Bool, true, false, cond, ◌||◌, List, [], ◌∷◌, ◌++◌, refl, sym, ap, subst, ◌∙◌, nat_eq, ◌⊎◌, inl, inr}
use Rattle.std.specs.Prelude.{Option, None, Some, slice_get, unwrap_or}
use Rattle.std.specs.FinMap.{get}
use Rattle.std.specs.List.{AllByRecursion, list_any}
use Rattle.std.specs.Option.{option_map_or}
use Rattle.finite_maps.proofs.EqualLaws.{nat_equality}
use Rattle.ecore_meta.specs.Meta.{Meta, features_of, has_feature}
use Rattle.ecore_meta.specs.Typing.{kind_of, upper_of}
use Rattle.ecore_meta.specs.declared.meta.Class.{Class as ClassOf}
use Rattle.ecore_meta.specs.declared.meta.Kind.{Kind}
use Rattle.ecore_meta.specs.declared.meta.Kind.TheVariants.{Attr, AttrMany, Bounded, Free, Contains, Container, Skip}
use Rattle.ecore_meta.specs.declared.meta.Value.{Value}
use Rattle.model_state.specs.Good.{AttrOk, Good, ValuesOk}
use Rattle.model_state.specs.Keys.{IdBytes}
use Rattle.model_state.specs.State.{State}
use Rattle.model_documents.specs.declared.doc.DocAttr.{DocAttr}
use Rattle.model_documents.specs.Completed.{attr_at, attrs_by}
use Rattle.model_documents.proofs.SetAttrs.{by_keeps}
use Rattle.model_texts.specs.Keys.{key_number, keys_of}
use Rattle.model_state.specs.Listing.{values_at}
use Rattle.round_trip.specs.Describes.{first_values, values_given}
use Rattle.round_trip.proofs.KeysFound.{Stands, feature_stands}
use Rattle.round_trip.proofs.KeysTypes.{Key, Feature}
use Rattle.round_trip.proofs.WalksNames.{all_append}
use Rattle.round_trip.proofs.WalksRows.{by_number, key_attrs, keys_attrs, kind_attrs, set_attr}

-- ---- features of a class
pub stands_any : (f : ℕ) (fs : List ℕ) → list_any (nat_eq f) fs ≡ true → Stands f fs
stands_any f [] h = cc
stands_any f (g ∷ fs) h = by_test (nat_eq f g) refl (stands_any f fs) h
  where
    by_test : (b : Bool) → nat_eq f g ≡ b → (list_any (nat_eq f) fs ≡ true → Stands f fs) → b || list_any (nat_eq f) fs ≡ true → (f ≡ g) ⊎ Stands f fs
    by_test true e more h = inl (nat_equality.exact f g e)
    by_test false e more h = inr (more h)

pub in_class : (meta : Meta) (c f : ℕ) → has_feature meta c f ≡ true → Stands f (features_of meta c)
in_class meta c f h = by_class (slice_get meta.classes c) h
  where
    by_class : (o : Option ClassOf) → option_map_or (λ class. list_any (nat_eq f) class.features) o false ≡ true
        → Stands f (option_map_or (λ class. class.features) o [])
    by_class None h = cc
    by_class (Some class) h = stands_any f class.features h

-- ---- lists of values by feature
abbrev Has : ℕ → List DocAttr → Type 0
Has f [] = ⊥
Has f (a ∷ attrs) = (f ≡ a.feature) ⊎ Has f attrs

has_first : (f : ℕ) (xs ys : List DocAttr) → Has f xs → Has f (xs ++ ys)
has_first f [] ys h = absurd h
has_first f (x ∷ xs) ys (inl e) = inl e
has_first f (x ∷ xs) ys (inr h) = inr (has_first f xs ys h)

has_second : (f : ℕ) (xs ys : List DocAttr) → Has f ys → Has f (xs ++ ys)
has_second f [] ys h = h
has_second f (x ∷ xs) ys h = inr (has_second f xs ys h)

has_at : (f : ℕ) (attrs : List DocAttr) → Has f attrs → Has f (attr_at f attrs)
has_at f [] h = h
has_at f (a ∷ attrs) h = by_test (nat_eq f a.feature) refl (has_at f attrs) h
  where
    by_test : (b : Bool) → nat_eq f a.feature ≡ b → (Has f attrs → Has f (attr_at f attrs)) → (f ≡ a.feature) ⊎ Has f attrs
        → Has f (cond b (a ∷ []) (attr_at f attrs))
    by_test true e more h = inl (nat_equality.exact f a.feature e)
    by_test false e more (inl same) = let yes : nat_eq f a.feature ≡ true = subst (λ x. nat_eq f x ≡ true) same (nat_equality.own f) in cc
    by_test false e more (inr h) = more h

has_by : (f : ℕ) (attrs : List DocAttr) (fs : List ℕ) → Stands f fs → Has f attrs → Has f (attrs_by attrs fs)
has_by f attrs [] s h = absurd s
has_by f attrs (g ∷ fs) (inl e) h = has_first f (attr_at g attrs) (attrs_by attrs fs) (subst (λ x. Has f (attr_at x attrs)) e (has_at f attrs h))
has_by f attrs (g ∷ fs) (inr s) h = has_second f (attr_at g attrs) (attrs_by attrs fs) (has_by f attrs fs s h)

-- ---- the values of an element
module _ (meta : Meta) (m : State) (e : IdBytes) where
  -- the values are those of the feature
  abbrev IsTold : DocAttr → Type 0
  IsTold a = a.values ≡ values_at m e a.feature

  first_told : (f : ℕ) (attrs : List DocAttr) → AllByRecursion IsTold attrs → (values_at m e f ≡ []) ⊎ Has f attrs → values_given f attrs ≡ values_at m e f
  first_told f [] all (inl none) = sym none
  first_told f [] all (inr h) = absurd h
  first_told f (a ∷ attrs) all h = by_test (nat_eq f a.feature) refl (first_told f attrs all.1) h
    where
      by_test : (b : Bool) → nat_eq f a.feature ≡ b → ((values_at m e f ≡ []) ⊎ Has f attrs → values_given f attrs ≡ values_at m e f)
          → (values_at m e f ≡ []) ⊎ ((f ≡ a.feature) ⊎ Has f attrs)
          → first_values (cond b (a ∷ []) (attr_at f attrs)) ≡ values_at m e f
      by_test true is more h = all.0 ∙ ap (values_at m e) (sym (nat_equality.exact f a.feature is))
      by_test false is more (inl none) = more (inl none)
      by_test false is more (inr (inl same)) = let yes : nat_eq f a.feature ≡ true = subst (λ x. nat_eq f x ≡ true) same (nat_equality.own f) in cc
      by_test false is more (inr (inr h)) = more (inr h)

  set_told : (f : ℕ) (vs : List Value) → values_at m e f ≡ vs → AllByRecursion IsTold (set_attr f vs)
  set_told f [] is = tt
  set_told f (v ∷ vs) is = (sym is, tt)

  kind_told : (f : ℕ) (k : Kind) → AllByRecursion IsTold (kind_attrs m e f k)
  kind_told f (Attr scalar default) = set_told f (values_at m e f) refl
  kind_told f (AttrMany scalar unique) = set_told f (values_at m e f) refl
  kind_told f (Bounded target opposite) = tt
  kind_told f (Free target opposite) = tt
  kind_told f (Contains target opposite) = tt
  kind_told f (Container target opposite) = tt
  kind_told f Skip = tt

  number_told : (n : ℕ) → AllByRecursion IsTold (by_number (λ f. kind_attrs m e f (kind_of meta f)) n)
  number_told zero = tt
  number_told (suc zero) = tt
  number_told (suc (suc f)) = kind_told f (kind_of meta f)

  keys_told : (keys : List Key) → AllByRecursion IsTold (keys_attrs meta m e keys)
  keys_told [] = tt
  keys_told (key ∷ keys) = all_append IsTold (key_attrs meta m e key) (keys_attrs meta m e keys) (number_told (key_number key)) (keys_told keys)

  -- ---- an attribute that is set is given
  set_has : (f : ℕ) (v : Value) (vs xs : List Value) → xs ≡ v ∷ vs → Has f (set_attr f xs)
  set_has f v vs xs is = subst (λ ys. Has f (set_attr f ys)) (sym is) (inl refl)

  kind_has : (f : ℕ) (k : Kind) (upper : Option ℕ) (v : Value) (vs : List Value) → ValuesOk meta k upper (v ∷ vs) → values_at m e f ≡ v ∷ vs
      → Has f (kind_attrs m e f k)
  kind_has f (Attr scalar default) upper v vs ok is = set_has f v vs (values_at m e f) is
  kind_has f (AttrMany scalar unique) upper v vs ok is = set_has f v vs (values_at m e f) is
  kind_has f (Bounded target opposite) upper v vs ok is = absurd ok
  kind_has f (Free target opposite) upper v vs ok is = absurd ok
  kind_has f (Contains target opposite) upper v vs ok is = absurd ok
  kind_has f (Container target opposite) upper v vs ok is = absurd ok
  kind_has f Skip upper v vs ok is = absurd ok

  key_has : (f : ℕ) → Has f (kind_attrs m e f (kind_of meta f)) → (keys : List Key) → Stands (Feature f) keys → Has f (keys_attrs meta m e keys)
  unfolding keys_of Feature
  key_has f h [] s = absurd s
  key_has f h (key ∷ keys) (inl same) = has_first f (key_attrs meta m e key) (keys_attrs meta m e keys) (subst (λ k. Has f (key_attrs meta m e k)) same h)
  key_has f h (key ∷ keys) (inr s) = has_second f (key_attrs meta m e key) (keys_attrs meta m e keys) (key_has f h keys s)

  -- the values are none, or the attribute is one of the class, and is given
  entry_has : (c f : ℕ) (o : Option (List Value)) → AttrOk meta (Some c) f o → get m.attr (e, f) ≡ o
      → (values_at m e f ≡ []) ⊎ (Stands f (features_of meta c) × Has f (kind_attrs m e f (kind_of meta f)))
  entry_has c f None ok is = inl (ap (λ o. unwrap_or o []) is)
  entry_has c f (Some []) ok is = inl (ap (λ o. unwrap_or o []) is)
  entry_has c f (Some (v ∷ vs)) ok is = inr (in_class meta c f ok.0, kind_has f (kind_of meta f) (upper_of meta f) v vs ok.1 (ap (λ o. unwrap_or o []) is))

  pub values_are_told : Good meta m → (c : ℕ) → get m.kind e ≡ Some c → (f : ℕ)
      → values_given f (attrs_by (keys_attrs meta m e (keys_of meta c)) (features_of meta c)) ≡ values_at m e f
  values_are_told good c kind f =
      let attrs = keys_attrs meta m e (keys_of meta c) in
      let ok : AttrOk meta (Some c) f (get m.attr (e, f)) = subst (λ k. AttrOk meta k f (get m.attr (e, f))) kind (good.attrs.typed e f) in
      first_told f (attrs_by attrs (features_of meta c)) (by_keeps IsTold attrs (features_of meta c) (keys_told (keys_of meta c)))
      (by_entry (entry_has c f (get m.attr (e, f)) ok refl))
    where
      by_entry : (values_at m e f ≡ []) ⊎ (Stands f (features_of meta c) × Has f (kind_attrs m e f (kind_of meta f)))
          → (values_at m e f ≡ []) ⊎ Has f (attrs_by (keys_attrs meta m e (keys_of meta c)) (features_of meta c))
      by_entry (inl none) = inl none
      by_entry (inr h) = inr
          (has_by f (keys_attrs meta m e (keys_of meta c)) (features_of meta c) h.0 (key_has f h.1 (keys_of meta c) (feature_stands meta c f h.0)))
