-- What two metamodels say of the features that the first one has.
use Rattle.std.proofs.Common.{◌≡◌, ℕ, true, cond, refl, sym, ap, subst, ◌∙◌, ◌&&◌, List, [], ◌∷◌}
use Rattle.std.specs.Prelude.{Option, None, Some, slice_get, is_some}
use Rattle.std.specs.Option.{option_map_or}
use Rattle.std.specs.List.{list_all}
use Rattle.finite_maps.proofs.EqualLaws.{and_first, and_second, and_both}
use Rattle.ecore_meta.specs.Meta.{Meta}
use Rattle.ecore_meta.specs.Ends.{is_containment}
use Rattle.ecore_meta.specs.Typing.{fits, kind_of, upper_of, opposite_of, opposite_in, plain_to}
use Rattle.ecore_meta.specs.declared.meta.Feature.{Feature}
use Rattle.ecore_meta.specs.declared.meta.Kind.{Kind}
use Rattle.ecore_meta.specs.declared.meta.Kind.TheVariants.{Attr, AttrMany, Bounded, Free, Contains, Skip}
use Rattle.ecore_meta.specs.declared.meta.Scalar.{Scalar}
use Rattle.ecore_meta.specs.declared.meta.Scalar.TheVariants.{Literal as LiteralType}
use Rattle.ecore_meta.specs.declared.meta.Value.{Value}
use Rattle.ecore_meta.specs.declared.meta.Value.TheVariants.{Literal}
use Rattle.model_state.specs.Typing.{contains_to, attr_fits, many_fits, row_upper, child_upper, bounded_kind}
use Rattle.model_state.specs.Steps.{class_has, may_link}
use Rattle.model_state.specs.Good.{Sound}
use Rattle.model_laws.specs.Cells.{is_bounded, is_finite}
use Rattle.growth_laws.proofs.Keeps.{Keeps}

-- the feature of that number is the same in both
pub record Same (o n : Meta) (f : ℕ) : Type 0 where
  pub is : slice_get n.features f ≡ slice_get o.features f

pub same_kind : (o n : Meta) (f : ℕ) → Same o n f → kind_of n f ≡ kind_of o f
same_kind o n f s = ap (λ x. option_map_or (λ (feature : Feature). feature.kind) x Skip) s.is

pub same_upper : (o n : Meta) (f : ℕ) → Same o n f → upper_of n f ≡ upper_of o f
same_upper o n f s = ap (λ x. option_map_or (λ (feature : Feature). feature.upper) x None) s.is

pub same_opposite : (o n : Meta) (f : ℕ) → Same o n f → opposite_of n f ≡ opposite_of o f
same_opposite o n f s = ap opposite_in (same_kind o n f s)

pub same_row_upper : (o n : Meta) (f : ℕ) → Same o n f → row_upper n f ≡ row_upper o f
same_row_upper o n f s = ap (λ k. cond (bounded_kind k) (upper_of n f) None) (same_kind o n f s)
    ∙ ap (λ u. cond (bounded_kind (kind_of o f)) u None) (same_upper o n f s)

pub same_child_upper : (o n : Meta) (f : ℕ) → Same o n f → child_upper n f ≡ child_upper o f
same_child_upper o n f s = ap (λ k. cond (is_containment k) (upper_of n f) None) (same_kind o n f s)
    ∙ ap (λ u. cond (is_containment (kind_of o f)) u None) (same_upper o n f s)

pub same_bounded : (o n : Meta) (f : ℕ) → Same o n f → is_bounded n f ≡ is_bounded o f
same_bounded o n f s = ap bounded_kind (same_kind o n f s)

pub same_finite : (o n : Meta) (f : ℕ) → Same o n f → is_finite n f ≡ is_finite o f
same_finite o n f s = ap (λ k. is_containment k && is_some (upper_of n f)) (same_kind o n f s)
    ∙ ap (λ u. is_containment (kind_of o f) && is_some u) (same_upper o n f s)

module _ (o n : Meta) (keeps : Keeps o n) where
  pub has_kept : (c : Option ℕ) (f : ℕ) → class_has o c f ≡ true → class_has n c f ≡ true
  has_kept None f h = cc
  has_kept (Some c) f h = keeps.has c f h

  pub same_had : (c : Option ℕ) (f : ℕ) → class_has o c f ≡ true → Same o n f
  same_had None f h = cc
  same_had (Some c) f h = record { is = keeps.feature c f h }

  pub fits_kept : (s : Scalar) (v : Value) → fits o s v ≡ true → fits n s v ≡ true
  fits_kept (LiteralType e) (Literal k) h = keeps.literals e k h
  fits_kept s v h = h

  pub all_fit : (s : Scalar) (vs : List Value) → list_all (fits o s) vs ≡ true → list_all (fits n s) vs ≡ true
  all_fit s [] h = refl
  all_fit s (v ∷ vs) h = and_both _ _ (fits_kept s v (and_first _ _ h)) (all_fit s vs (and_second _ _ h))

  plain_kept : (k : Kind) (d : ℕ) → plain_to o k d ≡ true → plain_to n k d ≡ true
  plain_kept (Bounded target opposite) d h = keeps.above d target h
  plain_kept (Free target opposite) d h = keeps.above d target h
  plain_kept k d h = cc

  holds_kept : (k : Kind) (d : ℕ) → contains_to o k d ≡ true → contains_to n k d ≡ true
  holds_kept (Contains target opposite) d h = keeps.above d target h
  holds_kept k d h = cc

  attr_kept : (k : Kind) (v : Value) → attr_fits o k v ≡ true → attr_fits n k v ≡ true
  attr_kept (Attr scalar default) v h = fits_kept scalar v h
  attr_kept k v h = cc

  many_kept : (k : Kind) (v : Value) → many_fits o k v ≡ true → many_fits n k v ≡ true
  many_kept (AttrMany scalar unique) v h = fits_kept scalar v h
  many_kept k v h = cc

  pub contains_kept : (f : ℕ) → Same o n f → (d : ℕ) → contains_to o (kind_of o f) d ≡ true → contains_to n (kind_of n f) d ≡ true
  contains_kept f s d h = subst (λ k. contains_to n k d ≡ true) (sym (same_kind o n f s)) (holds_kept (kind_of o f) d h)

  pub attr_fits_kept : (f : ℕ) → Same o n f → (v : Value) → attr_fits o (kind_of o f) v ≡ true → attr_fits n (kind_of n f) v ≡ true
  attr_fits_kept f s v h = subst (λ k. attr_fits n k v ≡ true) (sym (same_kind o n f s)) (attr_kept (kind_of o f) v h)

  pub many_fits_kept : (f : ℕ) → Same o n f → (v : Value) → many_fits o (kind_of o f) v ≡ true → many_fits n (kind_of n f) v ≡ true
  many_fits_kept f s v h = subst (λ k. many_fits n k v ≡ true) (sym (same_kind o n f s)) (many_kept (kind_of o f) v h)

  pub link_same : (c : Option ℕ) (f : ℕ) (d : Option ℕ) → may_link o c f d ≡ true → Same o n f
  link_same None f d h = cc
  link_same (Some c) f None h = cc
  link_same (Some c) f (Some d) h = record { is = keeps.feature c f (and_first _ _ h) }

  pub link_kept : (c : Option ℕ) (f : ℕ) (d : Option ℕ) → may_link o c f d ≡ true → may_link n c f d ≡ true
  link_kept None f d h = cc
  link_kept (Some c) f None h = cc
  link_kept (Some c) f (Some d) h =
      let s : Same o n f = record { is = keeps.feature c f (and_first _ _ h) } in
      and_both _ _ (keeps.has c f (and_first _ _ h))
      (subst (λ k. plain_to n k d ≡ true) (sym (same_kind o n f s)) (plain_kept (kind_of o f) d (and_second _ _ h)))

  -- the opposite of a feature that a link may have is in both as well
  pub mirror_same : Sound o → (c : Option ℕ) (f : ℕ) (d : Option ℕ) (g : ℕ) → opposite_of o f ≡ Some g → may_link o c f d ≡ true → Same o n g
  mirror_same sound None f d g is h = cc
  mirror_same sound (Some c) f None g is h = cc
  mirror_same sound (Some c) f (Some d) g is h = link_same (Some d) g (Some c) (sound.mirrors c f d g is h)
