-- The attributes of a row: those of its draft, in the order of its class's features.
use Rattle.std.proofs.Common.{◌≡◌, ℕ, Bool, true, false, cond, List, [], ◌∷◌, map, nat_eq, refl, sym, ap, subst, inl, inr}
use Rattle.std.specs.List.{AllByRecursion}
use Rattle.std.proofs.lemmas.List.{map-append}
use Rattle.finite_maps.proofs.EqualLaws.{nat_equality}
use Rattle.model_documents.specs.declared.doc.DocAttr.{DocAttr}
use Rattle.model_documents.specs.Fits.{Follows, numbers_differ}
use Rattle.model_documents.specs.Completed.{attr_at, attrs_by}
use Rattle.model_documents.proofs.Every.{every_append}
use Rattle.model_documents.proofs.InOrder.{OneOrNone, follows_differ, one_first}

abbrev numbers : List DocAttr → List ℕ
numbers attrs = map (λ (a : DocAttr). a.feature) attrs

-- an attribute that is found is one of them
module _ (P : DocAttr → Type 0) where
  at_keeps : (f : ℕ) (attrs : List DocAttr) → AllByRecursion P attrs → AllByRecursion P (attr_at f attrs)
  at_keeps f [] h = tt
  at_keeps f (a ∷ attrs) h = by_test (nat_eq f a.feature) (at_keeps f attrs h.1)
    where
      by_test : (b : Bool) → AllByRecursion P (attr_at f attrs) → AllByRecursion P (cond b (a ∷ []) (attr_at f attrs))
      by_test true later = (h.0, tt)
      by_test false later = later

  pub by_keeps : (attrs : List DocAttr) (fs : List ℕ) → AllByRecursion P attrs → AllByRecursion P (attrs_by attrs fs)
  by_keeps attrs [] h = tt
  by_keeps attrs (f ∷ fs) h = every_append P (attr_at f attrs) (attrs_by attrs fs) (at_keeps f attrs h) (by_keeps attrs fs h)

-- ---- their order
at_number : (f : ℕ) (attrs : List DocAttr) → OneOrNone f (numbers (attr_at f attrs))
at_number f [] = inl refl
at_number f (a ∷ attrs) = by_test (nat_eq f a.feature) refl (at_number f attrs)
  where
    by_test : (b : Bool) → nat_eq f a.feature ≡ b → OneOrNone f (numbers (attr_at f attrs)) → OneOrNone f (numbers (cond b (a ∷ []) (attr_at f attrs)))
    by_test true is later = inr (ap (λ n. n ∷ []) (sym (nat_equality.exact f a.feature is)))
    by_test false is later = later

pub by_in_order : (attrs : List DocAttr) (fs : List ℕ) → Follows (numbers (attrs_by attrs fs)) fs
by_in_order attrs [] = refl
by_in_order attrs (f ∷ fs) =
    subst (λ ns. Follows ns (f ∷ fs)) (sym (map-append (λ (a : DocAttr). a.feature) (attr_at f attrs) (attrs_by attrs fs)))
    (one_first f fs (numbers (attr_at f attrs)) (numbers (attrs_by attrs fs)) (at_number f attrs) (by_in_order attrs fs))

pub by_apart : (attrs : List DocAttr) (fs : List ℕ) → numbers_differ fs ≡ true → numbers_differ (numbers (attrs_by attrs fs)) ≡ true
by_apart attrs fs differ = follows_differ (numbers (attrs_by attrs fs)) fs (by_in_order attrs fs) differ
