-- Kinds agree with bounds, and bounds are in order, where a document has no fault.
use Rattle.std.proofs.Common.{◌≡◌, ℕ, ℤ, zero, suc, pos, negsuc, ◌≤◌, Bool, true, false, cond, not, ◌||◌, ◌&&◌, List, [], ◌∷◌, nat_eq, refl, sym}
use Rattle.std.proofs.Common.{ap, subst, arith, map, rules}
use Rattle.std.specs.Prelude.{Option, None, Some, int_lt, nat_lt, slice_get}
use Rattle.std.specs.List.{list_any}
use Rattle.std.specs.Ordering.{int_eq}
use Rattle.std.proofs.lemmas.Bool.{or_parts}
use Rattle.std.proofs.lemmas.Bool.Decides.{Decides-int_eq}
use Rattle.ecore_build.specs.Build.{container, default_in, end_number, feature_from, kind_in, meta_of, natural, plain, reference}
use Rattle.ecore_build.specs.Faults.{bad_bound, bad_bounds, contains_back, enums_in, fault, is_missing, is_skipped, is_unsupported}
use Rattle.ecore_build.proofs.NoFault.{fails_at, passes}
use Rattle.ecore_drafts.specs.Document.{lacks_super}
use Rattle.ecore_drafts.specs.Drafts.{drafts}
use Rattle.ecore_drafts.specs.declared.drafts.FeatureDraft.{FeatureDraft}
use Rattle.ecore_drafts.specs.declared.drafts.End.{End}
use Rattle.ecore_drafts.specs.declared.drafts.End.TheVariants.{Open, Nowhere, At}
use Rattle.ecore_drafts.specs.declared.drafts.Target.{Target}
use Rattle.ecore_drafts.specs.declared.drafts.Target.TheVariants.{Skipped, Unsupported, Missing, Elements, Values}
use Rattle.ecore_drafts.specs.declared.rows.MetaRows.{MetaRows}
use Rattle.ecore_meta.specs.Bounds.{IsAbove, IsBounded, agrees}
use Rattle.ecore_meta.specs.Typing.{is_one}
use Rattle.ecore_meta.specs.declared.meta.Enum.{Enum}
use Rattle.ecore_meta.specs.declared.meta.Feature.{Feature}
use Rattle.ecore_meta.specs.declared.meta.Kind.TheVariants.{Attr, AttrMany, Bounded, Free, Contains}
use Rattle.ecore_meta.specs.declared.meta.Scalar.{Scalar}
use Rattle.ecore_meta.specs.declared.meta.Value.{Value}
use Rattle.ecore_meta.proofs.NumberLaws.{nat_same}

-- ---- bounds as numbers
-- the upper bound that a document's number stands for
abbrev upper_in : ℤ → Option ℕ
upper_in u = cond (int_eq u (negsuc 0)) None (Some (natural u))

not_less : (m n : ℕ) → nat_lt n m ≡ false → m ≤ n
not_less m n h = search rules

not_same : (x y : ℤ) → (x ≡ y → ⊥) → int_eq x y ≡ false
not_same x y apart = by_test (int_eq x y) refl
  where
    by_test : (b : Bool) → int_eq x y ≡ b → int_eq x y ≡ false
    by_test true is = absurd (apart ((Decides-int_eq x y).0 is))
    by_test false is = is

refused : (a b : Bool) → a ≡ false → not a && (true || b) ≡ false → ⊥
refused true b h k = cc
refused false b h k = cc

-- bounds that are not refused are in order
ordered : (l u : ℤ) → int_lt l (pos 0) ≡ false → not (int_eq u (negsuc 0)) && (int_lt u (pos 1) || int_lt u l) ≡ false → IsAbove (natural l) (upper_in u)
ordered (negsuc m) u h k = cc
ordered (pos m) (negsuc zero) h k = tt
ordered (pos m) (negsuc (suc n)) h k =
    absurd (refused (int_eq (negsuc (suc n)) (negsuc 0)) (int_lt (negsuc (suc n)) (pos m)) (not_same (negsuc (suc n)) (negsuc 0) (λ e. cc)) k)
ordered (pos m) (pos n) h k = let parts = or_parts (nat_lt n 1) (nat_lt n m) k
    in (not_less 1 n parts.0, not_less m n parts.1)

one_upper : (u : ℤ) → int_eq u (pos 1) ≡ true → upper_in u ≡ Some 1
one_upper u h = subst (λ z. upper_in z ≡ Some 1) (sym ((Decides-int_eq u (pos 1)).0 h)) refl

more_than_one : (n : ℕ) → 2 ≤ n → nat_eq n 1 ≡ false
more_than_one n h = by_test (nat_eq n 1) refl
  where
    by_test : (b : Bool) → nat_eq n 1 ≡ b → nat_eq n 1 ≡ false
    by_test true is = let same : n ≡ 1 = nat_same n 1 is in absurd (omega (arith, same, h))
    by_test false is = is

none_or_zero : (b : Bool) → not (is_one (cond b None (Some 0))) ≡ true
none_or_zero true = refl
none_or_zero false = refl

many_upper : (u : ℤ) → int_eq u (pos 1) ≡ false → not (is_one (upper_in u)) ≡ true
many_upper (negsuc n) h = none_or_zero (int_eq (negsuc n) (negsuc 0))
many_upper (pos zero) h = refl
many_upper (pos (suc zero)) h = cc
many_upper (pos (suc (suc n))) h = ap not (more_than_one (suc (suc n)) (omega arith))

-- ---- kinds
plain_agrees : (e : Bool) (c n : ℕ) (o : Option ℕ) → agrees (cond e (Free c o) (Bounded c o)) (cond e None (Some n)) ≡ true
plain_agrees true c n o = refl
plain_agrees false c n o = refl

container_agrees : (ds : List FeatureDraft) (c : ℕ) (e : End) (upper : Option ℕ) → contains_back ds e ≡ true → is_one upper ≡ true
    → agrees (container c e) upper ≡ true
container_agrees ds c Open upper h one = cc
container_agrees ds c Nowhere upper h one = cc
container_agrees ds c (At g) upper h one = one

attribute_agrees : (b u : Bool) (s : Scalar) (v : Option Value) (upper : Option ℕ) → (b ≡ true → is_one upper ≡ true)
    → (b ≡ false → not (is_one upper) ≡ true) → agrees (cond b (Attr s v) (AttrMany s u)) upper ≡ true
attribute_agrees true u s v upper one many = one refl
attribute_agrees false u s v upper one many = many refl

and_right : (a b : Bool) → a ≡ true → a && not b ≡ false → b ≡ true
and_right true true h k = refl
and_right true false h k = cc
and_right false b h k = cc

module _ (ds : List FeatureDraft) (d : FeatureDraft) where
  -- what bounds that are not refused show
  unrefused : bad_bounds ds d ≡ false → IsAbove (natural d.lower) (upper_in d.upper)
  unrefused h =
      let parts = or_parts _ _ h in
      let own = or_parts _ _ parts.0 in
      ordered d.lower d.upper own.0 own.1

  single : bad_bounds ds d ≡ false → contains_back ds d.end ≡ true → is_one (upper_in d.upper) ≡ true
  single h back = ap is_one (one_upper d.upper (and_right _ _ back (or_parts _ _ h).1))

  reference_agrees : (c : ℕ) → bad_bounds ds d ≡ false → agrees (reference ds d c) (upper_in d.upper) ≡ true
  reference_agrees c h = by_tests d.containment (contains_back ds d.end) refl
    where
      by_tests : (k b : Bool) → contains_back ds d.end ≡ b
          → agrees (cond k (Contains c (end_number d.end)) (cond b (container c d.end) (plain d c))) (upper_in d.upper) ≡ true
      by_tests true b is = refl
      by_tests false true is = container_agrees ds c d.end (upper_in d.upper) is (single h is)
      by_tests false false is = plain_agrees (int_eq d.upper (negsuc 0)) c (natural d.upper) (end_number d.end)

  kind_agrees : (enums : List Enum) (t : Target) → is_unsupported t ≡ false → is_missing t ≡ false → not (is_skipped t) && bad_bounds ds d ≡ false
      → agrees (kind_in enums ds d t) (cond (is_skipped t) (Some 1) (upper_in d.upper)) ≡ true
  kind_agrees enums Skipped read there h = refl
  kind_agrees enums Unsupported read there h = cc
  kind_agrees enums Missing read there h = cc
  kind_agrees enums (Elements c) read there h = reference_agrees c h
  kind_agrees enums (Values s) read there h =
      attribute_agrees (int_eq d.upper (pos 1)) d.unique s (default_in enums s d.default_text) (upper_in d.upper)
      (λ e. ap is_one (one_upper d.upper e)) (many_upper d.upper)

  bounds_in_order : (t : Target) → not (is_skipped t) && bad_bounds ds d ≡ false
      → IsAbove (cond (is_skipped t) 0 (natural d.lower)) (cond (is_skipped t) (Some 1) (upper_in d.upper))
  bounds_in_order Skipped h = (omega arith, omega arith)
  bounds_in_order Unsupported h = unrefused h
  bounds_in_order Missing h = unrefused h
  bounds_in_order (Elements c) h = unrefused h
  bounds_in_order (Values s) h = unrefused h

-- ---- the features of a metamodel
-- a feature is that of the draft at its number
pub drafted : (P : Feature → Type 0) (g : FeatureDraft → Feature) (ds : List FeatureDraft) → ((f : ℕ) (d : FeatureDraft) → slice_get ds f ≡ Some d → P (g d))
    → (f : ℕ) (x : Feature) → slice_get (map g ds) f ≡ Some x → P x
drafted P g ds each f x is = by_draft ds f (λ d at. each f d at) is
  where
    same_some : (x y : Feature) → Some x ≡ Some y → x ≡ y
    same_some x y h = cc

    by_draft : (ds : List FeatureDraft) (f : ℕ) → ((d : FeatureDraft) → slice_get ds f ≡ Some d → P (g d)) → slice_get (map g ds) f ≡ Some x → P x
    by_draft [] f each is = cc
    by_draft (d ∷ ds) zero each is = subst P (same_some (g d) x is) (each d refl)
    by_draft (d ∷ ds) (suc f) each is = by_draft ds f each is

pub bounded : (rows : MetaRows) → fault rows.classifiers ≡ None → IsBounded (meta_of rows)
bounded rows none =
    let ds = drafts rows.classifiers in
    let enums = enums_in rows.classifiers in
    let tests = passes rows.classifiers none in
    let typed = or_parts (list_any (lacks_super rows.classifiers) rows.classifiers) (list_any (λ (d : FeatureDraft). is_missing d.target) ds) tests.typed in
    record {
      agree = drafted (λ (x : Feature). agrees x.kind x.upper ≡ true) (feature_from enums ds) ds
          (λ f d is.
          kind_agrees ds d enums d.target
          (fails_at (λ (d : FeatureDraft). is_unsupported d.target) ds tests.read f d is)
          (fails_at (λ (d : FeatureDraft). is_missing d.target) ds typed.1 f d is)
          (fails_at (bad_bound ds) ds tests.bounded f d is));
      order = drafted (λ (x : Feature). IsAbove x.lower x.upper) (feature_from enums ds) ds
          (λ f d is. bounds_in_order ds d d.target (fails_at (bad_bound ds) ds tests.bounded f d is));
    }
