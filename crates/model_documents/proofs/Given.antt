-- The lists of references that each element gives: one for each plain reference of its class, with targets of its type, each once.
use Rattle.std.proofs.Common.{◌≡◌, ℕ, suc, Bool, true, false, ◌&&◌, ◌||◌, not, cond, List, [], ◌∷◌, ◌++◌, nat_eq, refl, sym, ap, subst, ◌∙◌, inl, inr}
use Rattle.std.specs.Prelude.{Option, None, Some, Ok, option_and_then, slice_get}
use Rattle.std.specs.Option.{option_map_or}
use Rattle.finite_maps.proofs.EqualLaws.{and_both, and_first, and_second, nat_equality}
use Rattle.ecore_meta.specs.Meta.{Meta, features_of}
use Rattle.ecore_meta.specs.Names.{Name}
use Rattle.ecore_meta.specs.Promised.{ListsDeclared}
use Rattle.ecore_meta.proofs.DeclaredLaws.{has_any}
use Rattle.ecore_meta.proofs.RisingLaws.{kept_is}
use Rattle.model_state.specs.Typing.{has_feature, is_plain, kind_of, plain_to}
use Rattle.model_documents.specs.declared.doc.DocRefs.{DocRefs}
use Rattle.model_documents.specs.declared.draft.ElementDraft.{ElementDraft}
use Rattle.model_documents.specs.declared.draft.Links.{Links}
use Rattle.model_documents.specs.declared.fault.ModelFault.TheVariants.{BadRef, WrongType}
use Rattle.model_documents.specs.Fits.{Follows, numbers_differ}
use Rattle.model_documents.specs.Completed.{targets_at}
use Rattle.model_documents.specs.Reads.{Read, collected, unless}
use Rattle.model_documents.specs.Places.{class_at}
use Rattle.model_documents.specs.References.{entries_at, given_by, located, new_target, plain_features, refs_at, refs_of, target_of, targets_of}
use Rattle.model_documents.proofs.Apart.{then_ok, unless_ok, unless_true}
use Rattle.model_documents.proofs.InOrder.{features_differ, filter_follows, follows_differ}
use Rattle.model_documents.proofs.Keys.{and_then_some}
use Rattle.model_documents.proofs.Located.{IsRow, located_row}
use Rattle.model_documents.proofs.Numbers.{apart_last, has, has_either, has_left, has_one, has_right, not_not}
use Rattle.model_documents.proofs.Pairs.{Paired, all_pairs}

-- ---- the plain references of a class
abbrev pub plain_of : Meta → ℕ → List ℕ
plain_of meta c = plain_features meta (features_of meta c)

module _ (meta : Meta) where
  pub plain_in_order : (c : ℕ) → Follows (plain_of meta c) (features_of meta c)
  plain_in_order c = filter_follows (λ f. is_plain (kind_of meta f)) (features_of meta c)

  pub plain_apart : ListsDeclared meta → (c : ℕ) → numbers_differ (plain_of meta c) ≡ true
  plain_apart lists c = follows_differ (plain_of meta c) (features_of meta c) (plain_in_order c) (features_differ meta lists c)

  plain_is : (c f : ℕ) → has (plain_of meta c) f ≡ is_plain (kind_of meta f) && has_feature meta c f
  plain_is c f = kept_is (λ g. is_plain (kind_of meta g)) f (features_of meta c) ∙ ap (λ b. is_plain (kind_of meta f) && b) (sym (has_any meta c f))

  pub plain_has : (c f : ℕ) → has (plain_of meta c) f ≡ true → (is_plain (kind_of meta f) ≡ true) × (has_feature meta c f ≡ true)
  plain_has c f h =
      let both = sym (plain_is c f) ∙ h in
      (and_first (is_plain (kind_of meta f)) (has_feature meta c f) both, and_second (is_plain (kind_of meta f)) (has_feature meta c f) both)

  pub has_plain : (c f : ℕ) → is_plain (kind_of meta f) ≡ true → has_feature meta c f ≡ true → has (plain_of meta c) f ≡ true
  has_plain c f p h = plain_is c f ∙ and_both (is_plain (kind_of meta f)) (has_feature meta c f) p h

-- ---- targets
-- each once, and of rows of the reference's type
pub record TargetsFit (meta : Meta) (rows : List ElementDraft) (f : ℕ) (ts : List ℕ) : Type 0 where
  pub apart : numbers_differ ts ≡ true
  pub typed : (b : ℕ) → has ts b ≡ true → (d : ElementDraft) × (slice_get rows b ≡ Some d) × (plain_to meta (kind_of meta f) d.class ≡ true)

-- the list of a feature of an element
abbrev pub ListFits : Meta → List ElementDraft → ℕ → DocRefs → Type 0
ListFits meta rows f q = (f ≡ q.feature) × TargetsFit meta rows f q.targets

module _ (meta : Meta) (rows : List ElementDraft) where
  number_ok : (m n : ℕ) → ◌≡◌ {A = Read ℕ} (Ok m) (Ok n) → m ≡ n
  number_ok m n h = cc

  class_is : (n : ℕ) (d : ElementDraft) → slice_get rows n ≡ Some d → class_at rows n ≡ d.class
  class_is n d at = ap (λ (o : Option ElementDraft). option_map_or (λ (r : ElementDraft). r.class) o 0) at

  new_target_is : (f : ℕ) (ts : List ℕ) (o : Option ℕ) (n : ℕ) → new_target meta rows f ts o ≡ Ok n
      → (o ≡ Some n) × (has ts n ≡ false) × (plain_to meta (kind_of meta f) (class_at rows n) ≡ true)
  new_target_is f ts None n h = cc
  new_target_is f ts (Some m) n h =
      let typed = unless_ok (not (has ts m)) BadRef (unless (plain_to meta (kind_of meta f) (class_at rows m)) WrongType (Ok m)) n h in
      let same : m ≡ n = number_ok m n (unless_ok (plain_to meta (kind_of meta f) (class_at rows m)) WrongType (Ok m) n typed) in (
        ap (λ x. Some x) same,
        subst (λ x. has ts x ≡ false) same
            (not_not (has ts m) (unless_true (not (has ts m)) BadRef (unless (plain_to meta (kind_of meta f) (class_at rows m)) WrongType (Ok m)) n h)),
        subst (λ x. plain_to meta (kind_of meta f) (class_at rows x) ≡ true) same
            (unless_true (plain_to meta (kind_of meta f) (class_at rows m)) WrongType (Ok m) n typed),
      )

  found_row : (entry : Option Name) (n : ℕ) → option_and_then (located meta rows) entry ≡ Some n → IsRow rows n
  found_row entry n h = let t = and_then_some (located meta rows) entry n h in located_row meta rows t.0 n t.2

  one_more : (f : ℕ) (ts : List ℕ) (entry : Option Name) (n : ℕ) → TargetsFit meta rows f ts → target_of meta rows f ts entry ≡ Ok n
      → TargetsFit meta rows f (ts ++ n ∷ [])
  one_more f ts entry n so h =
      let is = new_target_is f ts (option_and_then (located meta rows) entry) n h in
      let row = found_row entry n is.0 in
      record {
        apart = apart_last ts n so.apart is.1;
        typed = λ b e. elim (has_either ts (n ∷ []) b e) [
          | inl k ↦ so.typed b k
          | inr k ↦
              let same : b ≡ n = has_one n b k in
              (row.0, ap (slice_get rows) same ∙ row.1, sym (ap (plain_to meta (kind_of meta f)) (class_is n row.0 row.1)) ∙ is.2)
        ];
      }

  targets_fit : (f : ℕ) (ts : List ℕ) (entries : List (Option Name)) (us : List ℕ) → TargetsFit meta rows f ts
      → collected (target_of meta rows f) ts entries ≡ Ok us → TargetsFit meta rows f us
  targets_fit f ts [] us so h = subst (TargetsFit meta rows f) (numbers_ok ts us h) so
    where
      numbers_ok : (xs ys : List ℕ) → ◌≡◌ {A = Read (List ℕ)} (Ok xs) (Ok ys) → xs ≡ ys
      numbers_ok xs ys h = cc
  targets_fit f ts (entry ∷ entries) us so h =
      let one = then_ok (target_of meta rows f ts entry) (λ n. collected (target_of meta rows f) (ts ++ n ∷ []) entries) us h in
      targets_fit f (ts ++ one.0 ∷ []) entries us (one_more f ts entry one.0 so one.1) one.2

  list_fits : (links : List Links) (f : ℕ) (q : DocRefs) → refs_at meta rows links [] f ≡ Ok q → ListFits meta rows f q
  list_fits links f q h =
      let ts = then_ok (targets_of meta rows f (entries_at f links)) (λ ts. Ok (record { feature = f; targets = ts })) q h in
      let same : record { feature = f; targets = ts.0 } ≡ q = list_ok (record { feature = f; targets = ts.0 }) q ts.2 in
      subst (ListFits meta rows f) same (refl, targets_fit f [] (entries_at f links) ts.0 (record { apart = refl; typed = λ b e. cc }) ts.1)
    where
      list_ok : (p q : DocRefs) → ◌≡◌ {A = Read DocRefs} (Ok p) (Ok q) → p ≡ q
      list_ok p q h = cc

  -- the lists of an element
  abbrev pub ListsFit : ElementDraft → List DocRefs → Type 0
  ListsFit r refs = Paired (λ k f q. ListFits meta rows f q) 0 (plain_of meta r.class) refs

  lists_fit : (before : List (List DocRefs)) (r : ElementDraft) (refs : List DocRefs) → refs_of meta rows before r ≡ Ok refs → ListsFit r refs
  lists_fit before r refs h =
      all_pairs (λ k f q. ListFits meta rows f q) (refs_at meta rows r.links) (λ bs f q e. list_fits r.links f q e) (plain_of meta r.class) refs h

  pub given_fit : (given : List (List DocRefs)) → given_by meta rows ≡ Ok given → Paired (λ k r refs. ListsFit r refs) 0 rows given
  given_fit given h = all_pairs (λ k r refs. ListsFit r refs) (refs_of meta rows) (λ bs r refs e. lists_fit bs r refs e) rows given h

  -- the row of that number is of a class that the feature may refer to
  abbrev pub IsTyped : ℕ → ℕ → Type 0
  IsTyped g b = (d : ElementDraft) × (slice_get rows b ≡ Some d) × (plain_to meta (kind_of meta g) d.class ≡ true)

  -- a target that is given
  pub given_typed : (n : ℕ) (fs : List ℕ) (refs : List DocRefs) (g b : ℕ) → Paired (λ k f q. ListFits meta rows f q) n fs refs
      → has (targets_at g refs) b ≡ true → (has fs g ≡ true) × IsTyped g b
  given_typed n [] [] g b p h = cc
  given_typed n [] (q ∷ refs) g b p h = absurd p
  given_typed n (f ∷ fs) [] g b p h = absurd p
  given_typed n (f ∷ fs) (q ∷ refs) g b p h = by_test (nat_eq g q.feature) refl h (λ e. given_typed (suc n) fs refs g b p.1 e)
    where
      by_test : (t : Bool) → nat_eq g q.feature ≡ t → has (cond t q.targets (targets_at g refs)) b ≡ true
          → (has (targets_at g refs) b ≡ true → (has fs g ≡ true) × IsTyped g b) → (has (f ∷ fs) g ≡ true) × IsTyped g b
      by_test true is h later =
          let same : g ≡ f = nat_equality.exact g q.feature is ∙ sym p.0.0 in (
            has_left (f ∷ []) fs g (subst (λ x. has (f ∷ []) x ≡ true) (sym same) (has_left (f ∷ []) [] f (own f))),
            subst (λ x. IsTyped x b) (sym same) (p.0.1.typed b h),
          )
        where
          own : (f : ℕ) → has (f ∷ []) f ≡ true
          own f = ap (λ b. b || false) (nat_equality.own f)
      by_test false is h later = let e = later h in (has_right (f ∷ []) fs g e.0, e.1)
