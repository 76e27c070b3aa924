-- Each test of a document without a fault fails.
use Rattle.std.proofs.Common.{◌≡◌, ℕ, zero, suc, Bool, true, false, List, [], ◌∷◌, cond, refl, subst}
use Rattle.std.specs.Prelude.{Option, None, Some, slice_get}
use Rattle.std.specs.List.{AllByRecursion, list_any}
use Rattle.std.proofs.lemmas.Bool.{or_parts}
use Rattle.ecore_build.specs.Faults.{any_from, bad_bound, bad_default, clash, dup_name, enums_in, fault, features_of, is_self, is_unanswered, no_type}
use Rattle.ecore_build.specs.Faults.{unsupported}
use Rattle.ecore_build.specs.declared.fault.MetaFault.{MetaFault}
use Rattle.ecore_build.specs.declared.fault.MetaFault.TheVariants.{BadBound, BadDefault, BadOpposite, Clash, DupName, NoType, SelfOpposite}
use Rattle.ecore_build.specs.declared.fault.MetaFault.TheVariants.{SuperCycle, Unsupported}
use Rattle.ecore_drafts.specs.Document.{ClassifierRows, supers_in}
use Rattle.ecore_drafts.specs.Drafts.{drafts}
use Rattle.ecore_drafts.specs.Supers.{super_cycle}
use Rattle.ecore_drafts.specs.declared.drafts.FeatureDraft.{FeatureDraft}

-- each of the nine tests fails
pub record Passes (rows : ClassifierRows) : Type 0 where
  pub named : dup_name rows ≡ false
  pub read : unsupported (drafts rows) ≡ false
  pub typed : no_type rows (drafts rows) ≡ false
  pub rising : super_cycle (supers_in rows rows) ≡ false
  pub apart : clash (drafts rows) (features_of rows) ≡ false
  pub other : any_from is_self 0 (drafts rows) ≡ false
  pub answered : any_from (is_unanswered (drafts rows)) 0 (drafts rows) ≡ false
  pub bounded : list_any (bad_bound (drafts rows)) (drafts rows) ≡ false
  pub fits : list_any (bad_default (enums_in rows)) (drafts rows) ≡ false

passed : (b : Bool) (e : MetaFault) (rest : Option MetaFault) → cond b (Some e) rest ≡ None → (b ≡ false) × (rest ≡ None)
passed true e rest h = cc
passed false e rest h = (refl, h)

pub passes : (rows : ClassifierRows) → fault rows ≡ None → Passes rows
passes rows none =
    let ds = drafts rows in
    let first = passed (dup_name rows) DupName _ none in
    let second = passed (unsupported ds) Unsupported _ first.1 in
    let third = passed (no_type rows ds) NoType _ second.1 in
    let fourth = passed (super_cycle (supers_in rows rows)) SuperCycle _ third.1 in
    let fifth = passed (clash ds (features_of rows)) Clash _ fourth.1 in
    let sixth = passed (any_from is_self 0 ds) SelfOpposite _ fifth.1 in
    let seventh = passed (any_from (is_unanswered ds) 0 ds) BadOpposite _ sixth.1 in
    let eighth = passed (list_any (bad_bound ds) ds) BadBound _ seventh.1 in
    let ninth = passed (list_any (bad_default (enums_in rows)) ds) BadDefault _ eighth.1 in
    record {
      named = first.0;
      read = second.0;
      typed = third.0;
      rising = fourth.0;
      apart = fifth.0;
      other = sixth.0;
      answered = seventh.0;
      bounded = eighth.0;
      fits = ninth.0;
    }

-- a test that no draft passes fails at each
pub fails_at : (p : FeatureDraft → Bool) (ds : List FeatureDraft) → list_any p ds ≡ false → (k : ℕ) (d : FeatureDraft) → slice_get ds k ≡ Some d → p d ≡ false
fails_at p [] h k d is = cc
fails_at p (e ∷ ds) h zero d is = subst (λ x. p x ≡ false) (same_some e d is) (or_parts (p e) (list_any p ds) h).0
  where
    same_some : (x y : FeatureDraft) → Some x ≡ Some y → x ≡ y
    same_some x y h = cc
fails_at p (e ∷ ds) h (suc k) d is = fails_at p ds (or_parts (p e) (list_any p ds) h).1 k d is

-- what holds of every draft holds of the one at a number
pub holds_at : (P : FeatureDraft → Type 0) (ds : List FeatureDraft) → AllByRecursion P ds → (k : ℕ) (d : FeatureDraft) → slice_get ds k ≡ Some d → P d
holds_at P [] h k d is = cc
holds_at P (e ∷ ds) h zero d is = subst P (same_some e d is) h.0
  where
    same_some : (x y : FeatureDraft) → Some x ≡ Some y → x ≡ y
    same_some x y h = cc
holds_at P (e ∷ ds) h (suc k) d is = holds_at P ds h.1 k d is
