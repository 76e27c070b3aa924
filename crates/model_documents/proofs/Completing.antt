-- Lists of references with the targets that either side gives.
use Rattle.std.proofs.Common.{◌≡◌, ℕ, zero, suc, ◌+◌, Bool, true, false, ◌&&◌, ◌||◌, not, cond, List, [], ◌∷◌, ◌++◌, length, map, nat_eq, refl, sym}
use Rattle.std.proofs.Common.{ap, ap₂, subst, ◌∙◌, inl, inr, arith}
use Rattle.std.specs.Prelude.{Option, None, Some, Ok, slice_get}
use Rattle.std.proofs.lemmas.Bool.{or_left, or_right}
use Rattle.finite_maps.proofs.Cases.{not_so, true_false}
use Rattle.finite_maps.proofs.EqualLaws.{and_both, and_first, and_second, nat_equality}
use Rattle.ecore_meta.specs.Meta.{Meta}
use Rattle.model_state.specs.Typing.{row_upper}
use Rattle.model_documents.specs.declared.doc.DocRefs.{DocRefs}
use Rattle.model_documents.specs.declared.fault.ModelFault.TheVariants.{Bound}
use Rattle.finite_maps.specs.Maps.{is_within}
use Rattle.model_documents.specs.Fits.{numbers_differ}
use Rattle.model_documents.specs.Completed.{completed, completed_all, completed_at, completed_within, naming, others, targets_at}
use Rattle.model_documents.specs.Reads.{Read}
use Rattle.model_documents.proofs.Apart.{then_ok, unless_ok, unless_true}
use Rattle.model_documents.proofs.Numbers.{apart_append, has, not_is, not_not, or_split}
use Rattle.model_documents.proofs.Pairs.{Paired, all_pairs}

-- the features of lists
abbrev pub features : List DocRefs → List ℕ
features refs = map (λ (q : DocRefs). q.feature) refs

-- ---- those that name an element by the opposite
module _ (g a : ℕ) (ts : List ℕ) where
  abbrev names : ℕ → List DocRefs → Bool
  names n refs = has (targets_at g refs) a && not (has ts n)

  -- an element of that number names it
  pub record Names (n : ℕ) (given : List (List DocRefs)) (b : ℕ) : Type 0 where
    pub place : ℕ
    pub lists : List DocRefs
    pub number : b ≡ n + place
    pub there : slice_get given place ≡ Some lists
    pub names : has (targets_at g lists) a ≡ true
    pub new : has ts b ≡ false

  moved : (n j : ℕ) → suc n + j ≡ n + suc j
  moved n j = omega arith

  nothing : (n : ℕ) → n ≡ n + 0
  nothing n = omega arith

  later_names : (n : ℕ) (refs : List DocRefs) (given : List (List DocRefs)) (b : ℕ) → Names (suc n) given b → Names n (refs ∷ given) b
  later_names n refs given b at =
      record { place = suc at.place; lists = at.lists; number = at.number ∙ moved n at.place; there = at.there; names = at.names; new = at.new }

  pub named_in : (n : ℕ) (given : List (List DocRefs)) (b : ℕ) → has (naming g a ts n given) b ≡ true → Names n given b
  named_in n [] b h = cc
  named_in n (refs ∷ given) b h = by_test (names n refs) refl h (λ e. later_names n refs given b (named_in (suc n) given b e))
    where
      by_test : (t : Bool) → names n refs ≡ t → has (cond t (n ∷ naming g a ts (suc n) given) (naming g a ts (suc n) given)) b ≡ true
          → (has (naming g a ts (suc n) given) b ≡ true → Names n (refs ∷ given) b) → Names n (refs ∷ given) b
      by_test true is h later =
          elim (or_split (nat_eq b n) (has (naming g a ts (suc n) given) b) h) [
            | inl e ↦
                let same : b ≡ n = nat_equality.exact b n e in
                record {
                  place = 0;
                  lists = refs;
                  number = same ∙ nothing n;
                  there = refl;
                  names = and_first (has (targets_at g refs) a) (not (has ts n)) is;
                  new = ap (has ts) same ∙ not_not (has ts n) (and_second (has (targets_at g refs) a) (not (has ts n)) is);
                }
            | inr e ↦ later e
          ]
      by_test false is h later = later h

  pub named_there : (n : ℕ) (given : List (List DocRefs)) (b j : ℕ) (refs : List DocRefs) → b ≡ n + j → slice_get given j ≡ Some refs
      → has (targets_at g refs) a ≡ true → has ts b ≡ false → has (naming g a ts n given) b ≡ true
  named_there n [] b j refs at there named new = cc
  named_there n (first ∷ given) b zero refs at there named new =
      let same : first ≡ refs = cc in
      let here : b ≡ n = at ∙ sym (nothing n) in
      let test : names n first ≡ true =
      and_both (has (targets_at g first) a) (not (has ts n)) (subst (λ rs. has (targets_at g rs) a ≡ true) (sym same) named)
      (not_is (has ts n) (ap (has ts) (sym here) ∙ new)) in
      ap (λ t. has (cond t (n ∷ naming g a ts (suc n) given) (naming g a ts (suc n) given)) b) test
      ∙ or_left (nat_eq b n) (has (naming g a ts (suc n) given) b) (subst (λ x. nat_eq b x ≡ true) here (nat_equality.own b))
  named_there n (first ∷ given) b (suc j) refs at there named new =
      by_test (names n first) (named_there (suc n) given b j refs (at ∙ sym (moved n j)) there named new)
    where
      by_test : (t : Bool) → has (naming g a ts (suc n) given) b ≡ true → has (cond t (n ∷ naming g a ts (suc n) given) (naming g a ts (suc n) given)) b ≡ true
      by_test true e = or_right (nat_eq b n) (has (naming g a ts (suc n) given) b) e
      by_test false e = e

  naming_apart : (n : ℕ) (given : List (List DocRefs)) → numbers_differ (naming g a ts n given) ≡ true
  naming_apart n [] = refl
  naming_apart n (refs ∷ given) = by_test (names n refs) (naming_apart (suc n) given)
    where
      not_later : (n j : ℕ) → n ≡ suc n + j → ⊥
      not_later n j e = omega (arith, e)

      by_test : (t : Bool) → numbers_differ (naming g a ts (suc n) given) ≡ true
          → numbers_differ (cond t (n ∷ naming g a ts (suc n) given) (naming g a ts (suc n) given)) ≡ true
      by_test true e =
          and_both (not (has (naming g a ts (suc n) given) n)) (numbers_differ (naming g a ts (suc n) given))
          (not_is (has (naming g a ts (suc n) given) n)
          (not_so (has (naming g a ts (suc n) given) n) (λ k. let at = named_in (suc n) given n k in not_later n at.place at.number))) e
      by_test false e = e

  pub named_apart : (given : List (List DocRefs)) → numbers_differ ts ≡ true → numbers_differ (ts ++ naming g a ts 0 given) ≡ true
  named_apart given h =
      apart_append ts (naming g a ts 0 given) h (naming_apart 0 given)
      (λ n e. not_so (has (naming g a ts 0 given) n) (λ k. let at = named_in 0 given n k in true_false (has ts n) e at.new))

pub others_apart : (o : Option ℕ) (a : ℕ) (ts : List ℕ) (given : List (List DocRefs)) → numbers_differ ts ≡ true
    → numbers_differ (ts ++ others o a ts given) ≡ true
others_apart None a ts given h = apart_append ts [] h refl (λ n e. refl)
others_apart (Some g) a ts given h = named_apart g a ts given h

-- ---- the lists of an element
-- a list with those that name the element by the opposite
pub record IsCompleted (meta : Meta) (given : List (List DocRefs)) (a : ℕ) (q m : DocRefs) : Type 0 where
  pub feature : q.feature ≡ m.feature
  pub targets : m.targets ≡ completed meta given a q
  pub within : is_within (length m.targets) (row_upper meta m.feature) ≡ true

module _ (meta : Meta) (given : List (List DocRefs)) (a : ℕ) where
  numbers_ok : (xs ys : List ℕ) → ◌≡◌ {A = Read (List ℕ)} (Ok xs) (Ok ys) → xs ≡ ys
  numbers_ok xs ys h = cc

  list_ok : (p q : DocRefs) → ◌≡◌ {A = Read DocRefs} (Ok p) (Ok q) → p ≡ q
  list_ok p q h = cc

  completed_one : (q m : DocRefs) → completed_at meta given a [] q ≡ Ok m → IsCompleted meta given a q m
  completed_one q m h =
      let ts = then_ok (completed_within meta given a q) (λ ts. Ok (record { feature = q.feature; targets = ts })) m h in
      let same : record { feature = q.feature; targets = ts.0 } ≡ m = list_ok (record { feature = q.feature; targets = ts.0 }) m ts.2 in
      let is : completed meta given a q ≡ ts.0 =
      numbers_ok (completed meta given a q) ts.0
      (unless_ok (is_within (length (completed meta given a q)) (row_upper meta q.feature)) Bound (Ok (completed meta given a q)) ts.0 ts.1) in
      let within = unless_true (is_within (length (completed meta given a q)) (row_upper meta q.feature)) Bound (Ok (completed meta given a q)) ts.0 ts.1 in
      subst (IsCompleted meta given a q) same
      (record { feature = refl; targets = sym is; within = ap (λ (xs : List ℕ). is_within (length xs) (row_upper meta q.feature)) (sym is) ∙ within })

  pub completed_pairs : (refs ms : List DocRefs) → completed_all meta given a refs ≡ Ok ms → Paired (λ k q m. IsCompleted meta given a q m) 0 refs ms
  completed_pairs refs ms h = all_pairs (λ k q m. IsCompleted meta given a q m) (completed_at meta given a) (λ bs q m e. completed_one q m e) refs ms h

  pub features_same : (n : ℕ) (refs ms : List DocRefs) → Paired (λ k q m. IsCompleted meta given a q m) n refs ms → features ms ≡ features refs
  features_same n [] [] p = refl
  features_same n [] (m ∷ ms) p = absurd p
  features_same n (q ∷ refs) [] p = absurd p
  features_same n (q ∷ refs) (m ∷ ms) p = ap₂ (λ x xs. x ∷ xs) (sym p.0.feature) (features_same (suc n) refs ms p.1)

  -- the completed list of a feature
  pub completed_list : (n : ℕ) (refs ms : List DocRefs) (f : ℕ) → Paired (λ k q m. IsCompleted meta given a q m) n refs ms → has (features refs) f ≡ true
      → targets_at f ms ≡ completed meta given a (record { feature = f; targets = targets_at f refs })
  completed_list n [] ms f p h = cc
  completed_list n (q ∷ refs) [] f p h = absurd p
  completed_list n (q ∷ refs) (m ∷ ms) f p h = by_test (nat_eq f q.feature) refl h (λ e. completed_list (suc n) refs ms f p.1 e)
    where
      by_test : (t : Bool) → nat_eq f q.feature ≡ t → t || has (features refs) f ≡ true
          → (has (features refs) f ≡ true → targets_at f ms ≡ completed meta given a (record { feature = f; targets = targets_at f refs }))
          → cond (nat_eq f m.feature) m.targets (targets_at f ms) ≡ completed meta given a
          (record { feature = f; targets = cond (nat_eq f q.feature) q.targets (targets_at f refs) })
      by_test true is h later =
          ap (λ b. cond b m.targets (targets_at f ms)) (ap (nat_eq f) (sym p.0.feature) ∙ is)
          ∙ p.0.targets
          ∙ ap (λ x. completed meta given a (record { feature = x; targets = q.targets })) (sym (nat_equality.exact f q.feature is))
          ∙ ap (λ b. completed meta given a (record { feature = f; targets = cond b q.targets (targets_at f refs) })) (sym is)
      by_test false is h later =
          ap (λ b. cond b m.targets (targets_at f ms)) (ap (nat_eq f) (sym p.0.feature) ∙ is)
          ∙ later h
          ∙ ap (λ b. completed meta given a (record { feature = f; targets = cond b q.targets (targets_at f refs) })) (sym is)

-- a list with targets is that of a feature
pub listed : (refs : List DocRefs) (f b : ℕ) → has (targets_at f refs) b ≡ true → has (features refs) f ≡ true
listed [] f b h = cc
listed (q ∷ refs) f b h = by_test (nat_eq f q.feature) h (λ e. listed refs f b e)
  where
    by_test : (t : Bool) → has (cond t q.targets (targets_at f refs)) b ≡ true → (has (targets_at f refs) b ≡ true → has (features refs) f ≡ true)
        → t || has (features refs) f ≡ true
    by_test true h later = refl
    by_test false h later = later h
