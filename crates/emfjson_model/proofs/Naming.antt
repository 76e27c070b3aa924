-- Which elements name an element by a feature, one element after another.
use Rattle.std.proofs.Common.{◌≡◌, ℕ, suc, ◌+◌, ◌-◌, ◌<◌, ◌≤◌, Bool, true, false, cond, not, List, [], ◌∷◌, ◌++◌, length, take, get_or, refl, sym, ap}
use Rattle.std.proofs.Common.{◌∙◌, ◌&&◌, ◌||◌, arith, nat_eq, length-append, append-nil, inl, inr}
use Rattle.std.specs.Prelude.{Option, None, Some, unwrap_or, slice_get}
use Rattle.std.specs.Option.{option_map_or}
use Rattle.std.specs.Cmp.{nat_eq_equiv}
use Rattle.std.specs.List.{filter, list_any}
use Rattle.std.specs.BTreeMap.{BTreeMap, get, is_at}
use Rattle.std.proofs.lemmas.List.{length-take-le, take_more}
use Rattle.std.proofs.lemmas.List.Folds.{list_any-append}
use Rattle.std.proofs.lemmas.Option.{slice_get_within}
use Rattle.std.proofs.lemmas.Bool.{or_left, or_right}
use Rattle.finite_maps.proofs.Cases.{not_so}
use Rattle.finite_maps.proofs.EqualLaws.{and_both, and_first, and_second, nat_equality}
use Rattle.model_documents.specs.declared.doc.DocParent.{DocParent}
use Rattle.model_documents.specs.declared.doc.DocRefs.{DocRefs}
use Rattle.model_documents.specs.Finder.{numbers_at, place_cmp}
use Rattle.model_documents.specs.Completed.{naming, targets_at}
use Rattle.model_documents.specs.Places.{parent_eq}
use Rattle.emfjson_model.specs.Sources.{also, ends_with, push_once}
use Rattle.model_documents.proofs.Finding.{parent_exact}
use Rattle.model_documents.proofs.Finding.{same_place}
use Rattle.model_documents.proofs.Completing.{features, listed, named_in}
use Rattle.model_documents.proofs.Numbers.{has, has_at, or_split, same_bool}

-- ---- a number that comes once
last_there : (xs : List ℕ) (n : ℕ) → slice_get (xs ++ n ∷ []) (length xs) ≡ Some n
last_there [] n = refl
last_there (x ∷ xs) n = last_there xs n

ends_last : (xs : List ℕ) (n : ℕ) → ends_with n (xs ++ n ∷ []) ≡ true
ends_last xs n =
    ap (λ k. option_map_or (λ x. nat_eq n x) (slice_get (xs ++ n ∷ []) k) false) (size (length xs) (length (xs ++ n ∷ [])) (length-append xs (n ∷ [])))
    ∙ ap (λ o. option_map_or (λ x. nat_eq n x) o false) (last_there xs n)
    ∙ nat_equality.own n
  where
    size : (k m : ℕ) → m ≡ k + 1 → m - 1 ≡ k
    size k m e = omega (arith, e)

twice : (n : ℕ) (xs : List ℕ) → push_once n (push_once n xs) ≡ push_once n xs
twice n xs = by (ends_with n xs) refl
  where
    by : (b : Bool) → ends_with n xs ≡ b → push_once n (cond b xs (xs ++ n ∷ [])) ≡ cond b xs (xs ++ n ∷ [])
    by true h = ap (λ b. cond b xs (xs ++ n ∷ [])) h
    by false h = ap (λ b. cond b (xs ++ n ∷ []) ((xs ++ n ∷ []) ++ n ∷ [])) (ends_last xs n)

pub also_also : (n : ℕ) (b c : Bool) (xs : List ℕ) → also n c (also n b xs) ≡ also n (b || c) xs
also_also n true true xs = twice n xs
also_also n true false xs = refl
also_also n false true xs = refl
also_also n false false xs = refl

ends_has : (xs : List ℕ) (n : ℕ) → ends_with n xs ≡ true → has xs n ≡ true
ends_has xs n h = by (slice_get xs (length xs - 1)) refl h
  where
    by : (o : Option ℕ) → slice_get xs (length xs - 1) ≡ o → option_map_or (λ x. nat_eq n x) o false ≡ true → has xs n ≡ true
    by None is h = cc
    by (Some x) is h = has_at xs (length xs - 1) n (is ∙ ap (λ (y : ℕ). Some y) (sym (nat_equality.exact n x h)))

-- ---- one source
pub source_added : (m removed more : BTreeMap (ℕ × ℕ) (List ℕ)) (p q : DocParent) (n : ℕ) (v : List ℕ) → v ≡ push_once n (numbers_at m p)
    → (parent_eq p q ≡ false → numbers_at removed q ≡ numbers_at m q)
    → get place_cmp more (q.row, q.feature) ≡ cond (is_at (place_cmp (p.row, p.feature)) (q.row, q.feature)) (Some v) (get place_cmp removed (q.row, q.feature))
    → numbers_at more q ≡ also n (parent_eq p q) (numbers_at m q)
source_added m removed more p q n v added others h =
    ap (λ o. unwrap_or o []) h
    ∙ ap (λ b. unwrap_or (cond b (Some v) (get place_cmp removed (q.row, q.feature))) []) (same_place p q)
    ∙ by (parent_eq p q) refl
  where
    by : (b : Bool) → parent_eq p q ≡ b → unwrap_or (cond b (Some v) (get place_cmp removed (q.row, q.feature))) [] ≡ also n b (numbers_at m q)
    by true same = added ∙ ap (λ r. push_once n (numbers_at m r)) (parent_exact p q same)
    by false apart = others apart

-- ---- the tests, one item after another
or_false : (a : Bool) → (a || false) ≡ a
or_false true = refl
or_false false = refl

any_more : {X : Type 0} (p : X → Bool) (xs : List X) (i : ℕ) (d : X) → i < length xs
    → list_any p (take (i + 1) xs) ≡ (list_any p (take i xs) || p (get_or xs i d))
any_more p xs i d less =
    ap (list_any p) (take_more xs i d less)
    ∙ list_any-append p (take i xs) (get_or xs i d ∷ [])
    ∙ ap (λ b. list_any p (take i xs) || b) (or_false (p (get_or xs i d)))

both : (a b g : Bool) → (a && g || b && g) ≡ ((a || b) && g)
both true true true = refl
both true true false = refl
both true false true = refl
both true false false = refl
both false true true = refl
both false true false = refl
both false false true = refl
both false false false = refl

pub target_more : (ts : List ℕ) (i g : ℕ) (q : DocParent) → i < length ts
    → (list_any (nat_eq q.row) (take i ts) && nat_eq g q.feature || parent_eq (record { row = get_or ts i 0; feature = g }) q) ≡ (list_any
    (nat_eq q.row) (take (i + 1) ts) && nat_eq g q.feature)
target_more ts i g q less =
    ap (λ b. list_any (nat_eq q.row) (take i ts) && nat_eq g q.feature || b && nat_eq g q.feature) (nat_eq_equiv.symm (get_or ts i 0) q.row)
    ∙ both (list_any (nat_eq q.row) (take i ts)) (nat_eq q.row (get_or ts i 0)) (nat_eq g q.feature)
    ∙ ap (λ b. b && nat_eq g q.feature) (sym (any_more (nat_eq q.row) ts i 0 less))

-- a list of the element has the row, and is of the feature
abbrev pub gives : List DocRefs → DocParent → DocRefs → Bool
gives refs q r = list_any (nat_eq q.row) (targets_at r.feature refs) && nat_eq r.feature q.feature

pub refs_more : (refs : List DocRefs) (i : ℕ) (r : DocRefs) (q : DocParent) → i < length refs → r ≡ get_or refs i r
    → (list_any (gives refs q) (take i refs) || gives refs q r) ≡ list_any (gives refs q) (take (i + 1) refs)
refs_more refs i r q less is =
    ap (λ x. list_any (gives refs q) (take i refs) || gives refs q x) is
    ∙ sym (any_more (gives refs q) refs i r less)

there : (ts : ℕ → Bool) (f : ℕ) (xs : List DocRefs) → list_any (λ (r : DocRefs). ts r.feature && nat_eq r.feature f) xs ≡ true → ts f ≡ true
there ts f [] h = cc
there ts f (x ∷ xs) h =
    elim (or_split (ts x.feature && nat_eq x.feature f) (list_any (λ (r : DocRefs). ts r.feature && nat_eq r.feature f) xs) h) [
      | inl e ↦ ap ts (sym (nat_equality.exact x.feature f (and_second (ts x.feature) (nat_eq x.feature f) e)))
          ∙ and_first (ts x.feature) (nat_eq x.feature f) e
      | inr e ↦ there ts f xs e
    ]

back : (ts : ℕ → Bool) (f : ℕ) (xs : List DocRefs) → ts f ≡ true → has (features xs) f ≡ true
    → list_any (λ (r : DocRefs). ts r.feature && nat_eq r.feature f) xs ≡ true
back ts f [] t h = cc
back ts f (x ∷ xs) t h =
    elim (or_split (nat_eq f x.feature) (has (features xs) f) h) [
      | inl e ↦
          let same : f ≡ x.feature = nat_equality.exact f x.feature e in
          or_left (ts x.feature && nat_eq x.feature f) (list_any (λ (r : DocRefs). ts r.feature && nat_eq r.feature f) xs)
          (and_both (ts x.feature) (nat_eq x.feature f) (ap ts (sym same) ∙ t) (ap (nat_eq x.feature) same ∙ nat_equality.own x.feature))
      | inr e ↦ or_right (ts x.feature && nat_eq x.feature f) (list_any (λ (r : DocRefs). ts r.feature && nat_eq r.feature f) xs) (back ts f xs t e)
    ]

pub all_refs : (refs : List DocRefs) (q : DocParent) → list_any (gives refs q) refs ≡ list_any (nat_eq q.row) (targets_at q.feature refs)
all_refs refs q =
    let ts : ℕ → Bool = λ g. list_any (nat_eq q.row) (targets_at g refs) in
    same_bool (list_any (gives refs q) refs) (ts q.feature)
    (there ts q.feature refs)
    (λ t. back ts q.feature refs t (listed refs q.feature q.row t))

-- ---- all elements
naming_last : (g a n : ℕ) (given : List (List DocRefs)) (refs : List DocRefs) (m : ℕ) → n + length given ≡ m
    → naming g a [] n (given ++ refs ∷ []) ≡ naming g a [] n given ++ cond {A = List ℕ} (list_any (nat_eq a) (targets_at g refs) && true) (m ∷ []) []
naming_last g a n [] refs m is = ap (λ k. cond {A = List ℕ} (list_any (nat_eq a) (targets_at g refs) && true) (k ∷ []) []) (same n m is)
  where
    same : (n m : ℕ) → n + 0 ≡ m → n ≡ m
    same n m is = omega (arith, is)
naming_last g a n (first ∷ given) refs m is =
    by (list_any (nat_eq a) (targets_at g first) && true) (naming_last g a (suc n) given refs m (moved n (length given) m is))
  where
    moved : (n k m : ℕ) → n + suc k ≡ m → suc n + k ≡ m
    moved n k m is = omega (arith, is)

    by : (b : Bool) → naming g a [] (suc n) (given ++ refs ∷ []) ≡ naming g a [] (suc n) given
        ++ cond {A = List ℕ} (list_any (nat_eq a) (targets_at g refs) && true) (m ∷ []) []
        → cond b (n ∷ naming g a [] (suc n) (given ++ refs ∷ [])) (naming g a [] (suc n) (given ++ refs ∷ [])) ≡ cond b
        (n ∷ naming g a [] (suc n) given) (naming g a [] (suc n) given)
        ++ cond {A = List ℕ} (list_any (nat_eq a) (targets_at g refs) && true) (m ∷ []) []
    by true h = ap (λ l. n ∷ l) h
    by false h = h

naming_more : (g a : ℕ) (given : List (List DocRefs)) (n : ℕ) (refs : List DocRefs) → n < length given → refs ≡ get_or given n refs
    → naming g a [] 0 (take (n + 1) given) ≡ naming g a [] 0 (take n given) ++ cond {A = List ℕ} (list_any (nat_eq a) (targets_at g refs) && true) (n ∷ []) []
naming_more g a given n refs less is =
    ap (naming g a [] 0) (take_more given n refs less)
    ∙ naming_last g a 0 (take n given) (get_or given n refs) n (ap (λ k. 0 + k) (length-take-le n given (lower n (length given) less)) ∙ none n)
    ∙ ap (λ x. naming g a [] 0 (take n given) ++ cond {A = List ℕ} (list_any (nat_eq a) (targets_at g x) && true) (n ∷ []) []) (sym is)
  where
    lower : (n k : ℕ) → n < k → n ≤ k
    lower n k h = omega arith

    none : (n : ℕ) → 0 + n ≡ n
    none n = omega arith

-- the number of an element is not among those before
not_before : (g a : ℕ) (given : List (List DocRefs)) (n : ℕ) → n < length given → ends_with n (naming g a [] 0 (take n given)) ≡ false
not_before g a given n less = not_so (ends_with n (naming g a [] 0 (take n given))) (λ e.
    let at = named_in g a [] 0 (take n given) n (ends_has (naming g a [] 0 (take n given)) n e) in
    apart n at.place (length (take n given)) at.number (slice_get_within (take n given) at.place at.lists at.there)
    (length-take-le n given (lower n (length given) less)))
  where
    lower : (n k : ℕ) → n < k → n ≤ k
    lower n k h = omega arith

    apart : (n j k : ℕ) → n ≡ 0 + j → j < k → k ≡ n → ⊥
    apart n j k e less same = omega arith

pub sources_more : (g a : ℕ) (given : List (List DocRefs)) (n : ℕ) (refs : List DocRefs) → n < length given → refs ≡ get_or given n refs
    → also n (list_any (nat_eq a) (targets_at g refs)) (naming g a [] 0 (take n given)) ≡ naming g a [] 0 (take (n + 1) given)
sources_more g a given n refs less is = by (list_any (nat_eq a) (targets_at g refs)) ∙ sym (naming_more g a given n refs less is)
  where
    by : (b : Bool) → also n b (naming g a [] 0 (take n given)) ≡ naming g a [] 0 (take n given) ++ cond {A = List ℕ} (b && true) (n ∷ []) []
    by true = ap (λ b. cond b (naming g a [] 0 (take n given)) (naming g a [] 0 (take n given) ++ n ∷ [])) (not_before g a given n less)
    by false = sym (append-nil (naming g a [] 0 (take n given)))

-- those among the targets are left out
pub naming_filter : (g a : ℕ) (ts : List ℕ) (n : ℕ) (given : List (List DocRefs))
    → naming g a ts n given ≡ filter (λ k. not (list_any (nat_eq k) ts)) (naming g a [] n given)
naming_filter g a ts n [] = refl
naming_filter g a ts n (refs ∷ given) = by (list_any (nat_eq a) (targets_at g refs)) (naming_filter g a ts (suc n) given)
  where
    by : (t : Bool) → naming g a ts (suc n) given ≡ filter (λ k. not (list_any (nat_eq k) ts)) (naming g a [] (suc n) given)
        → cond (t && not (list_any (nat_eq n) ts)) (n ∷ naming g a ts (suc n) given) (naming g a ts (suc n) given)
        ≡ filter (λ k. not (list_any (nat_eq k) ts)) (cond (t && true) (n ∷ naming g a [] (suc n) given) (naming g a [] (suc n) given))
    by true h = ap (λ l. cond (not (list_any (nat_eq n) ts)) (n ∷ l) l) h
    by false h = h
