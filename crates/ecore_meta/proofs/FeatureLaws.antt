-- The index of features by name, one feature or one class more.
use Rattle.std.proofs.Common.{◌≡◌, ℕ, zero, suc, ◌+◌, ◌<◌, ◌≤◌, Bool, true, false, cond, List, [], ◌∷◌, ◌++◌, refl, sym, ap, subst, ◌∙◌, arith}
use Rattle.std.proofs.Common.{length, map, take, get_or, nat_eq}
use Rattle.std.specs.Prelude.{Option, None, Some, slice_get}
use Rattle.std.specs.BTreeMap.{BTreeMap, get}
use Rattle.std.specs.List.{filter, range_with_len}
use Rattle.std.specs.Option.{option_and_then, option_map, option_map_or}
use Rattle.std.specs.Ordering.{nat_cmp}
use Rattle.std.specs.Str.{bytes_eq}
use Rattle.std.proofs.lemmas.List.{take_more}
use Rattle.ecore_meta.specs.Features.{AllListed, Listed}
use Rattle.ecore_meta.specs.Meta.{Meta, feature_named, first_named, name_at}
use Rattle.ecore_meta.specs.Names.{Name, number_of}
use Rattle.ecore_meta.specs.Promised.{ListsDeclared, declared}
use Rattle.ecore_meta.specs.Values.{or_else}
use Rattle.ecore_meta.specs.declared.meta.Class.{Class}
use Rattle.ecore_meta.specs.declared.meta.Feature.{Feature}
use Rattle.ecore_meta.proofs.NameLaws.{itself, same, turned}
use Rattle.ecore_meta.proofs.NumberLaws.{nat_itself, nat_same}

first_named-push : (fs : List Feature) (n : ℕ) (q : Name) (ns : List ℕ)
    → first_named fs (ns ++ n ∷ []) q ≡ or_else (first_named fs ns q) (cond (bytes_eq (name_at fs n) q) (Some n) None)
first_named-push fs n q [] = refl
first_named-push fs n q (m ∷ ns) = ap (λ o. cond (bytes_eq (name_at fs m) q) (Some m) o) (first_named-push fs n q ns) ∙ by_test (bytes_eq (name_at fs m) q)
  where
    by_test : (b : Bool) → cond b (Some m) (or_else (first_named fs ns q) (cond (bytes_eq (name_at fs n) q) (Some n) None)) ≡ or_else
        (cond b (Some m) (first_named fs ns q)) (cond (bytes_eq (name_at fs n) q) (Some n) None)
    by_test true = refl
    by_test false = refl

-- the name at the number of a name is that name
numbered : (q : Name) (xs : List Name) (k : ℕ) → number_of q xs ≡ Some k → get_or xs k [] ≡ q
numbered q [] k h = cc
numbered q (x ∷ xs) k h = by_test (bytes_eq q x) refl (number_of q xs) refl (λ m e. numbered q xs m e) h
  where
    by_test : (b : Bool) → bytes_eq q x ≡ b → (o : Option ℕ) → number_of q xs ≡ o → ((m : ℕ) → number_of q xs ≡ Some m → get_or xs m [] ≡ q)
        → cond b (Some 0) (option_map (λ n. suc n) o) ≡ Some k → get_or (x ∷ xs) k [] ≡ q
    by_test true e o is more h = let z : 0 ≡ k = cc in subst (λ i. get_or (x ∷ xs) i [] ≡ q) z (sym (same q x e))
    by_test false e None is more h = cc
    by_test false e (Some m) is more h = let z : suc m ≡ k = cc in subst (λ i. get_or (x ∷ xs) i [] ≡ q) z (more m is)

-- names that have numbers are one exactly where these are
same_number : (x q : Name) (xs : List Name) (k id : ℕ) → number_of q xs ≡ Some k → number_of x xs ≡ Some id → nat_eq k id ≡ bytes_eq x q
same_number x q xs k id h i = by_name (bytes_eq x q) refl
  where
    some_same : (a b : ℕ) → Some a ≡ Some b → a ≡ b
    some_same a b h = cc

    by_number : (b : Bool) → nat_eq k id ≡ b → bytes_eq x q ≡ false → nat_eq k id ≡ false
    by_number false e f = e
    by_number true e f =
        let one : x ≡ q = sym (numbered x xs id i) ∙ ap (λ (n : ℕ). get_or xs n []) (sym (nat_same k id e)) ∙ numbered q xs k h in
        let t : bytes_eq x x ≡ false = ap (bytes_eq x) one ∙ f in
        let u : bytes_eq x x ≡ true = itself x in cc

    by_name : (b : Bool) → bytes_eq x q ≡ b → nat_eq k id ≡ b
    by_name true e =
        let one : x ≡ q = same x q e in
        let j : number_of q xs ≡ Some id = subst (λ z. number_of z xs ≡ Some id) one i in
        let n : k ≡ id = some_same k id (sym h ∙ j) in
        subst (λ z. nat_eq k z ≡ true) n (nat_itself k)
    by_name false e = by_number (nat_eq k id) refl e

-- a name without a number is none that has one
no_number : (x q : Name) (xs : List Name) (k : ℕ) → number_of q xs ≡ Some k → number_of x xs ≡ None → bytes_eq x q ≡ false
no_number x q xs k h none = by_name (bytes_eq x q) refl
  where
    by_name : (b : Bool) → bytes_eq x q ≡ b → bytes_eq x q ≡ false
    by_name false e = e
    by_name true e = let j : number_of q xs ≡ None = subst (λ z. number_of z xs ≡ None) (same x q e) none in let c : Some k ≡ None = sym h ∙ j in cc

-- one feature more
pub listed_more : (fs : List Feature) (ns : List ℕ) (i d n : ℕ) (m new : BTreeMap ℕ ℕ) (id : Option ℕ) → i < length ns → n ≡ get_or ns i d
    → id ≡ number_of (name_at fs n) (map (λ (f : Feature). f.name) fs)
    → ((k : ℕ) → get nat_cmp new k ≡ or_else (get nat_cmp m k) (option_and_then (λ j. cond (nat_eq k j) (Some n) None) id)) → Listed fs (take i ns) m
    → Listed fs (take (i + 1) ns) new
listed_more fs ns i d n m new id h at is put listed q k number =
    put k
    ∙ ap (λ o. or_else o (option_and_then (λ j. cond (nat_eq k j) (Some n) None) id)) (listed q k number)
    ∙ ap (or_else (first_named fs (take i ns) q)) (by_number id is)
    ∙ sym (first_named-push fs n q (take i ns))
    ∙ ap (λ x. first_named fs (take i ns ++ x ∷ []) q) at
    ∙ sym (ap (λ xs. first_named fs xs q) (take_more ns i d h))
  where
    by_number : (o : Option ℕ) → o ≡ number_of (name_at fs n) (map (λ (f : Feature). f.name) fs)
        → option_and_then (λ j. cond (nat_eq k j) (Some n) None) o ≡ cond (bytes_eq (name_at fs n) q) (Some n) None
    by_number None e = sym (ap (λ b. cond b (Some n) None) (no_number (name_at fs n) q (map (λ (f : Feature). f.name) fs) k number (sym e)))
    by_number (Some j) e = ap (λ b. cond b (Some n) None) (same_number (name_at fs n) q (map (λ (f : Feature). f.name) fs) k j number (sym e))

listed_push : (fs : List Feature) (cs : List Class) (ms : List (BTreeMap ℕ ℕ)) (c : Class) (m : BTreeMap ℕ ℕ) → AllListed fs cs ms
    → Listed fs c.features m → AllListed fs (cs ++ c ∷ []) (ms ++ m ∷ [])
listed_push fs [] [] c m all here = (here, tt)
listed_push fs [] (x ∷ ms) c m all here = absurd all
listed_push fs (x ∷ cs) [] c m all here = absurd all
listed_push fs (x ∷ cs) (y ∷ ms) c m all here = (all.0, listed_push fs cs ms c m all.1 here)

-- one class more
pub all_more : (fs : List Feature) (cs : List Class) (i : ℕ) (d : Class) (ms : List (BTreeMap ℕ ℕ)) (m : BTreeMap ℕ ℕ) (ns : List (BTreeMap ℕ ℕ))
    → ns ≡ ms ++ m ∷ [] → i < length cs → AllListed fs (take i cs) ms → d ≡ get_or cs i d → Listed fs d.features m → AllListed fs (take (i + 1) cs) ns
all_more fs cs i d ms m ns is h all at here =
    subst (λ ks. AllListed fs (take (i + 1) cs) ks) (sym is)
    (subst (λ xs. AllListed fs xs (ms ++ m ∷ [])) (sym (take_more cs i d h))
    (listed_push fs (take i cs) ms (get_or cs i d) m all (subst (λ (c : Class). Listed fs c.features m) at here)))

-- what the index of a class says
pub all_at : (fs : List Feature) (cs : List Class) (ms : List (BTreeMap ℕ ℕ)) (c k : ℕ) (q : Name) → AllListed fs cs ms
    → number_of q (map (λ (f : Feature). f.name) fs) ≡ Some k
    → option_and_then (λ m. get nat_cmp m k) (slice_get ms c) ≡ first_named fs (option_map_or (λ (x : Class). x.features) (slice_get cs c) []) q
all_at fs [] [] c k q all number = refl
all_at fs [] (m ∷ ms) c k q all number = absurd all
all_at fs (x ∷ cs) [] c k q all number = absurd all
all_at fs (x ∷ cs) (m ∷ ms) zero k q all number = all.0 q k number
all_at fs (x ∷ cs) (m ∷ ms) (suc c) k q all number = all_at fs cs ms c k q all.1 number

-- a name that no feature has is that of none
unnamed : (fs : List Feature) (n : ℕ) (q : Name) → n < length fs → number_of q (map (λ (f : Feature). f.name) fs) ≡ None → bytes_eq (name_at fs n) q ≡ false
unnamed [] n q h none = absurd (omega arith)
unnamed (f ∷ fs) n q h none = by_test (bytes_eq q f.name) refl (number_of q (map (λ (x : Feature). x.name) fs)) refl (λ m l e. unnamed fs m q l e) n h none
  where
    by_test : (b : Bool) → bytes_eq q f.name ≡ b → (o : Option ℕ) → number_of q (map (λ (x : Feature). x.name) fs) ≡ o
        → ((m : ℕ) → m < length fs → number_of q (map (λ (x : Feature). x.name) fs) ≡ None → bytes_eq (name_at fs m) q ≡ false) → (n : ℕ)
        → n < suc (length fs) → cond b (Some 0) (option_map (λ n. suc n) o) ≡ None → bytes_eq (name_at (f ∷ fs) n) q ≡ false
    by_test true e o is more n h none = cc
    by_test false e (Some m) is more n h none = cc
    by_test false e None is more zero h none = turned f.name q ∙ e
    by_test false e None is more (suc n) h none = more n (omega arith) is

none_first : (fs : List Feature) (p : ℕ → Bool) (q : Name) → number_of q (map (λ (f : Feature). f.name) fs) ≡ None → (a n : ℕ) → a + n ≤ length fs
    → first_named fs (filter p (range_with_len a n)) q ≡ None
none_first fs p q none a zero h = refl
none_first fs p q none a (suc n) h = by_test (p a) (none_first fs p q none (a + 1) n (omega arith))
  where
    by_test : (b : Bool) → first_named fs (filter p (range_with_len (a + 1) n)) q ≡ None
        → first_named fs (cond b (a ∷ filter p (range_with_len (a + 1) n)) (filter p (range_with_len (a + 1) n))) q ≡ None
    by_test true more = ap (λ b. cond b (Some a) (first_named fs (filter p (range_with_len (a + 1) n)) q)) (unnamed fs a q (omega arith) none) ∙ more
    by_test false more = more

-- a class has no feature of a name that no feature has
pub none_named : (meta : Meta) → ListsDeclared meta → (c : ℕ) (q : Name) → number_of q (map (λ (f : Feature). f.name) meta.features) ≡ None
    → feature_named meta c q ≡ None
none_named meta lists c q none =
    ap (λ ns. first_named meta.features ns q) (lists c) ∙ none_first meta.features (declared meta c) q none 0 (length meta.features) (omega arith)
