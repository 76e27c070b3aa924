-- The first place of a number in a list, as a map has it.
use Rattle.std.proofs.Common.{◌≡◌, ℕ, suc, ◌+◌, ◌<◌, Bool, true, false, cond, List, [], ◌∷◌, ◌++◌, length, take, get_or, refl, sym, ap, subst, ◌∙◌}
use Rattle.std.proofs.Common.{◌&&◌, arith, nat_eq}
use Rattle.std.specs.Prelude.{Option, None, Some, is_some}
use Rattle.std.specs.Option.{option_map}
use Rattle.std.specs.BTreeMap.{BTreeMap, get, is_at}
use Rattle.std.specs.Ordering.{nat_cmp}
use Rattle.std.proofs.lemmas.List.{length-take, take_more}
use Rattle.finite_maps.proofs.EqualLaws.{and_first, and_second, nat_equality}
use Rattle.finite_maps.proofs.MapLaws.{own_key, same_key}
use Rattle.model_state.proofs.Orders.{nat_order}
use Rattle.model_documents.specs.Finder.{first_of, place_cmp}
use Rattle.model_documents.specs.declared.doc.DocParent.{DocParent}
use Rattle.model_documents.proofs.Finding.{same_place}
use Rattle.model_documents.specs.Completed.{targets_at}
use Rattle.model_documents.specs.declared.doc.DocRow.{DocRow}
use Rattle.model_import.specs.Indexes.{TellAll, Tells}
use Rattle.import_laws.specs.Links.{index_in, refs_at}

-- where a number stands first
abbrev pub first_place : ℕ → List ℕ → Option ℕ
first_place q [] = None
first_place q (x ∷ xs) = cond (nat_eq q x) (Some 0) (option_map suc (first_place q xs))

pushed : (o : Option ℕ) (b : Bool) (n : ℕ) → option_map suc (first_of o (cond b (Some n) None)) ≡ first_of (option_map suc o) (cond b (Some (suc n)) None)
pushed None true n = refl
pushed None false n = refl
pushed (Some k) b n = refl

with_last : (q : ℕ) (xs : List ℕ) (y : ℕ) → first_place q (xs ++ y ∷ []) ≡ first_of (first_place q xs) (cond (nat_eq q y) (Some (length xs)) None)
with_last q [] y = refl
with_last q (x ∷ xs) y =
    elim (nat_eq q x) as (λ b.
    cond b (Some 0) (option_map suc (first_place q (xs ++ y ∷ []))) ≡ first_of (cond b (Some 0) (option_map suc (first_place q xs)))
    (cond (nat_eq q y) (Some (length (x ∷ xs))) None)) [
      | true ↦ refl
      | false ↦ ap (option_map suc) (with_last q xs y) ∙ pushed (first_place q xs) (nat_eq q y) (length xs)
    ]

-- one more item
pub first_more : (q : ℕ) (xs : List ℕ) (i : ℕ) → i < length xs
    → first_place q (take (i + 1) xs) ≡ first_of (first_place q (take i xs)) (cond (nat_eq q (get_or xs i 0)) (Some i) None)
first_more q xs i low =
    let long : length (take i xs) ≡ i = omega (arith, length-take i xs, low) in
    ap (first_place q) (take_more xs i 0 low) ∙ with_last q (take i xs) (get_or xs i 0)
    ∙ ap (λ n. first_of (first_place q (take i xs)) (cond (nat_eq q (get_or xs i 0)) (Some n) None)) long

some_suc : (o : Option ℕ) (k : ℕ) → option_map suc o ≡ Some k → (j : ℕ) × (o ≡ Some j) × (suc j ≡ k)
some_suc None k is = cc
some_suc (Some j) k is = (j, refl, cc)

-- that is the index
pub first_is : (q : ℕ) (xs : List ℕ) (k : ℕ) → first_place q xs ≡ Some k → index_in q xs ≡ k
first_is q [] k is = cc
first_is q (x ∷ xs) k is =
    elim (nat_eq q x) as (λ b. cond b (Some 0) (option_map suc (first_place q xs)) ≡ Some k → cond b 0 (suc (index_in q xs)) ≡ k) [
      | true ↦ λ here. cc
      | false ↦ λ later. let j = some_suc (first_place q xs) k later in ap suc (first_is q xs j.0 j.1) ∙ j.2
    ] is

-- ---- a number entered
alike : (b c : Bool) → (b ≡ true → c ≡ true) → (c ≡ true → b ≡ true) → b ≡ c
alike true c to from = sym (to refl)
alike false true to from = from refl
alike false false to from = refl

at_number : (n q : ℕ) → is_at (nat_cmp n) q ≡ nat_eq q n
at_number n q = alike (is_at (nat_cmp n) q) (nat_eq q n)
    (λ h. subst (λ z. nat_eq q z ≡ true) (sym (same_key nat_order n q h)) (nat_equality.own q))
    (λ h. subst (λ z. is_at (nat_cmp n) z ≡ true) (sym (nat_equality.exact q n h)) (own_key nat_order n))

some_first : (o : Option ℕ) (k : ℕ) (b : Bool) → (b ≡ true → is_some o ≡ true) → o ≡ first_of o (cond b (Some k) None)
some_first (Some j) k b had = refl
some_first None k true had = cc (had refl)
some_first None k false had = refl

none_first : (o : Option ℕ) (k : ℕ) (b : Bool) → (b ≡ true → is_some o ≡ false) → cond b (Some k) o ≡ first_of o (cond b (Some k) None)
none_first None k true none = refl
none_first (Some j) k true none = cc (none refl)
none_first None k false none = refl
none_first (Some j) k false none = refl

-- the number is there already
pub entered_before : (m : BTreeMap ℕ ℕ) (n k q : ℕ) → is_some (get nat_cmp m n) ≡ true
    → get nat_cmp m q ≡ first_of (get nat_cmp m q) (cond (nat_eq q n) (Some k) None)
entered_before m n k q had = some_first (get nat_cmp m q) k (nat_eq q n) (λ same. ap (λ x. is_some (get nat_cmp m x)) (nat_equality.exact q n same) ∙ had)

-- the number is new
pub entered_now : (m : BTreeMap ℕ ℕ) (n k q : ℕ) (o : Option ℕ) → is_some (get nat_cmp m n) ≡ false
    → o ≡ cond (is_at (nat_cmp n) q) (Some k) (get nat_cmp m q) → o ≡ first_of (get nat_cmp m q) (cond (nat_eq q n) (Some k) None)
entered_now m n k q o none is =
    is ∙ ap (λ b. cond b (Some k) (get nat_cmp m q)) (at_number n q)
    ∙ none_first (get nat_cmp m q) k (nat_eq q n) (λ same. ap (λ x. is_some (get nat_cmp m x)) (nat_equality.exact q n same) ∙ none)

-- ---- a list more
pub told_more : (rows : List DocRow) (lists more : BTreeMap (ℕ × ℕ) (BTreeMap ℕ ℕ)) (b g : ℕ) (list : BTreeMap ℕ ℕ) → TellAll lists rows
    → Tells list (targets_at g (refs_at rows b))
    → ((q : ℕ × ℕ) → get place_cmp more q ≡ cond (is_at (place_cmp (b, g)) q) (Some list) (get place_cmp lists q)) → TellAll more rows
told_more rows lists more b g list before tells put c f m is =
    let p : DocParent = record { row = b; feature = g } in
    let q : DocParent = record { row = c; feature = f } in
    let at : is_at (place_cmp (b, g)) (c, f) ≡ nat_eq b c && nat_eq g f = same_place p q in
    by (nat_eq b c && nat_eq g f) refl (sym (put (c, f) ∙ ap (λ x. cond x (Some list) (get place_cmp lists (c, f))) at) ∙ is)
  where
    one : (x y : BTreeMap ℕ ℕ) → Some x ≡ Some y → x ≡ y
    one x y e = cc

    by : (x : Bool) → nat_eq b c && nat_eq g f ≡ x → cond x (Some list) (get place_cmp lists (c, f)) ≡ Some m → Tells m (targets_at f (refs_at rows c))
    by true same found =
        let row : b ≡ c = nat_equality.exact b c (and_first (nat_eq b c) (nat_eq g f) same) in
        let feature : g ≡ f = nat_equality.exact g f (and_second (nat_eq b c) (nat_eq g f) same) in
        subst (λ (x : BTreeMap ℕ ℕ). Tells x (targets_at f (refs_at rows c))) (one list m found)
        (subst (λ x. Tells list (targets_at f (refs_at rows x))) row (subst (λ x. Tells list (targets_at x (refs_at rows b))) feature tells))
    by false other found = before c f m found
