-- A fresh id is the first of its workspace that is not live.
use Rattle.std.proofs.lemmas.Bool.Decides.{nat_tests}
use Rattle.std.proofs.lemmas.Fmt.{decimal_injective, decimal_by_steps, length-decimal-le}
use Rattle.std.proofs.lemmas.List.{append_cancel_left}
use Rattle.std.proofs.Common.{◌≡◌, ℕ, ◌+◌, ◌%◌, ◌^◌, ◌<◌, ◌≤◌, zero, suc, Bool, true, false, not, List, [], ◌∷◌, ◌++◌, length, map, refl, sym, ap}
use Rattle.std.proofs.Common.{◌∙◌, ◌&&◌, arith, nat_le, nat_lt, nat_eq}
use Rattle.std.specs.Prelude.{Option, None, Some, is_some, if◌then◌else◌}
use Rattle.std.specs.List.{list_all}
use Rattle.std.specs.Fmt.{decimal}
use Rattle.std.specs.Ordering.{eq_by_cmp}
use Rattle.std.specs.FinMap.{FinMap, get, entries}
use Rattle.finite_maps.specs.Maps.{set, count, counts, tally}
use Rattle.finite_maps.proofs.Cases.{not_so, true_false}
use Rattle.finite_maps.proofs.MapLaws.{get-set_other, same_key}
use Rattle.finite_maps.proofs.CountLaws.{count-set}
use Rattle.finite_maps.proofs.EqualLaws.{nat_equality, and_both, and_first, and_second}
use Rattle.model_state.specs.Ident.{is_id, is_id_byte}
use Rattle.model_state.specs.Keys.{IdBytes, id_cmp}
use Rattle.model_state.specs.Listing.{ids}
use Rattle.model_state.specs.State.{State, is_live}
use Rattle.model_state.proofs.Orders.{id_order}
use Rattle.edits.specs.FreshIds.{numbered, first_free, fresh_id}
use Rattle.edits.specs.Laws.{FreshIsFirst, FirstIsFresh, FreshIsId}

-- ---- ids with numbers
pub numbered_apart : (ws i j : ℕ) → i < 2 ^ 64 → j < 2 ^ 64 → numbered ws i ≡ numbered ws j → i ≡ j
unfolding numbered
numbered_apart ws i j small_i small_j same =
    decimal_injective i j small_i small_j
    (append_cancel_left (110 ∷ []) (decimal i) (decimal j)
    (append_cancel_left (decimal ws) (110 ∷ decimal i) (110 ∷ decimal j)
    (append_cancel_left (119 ∷ []) (decimal ws ++ 110 ∷ decimal i) (decimal ws ++ 110 ∷ decimal j) same)))

list_all-append : {A : Type 0} (p : A → Bool) (xs ys : List A) → list_all p xs ≡ true → list_all p ys ≡ true → list_all p (xs ++ ys) ≡ true
list_all-append p [] ys h g = g
list_all-append p (x ∷ xs) ys h g = and_both (p x) _ (and_first (p x) _ h) (list_all-append p xs ys (and_second (p x) _ h) g)

length-both : {A : Type 0} (xs ys : List A) → length (xs ++ ys) ≡ length xs + length ys
length-both [] ys = nothing (length ys)
  where
    nothing : (n : ℕ) → n ≡ 0 + n
    nothing n = omega arith
length-both (x ∷ xs) ys = ap suc (length-both xs ys) ∙ turned (length xs) (length ys)
  where
    turned : (m n : ℕ) → suc (m + n) ≡ suc m + n
    turned m n = omega arith

digit_of_id : (n : ℕ) → n < 10 → is_id_byte (48 + n) ≡ true
digit_of_id n h = and_both ((nat_le 33 (48 + n) && nat_le (48 + n) 126) && not (nat_eq (48 + n) 34)) _
    (and_both (nat_le 33 (48 + n) && nat_le (48 + n) 126) _ (and_both (nat_le 33 (48 + n)) _ (low n) (high n h)) (no_quote n)) (no_slash n h)
  where
    low : (n : ℕ) → nat_le 33 (48 + n) ≡ true
    low n = grind (arith, nat_tests)

    high : (n : ℕ) → n < 10 → nat_le (48 + n) 126 ≡ true
    high n h = grind (arith, nat_tests)

    no_quote : (n : ℕ) → not (nat_eq (48 + n) 34) ≡ true
    no_quote n = grind (arith, nat_tests)

    no_slash : (n : ℕ) → n < 10 → not (nat_eq (48 + n) 92) ≡ true
    no_slash n h = grind (arith, nat_tests)

digits_of_id : (n : ℕ) → n < 2 ^ 64 → list_all is_id_byte (decimal n) ≡ true
digits_of_id n h =
    decimal_by_steps (λ n ds. list_all is_id_byte ds ≡ true)
    (λ n small. and_both (is_id_byte (48 + n)) true (digit_of_id n small) refl)
    (λ n ds large all. list_all-append is_id_byte ds ((48 + n % 10) ∷ []) all
    (and_both (is_id_byte (48 + n % 10)) true (digit_of_id (n % 10) (omega arith)) refl))
    n h

pub numbered_is_id : (ws k : ℕ) → ws < 2 ^ 32 → k < 2 ^ 64 → is_id (numbered ws k) ≡ true
unfolding numbered
numbered_is_id ws k small_ws small_k =
    let tail = decimal ws ++ 110 ∷ decimal k in
    let short : length tail ≤ 41 =
    omega (
      arith,
      length-both (decimal ws) (110 ∷ decimal k),
      length-decimal-le 20 ws (omega arith) (omega arith) (omega arith),
      length-decimal-le 20 k (omega arith) (omega arith) small_k,
    ) in
    let bytes : list_all is_id_byte tail ≡ true =
    list_all-append is_id_byte (decimal ws) (110 ∷ decimal k) (digits_of_id ws (omega arith)) (digits_of_id k small_k) in
    and_both ((nat_le 1 (suc (length tail)) && nat_le (suc (length tail)) 128) && list_all is_id_byte tail) true
    (and_both (nat_le 1 (suc (length tail)) && nat_le (suc (length tail)) 128) _
    (and_both (nat_le 1 (suc (length tail))) _ (some (length tail)) (few (length tail) short)) bytes) refl
  where
    some : (n : ℕ) → nat_le 1 (suc n) ≡ true
    some n = grind (arith, nat_tests)

    few : (n : ℕ) → n ≤ 41 → nat_le (suc n) 128 ≡ true
    few n h = grind (arith, nat_tests)

-- ---- the first that is not live
below : (a b : ℕ) → nat_lt a b ≡ true → a < b
below a b h = grind (arith, nat_tests)

above : (a b : ℕ) → nat_lt a b ≡ false → b ≤ a
above a b h = grind (arith, nat_tests)

between : (a b : ℕ) → (a < b → ⊥) → (b < a → ⊥) → a ≡ b
between a b h g = omega arith

record IsFirstFree (m : State) (ws n k j : ℕ) : Type 0 where
  pub from : k ≤ j
  pub to : j ≤ k + n
  pub before : (i : ℕ) → k ≤ i → i < j → is_live m (numbered ws i) ≡ true
  pub free : j < k + n → is_live m (numbered ws j) ≡ false

later : (i k : ℕ) → k ≤ i → nat_eq i k ≡ false → k + 1 ≤ i
later i k low other = grind (arith, nat_tests)

first_free_is : (m : State) (ws n k : ℕ) → IsFirstFree m ws n k (first_free m ws n k)
first_free_is m ws zero k = record { from = omega arith; to = omega arith; before = λ i low high. absurd (omega arith); free = λ less. absurd (omega arith) }
first_free_is m ws (suc n) k =
    elim (is_live m (numbered ws k)) as (λ b. is_live m (numbered ws k) ≡ b → IsFirstFree m ws (suc n) k (if b then first_free m ws n (k + 1) else k)) [
      | true ↦ λ live.
          let rest = first_free_is m ws n (k + 1) in
          record {
            from = omega (arith, rest.from);
            to = omega (arith, rest.to);
            before = λ i low high. elim (nat_eq i k) as (λ b. nat_eq i k ≡ b → is_live m (numbered ws i) ≡ true) [
              | true ↦ λ same. ap (λ x. is_live m (numbered ws x)) (nat_equality.exact i k same) ∙ live
              | false ↦ λ other. rest.before i (later i k low other) high
            ] refl;
            free = λ less. rest.free (omega arith);
          }
      | false ↦ λ dead. record { from = omega arith; to = omega arith; before = λ i low high. absurd (omega arith); free = λ less. dead }
    ] refl

counted : (e : IdBytes) (o : Option ℕ) → is_some o ≡ true → counts (λ _. true) e o ≡ 1
counted e None h = cc
counted e (Some v) h = refl

names_apart : (ws i k : ℕ) → i < 2 ^ 64 → k < 2 ^ 64 → k < i → eq_by_cmp id_cmp (numbered ws i) (numbered ws k) ≡ false
names_apart ws i k small_i small_k less =
    not_so _ (λ tie. let same : i ≡ k = numbered_apart ws i k small_i small_k (same_key id_order (numbered ws i) (numbered ws k) tie)
    in omega (arith, same))

-- as many ids that are there are as many entries
many_there : (ws n k : ℕ) (kind : FinMap id_cmp ℕ) → k + n < 2 ^ 64 → ((i : ℕ) → k ≤ i → i ≤ k + n → is_some (get kind (numbered ws i)) ≡ true)
    → n + 1 ≤ count (λ _. true) kind
many_there ws zero k kind small there =
    let sum : count (λ _. true) (set kind (numbered ws k) None) + counts (λ _. true) (numbered ws k) (get kind (numbered ws k)) ≡ count
    (λ _. true) kind + 0 = count-set id_order (λ _. true) kind (numbered ws k) None in
    let one = counted (numbered ws k) (get kind (numbered ws k)) (there k (omega arith) (omega arith)) in
    omega (arith, sum, one)
many_there ws (suc n) k kind small there =
    let left = set kind (numbered ws k) None in
    let sum : count (λ _. true) left + counts (λ _. true) (numbered ws k) (get kind (numbered ws k)) ≡ count (λ _. true) kind + 0 =
    count-set id_order (λ _. true) kind (numbered ws k) None in
    let one = counted (numbered ws k) (get kind (numbered ws k)) (there k (omega arith) (omega arith)) in
    let rest : n + 1 ≤ count (λ _. true) left =
    many_there ws n (k + 1) left (omega arith) (λ i low high.
    ap is_some (get-set_other id_order kind (numbered ws k) None (numbered ws i) (names_apart ws i k (omega arith) (omega arith) (omega arith)))
    ∙ there i (omega arith) (omega arith)) in
    omega (arith, sum, one, rest)

all_counted : {A : Type 0} (xs : List A) → tally (λ _. true) xs ≡ length xs
all_counted [] = refl
all_counted (x ∷ xs) = ap (λ n. 1 + n) (all_counted xs) ∙ turned (length xs)
  where
    turned : (n : ℕ) → 1 + n ≡ suc n
    turned n = omega arith

length-map : {A B : Type 0} (h : A → B) (xs : List A) → length (map h xs) ≡ length xs
length-map h [] = refl
length-map h (x ∷ xs) = ap suc (length-map h xs)

-- not all of more numbers than there are live elements are taken
not_all : (m : State) (ws n : ℕ) → n ≡ length (ids m) → n + 1 < 2 ^ 64 → ((i : ℕ) → 1 ≤ i → i ≤ n + 1 → is_live m (numbered ws i) ≡ true) → ⊥
not_all m ws n long small live =
    let all : length (ids m) ≡ count (λ _. true) m.kind = length-map (λ (e : IdBytes × ℕ). e.0) (entries m.kind) ∙ sym (all_counted (entries m.kind)) in
    let more : n + 1 ≤ count (λ _. true) m.kind = many_there ws n 1 m.kind (omega arith) (λ i low high. live i low (omega arith)) in
    omega (arith, all, more, long)

one_free : (m : State) (ws : ℕ) → length (ids m) + 1 < 2 ^ 64 → is_live m (numbered ws (first_free m ws (length (ids m)) 1)) ≡ false
one_free m ws small =
    let n = length (ids m) in
    let found = first_free_is m ws n 1 in
    let j = first_free m ws n 1 in
    not_so (is_live m (numbered ws j)) (λ live.
    elim (nat_lt j (1 + n)) as (λ b. nat_lt j (1 + n) ≡ b → ⊥) [
      | true ↦ λ less. true_false (is_live m (numbered ws j)) live (found.free (below j (1 + n) less))
      | false ↦ λ past.
          let end : j ≡ 1 + n = omega (arith, found.to, above j (1 + n) past) in
          not_all m ws n refl small (λ i low high. elim (nat_lt i j) as (λ b. nat_lt i j ≡ b → is_live m (numbered ws i) ≡ true) [
            | true ↦ λ less. found.before i low (below i j less)
            | false ↦ λ last. let here : j ≡ i = omega (arith, above i j last, end) in ap (λ x. is_live m (numbered ws x)) (sym here) ∙ live
          ] refl)
    ] refl)

-- it is the first of the workspace's that is not live
pub fresh_is_first : FreshIsFirst
unfolding fresh_id
fresh_is_first m ws small =
    let n = length (ids m) in
    let found = first_free_is m ws n 1 in
    record {
      number = first_free m ws n 1;
      is = refl;
      first = record { from = found.from; free = one_free m ws small; before = found.before };
    }

-- and there is one such number
pub first_is_fresh : FirstIsFresh
unfolding fresh_id
first_is_fresh m ws k small first =
    let n = length (ids m) in
    let found = first_free_is m ws n 1 in
    let j = first_free m ws n 1 in
    let not_less : j < k → ⊥ = λ less.
    elim (nat_lt j (1 + n)) as (λ b. nat_lt j (1 + n) ≡ b → ⊥) [
      | true ↦ λ within. true_false (is_live m (numbered ws j)) (first.before j found.from less) (found.free (below j (1 + n) within))
      | false ↦ λ past.
          let end : j ≡ 1 + n = omega (arith, found.to, above j (1 + n) past) in
          not_all m ws n refl (omega arith) (λ i low high. first.before i low (omega arith))
    ] refl in
    let not_more : k < j → ⊥ = λ more. true_false (is_live m (numbered ws k)) (found.before k first.from more) first.free in
    let same : j ≡ k = between j k not_less not_more in
    ap (numbered ws) same

pub fresh_is_id : FreshIsId
unfolding fresh_id
fresh_is_id m ws small_ws small =
    let found = first_free_is m ws (length (ids m)) 1 in
    numbered_is_id ws (first_free m ws (length (ids m)) 1) small_ws (omega (arith, found.to))
