-- What stands in the lists of targets.
use Rattle.std.proofs.Common.{◌≡◌, ℕ, ◌+◌, ◌≤◌, Bool, true, false, cond, List, [], ◌∷◌, refl, sym, ap, subst, ◌∙◌, ◌&&◌, ◌||◌, arith, map}
use Rattle.std.specs.Prelude.{Option, None, Some, T}
use Rattle.std.specs.List.{filter, list_any, AllByRecursion}
use Rattle.std.specs.declared.cmp.Ordering.{Ordering}
use Rattle.std.specs.declared.cmp.Ordering.TheVariants.{Less, Equal, Greater}
use Rattle.std.specs.Ordering.{eq_by_cmp, is_lt, is_eq, ordering_reverse}
use Rattle.std.specs.FinMap.{FinMap, get, entries, entries_sorted, get-entries, find, is_sorted}
use Rattle.std.specs.FinMap.Entries.{where_key, below_all, is_sorted-where_key, find-where_key, same_entries}
use Rattle.finite_maps.specs.Equal.{text_eq}
use Rattle.finite_maps.specs.Maps.{set, tally, count, counts}
use Rattle.finite_maps.specs.Sorts.{put_in, in_order, picked}
use Rattle.finite_maps.proofs.MapLaws.{IsKeyOrder, same, same_key, own_key, get-set_same}
use Rattle.finite_maps.proofs.CountLaws.{count-set, count_none}
use Rattle.finite_maps.proofs.EqualLaws.{text_equality, nat_equality, and_first, and_second, and_both}
use Rattle.finite_maps.proofs.SortLaws.{tally-in_order, tally-map}
use Rattle.model_state.specs.declared.entry.Entry.{Entry}
use Rattle.model_state.specs.Keys.{IdBytes, RowKey, row_cmp}
use Rattle.model_state.specs.Listing.{entry_cmp, is_of, row_entry, targets}
use Rattle.model_state.proofs.Orders.{row_order}
use Rattle.finite_maps.proofs.Cases.{not_so, some_none}
use Rattle.finite_maps.proofs.Truths.{first, second}

-- ---- any item of a list
or_swap : (a b c : Bool) → a || (b || c) ≡ b || (a || c)
or_swap true true c = refl
or_swap true false c = refl
or_swap false true c = refl
or_swap false false c = refl

nothing_more : (n : ℕ) → n ≡ 0 + n
nothing_more n = omega arith

none_left : (b : Bool) (n : ℕ) → cond b 1 0 + n ≡ 0 → b ≡ false
none_left true n h = absurd (omega arith)
none_left false n h = refl

rest_left : (b : Bool) (n : ℕ) → cond b 1 0 + n ≡ 0 → n ≡ 0
rest_left true n h = absurd (omega arith)
rest_left false n h = nothing_more n ∙ h

module _ {X : Type 0} where
  any-put_in : (cmp : X → X → _) (p : X → Bool) (x : X) (ys : List X) → list_any p (put_in cmp x ys) ≡ p x || list_any p ys
  any-put_in cmp p x [] = refl
  any-put_in cmp p x (y ∷ ys) =
      elim (is_lt (cmp y x)) as (λ b. list_any p (cond {A = List X} b (y ∷ put_in cmp x ys) (x ∷ y ∷ ys)) ≡ p x || (p y || list_any p ys)) [
        | true ↦ ap (λ z. p y || z) (any-put_in cmp p x ys) ∙ or_swap (p y) (p x) (list_any p ys)
        | false ↦ refl
      ]

  pub any-in_order : (cmp : X → X → _) (p : X → Bool) (xs : List X) → list_any p (in_order cmp xs) ≡ list_any p xs
  any-in_order cmp p [] = refl
  any-in_order cmp p (x ∷ xs) = any-put_in cmp p x (in_order cmp xs) ∙ ap (λ z. p x || z) (any-in_order cmp p xs)

  pub any-map : {Y : Type 0} (p : X → Bool) (h : Y → X) (ys : List Y) → list_any p (map h ys) ≡ list_any (λ y. p (h y)) ys
  any-map p h [] = refl
  any-map p h (y ∷ ys) = ap (λ z. p (h y) || z) (any-map p h ys)

  pub all-put_in : (cmp : X → X → _) (P : X → Type 0) (x : X) (ys : List X) → P x → AllByRecursion P ys → AllByRecursion P (put_in cmp x ys)
  all-put_in cmp P x [] here all = (here, tt)
  all-put_in cmp P x (y ∷ ys) here all =
      elim (is_lt (cmp y x)) as (λ b. AllByRecursion P (cond {A = List X} b (y ∷ put_in cmp x ys) (x ∷ y ∷ ys))) [
        | true ↦ (all.0, all-put_in cmp P x ys here all.1)
        | false ↦ (here, all)
      ]

  pub all-in_order : (cmp : X → X → _) (P : X → Type 0) (xs : List X) → AllByRecursion P xs → AllByRecursion P (in_order cmp xs)
  all-in_order cmp P [] all = tt
  all-in_order cmp P (x ∷ xs) all = all-put_in cmp P x (in_order cmp xs) all.0 (all-in_order cmp P xs all.1)

  pub tally-filter : (p q : X → Bool) (xs : List X) → tally q (filter p xs) ≡ tally (λ x. p x && q x) xs
  tally-filter p q [] = refl
  tally-filter p q (x ∷ xs) =
      elim (p x) as (λ b. tally q (cond {A = List X} b (x ∷ filter p xs) (filter p xs)) ≡ cond (b && q x) 1 0 + tally (λ x. p x && q x) xs) [
        | true ↦ ap (λ n. cond (q x) 1 0 + n) (tally-filter p q xs)
        | false ↦ tally-filter p q xs ∙ nothing_more _
      ]

  pub none_tallied : (p : X → Bool) (xs : List X) → tally p xs ≡ 0 → list_any p xs ≡ false
  none_tallied p [] h = refl
  none_tallied p (x ∷ xs) h = ap (λ b. b || list_any p xs) (none_left (p x) (tally p xs) h) ∙ none_tallied p xs (rest_left (p x) (tally p xs) h)

-- ---- entries of a finite map
module _ {K : Type 0} {R : K → K → _} (o : IsKeyOrder R) where
  turned_less : (x y : K) → T (is_lt (R x y)) → eq_by_cmp R y x ≡ false
  turned_less x y h = ap is_eq (o.total.antisymm y x) ∙ reversed (R x y) h
    where
      reversed : (r : Ordering) → T (is_lt r) → is_eq (ordering_reverse r) ≡ false
      reversed Less h = refl
      reversed Equal h = absurd h
      reversed Greater h = absurd h

module _ {K X : Type 0} {R : K → K → _} (o : IsKeyOrder R) where
  found_in : (p : K × X → Bool) (test : K × X → Bool) (k : K) (v : X) (es : List (K × X)) → find R k es ≡ Some v → p (k, v) ≡ true
      → test (k, v) ≡ true → list_any test (filter p es) ≡ true
  found_in p test k v [] h pass t = cc
  found_in p test k v (e ∷ es) h pass t =
      elim (eq_by_cmp R k e.0) as (λ b. eq_by_cmp R k e.0 ≡ b → cond b (Some e.1) (find R k es) ≡ Some v → list_any test (filter p (e ∷ es)) ≡ true) [
        | true ↦ λ is found. here (same_key o k e.0 is) (some_same e.1 v found)
        | false ↦ λ is found. later (p e) (found_in p test k v es found pass t)
      ] refl h
    where
      some_same : (x y : X) → Some x ≡ Some y → x ≡ y
      some_same x y e = cc

      here : k ≡ e.0 → e.1 ≡ v → list_any test (filter p (e ∷ es)) ≡ true
      here same is =
          let pair : ◌≡◌ {A = K × X} (k, v) e = λ i. (same i, sym is i) in
          subst (λ z. list_any test (cond {A = List (K × X)} (p z) (e ∷ filter p es) (filter p es)) ≡ true) pair
          (ap (λ b. list_any test (cond {A = List (K × X)} b (e ∷ filter p es) (filter p es))) pass
          ∙ ap (λ z. test z || list_any test (filter p es)) (sym pair) ∙ ap (λ b. b || list_any test (filter p es)) t)

      later : (b : Bool) → list_any test (filter p es) ≡ true → list_any test (cond {A = List (K × X)} b (e ∷ filter p es) (filter p es)) ≡ true
      later true h = ap (λ z. test e || z) h ∙ or_true (test e)
        where
          or_true : (b : Bool) → b || true ≡ true
          or_true true = refl
          or_true false = refl
      later false h = h

  -- an entry that passes is picked
  pub picked_has : (p : K × X → Bool) (m : FinMap R X) (test : K × X → Bool) (k : K) (v : X) → get m k ≡ Some v → p (k, v) ≡ true → test (k, v) ≡ true
      → list_any test (picked p m) ≡ true
  picked_has p m test k v is pass t = found_in p test k v (entries m) (sym (get-entries m k) ∙ is) pass t

  later_found : (k : K) (v : X) (es fs : List (K × X)) → T (below_all R k es) → AllByRecursion (λ (e : K × X). find R e.0 fs ≡ Some e.1) es
      → AllByRecursion (λ (e : K × X). find R e.0 ((k, v) ∷ fs) ≡ Some e.1) es
  later_found k v [] fs h all = tt
  later_found k v (e ∷ es) fs h all =
      (ap (λ b. cond b (Some v) (find R e.0 fs)) (turned_less o k e.0 (first _ _ h)) ∙ all.0, later_found k v es fs (second _ _ h) all.1)

  found_all : (es : List (K × X)) → T (is_sorted R es) → AllByRecursion (λ (e : K × X). find R e.0 es ≡ Some e.1) es
  found_all [] h = tt
  found_all (e ∷ es) h = (ap (λ b. cond b (Some e.1) (find R e.0 es)) (own_key o e.0), later_found e.0 e.1 es es (first _ _ h) (found_all es (second _ _ h)))

  all_alike : (P Q : K × X → Type 0) → ((e : K × X) → P e → Q e) → (es : List (K × X)) → AllByRecursion P es → AllByRecursion Q es
  all_alike P Q h [] all = tt
  all_alike P Q h (e ∷ es) all = (h e all.0, all_alike P Q h es all.1)

  -- each entry is what its key has
  pub entries_held : (m : FinMap R X) → AllByRecursion (λ (e : K × X). get m e.0 ≡ Some e.1) (entries m)
  entries_held m = all_alike (λ e. find R e.0 (entries m) ≡ Some e.1) (λ e. get m e.0 ≡ Some e.1) (λ e h. get-entries m e.0 ∙ h) (entries m)
      (found_all (entries m) (entries_sorted m))

-- ---- targets
pub of_exact : (a : IdBytes) (f : ℕ) (k : RowKey) → is_of a f k ≡ true → k ≡ (a, f, k.2)
of_exact a f k h =
    let same = text_equality.exact a k.0 (and_first _ _ h) in
    let feature = nat_equality.exact f k.1 (and_second (text_eq a k.0) _ h) in
    let back = sym same in let back' = sym feature in
    λ i. (back i, back' i, k.2)

pub of_own : (a : IdBytes) (f : ℕ) (b : IdBytes) → is_of a f (a, f, b) ≡ true
of_own a f b = and_both _ _ (text_equality.own a) (nat_equality.own f)

module _ (row : FinMap row_cmp ℕ) (a : IdBytes) (f : ℕ) where
  mapped : (es : List (RowKey × ℕ)) → AllByRecursion (λ (e : RowKey × ℕ). get row e.0 ≡ Some e.1) es
      → AllByRecursion (λ (x : Entry). get row (a, f, x.id) ≡ Some x.rank) (map row_entry (filter (λ (e : RowKey × ℕ). is_of a f e.0) es))
  mapped [] all = tt
  mapped (e ∷ es) all =
      elim (is_of a f e.0) as (λ b. is_of a f e.0 ≡ b
      → AllByRecursion (λ (x : Entry). get row (a, f, x.id) ≡ Some x.rank)
      (map row_entry (cond {A = List (RowKey × ℕ)} b (e ∷ filter (λ (e : RowKey × ℕ). is_of a f e.0) es)
      (filter (λ (e : RowKey × ℕ). is_of a f e.0) es)))) [
        | true ↦ λ is. (ap (get row) (sym (of_exact a f e.0 is)) ∙ all.0, mapped es all.1)
        | false ↦ λ is. mapped es all.1
      ] refl

  -- each target has its rank
  pub targets_held : AllByRecursion (λ (x : Entry). get row (a, f, x.id) ≡ Some x.rank) (targets row a f)
  targets_held = all-in_order entry_cmp (λ (x : Entry). get row (a, f, x.id) ≡ Some x.rank) _ (mapped (entries row) (entries_held row_order row))

  -- each row is there
  pub targets_has : (y : IdBytes) (r : ℕ) → get row (a, f, y) ≡ Some r → list_any (λ (x : Entry). text_eq y x.id) (targets row a f) ≡ true
  targets_has y r is =
      any-in_order entry_cmp (λ (x : Entry). text_eq y x.id) _
      ∙ any-map (λ (x : Entry). text_eq y x.id) row_entry _
      ∙ picked_has row_order (λ e. is_of a f e.0) row (λ e. text_eq y e.0.2) (a, f, y) r is (of_own a f y) (text_equality.own y)

  pub one_passes : (i : IdBytes) → tally (λ (x : Entry). text_eq i x.id) (targets row a f) ≤ 1
  one_passes i =
      let p = λ (e : RowKey × ℕ). is_of a f e.0 && text_eq i e.0.2 in
      let k : RowKey = (a, f, i) in
      let same : tally (λ (x : Entry). text_eq i x.id) (targets row a f) ≡ count p row =
      tally-in_order entry_cmp (λ (x : Entry). text_eq i x.id) (map row_entry (picked (λ e. is_of a f e.0) row))
      ∙ tally-map (λ (x : Entry). text_eq i x.id) row_entry (picked (λ e. is_of a f e.0) row)
      ∙ tally-filter (λ (e : RowKey × ℕ). is_of a f e.0) (λ (e : RowKey × ℕ). text_eq i e.0.2) (entries row) in
      let none : count p (set row k None) ≡ 0 = count_none row_order p (set row k None) (λ q v is.
      not_so (p (q, v)) (λ pass.
      let key : q ≡ k = of_exact a f q (and_first _ _ pass)
      ∙ ap (λ (z : IdBytes). (a, f, z)) (sym (text_equality.exact i q.2 (and_second (is_of a f q) _ pass))) in
      some_none (get (set row k None) q) v is (ap (get (set row k None)) key ∙ get-set_same row_order row k None))) in
      let sum : count p (set row k None) + counts p k (get row k) ≡ count p row + 0 = count-set row_order p row k None in
      subst (λ n. n ≤ 1) (sym same) (at_most (counts p k (get row k)) (count p (set row k None)) (count p row) (counted (get row k)) none sum)
    where
      at_most : (c n t : ℕ) → c ≤ 1 → n ≡ 0 → n + c ≡ t + 0 → t ≤ 1
      at_most c n t h e s = omega arith

      one : (b : Bool) → cond b 1 0 ≤ 1
      one true = omega arith
      one false = omega arith

      counted : (o : Option ℕ) → counts (λ (e : RowKey × ℕ). is_of a f e.0 && text_eq i e.0.2) (a, f, i) o ≤ 1
      counted None = omega arith
      counted (Some v) = one (is_of a f (a, f, i) && text_eq i i)

-- the targets are each there once
abbrev pub Apart : List Entry → Type 0
Apart [] = Unit {0}
Apart (x ∷ xs) = (list_any (λ (y : Entry). text_eq x.id y.id) xs ≡ false) × Apart xs

pub apart_from : (xs : List Entry) → ((i : IdBytes) → tally (λ (x : Entry). text_eq i x.id) xs ≤ 1) → Apart xs
apart_from [] h = tt
apart_from (x ∷ xs) h = (
  none_tallied (λ (y : Entry). text_eq x.id y.id) xs
      (rest_none (tally (λ (y : Entry). text_eq x.id y.id) xs)
      (subst (λ b. cond b 1 0 + tally (λ (y : Entry). text_eq x.id y.id) xs ≤ 1) (text_equality.own x.id) (h x.id))),
  apart_from xs (λ i. less (cond (text_eq i x.id) 1 0) (tally (λ (y : Entry). text_eq i y.id) xs) (h i)),
)
  where
    rest_none : (n : ℕ) → 1 + n ≤ 1 → n ≡ 0
    rest_none n h = omega arith

    less : (c n : ℕ) → c + n ≤ 1 → n ≤ 1
    less c n h = omega arith

pub targets_apart : (row : FinMap row_cmp ℕ) (a : IdBytes) (f : ℕ) → Apart (targets row a f)
targets_apart row a f = apart_from (targets row a f) (one_passes row a f)

-- where two maps have the same rows of a feature, its targets are the same
pub targets_alike : (r s : FinMap row_cmp ℕ) (a : IdBytes) (f : ℕ) → ((y : IdBytes) → get r (a, f, y) ≡ get s (a, f, y)) → targets r a f ≡ targets s a f
targets_alike r s a f alike =
    ap (λ es. in_order entry_cmp (map row_entry es))
    (same_entries row_cmp row_order.total row_order.exact (where_key row_cmp (is_of a f) (entries r)) (where_key row_cmp (is_of a f) (entries s))
    (is_sorted-where_key row_cmp (is_of a f) (entries r) (entries_sorted r)) (is_sorted-where_key row_cmp (is_of a f) (entries s) (entries_sorted s))
    (λ q. find-where_key row_cmp (is_of a f) q (λ x tied. ap (is_of a f) (sym (row_order.exact q x tied))) (entries r)
    ∙ here q
    ∙ sym (find-where_key row_cmp (is_of a f) q (λ x tied. ap (is_of a f) (sym (row_order.exact q x tied))) (entries s))))
  where
    here : (q : RowKey) → cond (is_of a f q) (find row_cmp q (entries r)) None ≡ cond (is_of a f q) (find row_cmp q (entries s)) None
    here q =
        elim (is_of a f q) as (λ b. is_of a f q ≡ b → cond b (find row_cmp q (entries r)) None ≡ cond b (find row_cmp q (entries s)) None) [
          | true ↦ λ is. let k = of_exact a f q is in sym (get-entries r q) ∙ ap (get r) k ∙ alike q.2 ∙ ap (get s) (sym k) ∙ get-entries s q
          | false ↦ λ is. refl
        ] refl
