-- How a write changes the number of entries that pass a test.
use Rattle.std.proofs.lemmas.Bool.Decides.{nat_tests}
use Rattle.std.proofs.Common.{length, nat_le, nat_lt, ◌≤◌, ◌≡◌, ℕ, ◌+◌, Bool, true, false, cond, List, [], ◌∷◌, refl, sym, ap, subst, ◌∙◌, arith, not, ◌&&◌}
use Rattle.std.specs.Prelude.{Option, None, Some, T}
use Rattle.std.specs.declared.cmp.Ordering.{Ordering}
use Rattle.std.specs.declared.cmp.Ordering.TheVariants.{Less, Equal, Greater}
use Rattle.std.specs.Ordering.{eq_by_cmp, is_eq, is_lt}
use Rattle.std.specs.Cmp.{eq_by_cmp_equiv, alike_right}
use Rattle.std.specs.FinMap.{FinMap, get, remove, entries, from_sorted, entries_sorted, entries-insert, get-entries, get-remove, get-from_sorted}
use Rattle.std.specs.FinMap.{entries-from_sorted, find, put, is_sorted}
use Rattle.std.specs.FinMap.Entries.{below_all, where_key, by_order, is_sorted-where_key, find-where_key}
use Rattle.finite_maps.specs.Maps.{passes, set, tally, count, counts, is_below, is_within}
use Rattle.finite_maps.proofs.MapLaws.{IsKeyOrder, same, same_key, own_key}
use Rattle.finite_maps.proofs.Truths.{first, second, both, is_less, find_below}

put_first : (a b s n : ℕ) → n ≡ 0 → (a + (b + s)) + n ≡ (b + s) + a
put_first a b s n e = omega arith

put_here : (a b s c d : ℕ) → c ≡ b → d ≡ a → (a + s) + c ≡ (b + s) + d
put_here a b s c d e f = omega arith

put_later : (b s t n c : ℕ) → t + n ≡ s + c → (b + t) + n ≡ (b + s) + c
put_later b s t n c e = omega arith

taken_here : (b s t n c : ℕ) → t + n ≡ s → n ≡ 0 → c ≡ b → t + c ≡ b + s
taken_here b s t n c e f g = omega arith

taken_later : (b s t n : ℕ) → t + n ≡ s → (b + t) + n ≡ b + s
taken_later b s t n e = omega arith

no_one : (b : Bool) → ◌≡◌ {A = ℕ} (cond b 1 0) 0 → b ≡ false
no_one true h = cc
no_one false h = refl

turned : {A : Type 0} (b : Bool) (x y : A) → cond (not b) x y ≡ cond b y x
turned true x y = refl
turned false x y = refl

pub le_of_lt : (a b n : ℕ) → a ≡ b + 1 → nat_lt b n ≡ true → nat_le a n ≡ true
le_of_lt a b n e h = grind (arith, nat_tests)

pub lt_of_lt : (a b n : ℕ) → a ≤ b → nat_lt b n ≡ true → nat_lt a n ≡ true
lt_of_lt a b n e h = grind (arith, nat_tests)

pub le_of_le : (a b n : ℕ) → a ≤ b → nat_le b n ≡ true → nat_le a n ≡ true
le_of_le a b n e h = grind (arith, nat_tests)

pub lt_of_le : (a b n : ℕ) → a + 1 ≡ b → nat_le b n ≡ true → nat_lt a n ≡ true
lt_of_le a b n e h = grind (arith, nat_tests)

module _ {K X : Type 0} {R : K → K → Ordering} (o : IsKeyOrder R) where
  below_less : (x y : K) (es : List (K × X)) → R x y ≡ Less → T (below_all R y es) → T (below_all R x es)
  below_less x y [] p h = tt
  below_less x y (e ∷ es) p h =
      let t : R x e.0 ≡ Less = o.total.trans x y e.0 p (is_less (R y e.0) (first _ _ h)) in
      subst (λ r. T (is_lt r && below_all R x es)) (sym t) (below_less x y es p (second _ _ h))

  -- the sum over a list with the value put in, and the old value
  count-put : (p : K × X → Bool) (k : K) (v : X) (es : List (K × X)) → T (is_sorted R es)
      → tally p (put R k v es) + counts p k (find R k es) ≡ tally p es + counts p k (Some v)
  count-put p k v [] h = omega arith
  count-put p k v (e ∷ es) h =
      elim (R k e.0) as (λ r. R k e.0 ≡ r
      → tally p (by_order r ((k, v) ∷ e ∷ es) ((e.0, v) ∷ es) (e ∷ put R k v es)) + counts p k (cond (is_eq r) (Some e.1) (find R k es)) ≡ tally p
      (e ∷ es) + counts p k (Some v)) [
        | Less ↦ λ is.
            let none : find R k es ≡ None = find_below R k es (below_less k e.0 es is (first _ _ h)) in
            let none' : counts p k (find R k es) ≡ 0 = ap (counts p k) none in
            put_first _ _ _ _ none'
        | Equal ↦ λ is.
            let same : k ≡ e.0 = o.exact k e.0 is in
            let was : counts p k (Some e.1) ≡ counts p e.0 (Some e.1) = ap (λ x. counts p x (Some e.1)) same in
            let now : counts p k (Some v) ≡ counts p e.0 (Some v) = ap (λ x. counts p x (Some v)) same in
            put_here (counts p e.0 (Some v)) (counts p e.0 (Some e.1)) (tally p es) _ _ was now
        | Greater ↦ λ is. put_later _ _ _ _ _ (count-put p k v es (second _ _ h))
      ] refl

  -- the sum over a list without the key, and the old value
  count-without : (p : K × X → Bool) (k : K) (es : List (K × X)) → T (is_sorted R es)
      → tally p (where_key R (λ x. not (eq_by_cmp R k x)) es) + counts p k (find R k es) ≡ tally p es
  count-without p k [] h = refl
  count-without p k (e ∷ es) h =
      let rest = count-without p k es (second _ _ h) in
      let left = where_key R (λ x. not (eq_by_cmp R k x)) es in
      elim (eq_by_cmp R k e.0) as (λ b. eq_by_cmp R k e.0 ≡ b
      → tally p (cond (not b) (e ∷ left) left) + counts p k (cond b (Some e.1) (find R k es)) ≡ tally p (e ∷ es)) [
        | true ↦ λ is.
            let same : k ≡ e.0 = same_key o k e.0 is in
            let none : find R k es ≡ None = subst (λ x. find R x es ≡ None) (sym same) (find_below R e.0 es (first _ _ h)) in
            let none' : counts p k (find R k es) ≡ 0 = ap (counts p k) none in
            let was : counts p k (Some e.1) ≡ counts p e.0 (Some e.1) = ap (λ x. counts p x (Some e.1)) same in
            taken_here (counts p e.0 (Some e.1)) (tally p es) _ _ _ rest none' was
        | false ↦ λ _. taken_later (counts p e.0 (Some e.1)) _ _ _ rest
      ] refl

  entries-remove : (m : FinMap R X) (k : K) → entries (remove m k) ≡ where_key R (λ x. not (eq_by_cmp R k x)) (entries m)
  entries-remove m k =
      let es = where_key R (λ x. not (eq_by_cmp R k x)) (entries m) in
      let sorted = is_sorted-where_key R (λ x. not (eq_by_cmp R k x)) (entries m) (entries_sorted m) in
      ap entries (same o (remove m k) (from_sorted es) (λ q.
      get-remove o.total m k q
      ∙ ap (λ b. cond b None (get m q)) ((eq_by_cmp_equiv o.total).symm q k)
      ∙ sym (turned (eq_by_cmp R k q) (get m q) None)
      ∙ ap (λ x. cond (not (eq_by_cmp R k q)) x None) (get-entries m q)
      ∙ sym (find-where_key R (λ x. not (eq_by_cmp R k x)) q (λ x t. ap (λ r. not (is_eq r)) (sym (alike_right o.total q x k t))) (entries m))
      ∙ sym (get-from_sorted R es q sorted)))
      ∙ entries-from_sorted R es sorted

  -- what a write adds to a count, and takes from it
  pub count-set : (p : K × X → Bool) (m : FinMap R X) (k : K) (v : Option X) → count p (set m k v) + counts p k (get m k) ≡ count p m + counts p k v
  count-set p m k None =
      ap (λ es. tally p es + counts p k (get m k)) (entries-remove m k)
      ∙ ap (λ x. tally p (where_key R (λ x. not (eq_by_cmp R k x)) (entries m)) + counts p k x) (get-entries m k)
      ∙ count-without p k (entries m) (entries_sorted m) ∙ omega arith
  count-set p m k (Some v) =
      ap (λ es. tally p es + counts p k (get m k)) (entries-insert o.total m k v)
      ∙ ap (λ x. tally p (put R k v (entries m)) + counts p k x) (get-entries m k)
      ∙ count-put p k v (entries m) (entries_sorted m)

  find_first : (e : K × X) (es : List (K × X)) → find R e.0 (e ∷ es) ≡ Some e.1
  find_first e es = ap (λ b. cond b (Some e.1) (find R e.0 es)) (own_key o e.0)

  tally_none : (p : K × X → Bool) (es : List (K × X)) → T (is_sorted R es) → ((q : K) (v : X) → find R q es ≡ Some v → p (q, v) ≡ false) → tally p es ≡ 0
  tally_none p [] sorted none = refl
  tally_none p (e ∷ es) sorted none =
      let here : p (e.0, e.1) ≡ false = none e.0 e.1 (find_first e es) in
      let later : tally p es ≡ 0 = tally_none p es (second _ _ sorted) (λ q v is.
      none q v (elim (eq_by_cmp R q e.0) as (λ b. eq_by_cmp R q e.0 ≡ b → cond b (Some e.1) (find R q es) ≡ Some v) [
        | true ↦ λ t.
            let gone : find R q es ≡ None = subst (λ x. find R x es ≡ None) (sym (same_key o q e.0 t)) (find_below R e.0 es (first _ _ sorted)) in
            cc
        | false ↦ λ _. is
      ] refl)) in
      ap (λ b. cond b 1 0 + tally p es) here ∙ ap (λ n. 0 + n) later

  -- no entry passes the test
  pub count_none : (p : K × X → Bool) (m : FinMap R X) → ((q : K) (v : X) → get m q ≡ Some v → p (q, v) ≡ false) → count p m ≡ 0
  count_none p m none = tally_none p (entries m) (entries_sorted m) (λ q v is. none q v (get-entries m q ∙ is))

  -- where none is counted, no entry passes the test
  pub none_counted : (p : K × X → Bool) (m : FinMap R X) → count p m ≡ 0 → (q : K) (v : X) → get m q ≡ Some v → p (q, v) ≡ false
  none_counted p m zero q v is =
      let sum : count p (set m q None) + counts p q (get m q) ≡ count p m + 0 = count-set p m q None in
      let here : counts p q (get m q) ≡ counts p q (Some v) = ap (counts p q) is in
      no_one (p (q, v)) (omega (arith, sum, here, zero))

  -- one entry more, where there is room
  pub one_more : (p : K × X → Bool) (m : FinMap R X) (e : K) (v : X) (upper : Option ℕ) → get m e ≡ None → is_within (count p m) upper ≡ true
      → (p (e, v) ≡ true → is_below (count p m) upper ≡ true) → is_within (count p (set m e (Some v))) upper ≡ true
  one_more p m e v None none old room = refl
  one_more p m e v (Some n) none old room =
      let sum : count p (set m e (Some v)) + counts p e (get m e) ≡ count p m + counts p e (Some v) = count-set p m e (Some v) in
      let was : counts p e (get m e) ≡ 0 = ap (counts p e) none in
      elim (p (e, v)) as (λ b. p (e, v) ≡ b → nat_le (count p (set m e (Some v))) n ≡ true) [
        | true ↦ λ is. let now : counts p e (Some v) ≡ 1 = ap (λ b. cond b 1 0) is in let under : nat_lt (count p m) n ≡ true = room is
            in le_of_lt _ _ n (omega (arith, sum, was, now)) under
        | false ↦ λ is. let now : counts p e (Some v) ≡ 0 = ap (λ b. cond b 1 0) is
            in let same : count p (set m e (Some v)) ≡ count p m = omega (arith, sum, was, now) in ap (λ k. nat_le k n) same ∙ old
      ] refl

  -- an entry less
  pub one_less : (p : K × X → Bool) (m : FinMap R X) (e : K) (upper : Option ℕ) → is_within (count p m) upper ≡ true
      → is_within (count p (set m e None)) upper ≡ true
  one_less p m e None old = refl
  one_less p m e (Some n) old =
      let sum : count p (set m e None) + counts p e (get m e) ≡ count p m + 0 = count-set p m e None in
      le_of_le _ _ n (omega (arith, sum)) old

  -- without an entry there is room for one
  pub one_free : (p : K × X → Bool) (m : FinMap R X) (e : K) (v : X) (upper : Option ℕ) → get m e ≡ Some v → p (e, v) ≡ true
      → is_within (count p m) upper ≡ true → is_below (count p (set m e None)) upper ≡ true
  one_free p m e v None is passes old = refl
  one_free p m e v (Some n) is passes old =
      let sum : count p (set m e None) + counts p e (get m e) ≡ count p m + 0 = count-set p m e None in
      let was : counts p e (get m e) ≡ 1 = ap (counts p e) is ∙ ap (λ b. cond b 1 0) passes in
      lt_of_le _ _ n (omega (arith, sum, was)) old

  -- a write of an entry that does not pass, at a key that had none
  pub count_same : (p : K × X → Bool) (m : FinMap R X) (e : K) (v : Option X) → counts p e (get m e) ≡ 0 → counts p e v ≡ 0 → count p (set m e v) ≡ count p m
  count_same p m e v was now =
      let sum : count p (set m e v) + counts p e (get m e) ≡ count p m + counts p e v = count-set p m e v in
      omega (arith, sum, was, now)

  -- an entry less leaves the room that there is
  pub still_room : (p : K × X → Bool) (m : FinMap R X) (e : K) (upper : Option ℕ) → is_below (count p m) upper ≡ true
      → is_below (count p (set m e None)) upper ≡ true
  still_room p m e None old = refl
  still_room p m e (Some n) old =
      let sum : count p (set m e None) + counts p e (get m e) ≡ count p m + 0 = count-set p m e None in
      lt_of_lt _ _ n (omega (arith, sum)) old

-- ---- two maps with the same entries that pass
module _ {K X : Type 0} (p : K × X → Bool) where
  abbrev marks : List (K × X) → List (K × Unit {0})
  marks [] = []
  marks (e ∷ es) = cond (p e) ((e.0, tt) ∷ marks es) (marks es)

  tally-marks : (es : List (K × X)) → tally p es ≡ length (marks es)
  tally-marks [] = refl
  tally-marks (e ∷ es) =
      elim (p e) as (λ b. cond b 1 0 + tally p es ≡ length (cond {A = List (K × Unit {0})} b ((e.0, tt) ∷ marks es) (marks es))) [
        | true ↦ let h = tally-marks es in omega (arith, h)
        | false ↦ let h = tally-marks es in omega (arith, h)
      ]

module _ {K X : Type 0} {R : K → K → Ordering} (o : IsKeyOrder R) (p : K × X → Bool) where
  below_marks : (x : K) (es : List (K × X)) → T (below_all R x es) → T (below_all R x (marks p es))
  below_marks x [] h = tt
  below_marks x (e ∷ es) h =
      let rest = below_marks x es (second _ _ h) in
      elim (p e) as (λ b. T (below_all R x (cond {A = List (K × Unit {0})} b ((e.0, tt) ∷ marks p es) (marks p es)))) [
        | true ↦ both (is_lt (R x e.0)) _ (first _ _ h) rest
        | false ↦ rest
      ]

  sorted_marks : (es : List (K × X)) → T (is_sorted R es) → T (is_sorted R (marks p es))
  sorted_marks [] h = tt
  sorted_marks (e ∷ es) h =
      let rest = sorted_marks es (second _ _ h) in
      elim (p e) as (λ b. T (is_sorted R (cond {A = List (K × Unit {0})} b ((e.0, tt) ∷ marks p es) (marks p es)))) [
        | true ↦ both (below_all R e.0 (marks p es)) _ (below_marks e.0 es (first _ _ h)) rest
        | false ↦ rest
      ]

  find-marks : (q : K) (es : List (K × X)) → T (is_sorted R es) → find R q (marks p es) ≡ cond (passes p q (find R q es)) (Some tt) None
  find-marks q [] h = refl
  find-marks q (e ∷ es) h =
      elim (eq_by_cmp R q e.0) as (λ t. eq_by_cmp R q e.0 ≡ t
      → find R q (marks p (e ∷ es)) ≡ cond (passes p q (cond t (Some e.1) (find R q es))) (Some tt) None) [
        | true ↦ λ t.
            let here : q ≡ e.0 = same_key o q e.0 t in
            let none : find R q es ≡ None = subst (λ x. find R x es ≡ None) (sym here) (find_below R e.0 es (first _ _ h)) in
            let later : find R q (marks p es) ≡ None = find-marks q es (second _ _ h) ∙ ap (λ z. cond (passes p q z) (Some tt) None) none in
            elim (p e) as (λ b. p e ≡ b
            → find R q (cond {A = List (K × Unit {0})} b ((e.0, tt) ∷ marks p es) (marks p es)) ≡ cond (p (q, e.1)) (Some tt) None) [
              | true ↦ λ is. ap (λ b. cond b (Some tt) (find R q (marks p es))) t ∙ sym (ap (λ b. cond b (Some tt) None) (ap (λ x. p (x, e.1)) here ∙ is))
              | false ↦ λ is. later ∙ sym (ap (λ b. cond b (Some tt) None) (ap (λ x. p (x, e.1)) here ∙ is))
            ] refl
        | false ↦ λ t.
            let rest = find-marks q es (second _ _ h) in
            elim (p e) as (λ b. find R q (cond {A = List (K × Unit {0})} b ((e.0, tt) ∷ marks p es) (marks p es)) ≡ cond (passes p q (find R q es))
            (Some tt) None) [
              | true ↦ ap (λ b. cond b (Some tt) (find R q (marks p es))) t ∙ rest
              | false ↦ rest
            ]
      ] refl

  -- where the same keys pass, as many do
  pub count_alike : (m n : FinMap R X) → ((q : K) → passes p q (get m q) ≡ passes p q (get n q)) → count p m ≡ count p n
  count_alike m n alike =
      let g = sorted_marks (entries m) (entries_sorted m) in
      let h = sorted_marks (entries n) (entries_sorted n) in
      let equal = same o (from_sorted (marks p (entries m))) (from_sorted (marks p (entries n))) (λ q.
      get-from_sorted R (marks p (entries m)) q g ∙ find-marks q (entries m) (entries_sorted m)
      ∙ ap (λ x. cond (passes p q x) (Some tt) None) (sym (get-entries m q))
      ∙ ap (λ b. cond b (Some tt) None) (alike q)
      ∙ ap (λ x. cond (passes p q x) (Some tt) None) (get-entries n q)
      ∙ sym (get-from_sorted R (marks p (entries n)) q h ∙ find-marks q (entries n) (entries_sorted n))) in
      tally-marks p (entries m)
      ∙ ap length (sym (entries-from_sorted R (marks p (entries m)) g) ∙ ap entries equal ∙ entries-from_sorted R (marks p (entries n)) h)
      ∙ sym (tally-marks p (entries n))
