-- A list stays the same where a value is put after others that are the same as it, or before them.
use Rattle.std.proofs.Common.{◌≡◌, ℕ, Bool, ◌+◌, ◌-◌, ◌≤◌, ◌<◌, zero, suc, true, false, List, [], ◌∷◌, length, take, drop, refl, sym, ap, ◌∙◌, ◌&&◌, arith}
use Rattle.std.specs.Prelude.{Option, None, Some, slice_get}
use Rattle.std.specs.List.{insert, remove, list_all}
use Rattle.std.specs.Option.{option_map_or}
use Rattle.finite_maps.specs.Equal.{list_eq}
use Rattle.finite_maps.proofs.EqualLaws.{apart, list_equality}
use Rattle.ecore_meta.specs.declared.meta.Value.{Value}
use Rattle.model_state.specs.Lists.{shifted}
use Rattle.model_state.specs.Typing.{value_eq}
use Rattle.model_state.proofs.StepTests.{value_equality}

own : (vs : List Value) → list_eq value_eq vs vs ≡ true
own vs = (list_equality value_eq value_equality).own vs

some_same : (v w : Value) → Some v ≡ Some w → v ≡ w
some_same v w e = cc

-- after n others
put_behind : (vs : List Value) (n : ℕ) (w : Value) → list_eq value_eq (insert vs n w) (w ∷ vs) ≡ list_all (value_eq w) (take n vs)
put_behind vs zero w = own (w ∷ vs)
put_behind [] (suc n) w = own (w ∷ [])
put_behind (v ∷ vs) (suc n) w =
    elim (value_eq w v) as (λ b. value_eq w v ≡ b → value_eq v w && list_eq value_eq (insert vs n w) (v ∷ vs) ≡ b && list_all (value_eq w) (take n vs)) [
      | true ↦ λ same.
          let is : w ≡ v = value_equality.exact w v same in
          ap (λ x. x && list_eq value_eq (insert vs n w) (v ∷ vs)) (ap (value_eq v) is ∙ value_equality.own v)
          ∙ ap (λ x. list_eq value_eq (insert vs n w) (x ∷ vs)) (sym is) ∙ put_behind vs n w
      | false ↦ λ differ. ap (λ x. x && list_eq value_eq (insert vs n w) (v ∷ vs)) (apart value_eq value_equality w v differ)
    ] refl

-- before n others
put_before : (vs : List Value) (n : ℕ) (w : Value) → slice_get vs n ≡ Some w → list_eq value_eq (w ∷ remove vs n) vs ≡ list_all (value_eq w) (take n vs)
put_before [] n w is = cc
put_before (v ∷ vs) zero w is = ap (λ x. list_eq value_eq (x ∷ vs) (v ∷ vs)) (sym (some_same v w is)) ∙ own (v ∷ vs)
put_before (v ∷ vs) (suc n) w is =
    elim (value_eq w v) as (λ b. value_eq w v ≡ b → b && list_eq value_eq (v ∷ remove vs n) vs ≡ b && list_all (value_eq w) (take n vs)) [
      | true ↦ λ same. ap (λ x. list_eq value_eq (x ∷ remove vs n) vs) (sym (value_equality.exact w v same)) ∙ put_before vs n w is
      | false ↦ λ differ. refl
    ] refl

same_head : (v : Value) (xs ys : List Value) → list_eq value_eq (v ∷ xs) (v ∷ ys) ≡ list_eq value_eq xs ys
same_head v xs ys = ap (λ b. b && list_eq value_eq xs ys) (value_equality.own v)

moved_on : (vs : List Value) (from to n : ℕ) (w : Value) → slice_get vs from ≡ Some w → to ≡ from + n
    → list_eq value_eq (insert (remove vs from) to w) vs ≡ list_all (value_eq w) (take n (drop (suc from) vs))
moved_on [] from to n w is far = cc
moved_on (v ∷ vs) zero to n w is far =
    let here : v ≡ w = some_same v w is in
    let long : to ≡ n = omega (arith, far) in
    ap (λ x. list_eq value_eq (insert vs to w) (x ∷ vs)) here ∙ put_behind vs to w ∙ ap (λ k. list_all (value_eq w) (take k vs)) long
moved_on (v ∷ vs) (suc i) zero n w is far = absurd (omega (arith, far))
moved_on (v ∷ vs) (suc i) (suc j) n w is far = same_head v (insert (remove vs i) j w) vs ∙ moved_on vs i j n w is (omega (arith, far))

moved_back : (vs : List Value) (from to n : ℕ) (w : Value) → slice_get vs from ≡ Some w → from ≡ to + n
    → list_eq value_eq (insert (remove vs from) to w) vs ≡ list_all (value_eq w) (take n (drop to vs))
moved_back vs from zero n w is far =
    let long : from ≡ n = omega (arith, far) in
    put_before vs from w is ∙ ap (λ k. list_all (value_eq w) (take k vs)) long
moved_back [] from (suc j) n w is far = cc
moved_back (v ∷ vs) zero (suc j) n w is far = absurd (omega (arith, far))
moved_back (v ∷ vs) (suc i) (suc j) n w is far = same_head v (insert (remove vs i) j w) vs ∙ moved_back vs i j n w is (omega (arith, far))

shifted_is : (vs : List Value) (from to : ℕ) (w : Value) → slice_get vs from ≡ Some w → shifted vs from to ≡ insert (remove vs from) to w
shifted_is vs from to w is = ap (λ (o : Option Value). elim o [ None ↦ vs | Some v ↦ insert (remove vs from) to v ]) is

-- the value at one place stands at a later one, or at an earlier one
pub stays_on : (vs : List Value) (from to : ℕ) (w : Value) → slice_get vs from ≡ Some w → from ≤ to
    → list_eq value_eq (shifted vs from to) vs ≡ list_all (value_eq w) (take (to + 1 - (from + 1)) (drop (from + 1) vs))
stays_on vs from to w is le =
    let n = to + 1 - (from + 1) in
    ap (λ l. list_eq value_eq l vs) (shifted_is vs from to w is)
    ∙ moved_on vs from to n w is (omega arith)
    ∙ ap (λ k. list_all (value_eq w) (take n (drop k vs))) (more from)
  where
    more : (k : ℕ) → suc k ≡ k + 1
    more k = omega arith

pub stays_back : (vs : List Value) (from to : ℕ) (w : Value) → slice_get vs from ≡ Some w → to ≤ from
    → list_eq value_eq (shifted vs from to) vs ≡ list_all (value_eq w) (take (from - to) (drop to vs))
stays_back vs from to w is le =
    ap (λ l. list_eq value_eq l vs) (shifted_is vs from to w is)
    ∙ moved_back vs from to (from - to) w is (omega arith)

-- where no value stands at the one place
pub stays_without : (vs : List Value) (from to : ℕ) → slice_get vs from ≡ None → list_eq value_eq (shifted vs from to) vs ≡ true
stays_without vs from to is =
    ap (λ (o : Option Value). list_eq value_eq (elim o [ None ↦ vs | Some v ↦ insert (remove vs from) to v ]) vs) is ∙ own vs

-- the value at an index, and n more after it
next : (p : Value → Bool) (vs : List Value) (at n : ℕ) → at < length vs
    → list_all p (take (suc n) (drop at vs)) ≡ option_map_or p (slice_get vs at) false && list_all p (take n (drop (suc at) vs))
next p [] at n lt = absurd (omega arith)
next p (v ∷ vs) zero n lt = refl
next p (v ∷ vs) (suc i) n lt = next p vs i n (omega arith)

-- the first of the values between two indexes, and those after it
all_next : (p : Value → Bool) (vs : List Value) (at end : ℕ) → at < end → end ≤ length vs
    → list_all p (take (end - at) (drop at vs)) ≡ option_map_or p (slice_get vs at) false && list_all p (take (end - (at + 1)) (drop (at + 1) vs))
all_next p vs at end lt le =
    let n = end - (at + 1) in
    let whole : end - at ≡ suc n = omega arith in
    let after : suc at ≡ at + 1 = omega arith in
    ap (λ k. list_all p (take k (drop at vs))) whole
    ∙ next p vs at n (omega arith)
    ∙ ap (λ k. option_map_or p (slice_get vs at) false && list_all p (take n (drop k vs))) after

-- it is the same, or it is not
pub all_on : (p : Value → Bool) (vs : List Value) (at end : ℕ) → at < end → end ≤ length vs → option_map_or p (slice_get vs at) false ≡ true
    → list_all p (take (end - at) (drop at vs)) ≡ list_all p (take (end - (at + 1)) (drop (at + 1) vs))
all_on p vs at end lt le is =
    let rest = list_all p (take (end - (at + 1)) (drop (at + 1) vs)) in
    all_next p vs at end lt le ∙ ap (λ b. b && rest) is

pub all_stop : (p : Value → Bool) (vs : List Value) (at end : ℕ) → at < end → end ≤ length vs → option_map_or p (slice_get vs at) false ≡ false
    → list_all p (take (end - at) (drop at vs)) ≡ false
all_stop p vs at end lt le is =
    let rest = list_all p (take (end - (at + 1)) (drop (at + 1) vs)) in
    all_next p vs at end lt le ∙ ap (λ b. b && rest) is

-- none stand between
pub all_past : (p : Value → Bool) (vs : List Value) (at end : ℕ) → end ≤ at → list_all p (take (end - at) (drop at vs)) ≡ true
all_past p vs at end le =
    let none : end - at ≡ 0 = omega arith in
    ap (λ n. list_all p (take n (drop at vs))) none
