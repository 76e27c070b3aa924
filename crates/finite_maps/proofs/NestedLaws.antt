-- Ordered maps of ordered maps as finite maps.
use Rattle.std.proofs.Common.{◌≡◌, Bool, true, false, cond, not, List, [], ◌∷◌, refl, sym, ap, ◌∙◌, ◌&&◌}
use Rattle.std.specs.Prelude.{Option, None, Some}
use Rattle.std.specs.declared.cmp.Ordering.{Ordering}
use Rattle.std.specs.declared.cmp.Ordering.TheVariants.{Less, Equal, Greater}
use Rattle.std.specs.Ordering.{eq_by_cmp, is_eq, ordering_then}
use Rattle.std.specs.Cmp.{eq_by_cmp_equiv}
use Rattle.std.specs.Map.{lookup}
use Rattle.std.specs.FinMap.{FinMap, get, get-insert, get-empty, get-retain_keys}
use Rattle.std.specs.BTreeMap as tree
use Rattle.std.specs.BTreeMap.{BTreeMap, is_at}
use Rattle.finite_maps.specs.Maps.{set}
use Rattle.finite_maps.specs.Sorts.{without}
use Rattle.finite_maps.specs.Nested.{pair_cmp, over, joined, nested, inner_get}
use Rattle.finite_maps.proofs.MapLaws.{IsKeyOrder, same, same_key, get-set}

turned : {A : Type 0} (b : Bool) (x y : A) → cond (not b) x y ≡ cond b y x
turned true x y = refl
turned false x y = refl

-- a map without keys, where the test answers alike at tied keys
module _ {K X : Type 0} {R : K → K → Ordering} (o : IsKeyOrder R) where
  pub get-without : (p : K → Bool) (m : FinMap R X) (q : K) → get (without p m) q ≡ cond (p q) None (get m q)
  get-without p m q =
      get-retain_keys m (λ k. not (p k)) q (λ x tied. ap (λ k. not (p k)) (sym (o.exact q x tied)))
      ∙ turned (p q) (get m q) None

pair_eq : (r s : Ordering) → is_eq (ordering_then r s) ≡ is_eq r && is_eq s
pair_eq Less s = refl
pair_eq Equal s = refl
pair_eq Greater s = refl

both_cond : {A : Type 0} (a b : Bool) (x y z : A) → cond (a && b) x (cond a y z) ≡ cond a (cond b x y) z
both_cond true b x y z = refl
both_cond false b x y z = refl

cut : {A : Type 0} (a : Bool) (x y : A) → cond a (cond a x y) y ≡ cond a x y
cut true x y = refl
cut false x y = refl

-- the first of two values that are there
abbrev first_of_two : {A : Type 0} → Option A → Option A → Option A
first_of_two None y = y
first_of_two (Some x) y = Some x

or_cond : {A : Type 0} (b : Bool) (x : A) (o y : Option A) → cond b (Some x) (first_of_two o y) ≡ first_of_two (cond b (Some x) o) y
or_cond true x o y = refl
or_cond false x o y = refl

or_none : {A : Type 0} (o : Option A) → first_of_two o None ≡ o
or_none None = refl
or_none (Some x) = refl

inner_cond : {L X : Type 0} (f : BTreeMap L X → Option X) (b : Bool) (m : BTreeMap L X) (o : Option (BTreeMap L X))
    → cond b (f m) (inner_get f o) ≡ inner_get f (cond b (Some m) o)
inner_cond f true m o = refl
inner_cond f false m o = refl

module _ {K L X : Type 0} {R : K → K → Ordering} (S : L → L → Ordering) (o : IsKeyOrder R) (p : IsKeyOrder (pair_cmp R S)) where
  get-over : (k : K) (xs : List (L × X)) (m : FinMap (pair_cmp R S) X) (q : K) (l : L)
      → get (over k xs m) (q, l) ≡ cond (eq_by_cmp R q k) (first_of_two (lookup (is_at (S l)) xs) (get m (q, l))) (get m (q, l))
  get-over k [] m q l = sym (cond_same (eq_by_cmp R q k) (get m (q, l)))
    where
      cond_same : {A : Type 0} (b : Bool) (x : A) → cond b x x ≡ x
      cond_same true x = refl
      cond_same false x = refl
  get-over k (x ∷ xs) m q l =
      get-insert p.total (over k xs m) (k, x.0) x.1 (q, l)
      ∙ ap (λ b. cond b (Some x.1) (get (over k xs m) (q, l))) (pair_eq (R q k) (S l x.0))
      ∙ ap (cond (eq_by_cmp R q k && eq_by_cmp S l x.0) (Some x.1)) (get-over k xs m q l)
      ∙ both_cond (eq_by_cmp R q k) (eq_by_cmp S l x.0) (Some x.1) _ _
      ∙ ap (λ z. cond (eq_by_cmp R q k) z (get m (q, l))) (or_cond (eq_by_cmp S l x.0) x.1 (lookup (is_at (S l)) xs) (get m (q, l)))

  get-joined : (es : List (K × BTreeMap L X)) (q : K) (l : L) → get (joined R S es) (q, l) ≡ inner_get (λ m. tree.get S m l) (lookup (is_at (R q)) es)
  get-joined [] q l = get-empty (pair_cmp R S) (q, l)
  get-joined (e ∷ es) q l =
      let rest = joined R S es in
      let cleared = without (λ (k : K × L). eq_by_cmp R e.0 k.0) rest in
      let at : get cleared (q, l) ≡ cond (eq_by_cmp R q e.0) None (get rest (q, l)) =
      get-without p (λ (k : K × L). eq_by_cmp R e.0 k.0) rest (q, l)
      ∙ ap (λ b. cond b None (get rest (q, l))) ((eq_by_cmp_equiv o.total).symm e.0 q) in
      get-over e.0 e.1.entries cleared q l
      ∙ elim (eq_by_cmp R q e.0) as (λ b. eq_by_cmp R q e.0 ≡ b
      → cond b (first_of_two (lookup (is_at (S l)) e.1.entries) (get cleared (q, l))) (get cleared (q, l)) ≡ inner_get (λ m. tree.get S m l)
      (cond b (Some e.1) (lookup (is_at (R q)) es))) [
        | true ↦ λ t. ap (first_of_two (lookup (is_at (S l)) e.1.entries)) (at ∙ ap (λ b. cond b None (get rest (q, l))) t) ∙ or_none _
        | false ↦ λ t. at ∙ ap (λ b. cond b None (get rest (q, l))) t ∙ get-joined es q l
      ] refl

  pub get-nested : (m : BTreeMap K (BTreeMap L X)) (q : K) (l : L) → get (nested R S m) (q, l) ≡ inner_get (λ m. tree.get S m l) (tree.get R m q)
  get-nested m q l = get-joined m.entries q l

  -- a write in the inner map of one key
  pub nested_updates : (m n : BTreeMap K (BTreeMap L X)) (k : K) (l : L) (inner : BTreeMap L X) (v : Option X)
      → ((q : K) → tree.get R n q ≡ cond (is_at (R k) q) (Some inner) (tree.get R m q))
      → ((j : L) → tree.get S inner j ≡ cond (is_at (S l) j) v (inner_get (λ m. tree.get S m j) (tree.get R m k)))
      → IsKeyOrder S
      → nested R S n ≡ set (nested R S m) (k, l) v
  nested_updates m n k l inner v outside within s = same p _ _ (λ q.
      get-nested n q.0 q.1
      ∙ ap (inner_get (λ m. tree.get S m q.1)) (outside q.0)
      ∙ ap (λ b. inner_get (λ m. tree.get S m q.1) (cond b (Some inner) (tree.get R m q.0))) ((eq_by_cmp_equiv o.total).symm k q.0)
      ∙ sym (inner_cond (λ m. tree.get S m q.1) (eq_by_cmp R q.0 k) inner (tree.get R m q.0))
      ∙ ap (λ z. cond (eq_by_cmp R q.0 k) z (inner_get (λ m. tree.get S m q.1) (tree.get R m q.0)))
      (within q.1 ∙ ap (λ b. cond b v (inner_get (λ m. tree.get S m q.1) (tree.get R m k))) ((eq_by_cmp_equiv s.total).symm l q.1))
      ∙ here q
      ∙ ap (λ b. cond b v (inner_get (λ m. tree.get S m q.1) (tree.get R m q.0))) (sym (pair_eq (R q.0 k) (S q.1 l)))
      ∙ ap (cond (eq_by_cmp (pair_cmp R S) q (k, l)) v) (sym (get-nested m q.0 q.1))
      ∙ sym (get-set p (nested R S m) (k, l) v q))
    where
      here : (q : K × L) → cond (eq_by_cmp R q.0 k) (cond (eq_by_cmp S q.1 l) v (inner_get (λ m. tree.get S m q.1) (tree.get R m k)))
          (inner_get (λ m. tree.get S m q.1) (tree.get R m q.0)) ≡ cond (eq_by_cmp R q.0 k && eq_by_cmp S q.1 l) v
          (inner_get (λ m. tree.get S m q.1) (tree.get R m q.0))
      here q =
          elim (eq_by_cmp R q.0 k) as (λ b. eq_by_cmp R q.0 k ≡ b
          → cond b (cond (eq_by_cmp S q.1 l) v (inner_get (λ m. tree.get S m q.1) (tree.get R m k)))
          (inner_get (λ m. tree.get S m q.1) (tree.get R m q.0)) ≡ cond (b && eq_by_cmp S q.1 l) v
          (inner_get (λ m. tree.get S m q.1) (tree.get R m q.0))) [
            | true ↦ λ t. ap (λ x. cond (eq_by_cmp S q.1 l) v (inner_get (λ m. tree.get S m q.1) (tree.get R m x))) (sym (same_key o q.0 k t))
            | false ↦ λ t. refl
          ] refl

  -- a write that leaves what the inner map holds
  pub nested_kept : (m n : BTreeMap K (BTreeMap L X)) (k : K) (inner : BTreeMap L X)
      → ((q : K) → tree.get R n q ≡ cond (is_at (R k) q) (Some inner) (tree.get R m q))
      → ((j : L) → tree.get S inner j ≡ inner_get (λ m. tree.get S m j) (tree.get R m k))
      → nested R S n ≡ nested R S m
  nested_kept m n k inner outside within = same p _ _ (λ q.
      get-nested n q.0 q.1
      ∙ ap (inner_get (λ m. tree.get S m q.1)) (outside q.0)
      ∙ elim (is_at (R k) q.0) as (λ b. is_at (R k) q.0 ≡ b
      → inner_get (λ m. tree.get S m q.1) (cond b (Some inner) (tree.get R m q.0)) ≡ inner_get (λ m. tree.get S m q.1) (tree.get R m q.0)) [
        | true ↦ λ t. within q.1 ∙ ap (λ x. inner_get (λ m. tree.get S m q.1) (tree.get R m x)) (same_key o k q.0 t)
        | false ↦ λ t. refl
      ] refl
      ∙ sym (get-nested m q.0 q.1))
