-- Laws of the writes of finite maps whose order is total and ties only equal keys.
use Rattle.std.proofs.Common.{◌≡◌, true, false, cond, List, [], ◌∷◌, refl, sym, ap, subst, ◌∙◌}
use Rattle.std.specs.Prelude.{Option, None, Some}
use Rattle.std.specs.declared.cmp.Ordering.{Ordering}
use Rattle.std.specs.declared.cmp.Ordering.TheVariants.{Less, Equal, Greater}
use Rattle.std.specs.Ordering.{eq_by_cmp, is_eq}
use Rattle.std.specs.Cmp.{IsTotalOrder, tied_itself}
use Rattle.std.specs.FinMap.{FinMap, get, IsAntisymmetric, same_map, get-insert, get-remove}
use Rattle.finite_maps.specs.Maps.{set, set_all}

-- an order that is total and ties only equal keys
pub record IsKeyOrder {K : Type 0} (R : K → K → Ordering) : Type 0 where
  pub total : IsTotalOrder R
  pub exact : IsAntisymmetric R

module _ {K : Type 0} {R : K → K → Ordering} (o : IsKeyOrder R) where
  pub same_key : (x y : K) → eq_by_cmp R x y ≡ true → x ≡ y
  same_key x y e =
      elim (R x y) as (λ r. R x y ≡ r → is_eq r ≡ true → x ≡ y) [
        | Less ↦ λ _ h. cc
        | Equal ↦ λ p _. o.exact x y p
        | Greater ↦ λ _ h. cc
      ] refl e

  pub own_key : (x : K) → eq_by_cmp R x x ≡ true
  own_key x = ap is_eq (tied_itself o.total x)

  -- by cases on whether the key is k
  pub by_key : (P : K → Type 0) (k q : K) → P k → (eq_by_cmp R q k ≡ false → P q) → P q
  by_key P k q here there =
      elim (eq_by_cmp R q k) as (λ b. eq_by_cmp R q k ≡ b → P q) [
        | true ↦ λ e. subst P (sym (same_key q k e)) here
        | false ↦ there
      ] refl

module _ {K X : Type 0} {R : K → K → Ordering} (o : IsKeyOrder R) where
  pub get-set : (m : FinMap R X) (k : K) (v : Option X) (q : K) → get (set m k v) q ≡ cond (eq_by_cmp R q k) v (get m q)
  get-set m k None q = get-remove o.total m k q
  get-set m k (Some v) q = get-insert o.total m k v q

  pub get-set_same : (m : FinMap R X) (k : K) (v : Option X) → get (set m k v) k ≡ v
  get-set_same m k v = get-set m k v k ∙ ap (λ b. cond b v (get m k)) (own_key o k)

  pub get-set_other : (m : FinMap R X) (k : K) (v : Option X) (q : K) → eq_by_cmp R q k ≡ false → get (set m k v) q ≡ get m q
  get-set_other m k v q e = get-set m k v q ∙ ap (λ b. cond b v (get m q)) e

  -- two maps with the same values are one
  pub same : (m n : FinMap R X) → ((q : K) → get m q ≡ get n q) → m ≡ n
  same = same_map o.total o.exact

  -- to write the old value back undoes a write
  pub set_back : (m : FinMap R X) (k : K) (old new : Option X) → get m k ≡ old → set (set m k new) k old ≡ m
  set_back m k old new was = same _ _ (λ q.
      by_key o (λ q. get (set (set m k new) k old) q ≡ get m q) k q
      (get-set_same (set m k new) k old ∙ sym was)
      (λ apart. get-set_other (set m k new) k old q apart ∙ get-set_other m k new q apart))

  -- to write what is there changes nothing
  pub set_here : (m : FinMap R X) (k : K) (v : Option X) → get m k ≡ v → set m k v ≡ m
  set_here m k v was = same _ _ (λ q.
      by_key o (λ q. get (set m k v) q ≡ get m q) k q (get-set_same m k v ∙ sym was) (λ apart. get-set_other m k v q apart))

  -- the later of two writes of one key counts
  pub set_twice : (m : FinMap R X) (k : K) (v w : Option X) → set (set m k v) k w ≡ set m k w
  set_twice m k v w = same _ _ (λ q.
      by_key o (λ q. get (set (set m k v) k w) q ≡ get (set m k w) q) k q
      (get-set_same (set m k v) k w ∙ sym (get-set_same m k w))
      (λ apart. get-set_other (set m k v) k w q apart ∙ get-set_other m k v q apart ∙ sym (get-set_other m k w q apart)))

  -- writes of two keys commute
  pub set_swap : (m : FinMap R X) (k l : K) (v w : Option X) → eq_by_cmp R l k ≡ false → set (set m k v) l w ≡ set (set m l w) k v
  set_swap m k l v w apart = same _ _ (λ q.
      get-set (set m k v) l w q ∙ ap (cond (eq_by_cmp R q l) w) (get-set m k v q)
      ∙ by_key o (λ q. cond (eq_by_cmp R q l) w (cond (eq_by_cmp R q k) v (get m q)) ≡ cond (eq_by_cmp R q k) v (cond (eq_by_cmp R q l) w (get m q))) l q
      (ap (λ b. cond (eq_by_cmp R l l) w (cond b v (get m l))) apart ∙ sym (ap (λ b. cond b v (cond (eq_by_cmp R l l) w (get m l))) apart))
      (λ e. ap (λ b. cond b w (cond (eq_by_cmp R q k) v (get m q))) e ∙ sym (ap (λ b. cond (eq_by_cmp R q k) v (cond b w (get m q))) e))
      ∙ sym (get-set (set m l w) k v q ∙ ap (cond (eq_by_cmp R q k) v) (get-set m l w q)))

  -- two writes undone
  pub set_two_back : (m : FinMap R X) (k l : K) (was was' v w : Option X) → eq_by_cmp R k l ≡ false → get m k ≡ was → get m l ≡ was'
      → set (set (set (set m k v) l w) k was) l was' ≡ m
  set_two_back m k l was was' v w apart is is' =
      ap (λ x. set x l was') (set_swap (set m k v) l k w was apart ∙ ap (λ x. set x l w) (set_back m k was v is))
      ∙ set_back m l was' w is'

  -- what h reads at a key is the same after the same writes
  pub set_all_alike : {B : Type 0} (h : Option X → B) (ws : List (K × Option X)) (m n : FinMap R X) (q : K) → h (get m q) ≡ h (get n q)
      → h (get (set_all m ws) q) ≡ h (get (set_all n ws) q)
  set_all_alike h [] m n q e = e
  set_all_alike h (w ∷ ws) m n q e =
      set_all_alike h ws (set m w.0 w.1) (set n w.0 w.1) q
      (ap h (get-set m w.0 w.1 q)
      ∙ elim (eq_by_cmp R q w.0) as (λ b. h (cond b w.1 (get m q)) ≡ h (cond b w.1 (get n q))) [ true ↦ refl | false ↦ e ]
      ∙ sym (ap h (get-set n w.0 w.1 q)))
