-- What maps that are read off another map answer, and how they change.
use Rattle.std.proofs.Common.{◌≡◌, Bool, true, false, cond, List, [], ◌∷◌, ◌++◌, map, refl, sym, ap, subst, ◌∙◌, ◌||◌}
use Rattle.std.specs.Prelude.{Option, None, Some, is_some}
use Rattle.std.specs.Option.{option_map}
use Rattle.std.specs.List.{list_any}
use Rattle.std.specs.declared.cmp.Ordering.{Ordering}
use Rattle.std.specs.Ordering.{eq_by_cmp}
use Rattle.std.specs.FinMap.{FinMap, get, entries, keys, contains_key-keys, get-entries, find}
use Rattle.finite_maps.specs.Maps.{set}
use Rattle.finite_maps.proofs.MapLaws.{IsKeyOrder, same, get-set, same_key, own_key, by_key}
use Rattle.spread_maps.proofs.TabulateLaws.{get-tabulate}
use Rattle.spread_maps.specs.Spread.{mapped, inner, inner_keys, Joined, spread}

pub none_of : {A : Type 0} (o : Option A) → is_some o ≡ false → o ≡ None
none_of None h = refl
none_of (Some x) h = cc

over : {X Y : Type 0} (h : X → Y) (b : Bool) (w o : Option X) → option_map h (cond b w o) ≡ cond b (option_map h w) (option_map h o)
over h true w o = refl
over h false w o = refl

module _ {K N X : Type 0} {R : K → K → Ordering} (o : IsKeyOrder R) (h : N → X) where
  pub get-mapped : (m : FinMap R N) (q : K) → get (mapped h m) q ≡ option_map h (get m q)
  get-mapped m q = get-tabulate o (λ k. option_map h (get m k)) (keys m) (λ k none. ap (option_map h) (none_of (get m k) (contains_key-keys m k ∙ none))) q

  pub mapped-set : (m : FinMap R N) (k : K) (w : Option N) → mapped h (set m k w) ≡ set (mapped h m) k (option_map h w)
  mapped-set m k w = same o _ _ (λ q.
      get-mapped (set m k w) q ∙ ap (option_map h) (get-set o m k w q) ∙ over h (eq_by_cmp R q k) w (get m q)
      ∙ ap (cond (eq_by_cmp R q k) (option_map h w)) (sym (get-mapped m q)) ∙ sym (get-set o (mapped h m) k (option_map h w) q))

any_left : {A : Type 0} (p : A → Bool) (xs ys : List A) → list_any p xs ≡ true → list_any p (xs ++ ys) ≡ true
any_left p [] ys h = cc
any_left p (x ∷ xs) ys h =
    elim (p x) as (λ b. (b || list_any p xs) ≡ true → (b || list_any p (xs ++ ys)) ≡ true) [
      | true ↦ λ _. refl
      | false ↦ λ g. any_left p xs ys g
    ] h

any_right : {A : Type 0} (p : A → Bool) (xs ys : List A) → list_any p ys ≡ true → list_any p (xs ++ ys) ≡ true
any_right p [] ys h = h
any_right p (x ∷ xs) ys h = elim (p x) as (λ b. (b || list_any p (xs ++ ys)) ≡ true) [ true ↦ refl | false ↦ any_right p xs ys h ]

or_first : (a b : Bool) → a ≡ true → (a || b) ≡ true
or_first a b h = ap (λ x. x || b) h

or_second : (a b : Bool) → b ≡ true → (a || b) ≡ true
or_second true b h = refl
or_second false b h = h

-- the two parts of a key make it
pub record IsJoined {E L K : Type 0} (j : Joined E L K) : Type 0 where
  pub whole : (k : K) → j.both (j.first k) (j.second k) ≡ k
  pub first_is : (e : E) (l : L) → j.first (j.both e l) ≡ e
  pub second_is : (e : E) (l : L) → j.second (j.both e l) ≡ l

module _ {E N L X K : Type 0} {P : E → E → Ordering} {Q : L → L → Ordering} {R : K → K → Ordering} (p : IsKeyOrder P) (o : IsKeyOrder Q)
    (r : IsKeyOrder R) (j : Joined E L K) (jj : IsJoined j) (part : N → FinMap Q X) where
  listed_here : (ys : List (L × X)) (e : E) (l : L) (v : X) → find Q l ys ≡ Some v
      → list_any (eq_by_cmp R (j.both e l)) (map {B = K} (λ y. j.both e y.0) ys) ≡ true
  listed_here [] e l v h = cc
  listed_here (y ∷ ys) e l v h =
      elim (eq_by_cmp Q l y.0) as (λ b. eq_by_cmp Q l y.0 ≡ b → cond b (Some y.1) (find Q l ys) ≡ Some v
      → list_any (eq_by_cmp R (j.both e l)) (map {B = K} (λ y. j.both e y.0) (y ∷ ys)) ≡ true) [
        | true ↦ λ is _. or_first (eq_by_cmp R (j.both e l) (j.both e y.0)) (list_any (eq_by_cmp R (j.both e l)) (map {B = K} (λ y. j.both e y.0) ys))
            (subst (λ x. eq_by_cmp R (j.both e l) (j.both e x) ≡ true) (same_key o l y.0 is) (own_key r (j.both e l)))
        | false ↦ λ is rest. or_second (eq_by_cmp R (j.both e l) (j.both e y.0))
            (list_any (eq_by_cmp R (j.both e l)) (map {B = K} (λ y. j.both e y.0) ys)) (listed_here ys e l v rest)
      ] refl h

  listed : (es : List (E × N)) (e : E) (n : N) (l : L) (v : X) → find P e es ≡ Some n → find Q l (entries (part n)) ≡ Some v
      → list_any (eq_by_cmp R (j.both e l)) (inner_keys j.both part es) ≡ true
  listed [] e n l v h g = cc
  listed (x ∷ es) e n l v h g =
      elim (eq_by_cmp P e x.0) as (λ b. eq_by_cmp P e x.0 ≡ b → cond b (Some x.1) (find P e es) ≡ Some n
      → list_any (eq_by_cmp R (j.both e l)) (inner_keys j.both part (x ∷ es)) ≡ true) [
        | true ↦ λ is here. any_left (eq_by_cmp R (j.both e l)) (map {B = K} (λ y. j.both x.0 y.0) (entries (part x.1))) (inner_keys j.both part es)
            (subst (λ z. list_any (eq_by_cmp R (j.both e l)) (map {B = K} (λ y. j.both z y.0) (entries (part x.1))) ≡ true) (same_key p e x.0 is)
            (listed_here (entries (part x.1)) e l v (ap (λ n. find Q l (entries (part n))) (one_node x.1 n here) ∙ g)))
        | false ↦ λ is rest. any_right (eq_by_cmp R (j.both e l)) (map {B = K} (λ y. j.both x.0 y.0) (entries (part x.1))) (inner_keys j.both part es)
            (listed es e n l v rest g)
      ] refl h
    where
      one_node : (x y : N) → Some x ≡ Some y → x ≡ y
      one_node x y e = cc

  unlisted : (m : FinMap P N) (q : K) → list_any (eq_by_cmp R q) (inner_keys j.both part (entries m)) ≡ false
      → inner part (get m (j.first q)) (j.second q) ≡ None
  unlisted m q none =
      elim (get m (j.first q)) as (λ a. get m (j.first q) ≡ a → inner part a (j.second q) ≡ None) [
        | None ↦ λ _. refl
        | Some n ↦ λ is. elim (get (part n) (j.second q)) as (λ a. get (part n) (j.second q) ≡ a → a ≡ None) [
          | None ↦ λ _. refl
          | Some v ↦ λ there. absurd
              (clash _ (subst (λ k. list_any (eq_by_cmp R k) (inner_keys j.both part (entries m)) ≡ true) (jj.whole q)
              (listed (entries m) (j.first q) n (j.second q) v (sym (get-entries m (j.first q)) ∙ is)
              (sym (get-entries (part n) (j.second q)) ∙ there))) none)
        ] refl
      ] refl
    where
      clash : (b : Bool) → b ≡ true → b ≡ false → ⊥
      clash b h g = cc

  pub get-spread : (m : FinMap P N) (q : K) → get (spread R j part m) q ≡ inner part (get m (j.first q)) (j.second q)
  get-spread m q = get-tabulate r (λ k. inner part (get m (j.first k)) (j.second k)) (inner_keys j.both part (entries m)) (unlisted m) q

  -- another node with the same part
  pub spread_alike : (m : FinMap P N) (k : E) (w : Option N) → ((l : L) → inner part w l ≡ inner part (get m k) l)
      → spread R j part (set m k w) ≡ spread R j part m
  spread_alike m k w h = same r _ _ (λ q.
      get-spread (set m k w) q
      ∙ by_key p (λ e. inner part (get (set m k w) e) (j.second q) ≡ inner part (get m e) (j.second q)) k (j.first q)
      (ap (λ a. inner part a (j.second q)) (get-set p m k w k ∙ ap (λ b. cond b w (get m k)) (own_key p k)) ∙ h (j.second q))
      (λ differ. ap (λ a. inner part a (j.second q)) (get-set p m k w (j.first q) ∙ ap (λ b. cond b w (get m (j.first q))) differ))
      ∙ sym (get-spread m q))

  -- another node with one entry of its part written
  pub spread-set : (m : FinMap P N) (k : E) (w : Option N) (l : L) (v : Option X)
      → ((i : L) → inner part w i ≡ cond (eq_by_cmp Q i l) v (inner part (get m k) i))
      → spread R j part (set m k w) ≡ set (spread R j part m) (j.both k l) v
  spread-set m k w l v h = same r _ _ (λ q.
      get-spread (set m k w) q
      ∙ elim (eq_by_cmp R q (j.both k l)) as (λ b. eq_by_cmp R q (j.both k l) ≡ b
      → inner part (get (set m k w) (j.first q)) (j.second q) ≡ cond b v (inner part (get m (j.first q)) (j.second q))) [
        | true ↦ λ is.
            let whole : q ≡ j.both k l = same_key r q (j.both k l) is in
            let first : j.first q ≡ k = ap j.first whole ∙ jj.first_is k l in
            let second : j.second q ≡ l = ap j.second whole ∙ jj.second_is k l in
            (λ i. inner part (get (set m k w) (first i)) (second i))
            ∙ ap (λ a. inner part a l) (get-set p m k w k ∙ ap (λ b. cond b w (get m k)) (own_key p k))
            ∙ h l ∙ ap (λ b. cond b v (inner part (get m k) l)) (own_key o l)
        | false ↦ λ differ.
            ap (λ a. inner part a (j.second q)) (get-set p m k w (j.first q))
            ∙ elim (eq_by_cmp P (j.first q) k) as (λ b. eq_by_cmp P (j.first q) k ≡ b
            → inner part (cond b w (get m (j.first q))) (j.second q) ≡ inner part (get m (j.first q)) (j.second q)) [
              | true ↦ λ is.
                  let first : j.first q ≡ k = same_key p (j.first q) k is in
                  h (j.second q)
                  ∙ elim (eq_by_cmp Q (j.second q) l) as (λ b. eq_by_cmp Q (j.second q) l ≡ b
                  → cond b v (inner part (get m k) (j.second q)) ≡ inner part (get m k) (j.second q)) [
                    | true ↦ λ one. absurd
                        (clash _ (subst (λ x. eq_by_cmp R q x ≡ true) (sym (jj.whole q) ∙ (λ i. j.both (first i) (same_key o (j.second q) l one i)))
                        (own_key r q)) differ)
                    | false ↦ λ _. refl
                  ] refl
                  ∙ ap (λ e. inner part (get m e) (j.second q)) (sym first)
              | false ↦ λ _. refl
            ] refl
      ] refl
      ∙ ap (cond (eq_by_cmp R q (j.both k l)) v) (sym (get-spread m q)) ∙ sym (get-set r (spread R j part m) (j.both k l) v q))
    where
      clash : (b : Bool) → b ≡ true → b ≡ false → ⊥
      clash b h g = cc
