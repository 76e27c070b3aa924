-- What an index keeps as operations are added and removed, and the last that touches another.
use Rattle.std.proofs.Common.{◌≡◌, ℕ, zero, suc, ◌-◌, ◌<◌, ◌≤◌, Bool, true, false, ◌||◌, ◌&&◌, ◌%◌, nat_eq, List, [], ◌∷◌, ◌++◌, refl, sym, ap, subst}
use Rattle.std.proofs.Common.{inl, inr, ◌∙◌, length, get_or, set, arith, length-set, length-append}
use Rattle.std.specs.Prelude.{◌⊎◌}
use Rattle.std.specs.List.{Contains}
use Rattle.std.specs.declared.vec.Vec.{Vec}
use Rattle.std.specs.declared.alloc.Global.{Global}
use Rattle.std.proofs.lemmas.Bool.{eqb-true}
use Rattle.finite_maps.proofs.Cases.{true_false, not_so}
use Rattle.footprint.specs.declared.cell.Cell.{Cell as Held}
use Rattle.footprint.specs.declared.cell.Print.{Print}
use Rattle.footprint.specs.Interference.{meets, cells_interfere}
use Rattle.footprint.specs.Prints.{seen, cells}
use Rattle.cell_index.specs.Keys.{cell_key}
use Rattle.cell_index.specs.Near.{list_at, row_of, Listed, Wider}
use Rattle.cell_index.specs.Standing.{is_none, prints_touch, Hit, LastHit, Rise, Rising, Without, ListsStanding}
use Rattle.cell_index.specs.declared.staying.Standing.{Standing}
use Rattle.cell_index.proofs.Rows.{same_or_not, row_kept}
use Rattle.cell_index.proofs.Far.{apart, row_same}
use Rattle.cell_index.proofs.Rises.{rise_more}

-- ---- prints that touch
none_length : (list : List Held) → is_none (cells list) ≡ nat_eq (length list) 0
unfolding cells
none_length [] = refl
none_length (h ∷ list) = sym (not_so (nat_eq (suc (length list)) 0) (λ yes. suc_zero (length list) (eqb-true (suc (length list)) 0 yes)))
  where
    suc_zero : (n : ℕ) → suc n ≡ 0 → ⊥
    suc_zero n e = omega (arith, e)

none_of : (list : List Held) → length list ≡ 0 → is_none (cells list) ≡ true
unfolding cells
none_of [] h = refl
none_of (c ∷ list) h = absurd (omega (arith, h))

pub length_none : (list : List Held) → is_none (cells list) ≡ true → length list ≡ 0
unfolding cells
length_none [] h = refl
length_none (c ∷ list) h = absurd (true_false false h refl)

module _ (p q : Print) (hit : Bool) (n : ℕ) (tells : hit ≡ cells_interfere (cells p.writes) (cells p.reads) (cells q.writes) (cells q.reads))
    (out : hit ≡ false) (size : n ≡ length p.writes) where
  pub touch_both : (m : ℕ) → n ≡ 0 → m ≡ length q.writes → nat_eq m 0 ≡ prints_touch p q
  touch_both m none many =
      let second : is_none (cells q.writes) ≡ nat_eq m 0 = none_length q.writes ∙ ap (λ k. nat_eq k 0) (sym many) in
      let first : is_none (cells p.writes) ≡ true = none_of p.writes (sym size ∙ none) in
      sym (λ i. (sym tells ∙ out) i || (first i && second i))

  pub touch_not : (n ≡ 0 → ⊥) → nat_eq n 0 ≡ prints_touch p q
  touch_not some =
      let first : is_none (cells p.writes) ≡ false = not_so (is_none (cells p.writes)) (λ none. some (size ∙ length_none p.writes none)) in
      not_so (nat_eq n 0) (λ yes. some (eqb-true n 0 yes)) ∙ sym (λ i. (sym tells ∙ out) i || (first i && is_none (cells q.writes)))

-- ---- flags
flag_inside : (stands : List Bool) (k : ℕ) → get_or stands k false ≡ true → k < length stands
flag_inside [] k h = absurd (true_false false h refl)
flag_inside (b ∷ stands) zero h = omega arith
flag_inside (b ∷ stands) (suc k) h = let rest = flag_inside stands k h in omega (arith, rest)

flag_pushed : (stands : List Bool) (k : ℕ) → get_or (stands ++ true ∷ []) k false ≡ true → (get_or stands k false ≡ true) ⊎ (k ≡ length stands)
flag_pushed [] zero h = inr refl
flag_pushed [] (suc k) h = inl h
flag_pushed (b ∷ stands) zero h = inl h
flag_pushed (b ∷ stands) (suc k) h = elim (flag_pushed stands k h) [ inl g ↦ inl g | inr e ↦ inr (ap suc e) ]

flag_out : (stands : List Bool) (p k : ℕ) → p < length stands → get_or (set stands p false) k false ≡ true → (get_or stands k false ≡ true) × (k ≡ p → ⊥)
flag_out [] p k low h = absurd (omega (arith, low))
flag_out (b ∷ stands) zero zero low h = absurd (true_false false h refl)
flag_out (b ∷ stands) zero (suc k) low h = (h, λ e. cc)
flag_out (b ∷ stands) (suc p) zero low h = (h, λ e. cc)
flag_out (b ∷ stands) (suc p) (suc k) low h = let rest = flag_out stands p k (omega (arith, low)) h in (rest.0, λ e. rest.1 (cc))

-- ---- the prints
pub print_same : (prints : List Print) (k : ℕ) (p q : Print) → k < length prints → get_or prints k p ≡ get_or prints k q
print_same [] k p q low = absurd (omega (arith, low))
print_same (x ∷ prints) zero p q low = refl
print_same (x ∷ prints) (suc k) p q low = print_same prints k p q (omega (arith, low))

-- ---- an operation more
listed_wider : (t made : List (Vec ℕ Global)) (cs : List Held) (k : ℕ) → Wider t made → Listed t cs k → Listed made cs k
listed_wider t made cs k w h c has_c = row_kept t made c k w (h c has_c)

module _ (old new : Standing) (prints : List Print) (q : Print) (is : ListsStanding old prints) (below : length old.stands.items < length prints)
    (q_is : q ≡ get_or prints (length old.stands.items) q)
    (stands : new.stands.items ≡ old.stands.items ++ true ∷ [])
    (w_wider : Wider old.index.writers.items new.index.writers.items) (w_listed : Listed new.index.writers.items q.writes (length old.stands.items))
    (w_rising : Rising new.index.writers.items (length old.stands.items))
    (r_wider : Wider old.index.readers.items new.index.readers.items) (r_listed : Listed new.index.readers.items q.reads (length old.stands.items))
    (r_rising : Rising new.index.readers.items (length old.stands.items))
    (i_kept : (k : ℕ) → Contains old.idle.items k → Contains new.idle.items k)
    (i_new : is_none (cells q.writes) ≡ true → Contains new.idle.items (length old.stands.items))
    (i_rise : Rise 0 (length old.stands.items) new.idle.items) where
  long : length new.stands.items ≡ suc (length old.stands.items)
  long = let made = ap length stands in let sum = length-append old.stands.items (true ∷ []) in omega (arith, made, sum)

  up : length old.stands.items ≤ length new.stands.items
  up = let e = long in omega (arith, e)

  -- the print of the new place
  here : (k : ℕ) (p : Print) → k ≡ length old.stands.items → p ≡ get_or prints k p → q ≡ p
  here k p e p_is = q_is ∙ print_same prints (length old.stands.items) q p below ∙ ap (λ n. get_or prints n p) (sym e) ∙ sym p_is

  listed : (which : Print → List Held) (t made : List (Vec ℕ Global)) → Wider t made → Listed made (which q) (length old.stands.items)
      → ((k : ℕ) (p : Print) → get_or old.stands.items k false ≡ true → p ≡ get_or prints k p → Listed t (which p) k)
      → (k : ℕ) (p : Print) → get_or new.stands.items k false ≡ true → p ≡ get_or prints k p → Listed made (which p) k
  listed which t made wider put before k p on p_is = elim (flag_pushed old.stands.items k (subst (λ l. get_or l k false ≡ true) stands on)) [
    | inl g ↦ listed_wider t made (which p) k wider (before k p g p_is)
    | inr e ↦ λ c has_c. subst (λ n. Contains (row_of made c) n) (sym e) (put c (subst (λ l. Contains l c) (ap which (sym (here k p e p_is))) has_c))
  ]

  pub put_keeps : ListsStanding new prints
  put_keeps = record {
    some_writers = let few = is.some_writers in let e = w_wider.size in omega (arith, few, e);
    some_readers = let few = is.some_readers in let e = r_wider.size in omega (arith, few, e);
    many = let e = long in omega (arith, e, below);
    rising_writers = λ s. rise_more 0 (length old.stands.items) (length new.stands.items) (list_at new.index.writers.items s) up (w_rising s);
    rising_readers = λ s. rise_more 0 (length old.stands.items) (length new.stands.items) (list_at new.index.readers.items s) up (r_rising s);
    rising_idle = rise_more 0 (length old.stands.items) (length new.stands.items) new.idle.items up i_rise;
    writers = listed (λ (p : Print). p.writes) old.index.writers.items new.index.writers.items w_wider w_listed is.writers;
    readers = listed (λ (p : Print). p.reads) old.index.readers.items new.index.readers.items r_wider r_listed is.readers;
    idle = λ k p on p_is none. elim (flag_pushed old.stands.items k (subst (λ l. get_or l k false ≡ true) stands on)) [
      | inl g ↦ i_kept k (is.idle k p g p_is none)
      | inr e ↦ subst (λ n. Contains new.idle.items n) (sym e) (i_new (subst (λ (x : Print). is_none (cells x.writes) ≡ true) (sym (here k p e p_is)) none))
    ];
  }

-- by the calls that put it
pub put_by : (old new : Standing) (prints : List Print) (q : Print) (n : ℕ) → ListsStanding old prints → length old.stands.items < length prints
    → n ≡ length old.stands.items → q ≡ get_or prints n q → new.stands.items ≡ old.stands.items ++ true ∷ []
    → (w r v : List Held) → w ≡ q.writes → r ≡ q.reads → v ≡ q.writes
    → Wider old.index.writers.items new.index.writers.items → Listed new.index.writers.items w n
    → (Rising old.index.writers.items n → Rising new.index.writers.items n)
    → Wider old.index.readers.items new.index.readers.items → Listed new.index.readers.items r n
    → (Rising old.index.readers.items n → Rising new.index.readers.items n)
    → ((k : ℕ) → Contains old.idle.items k → Contains new.idle.items k) → (is_none (cells v) ≡ true → Contains new.idle.items n)
    → (Rise 0 n old.idle.items → Rise 0 n new.idle.items) → ListsStanding new prints
put_by old new prints q n is below at q_is stands w r v w_is r_is v_is ww wl wr rw' rl rr ik il ir =
    put_keeps old new prints q is below (q_is ∙ ap (λ k. get_or prints k q) at) stands
    ww (λ h has_h. subst (Contains (row_of new.index.writers.items h)) at (wl h (subst (λ l. Contains l h) (sym w_is) has_h)))
    (subst (Rising new.index.writers.items) at (wr (subst (Rising old.index.writers.items) (sym at) is.rising_writers)))
    rw' (λ h has_h. subst (Contains (row_of new.index.readers.items h)) at (rl h (subst (λ l. Contains l h) (sym r_is) has_h)))
    (subst (Rising new.index.readers.items) at (rr (subst (Rising old.index.readers.items) (sym at) is.rising_readers)))
    ik (λ none. subst (Contains new.idle.items) at (il (ap (λ l. is_none (cells l)) v_is ∙ none)))
    (subst (λ k. Rise 0 k new.idle.items) at (ir (subst (λ k. Rise 0 k old.idle.items) (sym at) is.rising_idle)))

-- ---- an operation less
listed_without : (t made : List (Vec ℕ Global)) (cs : List Held) (k p : ℕ) → Without t made p → (k ≡ p → ⊥) → Listed t cs k → Listed made cs k
listed_without t made cs k p w other h c has_c = row_without t made c k p w other (h c has_c)
  where
    row_without : (t made : List (Vec ℕ Global)) (c : Held) (k p : ℕ) → Without t made p → (k ≡ p → ⊥) → Contains (row_of t c) k → Contains (row_of made c) k
    row_without t made c k p w other is =
        subst (λ n. Contains (list_at made (cell_key (seen c) % n)) k) (sym w.size) (w.kept (cell_key (seen c) % length t) k other is)

module _ (old new : Standing) (prints : List Print) (p : ℕ) (is : ListsStanding old prints) (low : p < length old.stands.items)
    (stands : new.stands.items ≡ set old.stands.items p false)
    (w_out : Without old.index.writers.items new.index.writers.items p) (r_out : Without old.index.readers.items new.index.readers.items p)
    (i_kept : (k : ℕ) → (k ≡ p → ⊥) → Contains old.idle.items k → Contains new.idle.items k)
    (i_rise : (high : ℕ) → Rise 0 high old.idle.items → Rise 0 high new.idle.items) where
  as_long : length new.stands.items ≡ length old.stands.items
  as_long = ap length stands ∙ length-set old.stands.items p false

  pub take_keeps : ListsStanding new prints
  take_keeps = record {
    some_writers = let few = is.some_writers in let e = w_out.size in omega (arith, few, e);
    some_readers = let few = is.some_readers in let e = r_out.size in omega (arith, few, e);
    many = let e = as_long in let m = is.many in omega (arith, e, m);
    rising_writers = subst (Rising new.index.writers.items) (sym as_long) (w_out.rising (length old.stands.items) is.rising_writers);
    rising_readers = subst (Rising new.index.readers.items) (sym as_long) (r_out.rising (length old.stands.items) is.rising_readers);
    rising_idle = subst (λ n. Rise 0 n new.idle.items) (sym as_long) (i_rise (length old.stands.items) is.rising_idle);
    writers = λ k q on q_is. let f = flag_out old.stands.items p k low (subst (λ l. get_or l k false ≡ true) stands on)
        in listed_without old.index.writers.items new.index.writers.items q.writes k p w_out f.1 (is.writers k q f.0 q_is);
    readers = λ k q on q_is. let f = flag_out old.stands.items p k low (subst (λ l. get_or l k false ≡ true) stands on)
        in listed_without old.index.readers.items new.index.readers.items q.reads k p r_out f.1 (is.readers k q f.0 q_is);
    idle = λ k q on q_is none. let f = flag_out old.stands.items p k low (subst (λ l. get_or l k false ≡ true) stands on)
        in i_kept k f.1 (is.idle k q f.0 q_is none);
  }

-- ---- the last that touches
module _ (standing : Standing) (prints : List Print) (p : Print) (at end : ℕ) (is : ListsStanding standing prints)
    (ww : (h : Held) → Contains p.writes h → (k : ℕ) → Contains (row_of standing.index.writers.items h) k → end ≤ k
    → Hit standing.stands.items prints p at k → ⊥)
    (wr : (h : Held) → Contains p.writes h → (k : ℕ) → Contains (row_of standing.index.readers.items h) k → end ≤ k
    → Hit standing.stands.items prints p at k → ⊥)
    (rw : (h : Held) → Contains p.reads h → (k : ℕ) → Contains (row_of standing.index.writers.items h) k → end ≤ k
    → Hit standing.stands.items prints p at k → ⊥)
    (ii : is_none (cells p.writes) ≡ true → (k : ℕ) → Contains standing.idle.items k → end ≤ k → Hit standing.stands.items prints p at k → ⊥) where
  none_past : (k : ℕ) → end ≤ k → Hit standing.stands.items prints p at k → ⊥
  none_past k far hit =
      let q : Print = get_or prints k p in
      let inside : k < length prints = let low = flag_inside standing.stands.items k hit.there in let m = is.many in omega (arith, low, m) in
      let q_is : q ≡ get_or prints k q = print_same prints k p q inside in
      let ws = is.writers k q hit.there q_is in
      let rs = is.readers k q hit.there q_is in
      let written : meets (cells p.writes) (cells q.writes) ≡ false =
      apart p.writes q.writes
      (λ h g a b e. ww h a k (subst (λ l. Contains l k) (sym (row_same standing.index.writers.items h g e)) (ws g b)) far hit) in
      let second : meets (cells p.writes) (cells q.reads) ≡ false =
      apart p.writes q.reads
      (λ h g a b e. wr h a k (subst (λ l. Contains l k) (sym (row_same standing.index.readers.items h g e)) (rs g b)) far hit) in
      let first : meets (cells q.writes) (cells p.reads) ≡ false =
      apart q.writes p.reads (λ h g a b e. rw g b k (subst (λ l. Contains l k) (row_same standing.index.writers.items h g e) (ws h a)) far hit) in
      let both : is_none (cells p.writes) && is_none (cells q.writes) ≡ false =
      not_so (is_none (cells p.writes) && is_none (cells q.writes))
      (λ none. ii (one_none (is_none (cells p.writes)) (is_none (cells q.writes)) none).0 k
      (is.idle k q hit.there q_is (one_none (is_none (cells p.writes)) (is_none (cells q.writes)) none).1) far hit) in
      true_false (prints_touch p q) hit.near (λ i. (written i || (second i || first i)) || both i)
    where
      one_none : (a b : Bool) → a && b ≡ true → (a ≡ true) × (b ≡ true)
      one_none true true h = (refl, refl)
      one_none true false h = cc
      one_none false b h = cc

  pub last_none : end ≡ 0 → (k : ℕ) → Hit standing.stands.items prints p at k → ⊥
  last_none e k hit = none_past k (omega (arith, e)) hit

  pub last_some : 0 < end → Hit standing.stands.items prints p at (end - 1) → LastHit standing.stands.items prints p at (end - 1)
  last_some some hit = record { hit = hit; last = λ k low h. none_past k (omega (arith, some, low)) h }

-- ---- the search, list by list
pub hit_on : (P : ℕ → Type 0) (floor mid end : ℕ) → mid ≤ end → (mid < end → P (end - 1)) → (floor < mid → P (mid - 1)) → floor < end → P (end - 1)
hit_on P floor mid end up later before low = same_or_not mid end
    (λ e. subst (λ n. P (n - 1)) e (before (omega (arith, e, low))))
    (λ f. later (omega (arith, f, up)))

module _ (standing : Standing) (prints : List Print) (p : Print) (at e1 e2 e3 e4 : ℕ) (w r : List Held) (s t u : List (Vec ℕ Global))
    (is : ListsStanding standing prints)
    (w_is : w ≡ p.writes) (r_is : r ≡ p.reads) (s_is : s ≡ standing.index.writers.items) (t_is : t ≡ standing.index.readers.items)
    (u_is : u ≡ standing.index.writers.items)
    (up2 : e1 ≤ e2) (up3 : e2 ≤ e3) (up4 : e3 ≤ e4)
    (c1 : (h : Held) → Contains w h → (k : ℕ) → Contains (row_of s h) k → e1 ≤ k → Hit standing.stands.items prints p at k → ⊥)
    (c2 : (h : Held) → Contains w h → (k : ℕ) → Contains (row_of t h) k → e2 ≤ k → Hit standing.stands.items prints p at k → ⊥)
    (c3 : (h : Held) → Contains r h → (k : ℕ) → Contains (row_of u h) k → e3 ≤ k → Hit standing.stands.items prints p at k → ⊥)
    (c4 : is_none (cells p.writes) ≡ true → (k : ℕ) → Contains standing.idle.items k → e4 ≤ k → Hit standing.stands.items prints p at k → ⊥)
    (h1 : 0 < e1 → Hit standing.stands.items prints p at (e1 - 1)) (h2 : e1 < e2 → Hit standing.stands.items prints p at (e2 - 1))
    (h3 : e2 < e3 → Hit standing.stands.items prints p at (e3 - 1)) (h4 : e3 < e4 → Hit standing.stands.items prints p at (e4 - 1))
    (at_is : p ≡ get_or prints at p) (inside : at < length prints) (q : Print) (q_is : q ≡ get_or prints at q) where
  q_same : p ≡ q
  q_same = at_is ∙ print_same prints at p q inside ∙ sym q_is

  ww : (h : Held) → Contains p.writes h → (k : ℕ) → Contains (row_of standing.index.writers.items h) k → e4 ≤ k → Hit standing.stands.items prints p at k → ⊥
  ww h in_h k in_row far hit =
      c1 h (subst (λ l. Contains l h) (sym w_is) in_h) k (subst (λ l. Contains (row_of l h) k) (sym s_is) in_row) (omega (arith, up2, up3, up4, far)) hit

  wr : (h : Held) → Contains p.writes h → (k : ℕ) → Contains (row_of standing.index.readers.items h) k → e4 ≤ k → Hit standing.stands.items prints p at k → ⊥
  wr h in_h k in_row far hit =
      c2 h (subst (λ l. Contains l h) (sym w_is) in_h) k (subst (λ l. Contains (row_of l h) k) (sym t_is) in_row) (omega (arith, up3, up4, far)) hit

  rw' : (h : Held) → Contains p.reads h → (k : ℕ) → Contains (row_of standing.index.writers.items h) k → e4 ≤ k → Hit standing.stands.items prints p at k → ⊥
  rw' h in_h k in_row far hit =
      c3 h (subst (λ l. Contains l h) (sym r_is) in_h) k (subst (λ l. Contains (row_of l h) k) (sym u_is) in_row) (omega (arith, up4, far)) hit

  pub seek_none : e4 ≡ 0 → (j : ℕ) → Hit standing.stands.items prints q at j → ⊥
  seek_none e j hit = last_none standing prints p at e4 is ww wr rw' c4 e j (subst (λ x. Hit standing.stands.items prints x at j) (sym q_same) hit)

  pub seek_some : (e4 ≡ 0 → ⊥) → LastHit standing.stands.items prints q at (e4 - 1)
  seek_some some =
      let low : 0 < e4 = omega (arith, some) in
      let P : ℕ → Type 0 = λ k. Hit standing.stands.items prints p at k in
      subst (λ x. LastHit standing.stands.items prints x at (e4 - 1)) q_same
      (last_some standing prints p at e4 is ww wr rw' c4 low (hit_on P 0 e3 e4 up4 h4 (hit_on P 0 e2 e3 up3 h3 (hit_on P 0 e1 e2 up2 h2 h1)) low))
