-- A list in order is known by the rank of each of its elements.
use Rattle.std.proofs.Common.{◌≡◌, ℕ, ◌+◌, ◌≤◌, suc, zero, Bool, true, false, cond, not, List, [], ◌∷◌, refl, sym, ap, subst, ◌∙◌, ◌||◌, arith, length}
use Rattle.std.specs.Prelude.{Option, None, Some}
use Rattle.std.specs.List.{list_any, filter, insert, AllByRecursion}
use Rattle.std.specs.declared.cmp.Ordering.{Ordering}
use Rattle.std.specs.declared.cmp.Ordering.TheVariants.{Less, Equal, Greater}
use Rattle.std.specs.Ordering.{is_lt, ordering_reverse}
use Rattle.std.specs.Cmp.{tied_itself}
use Rattle.std.proofs.lemmas.Bool.{or_right}
use Rattle.finite_maps.specs.Equal.{text_eq}
use Rattle.finite_maps.specs.Maps.{tally}
use Rattle.finite_maps.specs.Sorts.{in_order}
use Rattle.finite_maps.proofs.Cases.{not_so, true_false, or_first, or_second}
use Rattle.finite_maps.proofs.EqualLaws.{apart, text_equality}
use Rattle.finite_maps.proofs.SortLaws.{Rises, rises-in_order, tally-in_order}
use Rattle.model_state.specs.declared.entry.Entry.{Entry}
use Rattle.model_state.specs.Keys.{IdBytes}
use Rattle.model_state.specs.Listing.{entry_cmp}
use Rattle.model_state.proofs.Orders.{entry_order}
use Rattle.edit_steps.specs.Spot.{spot}
use Rattle.edit_steps.specs.References.{without_entry, stands_at}
use Rattle.edit_steps.specs.Standing.{ids_of, reranked, StandsAt}
use Rattle.edit_steps.proofs.Lists.{Apart, apart_from, any-in_order, all-in_order}
use Rattle.edit_steps.proofs.LinkEdits.{none_without, all_filter}
use Rattle.edit_steps.proofs.SpotOrder.{spot_opens}

-- the rank of each element that is in a list
abbrev pub Ranking : Type 0
Ranking = IdBytes → Option ℕ

-- the element is in the list
abbrev pub has_id : IdBytes → List Entry → Bool
has_id e xs = list_any (λ (x : Entry). text_eq e x.id) xs

-- the entries have these ranks
abbrev pub AllHeld : Ranking → List Entry → Type 0
AllHeld g xs = AllByRecursion (λ (x : Entry). g x.id ≡ Some x.rank) xs

-- the list has the elements that have a rank, each once, in order
pub record Tells (g : Ranking) (xs : List Entry) : Type 0 where
  pub up : Rises entry_cmp xs
  pub once : Apart xs
  pub held : AllHeld g xs
  pub has : (y : IdBytes) (r : ℕ) → g y ≡ Some r → has_id y xs ≡ true

-- ---- there is one such list
neither : (o : Ordering) → is_lt o ≡ false → is_lt (ordering_reverse o) ≡ false → o ≡ Equal
neither Less g h = cc
neither Equal g h = refl
neither Greater g h = cc

other_or : (b c : Bool) → b || c ≡ true → b ≡ false → c ≡ true
other_or true c h g = cc
other_or false c h g = h

not_below : (x : Entry) → is_lt (entry_cmp x x) ≡ false
not_below x = ap is_lt (tied_itself entry_order.total x)

same_entry : (g : Ranking) (x y : Entry) → g x.id ≡ Some x.rank → g y.id ≡ Some y.rank → text_eq x.id y.id ≡ true → x ≡ y
same_entry g x y here there same =
    let id = text_equality.exact x.id y.id same in
    let rank = same_number x.rank y.rank (sym here ∙ ap g id ∙ there) in
    λ i. record { rank = rank i; id = id i }
  where
    same_number : (n k : ℕ) → Some n ≡ Some k → n ≡ k
    same_number n k e = cc

low : (g : Ranking) (x y : Entry) (zs : List Entry) → g x.id ≡ Some x.rank → AllHeld g zs → AllByRecursion (λ z. is_lt (entry_cmp z y) ≡ false) zs
    → has_id x.id zs ≡ true → is_lt (entry_cmp x y) ≡ false
low g x y [] here held above is = cc
low g x y (z ∷ zs) here held above is =
    elim (text_eq x.id z.id) as (λ b. text_eq x.id z.id ≡ b → is_lt (entry_cmp x y) ≡ false) [
      | true ↦ λ same. subst (λ (w : Entry). is_lt (entry_cmp w y) ≡ false) (sym (same_entry g x z here held.0 same)) above.0
      | false ↦ λ differ. low g x y zs here held.1 above.1 (other_or (text_eq x.id z.id) _ is differ)
    ] refl

-- the ranking without an element
abbrev but : IdBytes → Ranking → Ranking
but e g y = cond (text_eq e y) None (g y)

held_but : (g : Ranking) (e : IdBytes) (xs : List Entry) → has_id e xs ≡ false → AllHeld g xs → AllHeld (but e g) xs
held_but g e [] far held = tt
held_but g e (x ∷ xs) far held =
    (ap (λ b. cond b None (g x.id)) (or_first (text_eq e x.id) _ far) ∙ held.0, held_but g e xs (or_second (text_eq e x.id) _ far) held.1)

tail_tells : (g : Ranking) (x : Entry) (xs : List Entry) → Tells g (x ∷ xs) → Tells (but x.id g) xs
tail_tells g x xs t = record {
  up = t.up.1;
  once = t.once.1;
  held = held_but g x.id xs t.once.0 t.held.1;
  has = λ y r.
      elim (text_eq x.id y) as (λ b. text_eq x.id y ≡ b → cond b None (g y) ≡ Some r → has_id y xs ≡ true) [
        | true ↦ λ _ none. cc
        | false ↦ λ differ is. other_or (text_eq y x.id) _ (t.has y r is) (apart text_eq text_equality x.id y differ)
      ] refl;
}

pub one_list : (xs ys : List Entry) (g : Ranking) → Tells g xs → Tells g ys → xs ≡ ys
one_list [] [] g t u = refl
one_list [] (y ∷ ys) g t u = absurd (lost (t.has y.id y.rank u.held.0))
  where
    lost : false ≡ true → ⊥
    lost e = cc
one_list (x ∷ xs) [] g t u = absurd (lost (u.has x.id x.rank t.held.0))
  where
    lost : false ≡ true → ⊥
    lost e = cc
one_list (x ∷ xs) (y ∷ ys) g t u =
    let below : is_lt (entry_cmp x y) ≡ false = low g x y (y ∷ ys) t.held.0 u.held (not_below y, u.up.0) (u.has x.id x.rank t.held.0) in
    let above : is_lt (entry_cmp y x) ≡ false = low g y x (x ∷ xs) u.held.0 t.held (not_below x, t.up.0) (t.has y.id y.rank u.held.0) in
    let head : x ≡ y = entry_order.exact x y (neither (entry_cmp x y) below (sym (ap is_lt (entry_order.total.antisymm y x)) ∙ above)) in
    let rest : xs ≡ ys = one_list xs ys (but x.id g) (tail_tells g x xs t) (subst (λ (w : Entry). Tells (but w.id g) ys) (sym head) (tail_tells g y ys u)) in
    λ i. head i ∷ rest i

-- ---- an element is inserted into the list, and the others are renumbered
none_tallied : (p : Entry → Bool) (xs : List Entry) → list_any p xs ≡ false → tally p xs ≡ 0
none_tallied p [] h = refl
none_tallied p (x ∷ xs) h = ap (λ b. cond b 1 0 + tally p xs) (or_first (p x) _ h) ∙ ap (λ n. 0 + n) (none_tallied p xs (or_second (p x) _ h))

at_most_one : (i : IdBytes) (xs : List Entry) → Apart xs → tally (λ (x : Entry). text_eq i x.id) xs ≤ 1
at_most_one i [] once = omega arith
at_most_one i (x ∷ xs) once =
    elim (text_eq i x.id) as (λ b. text_eq i x.id ≡ b → cond b 1 0 + tally (λ (x : Entry). text_eq i x.id) xs ≤ 1) [
      | true ↦ λ same. alone _ (none_tallied (λ (x : Entry). text_eq i x.id) xs (ap (λ (w : IdBytes). has_id w xs) (text_equality.exact i x.id same) ∙ once.0))
      | false ↦ λ _. further _ (at_most_one i xs once.1)
    ] refl
  where
    alone : (n : ℕ) → n ≡ 0 → 1 + n ≤ 1
    alone n h = omega arith

    further : (n : ℕ) → n ≤ 1 → 0 + n ≤ 1
    further n h = omega arith

pub ordered_apart : (xs : List Entry) → Apart xs → Apart (in_order entry_cmp xs)
ordered_apart xs once =
    apart_from (in_order entry_cmp xs)
    (λ i. subst (λ n. n ≤ 1) (sym (tally-in_order entry_cmp (λ (x : Entry). text_eq i x.id) xs)) (at_most_one i xs once))

pub has-reranked : (y : IdBytes) (xs : List Entry) (rs : List ℕ) → has_id y (reranked xs rs) ≡ has_id y xs
has-reranked y [] rs = refl
has-reranked y (x ∷ xs) [] = refl
has-reranked y (x ∷ xs) (r ∷ rs) = ap (λ b. text_eq y x.id || b) (has-reranked y xs rs)

apart-reranked : (xs : List Entry) (rs : List ℕ) → Apart xs → Apart (reranked xs rs)
apart-reranked [] rs once = tt
apart-reranked (x ∷ xs) [] once = once
apart-reranked (x ∷ xs) (r ∷ rs) once = (has-reranked x.id xs rs ∙ once.0, apart-reranked xs rs once.1)

-- another element is in the list without one as it is in the list
pub has-without : (e y : IdBytes) (xs : List Entry) → text_eq e y ≡ false → has_id y (without_entry e xs) ≡ has_id y xs
has-without e y [] differ = refl
has-without e y (x ∷ xs) differ =
    elim (text_eq e x.id) as (λ b. text_eq e x.id ≡ b
    → has_id y (cond {A = List Entry} (not b) (x ∷ without_entry e xs) (without_entry e xs)) ≡ text_eq y x.id || has_id y xs) [
      | true ↦ λ same.
          let other : text_eq y x.id ≡ false =
          apart text_eq text_equality x.id y (ap (λ (w : IdBytes). text_eq w y) (sym (text_equality.exact e x.id same)) ∙ differ) in
          has-without e y xs differ ∙ ap (λ b. b || has_id y xs) (sym other)
      | false ↦ λ _. ap (λ b. text_eq y x.id || b) (has-without e y xs differ)
    ] refl

-- a list without an element that it doesn't have
pub without_none : (e : IdBytes) (xs : List Entry) → has_id e xs ≡ false → without_entry e xs ≡ xs
without_none e [] far = refl
without_none e (x ∷ xs) far =
    ap (λ b. cond {A = List Entry} (not b) (x ∷ without_entry e xs) (without_entry e xs)) (or_first (text_eq e x.id) _ far)
    ∙ ap (λ l. x ∷ l) (without_none e xs (or_second (text_eq e x.id) _ far))

-- a list without what doesn't pass
module _ (p : Entry → Bool) where
  far_filter : (y : IdBytes) (xs : List Entry) → has_id y xs ≡ false → has_id y (filter p xs) ≡ false
  far_filter y [] far = refl
  far_filter y (x ∷ xs) far =
      elim (p x) as (λ b. has_id y (cond {A = List Entry} b (x ∷ filter p xs) (filter p xs)) ≡ false) [
        | true ↦ ap (λ b. b || has_id y (filter p xs)) (or_first (text_eq y x.id) _ far) ∙ far_filter y xs (or_second (text_eq y x.id) _ far)
        | false ↦ far_filter y xs (or_second (text_eq y x.id) _ far)
      ]

  pub apart_filter : (xs : List Entry) → Apart xs → Apart (filter p xs)
  apart_filter [] once = tt
  apart_filter (x ∷ xs) once =
      elim (p x) as (λ b. Apart (cond {A = List Entry} b (x ∷ filter p xs) (filter p xs))) [
        | true ↦ (far_filter x.id xs once.0, apart_filter xs once.1)
        | false ↦ apart_filter xs once.1
      ]

  pub rises_filter : (xs : List Entry) → Rises entry_cmp xs → Rises entry_cmp (filter p xs)
  rises_filter [] up = tt
  rises_filter (x ∷ xs) up =
      elim (p x) as (λ b. Rises entry_cmp (cond {A = List Entry} b (x ∷ filter p xs) (filter p xs))) [
        | true ↦ (all_filter (λ y. is_lt (entry_cmp y x) ≡ false) p xs up.0, rises_filter xs up.1)
        | false ↦ rises_filter xs up.1
      ]

-- an element without which the list is one shorter
pub length_without : (e : IdBytes) (xs : List Entry) → Apart xs → has_id e xs ≡ true → length xs ≡ suc (length (without_entry e xs))
length_without e [] once is = cc
length_without e (x ∷ xs) once is =
    elim (text_eq e x.id) as (λ b. text_eq e x.id ≡ b
    → suc (length xs) ≡ suc (length (cond {A = List Entry} (not b) (x ∷ without_entry e xs) (without_entry e xs)))) [
      | true ↦ λ same. ap (λ l. suc (length l)) (sym (without_none e xs (ap (λ (w : IdBytes). has_id w xs) (text_equality.exact e x.id same) ∙ once.0)))
      | false ↦ λ differ. ap suc (length_without e xs once.1 (other_or (text_eq e x.id) _ is differ))
    ] refl

-- what stands at an index is in the list
stands_in : (e : IdBytes) (k : ℕ) (xs : List Entry) → stands_at e k xs ≡ true → has_id e xs ≡ true
stands_in e k [] at = cc
stands_in e zero (x ∷ xs) at = ap (λ b. b || has_id e xs) (flipped at)
  where
    flipped : text_eq x.id e ≡ true → text_eq e x.id ≡ true
    flipped h = ap (λ (w : IdBytes). text_eq w x.id) (sym (text_equality.exact x.id e h)) ∙ text_equality.own x.id
stands_in e (suc k) (x ∷ xs) at = or_right (text_eq e x.id) _ (stands_in e k xs at)

-- an element that stands at the index already
pub stands_still : (e : IdBytes) (k : ℕ) (xs : List Entry) → Apart xs → stands_at e k xs ≡ true → StandsAt xs xs e k
stands_still e k [] once at = cc
stands_still e zero (x ∷ xs) once at =
    let same : x.id ≡ e = text_equality.exact x.id e at in
    let far : has_id e xs ≡ false = ap (λ (w : IdBytes). has_id w xs) (sym same) ∙ once.0 in
    let own : text_eq e x.id ≡ true = ap (text_eq e) same ∙ text_equality.own e in
    let rest : without_entry e (x ∷ xs) ≡ xs =
    ap (λ b. cond {A = List Entry} (not b) (x ∷ without_entry e xs) (without_entry e xs)) own ∙ without_none e xs far in
    ap (λ i. i ∷ ids_of xs) same ∙ ap (λ l. e ∷ ids_of l) (sym rest)
stands_still e (suc k) (x ∷ xs) once at =
    let differ : text_eq e x.id ≡ false = not_so (text_eq e x.id) (λ same.
    true_false (has_id e xs) (stands_in e k xs at) (ap (λ (w : IdBytes). has_id w xs) (text_equality.exact e x.id same) ∙ once.0)) in
    let rest : without_entry e (x ∷ xs) ≡ x ∷ without_entry e xs =
    ap (λ b. cond {A = List Entry} (not b) (x ∷ without_entry e xs) (without_entry e xs)) differ in
    ap (λ l. x.id ∷ l) (stands_still e k xs once.1 at) ∙ ap (λ l. insert (ids_of l) (suc k) e) (sym rest)

module _ (g h : Ranking) (xs zs others : List Entry) (rs : List ℕ) (e : IdBytes) (r : ℕ) where
  -- the list after has the others with their new ranks, and the element with its own
  pub record Comes : Type 0 where
    pub old : Tells g xs
    pub new : Tells h zs
    pub are : without_entry e xs ≡ others
    pub here : h e ≡ Some r
    pub held : AllHeld h (reranked others rs)
    pub still : (y : IdBytes) → text_eq e y ≡ false → has_id y others ≡ false → h y ≡ g y

  abbrev all : List Entry
  all = record { rank = r; id = e } ∷ reranked others rs

  module _ (c : Comes) where
    far : has_id e others ≡ false
    far = subst (λ l. has_id e l ≡ false) c.are (none_without e xs)

    among : (y : IdBytes) (s : ℕ) → h y ≡ Some s → text_eq e y ≡ false → has_id y others ≡ true
    among y s is differ =
        elim (has_id y others) as (λ b. has_id y others ≡ b → b ≡ true) [
          | true ↦ λ _. refl
          | false ↦ λ none. absurd (true_false (has_id y others)
              (ap (has_id y) (sym c.are) ∙ has-without e y xs differ ∙ c.old.has y s (sym (c.still y differ none) ∙ is)) none)
        ] refl

    there : (y : IdBytes) (s : ℕ) → h y ≡ Some s → text_eq y e || has_id y (reranked others rs) ≡ true
    there y s is =
        elim (text_eq y e) as (λ b. text_eq y e ≡ b → b || has_id y (reranked others rs) ≡ true) [
          | true ↦ λ _. refl
          | false ↦ λ differ. has-reranked y others rs ∙ among y s is (apart text_eq text_equality y e differ)
        ] refl

    pub comes : zs ≡ in_order entry_cmp (record { rank = r; id = e } ∷ reranked others rs)
    comes = one_list zs (in_order entry_cmp all) h c.new (record {
      up = rises-in_order entry_order all;
      once = ordered_apart all (
        has-reranked e others rs ∙ far,
        apart-reranked others rs (subst Apart c.are (apart_filter (λ (x : Entry). not (text_eq e x.id)) xs c.old.once)),
      );
      held = all-in_order entry_cmp (λ (x : Entry). h x.id ≡ Some x.rank) all (c.here, c.held);
      has = λ y s is. any-in_order entry_cmp (λ (x : Entry). text_eq y x.id) all ∙ there y s is;
    })

-- with the ranks of the spot at an index of the others, the element stands there
pub stands : (g h : Ranking) (xs zs others : List Entry) (e : IdBytes) (k r : ℕ) → Comes g h xs zs others (spot others k).ranks e r
    → k ≤ length others → (spot others k).rank ≡ Some r → StandsAt xs zs e k
stands g h xs zs others e k r c le is =
    ap ids_of (comes g h xs zs others (spot others k).ranks e r c)
    ∙ spot_opens others k r e (subst (Rises entry_cmp) c.are (rises_filter (λ (x : Entry). not (text_eq e x.id)) xs c.old.up)) le is
    ∙ ap (λ l. insert (ids_of l) k e) (sym c.are)
