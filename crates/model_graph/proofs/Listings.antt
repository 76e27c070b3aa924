-- The lists of the state, from those beside each element.
use Rattle.std.proofs.Common.{◌≡◌, ℕ, Bool, true, false, cond, List, [], ◌∷◌, refl, sym, ap, ◌∙◌, map, length, suc, ◌&&◌, ◌+◌, arith}
use Rattle.std.specs.Prelude.{Option, None, Some, unwrap_or}
use Rattle.std.specs.Option.{option_map}
use Rattle.std.specs.declared.cmp.Ordering.{Ordering}
use Rattle.std.specs.declared.cmp.Ordering.TheVariants.{Less, Equal, Greater}
use Rattle.std.specs.List.{filter}
use Rattle.std.specs.Ordering.{ordering_then, nat_cmp}
use Rattle.std.specs.Cmp.{IsTotalOrder, tied_itself}
use Rattle.std.specs.FinMap.{FinMap, get, entries, keys, empty, len-entries, len-empty}
use Rattle.finite_maps.specs.Equal.{text_eq}
use Rattle.finite_maps.specs.Maps.{count, tally}
use Rattle.finite_maps.specs.Sorts.{in_order}
use Rattle.spread_maps.specs.Spread.{mapped}
use Rattle.finite_maps.proofs.EqualLaws.{text_equality, nat_equality, and_first, and_second}
use Rattle.finite_maps.proofs.MapLaws.{IsKeyOrder}
use Rattle.spread_maps.proofs.PartLaws.{part, entries-part}
use Rattle.spread_maps.proofs.SpreadLaws.{get-mapped}
use Rattle.model_state.specs.declared.step.Place.{Place}
use Rattle.model_state.specs.declared.step.Placed.{Placed}
use Rattle.model_state.specs.Keys.{IdBytes, AttrKey, RowKey, id_cmp, row_cmp}
use Rattle.model_state.specs.Listing.{is_of, rank_at, incoming, targets, children, entry_cmp}
use Rattle.model_state.specs.State.{place_eq}
use Rattle.model_state.proofs.Orders.{id_order, nat_order, attr_order, row_order}
use Rattle.ranked_lists.specs.Ranks.{Ranks, ranked_entry, stood}
use Rattle.graph_parts.specs.Parts.{IncomingRanks, incoming_of}

pub map_map : {A B C : Type 0} (f : B → C) (h : A → B) (xs : List A) → map f (map h xs) ≡ map (λ x. f (h x)) xs
map_map f h [] = refl
map_map f h (x ∷ xs) = ap (λ ys. f (h x) ∷ ys) (map_map f h xs)

tally_part : {A B : Type 0} (p : A → Bool) (h : A → B) (xs : List A) → length (map h (filter p xs)) ≡ tally p xs
tally_part p h [] = refl
tally_part {A = A} p h (x ∷ xs) =
    let rest = tally_part p h xs in
    elim (p x) as (λ b. length (map h (cond {A = List A} b (x ∷ filter p xs) (filter p xs))) ≡ cond b 1 0 + tally p xs) [
      | true ↦ one (length (map h (filter p xs))) (tally p xs) rest
      | false ↦ rest ∙ more (tally p xs)
    ]
  where
    one : (n m : ℕ) → n ≡ m → suc n ≡ 1 + m
    one n m h = omega (arith, h)

    more : (n : ℕ) → n ≡ 0 + n
    more n = omega arith

like : {K : Type 0} {R : K → K → Ordering} → IsTotalOrder R → {x y : K} → x ≡ y → R x y ≡ Equal
like {R = R} total {x = x} same = ap (R x) (sym same) ∙ tied_itself total x

-- ---- the targets of a feature
module _ (row : FinMap row_cmp ℕ) (g : Ranks) (a : IdBytes) (f : ℕ) (is : (b : IdBytes) → get g b ≡ get row (a, f, b)) where
  first_is : (k : RowKey) → is_of a f k ≡ true → a ≡ k.0
  first_is k h = text_equality.exact a k.0 (and_first _ _ h)

  second_is : (k : RowKey) → is_of a f k ≡ true → f ≡ k.1
  second_is k h = nat_equality.exact f k.1 (and_second _ _ h)

  entries_held : entries g ≡ map {B = IdBytes × ℕ} (λ (e : RowKey × ℕ). (e.0.2, e.1)) (filter (λ (e : RowKey × ℕ). is_of a f e.0) (entries row))
  entries_held =
      entries-part row_order id_order (λ (e : RowKey × ℕ). is_of a f e.0) (λ (e : RowKey × ℕ). (e.0.2, e.1)) (λ b. (a, f, b))
      (λ e d he hd less.
      sym (λ i. ordering_then
      (ordering_then (like id_order.total (sym (first_is e.0 he) ∙ first_is d.0 hd) i)
      (like nat_order.total (sym (second_is e.0 he) ∙ second_is d.0 hd) i)) (id_cmp e.0.2 d.0.2)) ∙ less)
      (λ e he i. (first_is e.0 he i, second_is e.0 he i, e.0.2))
      (λ b x _. refl)
      row g
      (λ b. is b ∙ whole b (get row (a, f, b)))
    where
      own : is_of a f (a, f, a) ≡ true
      own = (λ i. text_equality.own a i && nat_equality.own f i)

      whole : (b : IdBytes) (w : Option ℕ) → w ≡ part (λ (e : RowKey × ℕ). is_of a f e.0) (λ (e : RowKey × ℕ). (e.0.2, e.1)) (λ b. (a, f, b)) b w
      whole b None = refl
      whole b (Some r) = ap (λ c. cond c (Some r) None) (sym own)

  pub targets_are : in_order entry_cmp (map ranked_entry (entries g)) ≡ targets row a f
  targets_are = ap (λ es. in_order entry_cmp (map ranked_entry es)) entries_held
      ∙ ap (in_order entry_cmp) (map_map ranked_entry (λ (e : RowKey × ℕ). (e.0.2, e.1)) (filter (λ (e : RowKey × ℕ). is_of a f e.0) (entries row)))

  pub targets_count : length (entries g) ≡ count (λ (e : RowKey × ℕ). is_of a f e.0) row
  targets_count = ap length entries_held ∙ tally_part (λ (e : RowKey × ℕ). is_of a f e.0) (λ (e : RowKey × ℕ). (e.0.2, e.1)) (entries row)

-- ---- the elements of a place
abbrev at_rank : FinMap id_cmp ℕ → IdBytes × Place → IdBytes × ℕ
at_rank prank e = (e.0, rank_at prank e.0)

stood_part : (p : Place) (prank : FinMap id_cmp ℕ) (l : IdBytes) (o : Option Placed) → get prank l ≡ option_map (λ (x : Placed). x.rank) o
    → stood p o ≡ part (λ (e : IdBytes × Place). place_eq p e.1) (at_rank prank) (λ k. k) l (option_map (λ (x : Placed). x.place) o)
stood_part p prank l None is = refl
stood_part p prank l (Some x) is = ap (λ r. cond (place_eq p x.place) (Some r) None) (sym (ap (λ o. unwrap_or o 0) is))

module _ (place : FinMap id_cmp Place) (prank : FinMap id_cmp ℕ) (placed : IdBytes → Option Placed) (g : Ranks) (p : Place)
    (places : (l : IdBytes) → get place l ≡ option_map (λ (x : Placed). x.place) (placed l))
    (ranks : (l : IdBytes) → get prank l ≡ option_map (λ (x : Placed). x.rank) (placed l))
    (is : (l : IdBytes) → get g l ≡ stood p (placed l)) where
  entries_stood : entries g ≡ map (at_rank prank) (filter (λ (e : IdBytes × Place). place_eq p e.1) (entries place))
  entries_stood =
      entries-part id_order id_order (λ (e : IdBytes × Place). place_eq p e.1) (at_rank prank) (λ k. k) (λ e d _ _ less. less) (λ e _. refl)
      (λ l x _. refl) place g
      (λ l. is l ∙ stood_part p prank l (placed l) (ranks l) ∙ ap (part (λ (e : IdBytes × Place). place_eq p e.1) (at_rank prank) (λ k. k) l) (sym (places l)))

  pub children_are : in_order entry_cmp (map ranked_entry (entries g)) ≡ children place prank p
  children_are = ap (λ es. in_order entry_cmp (map ranked_entry es)) entries_stood
      ∙ ap (in_order entry_cmp) (map_map ranked_entry (at_rank prank) (filter (λ (e : IdBytes × Place). place_eq p e.1) (entries place)))

  pub children_count : length (entries g) ≡ count (λ (e : IdBytes × Place). place_eq p e.1) place
  children_count = ap length entries_stood ∙ tally_part (λ (e : IdBytes × Place). place_eq p e.1) (at_rank prank) (entries place)

-- ---- the references to an element
then_equal : (r : Ordering) → ordering_then r Equal ≡ r
then_equal Less = refl
then_equal Equal = refl
then_equal Greater = refl

abbrev ends_at : IdBytes → RowKey × ℕ → Bool
ends_at b e = text_eq b e.0.2

abbrev source_of : RowKey × ℕ → AttrKey × ℕ
source_of e = ((e.0.0, e.0.1), e.1)

module _ (row : FinMap row_cmp ℕ) (g : IncomingRanks) (b : IdBytes) (is : (a : IdBytes) (f : ℕ) → get g (a, f) ≡ get row (a, f, b)) where
  target_is : (e : RowKey × ℕ) → ends_at b e ≡ true → b ≡ e.0.2
  target_is e h = text_equality.exact b e.0.2 h

  entries_arrived : entries g ≡ map source_of (filter (ends_at b) (entries row))
  entries_arrived =
      entries-part row_order attr_order (ends_at b) source_of (λ (l : AttrKey). (l.0, l.1, b))
      (λ e d he hd less.
      sym (then_equal _) ∙ ap (ordering_then (ordering_then (id_cmp e.0.0 d.0.0) (nat_cmp e.0.1 d.0.1)))
      (sym (like id_order.total (sym (target_is e he) ∙ target_is d hd))) ∙ less)
      (λ e he i. (e.0.0, e.0.1, target_is e he i))
      (λ l x _. refl)
      row g
      (λ l. is l.0 l.1 ∙ whole l (get row (l.0, l.1, b)))
    where
      whole : (l : AttrKey) (w : Option ℕ) → w ≡ part (ends_at b) source_of (λ (l : AttrKey). (l.0, l.1, b)) l w
      whole l None = refl
      whole l (Some r) = ap (λ c. cond c (Some r) None) (sym (text_equality.own b))

  pub incoming_are : map incoming_of (entries g) ≡ incoming row b
  incoming_are = ap (map incoming_of) entries_arrived ∙ map_map incoming_of source_of (filter (ends_at b) (entries row))

-- ---- the ids
all_kept : {A : Type 0} (xs : List A) → filter (λ _. true) xs ≡ xs
all_kept [] = refl
all_kept (x ∷ xs) = ap (λ ys. x ∷ ys) (all_kept xs)

pub keys_mapped : {K N X : Type 0} {R : K → K → Ordering} (o : IsKeyOrder R) (h : N → X) (m : FinMap R N) → keys (mapped h m) ≡ keys m
keys_mapped {K = K} {N = N} {X = X} o h m =
    let whole : (l : K) (w : Option N)
    → option_map h w ≡ part (λ (e : K × N). true) (λ (e : K × N). (e.0, h e.1)) (λ k. k) l w =
    (λ l w. elim w as (λ w.
    option_map h w ≡ part (λ (e : K × N). true) (λ (e : K × N). (e.0, h e.1)) (λ k. k) l w) [ None ↦ refl | Some n ↦ refl ]) in
    ap (map {B = K} (λ (e : K × X). e.0)) (
    entries-part o o (λ (e : K × N). true) (λ (e : K × N). (e.0, h e.1)) (λ k. k) (λ e d _ _ less. less) (λ e _. refl) (λ l x _. refl) m (mapped h m)
    (λ l. get-mapped o h m l ∙ whole l (get m l))
    ∙ ap (map {B = K × X} (λ (e : K × N). (e.0, h e.1))) (all_kept (entries m)))
    ∙ map_map (λ (e : K × X). e.0) (λ (e : K × N). (e.0, h e.1)) (entries m)

-- ---- nothing is listed
no_items : {A : Type 0} (xs : List A) → length xs ≡ 0 → xs ≡ []
no_items [] h = refl
no_items (x ∷ xs) h = absurd (omega (arith, h))

pub no_entries : {K X : Type 0} (R : K → K → Ordering) → entries (empty {X = X} {R = R}) ≡ []
no_entries {X = X} R = no_items (entries (empty {X = X} {R = R})) (sym (len-entries (empty {X = X} {R = R})) ∙ len-empty R X)
