-- Changes of the places of elements, and of the lists of the places with them.
use Rattle.std.proofs.Common.{◌≡◌, ℕ, Bool, true, false, cond, List, [], ◌∷◌, refl, sym, ap, subst, ◌∙◌, map, length, ◌+◌, suc, arith}
use Rattle.std.specs.Prelude.{Option, None, Some, unwrap_or}
use Rattle.std.specs.Option.{option_map}
use Rattle.std.specs.List.{filter}
use Rattle.std.specs.Ordering.{eq_by_cmp}
use Rattle.std.specs.Cmp.{eq_by_cmp_equiv}
use Rattle.std.specs.Map.{lookup}
use Rattle.std.specs.FinMap.{FinMap, get, entries}
use Rattle.std.specs.BTreeMap as tree
use Rattle.std.specs.BTreeMap.{BTreeMap, is_at}
use Rattle.finite_maps.specs.Maps.{set, tally, count}
use Rattle.finite_maps.specs.Tables.{table_of}
use Rattle.finite_maps.proofs.EqualLaws.{apart}
use Rattle.finite_maps.proofs.MapLaws.{get-set, set_back, set_here}
use Rattle.finite_maps.proofs.TableLaws.{get-table_of}
use Rattle.model_state.specs.declared.step.Place.{Place}
use Rattle.model_state.specs.declared.step.Placed.{Placed}
use Rattle.model_state.specs.Keys.{IdBytes, id_cmp}
use Rattle.model_state.specs.State.{place_eq}
use Rattle.model_state.specs.Listing.{rank_at}
use Rattle.model_state.proofs.Orders.{id_order}
use Rattle.model_state.proofs.StepTests.{place_equality}
use Rattle.step_apply.specs.declared.groups.Groups.{Groups}
use Rattle.step_apply.specs.Groups.{standing, IsGrouped}
use Rattle.ranked_lists.specs.Ranks.{ranked_entry, stood}
use Rattle.spread_maps.proofs.PartLaws.{part, entries-part}

over_stood : (p : Place) (b : Bool) (w o : Option Placed) → cond b (stood p w) (stood p o) ≡ stood p (cond b w o)
over_stood p true w o = refl
over_stood p false w o = refl

-- one element that stands otherwise, in all lists
pub regrouped : (t n : BTreeMap IdBytes Placed) (g h : Groups) (e : IdBytes) (w : Option Placed) → IsGrouped t g
    → ((q : IdBytes) → tree.get id_cmp n q ≡ cond (is_at (id_cmp e) q) w (tree.get id_cmp t q))
    → ((p : Place) → standing h p ≡ set (standing g p) e (stood p w)) → IsGrouped n h
regrouped t n g h e w is wrote each p q =
    ap (λ m. get m q) (each p) ∙ get-set id_order (standing g p) e (stood p w) q
    ∙ ap (cond (eq_by_cmp id_cmp q e) (stood p w)) (is p q)
    ∙ over_stood p (eq_by_cmp id_cmp q e) w (tree.get id_cmp t q)
    ∙ ap (λ b. stood p (cond b w (tree.get id_cmp t q))) ((eq_by_cmp_equiv id_order.total).symm q e)
    ∙ sym (ap (stood p) (wrote q))

pub same_grouped : (t n : BTreeMap IdBytes Placed) (g h : Groups) → IsGrouped t g → n.entries ≡ t.entries
    → ((p : Place) → standing h p ≡ standing g p) → IsGrouped n h
same_grouped t n g h is same each p q = ap (λ m. get m q) (each p) ∙ is p q ∙ ap (λ es. stood p (lookup (is_at (id_cmp q)) es)) (sym same)

-- an element that is put into one list, and into no other
pub into_one : (f h : Place → FinMap id_cmp ℕ) (e : IdBytes) (x : Placed) → f x.place ≡ set (h x.place) e (Some x.rank)
    → ((p : Place) → place_eq x.place p ≡ false → f p ≡ set (h p) e None)
    → (p : Place) → f p ≡ set (h p) e (stood p (Some x))
into_one f h e x here there p =
    elim (place_eq x.place p) as (λ b. place_eq x.place p ≡ b → f p ≡ set (h p) e (cond (place_eq p x.place) (Some x.rank) None)) [
      | true ↦ λ is.
          subst (λ z. f z ≡ set (h z) e (cond (place_eq z x.place) (Some x.rank) None)) (place_equality.exact x.place p is)
          (here ∙ ap (λ b. set (h x.place) e (cond b (Some x.rank) None)) (sym (place_equality.own x.place)))
      | false ↦ λ is. there p is ∙ ap (λ b. set (h p) e (cond b (Some x.rank) None)) (sym (apart place_eq place_equality x.place p is))
    ] refl

-- nothing stands otherwise where only what is not there is taken out
pub not_in : (h : Place → FinMap id_cmp ℕ) (e : IdBytes) (x : Placed) (p : Place) → get (h p) e ≡ stood p (Some x) → place_eq x.place p ≡ false
    → h p ≡ set (h p) e None
not_in h e x p is else = sym (set_here id_order (h p) e None (is ∙ ap (λ b. cond b (Some x.rank) None) (apart place_eq place_equality x.place p else)))

-- what is taken out of its only list is in none
pub out_of_one : (f h : Place → FinMap id_cmp ℕ) (e : IdBytes) (x : Placed) → ((p : Place) → get (h p) e ≡ stood p (Some x))
    → f x.place ≡ set (h x.place) e None → ((p : Place) → place_eq x.place p ≡ false → f p ≡ h p) → (p : Place) → f p ≡ set (h p) e None
out_of_one f h e x is here there p =
    elim (place_eq x.place p) as (λ b. place_eq x.place p ≡ b → f p ≡ set (h p) e None) [
      | true ↦ λ same. subst (λ z. f z ≡ set (h z) e None) (place_equality.exact x.place p same) here
      | false ↦ λ else. there p else ∙ not_in h e x p (is p) else
    ] refl

-- ---- lists
-- the entries of a place, by the two maps that are seen
abbrev at_rank : FinMap id_cmp ℕ → IdBytes × Place → IdBytes × ℕ
at_rank prank e = (e.0, rank_at prank e.0)

stood_part : (p : Place) (prank : FinMap id_cmp ℕ) (l : IdBytes) (o : Option Placed) → get prank l ≡ option_map (λ (x : Placed). x.rank) o
    → stood p o ≡ part (λ (e : IdBytes × Place). place_eq p e.1) (at_rank prank) (λ k. k) l (option_map (λ (x : Placed). x.place) o)
stood_part p prank l None is = refl
stood_part p prank l (Some x) is = ap (λ r. cond (place_eq p x.place) (Some r) None) (sym (ap (λ o. unwrap_or o 0) is))

module _ (t : BTreeMap IdBytes Placed) (g : Groups) (is : IsGrouped t g) (p : Place) where
  entries_are : entries (standing g p) ≡ map (at_rank (table_of id_cmp (λ x. x.rank) t))
      (filter (λ (e : IdBytes × Place). place_eq p e.1) (entries (table_of id_cmp (λ x. x.place) t)))
  entries_are =
      let prank = table_of id_cmp (λ (x : Placed). x.rank) t in
      let place = table_of id_cmp (λ (x : Placed). x.place) t in
      entries-part id_order id_order (λ (e : IdBytes × Place). place_eq p e.1) (at_rank prank) (λ k. k) (λ e d _ _ less. less) (λ e _. refl)
      (λ l x _. refl) place (standing g p)
      (λ l. is p l ∙ stood_part p prank l (tree.get id_cmp t l) (get-table_of id_order (λ (x : Placed). x.rank) t l)
      ∙ ap (part (λ (e : IdBytes × Place). place_eq p e.1) (at_rank prank) (λ k. k) l) (sym (get-table_of id_order (λ (x : Placed). x.place) t l)))

pub map_map : {A B C : Type 0} (f : B → C) (h : A → B) (xs : List A) → map f (map h xs) ≡ map (λ x. f (h x)) xs
map_map f h [] = refl
map_map f h (x ∷ xs) = ap (λ ys. f (h x) ∷ ys) (map_map f h xs)

pub tally_part : {A B : Type 0} (p : A → Bool) (h : A → B) (xs : List A) → length (map h (filter p xs)) ≡ tally p xs
tally_part p h [] = refl
tally_part {A = A} p h (x ∷ xs) =
    let rest = tally_part p h xs in
    elim (p x) as (λ b. length (map h (cond {A = List A} b (x ∷ filter p xs) (filter p xs))) ≡ cond b 1 0 + tally p xs) [
      | true ↦ one (length (map h (filter p xs))) (tally p xs) rest
      | false ↦ rest ∙ more (tally p xs)
    ]
  where
    one : (n m : ℕ) → n ≡ m → suc n ≡ 1 + m
    one n m h = omega (arith, h)

    more : (n : ℕ) → n ≡ 0 + n
    more n = omega arith

pub spots_are : (t : BTreeMap IdBytes Placed) (g : Groups) → IsGrouped t g → (p : Place)
    → map ranked_entry (entries (standing g p)) ≡ map
    (λ (e : IdBytes × Place). record { rank = rank_at (table_of id_cmp (λ x. x.rank) t) e.0; id = e.0 })
    (filter (λ (e : IdBytes × Place). place_eq p e.1) (entries (table_of id_cmp (λ x. x.place) t)))
spots_are t g is p = ap (map ranked_entry) (entries_are t g is p) ∙ map_map ranked_entry (at_rank (table_of id_cmp (λ x. x.rank) t)) _

pub spots_count : (t : BTreeMap IdBytes Placed) (g : Groups) → IsGrouped t g → (p : Place)
    → length (entries (standing g p)) ≡ count (λ (e : IdBytes × Place). place_eq p e.1) (table_of id_cmp (λ x. x.place) t)
spots_count t g is p = ap length (entries_are t g is p) ∙ tally_part (λ (e : IdBytes × Place). place_eq p e.1) (at_rank (table_of id_cmp (λ x. x.rank) t)) _

-- ---- an element that leaves its list for another
module _ (f h : Place → FinMap id_cmp ℕ) (e : IdBytes) (x : Placed) (to : Place)
    (was : (p : Place) → place_eq to p ≡ false → get (h p) e ≡ stood p (Some x)) where
  pub out_of : f x.place ≡ set (h x.place) e None → ((p : Place) → place_eq x.place p ≡ false → f p ≡ h p)
      → (p : Place) → place_eq to p ≡ false → f p ≡ set (h p) e None
  out_of here there p else =
      elim (place_eq x.place p) as (λ b. place_eq x.place p ≡ b → f p ≡ set (h p) e None) [
        | true ↦ λ same. subst (λ z. f z ≡ set (h z) e None) (place_equality.exact x.place p same) here
        | false ↦ λ q. there p q ∙ not_in h e x p (was p else) q
      ] refl

  pub stays : place_eq x.place to ≡ true → (p : Place) → place_eq to p ≡ false → h p ≡ set (h p) e None
  stays same p else = not_in h e x p (was p else) (subst (λ z. place_eq z p ≡ false) (sym (place_equality.exact x.place to same)) else)

-- what was put in is taken out again
pub undone : (f g h : Place → FinMap id_cmp ℕ) (to : Place) (own : IdBytes) (r : ℕ) → get (h to) own ≡ None
    → g to ≡ set (h to) own (Some r) → ((p : Place) → place_eq to p ≡ false → g p ≡ h p)
    → f to ≡ set (g to) own None → ((p : Place) → place_eq to p ≡ false → f p ≡ g p)
    → (p : Place) → f p ≡ h p
undone f g h to own r absent here there back else p =
    elim (place_eq to p) as (λ b. place_eq to p ≡ b → f p ≡ h p) [
      | true ↦ λ same.
          subst (λ z. f z ≡ h z) (place_equality.exact to p same)
          (back ∙ ap (λ m. set m own None) here ∙ set_back id_order (h to) own None (Some r) absent)
      | false ↦ λ q. else p q ∙ there p q
    ] refl
