-- What the lists of an element's features answer, and how they change.
use Rattle.std.proofs.Common.{◌≡◌, ℕ, Bool, true, false, cond, List, [], ◌∷◌, refl, sym, ap, subst, ◌∙◌, nat_eq, length, arith}
use Rattle.std.specs.Prelude.{Option, None, Some, unwrap_or}
use Rattle.std.specs.Option.{option_map}
use Rattle.std.specs.declared.cmp.Ordering.{Ordering}
use Rattle.std.specs.Ordering.{eq_by_cmp, nat_cmp}
use Rattle.std.specs.Cmp.{nat_cmp_total}
use Rattle.std.specs.Cmp.Lexicographic.{nat_list_cmp_total}
use Rattle.std.specs.FinMap.{FinMap, get, empty, get-empty}
use Rattle.std.proofs.lemmas.Cmp.{on_total, then_total}
use Rattle.std.proofs.lemmas.Map.Lookups.{exact_pairs, exact_unsigned, exact_bytes}
use Rattle.finite_maps.specs.Maps.{set}
use Rattle.spread_maps.specs.Spread.{inner, is_bare, spread}
use Rattle.spread_maps.proofs.BareLaws.{bare_none, not_bare_some, some_not_bare}
use Rattle.finite_maps.proofs.Cases.{not_so}
use Rattle.finite_maps.proofs.EqualLaws.{nat_equality}
use Rattle.finite_maps.proofs.MapLaws.{IsKeyOrder, get-set, get-set_same, same}
use Rattle.spread_maps.proofs.SpreadLaws.{IsJoined, get-spread, spread-set}
use Rattle.model_state.specs.Keys.{IdBytes, id_cmp}
use Rattle.model_state.proofs.Orders.{id_order, nat_order}
use Rattle.ranked_lists.specs.Ranks.{Ranks}
use Rattle.graph_parts.specs.Parts.{flat, ListKey, list_key_cmp, by_list, feature_lists, AreFilled, is_emptied, if_filled}
use Rattle.graph_parts.proofs.Flat.{at_feature, get-flat}

pub list_key_order : IsKeyOrder list_key_cmp
list_key_order = record {
  total = then_total (on_total (λ (x : ListKey). x.0) nat_cmp_total) (on_total (λ (x : ListKey). x.1) nat_list_cmp_total);
  exact = exact_pairs nat_cmp id_cmp exact_unsigned exact_bytes;
}

list_joined : IsJoined by_list
list_joined = record { whole = λ k. refl; first_is = λ f e. refl; second_is = λ f e. refl }

-- what a list that may be there has
abbrev pub in_list : Option Ranks → IdBytes → Option ℕ
in_list o e = inner (λ (g : Ranks). g) o e

pub get_list : (t : List (ℕ × Ranks)) (f : ℕ) (e : IdBytes) → get (feature_lists t) (f, e) ≡ in_list (get (flat t) f) e
get_list t f e = get-spread nat_order id_order list_key_order by_list list_joined (λ (g : Ranks). g) (flat t) (f, e)

pub in_group : (o : Option Ranks) (e : IdBytes) → get (unwrap_or o (empty {R = id_cmp})) e ≡ in_list o e
in_group None e = get-empty id_cmp e
in_group (Some g) e = refl

-- a list that is written
pub list_written : (t u : List (ℕ × Ranks)) (f : ℕ) (e : IdBytes) (v : Option ℕ) (w : Option Ranks) → flat u ≡ set (flat t) f w
    → ((i : IdBytes) → in_list w i ≡ cond (eq_by_cmp id_cmp i e) v (in_list (get (flat t) f) i)) → feature_lists u ≡ set (feature_lists t) (f, e) v
list_written t u f e v w is here =
    ap (λ m. spread list_key_cmp by_list (λ (g : Ranks). g) m) is
    ∙ spread-set nat_order id_order list_key_order by_list list_joined (λ (g : Ranks). g) (flat t) f w e v
    here

pub filled_written : (t u : List (ℕ × Ranks)) (f : ℕ) (w : Option Ranks) → AreFilled t → flat u ≡ set (flat t) f w
    → ((g : Ranks) → w ≡ Some g → is_bare g ≡ false) → AreFilled u
filled_written t u f w filled is here q g found =
    by_cases (eq_by_cmp nat_cmp q f)
    (sym (get-set nat_order (flat t) f w q) ∙ ap (λ m. get m q) (sym is) ∙ found)
  where
    by_cases : (b : Bool) → cond b w (get (flat t) q) ≡ Some g → is_bare g ≡ false
    by_cases true h = here g h
    by_cases false h = filled q g h

module _ (t u : List (ℕ × Ranks)) (f : ℕ) (e : IdBytes) where
  -- an element put in, or its rank written
  pub list_put : (r : ℕ) → flat u ≡ set (flat t) f (Some (set (unwrap_or (get (flat t) f) empty) e (Some r)))
      → feature_lists u ≡ set (feature_lists t) (f, e) (Some r)
  list_put r is =
      let g : Ranks = unwrap_or (get (flat t) f) empty in
      list_written t u f e (Some r) (Some (set g e (Some r))) is
      (λ i. get-set id_order g e (Some r) i ∙ ap (cond (eq_by_cmp id_cmp i e) (Some r)) (in_group (get (flat t) f) i))

  pub filled_put : (r : ℕ) → AreFilled t → flat u ≡ set (flat t) f (Some (set (unwrap_or (get (flat t) f) empty) e (Some r))) → AreFilled u
  filled_put r filled is =
      let g : Ranks = unwrap_or (get (flat t) f) empty in
      filled_written t u f (Some (set g e (Some r))) filled is
      (λ h same. subst (λ (x : Ranks). is_bare x ≡ false) (one_group (set g e (Some r)) h same)
      (some_not_bare id_order (set g e (Some r)) e r (get-set_same id_order g e (Some r))))
    where
      one_group : (g h : Ranks) → Some g ≡ Some h → g ≡ h
      one_group g h same = cc

  -- an element taken out
  without : Option Ranks → Option Ranks
  without o = option_map (λ (g : Ranks). set g e None) o

  in_kept : (w : Option Ranks) (i : IdBytes) → in_list (if_filled w) i ≡ in_list w i
  in_kept None i = refl
  in_kept (Some g) i = elim (is_bare g) as (λ b. is_bare g ≡ b → in_list (cond b None (Some g)) i ≡ get g i) [
    | true ↦ λ bare. sym (bare_none id_order g bare i)
    | false ↦ λ _. refl
  ] refl

  in_without : (o : Option Ranks) (i : IdBytes) → in_list (option_map (λ (g : Ranks). set g e None) o) i ≡ cond (eq_by_cmp id_cmp i e) None (in_list o i)
  in_without None i = elim (eq_by_cmp id_cmp i e) as (λ b. ◌≡◌ {A = Option ℕ} None (cond b None None)) [ true ↦ refl | false ↦ refl ]
  in_without (Some g) i = get-set id_order g e None i

  pub list_dropped : flat u ≡ set (flat t) f (if_filled (option_map (λ (g : Ranks). set g e None) (get (flat t) f)))
      → feature_lists u ≡ set (feature_lists t) (f, e) None
  list_dropped is =
      list_written t u f e None (if_filled (option_map (λ (g : Ranks). set g e None) (get (flat t) f))) is
      (λ i. in_kept (option_map (λ (g : Ranks). set g e None) (get (flat t) f)) i ∙ in_without (get (flat t) f) i)

  pub filled_dropped : AreFilled t → flat u ≡ set (flat t) f (if_filled (option_map (λ (g : Ranks). set g e None) (get (flat t) f))) → AreFilled u
  filled_dropped filled is =
      filled_written t u f (if_filled (option_map (λ (g : Ranks). set g e None) (get (flat t) f))) filled is
      (λ g same. full (option_map (λ (g : Ranks). set g e None) (get (flat t) f)) g same)
    where
      one_group : (g h : Ranks) → Some g ≡ Some h → g ≡ h
      one_group g h same = cc

      no_group : (g : Ranks) → None ≡ Some g → ⊥
      no_group g same = cc

      full : (w : Option Ranks) (g : Ranks) → if_filled w ≡ Some g → is_bare g ≡ false
      full None g same = absurd (no_group g same)
      full (Some h) g same = elim (is_bare h) as (λ b. is_bare h ≡ b → cond b None (Some h) ≡ Some g → is_bare g ≡ false) [
        | true ↦ λ _ same. absurd (no_group g same)
        | false ↦ λ full same. subst (λ (x : Ranks). is_bare x ≡ false) (one_group h g same) full
      ] refl same

pub emptied_kept : (w : Option Ranks) (b : Bool) → b ≡ is_emptied w → (b ≡ true → if_filled w ≡ None) × (b ≡ false → if_filled w ≡ w)
emptied_kept None b is = (λ _. refl, λ _. refl)
emptied_kept (Some g) b is = (λ yes. ap (λ t. cond t None (Some g)) (sym is ∙ yes), λ not. ap (λ t. cond t None (Some g)) (sym is ∙ not))

-- ---- no elements
pub all_none : {K X : Type 0} {R : K → K → Ordering} (o : IsKeyOrder R) (m : FinMap R X) → ((k : K) → get m k ≡ None) → is_bare m ≡ true
all_none {X = X} o m none =
    elim (is_bare m) as (λ b. is_bare m ≡ b → b ≡ true) [
      | true ↦ λ _. refl
      | false ↦ λ full. let e = not_bare_some o m full in absurd (clash (get m e.0) e.1 (none e.0) e.2)
    ] refl
  where
    clash : (o : Option X) (v : X) → o ≡ None → o ≡ Some v → ⊥
    clash o v h g = cc

pub lists_bare : (t : List (ℕ × Ranks)) → AreFilled t → nat_eq (length t) 0 ≡ is_bare (feature_lists t)
lists_bare [] filled = sym (all_none list_key_order (feature_lists []) (λ k. get_list [] k.0 k.1 ∙ ap (λ o. in_list o k.1) (get-flat [] k.0)))
lists_bare (x ∷ xs) filled =
    let found : get (flat (x ∷ xs)) x.0 ≡ Some x.1 = get-flat (x ∷ xs) x.0 ∙ ap (λ b. cond b (Some x.1) (at_feature xs x.0)) (nat_equality.own x.0) in
    let e = not_bare_some id_order x.1 (filled x.0 x.1 found) in
    not_so (nat_eq (length (x ∷ xs)) 0) (λ h. some_length x xs (nat_equality.exact (length (x ∷ xs)) 0 h))
    ∙ sym (some_not_bare list_key_order (feature_lists (x ∷ xs)) (x.0, e.0) e.1 (get_list (x ∷ xs) x.0 e.0 ∙ ap (λ o. in_list o e.0) found ∙ e.2))
  where
    some_length : (x : ℕ × Ranks) (xs : List (ℕ × Ranks)) → length (x ∷ xs) ≡ 0 → ⊥
    some_length x xs h = absurd (omega (arith, h))

pub lists_none : feature_lists [] ≡ empty
lists_none = same list_key_order (feature_lists []) empty
    (λ k. get_list [] k.0 k.1 ∙ ap (λ o. in_list o k.1) (get-flat [] k.0) ∙ sym (get-empty list_key_cmp k))

pub list_alike : (t u : List (ℕ × Ranks)) → flat u ≡ flat t → feature_lists u ≡ feature_lists t
list_alike t u is = ap (λ m. spread list_key_cmp by_list (λ (g : Ranks). g) m) is

pub filled_alike : (t u : List (ℕ × Ranks)) → AreFilled t → flat u ≡ flat t → AreFilled u
filled_alike t u filled is f g found = filled f g (ap (λ m. get m f) (sym is) ∙ found)
