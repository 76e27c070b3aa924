-- The ids of the table are the keys of the map.
use Rattle.std.proofs.Common.{◌≡◌, ℕ, true, false, cond, List, [], ◌∷◌, map, refl, ap, ◌∙◌}
use Rattle.std.specs.Prelude.{String, string_bytes, string_eq, Some, is_some}
use Rattle.std.specs.Option.{option_map_or}
use Rattle.std.specs.List.{AllByRecursion, IsDistinct}
use Rattle.std.specs.Map.{lookup}
use Rattle.std.specs.Cmp.Lexicographic.{texts_ties, nat_list_eq_equiv}
use Rattle.std.specs.FinMap.{keys}
use Rattle.slab.specs.Slab.{Slab}
use Rattle.finite_maps.specs.Equal.{text_eq}
use Rattle.finite_maps.specs.Sorts.{in_order}
use Rattle.finite_maps.proofs.EqualLaws.{text_equality}
use Rattle.spread_maps.proofs.KeyLaws.{keys_in_order}
use Rattle.model_state.specs.Keys.{IdBytes, id_cmp}
use Rattle.model_state.proofs.Orders.{id_order}
use Rattle.nodes.specs.Tied.{named, id_in, node_at, IsTied, table}
use Rattle.nodes.proofs.Slots.{in_table}

-- ---- the texts are the ids
module _ {Y : Type 0} where
  apart_named : (k : String Y) (es : List (String Y × ℕ)) → AllByRecursion (λ y. string_eq k y ≡ false) (map {B = String Y} (λ e. e.0) es)
      → AllByRecursion (λ y. text_eq (string_bytes k) y ≡ false) (map {B = IdBytes} (λ e. e.0) (named es))
  apart_named k [] h = tt
  apart_named k (e ∷ es) h = (h.0, apart_named k es h.1)

  distinct_named : (es : List (String Y × ℕ)) → IsDistinct string_eq (map {B = String Y} (λ e. e.0) es)
      → IsDistinct text_eq (map {B = IdBytes} (λ e. e.0) (named es))
  unfolding IsDistinct
  distinct_named [] h = tt
  distinct_named (e ∷ es) h = (apart_named e.0 es h.0, distinct_named es h.1)

-- ---- each id is found
behind : (e : IdBytes × ℕ) (all es : List (IdBytes × ℕ)) → AllByRecursion (λ y. text_eq e.0 y ≡ false) (map {B = IdBytes} (λ e. e.0) es)
    → AllByRecursion (λ (x : IdBytes × ℕ). lookup (text_eq x.0) all ≡ Some x.1) es
    → AllByRecursion (λ (x : IdBytes × ℕ). lookup (text_eq x.0) (e ∷ all) ≡ Some x.1) es
behind e all [] differ found = tt
behind e all (x ∷ xs) differ found =
    (ap (λ b. cond b (Some e.1) (lookup (text_eq x.0) all)) (nat_list_eq_equiv.symm x.0 e.0 ∙ differ.0) ∙ found.0, behind e all xs differ.1 found.1)

all_found : (es : List (IdBytes × ℕ)) → IsDistinct text_eq (map {B = IdBytes} (λ e. e.0) es)
    → AllByRecursion (λ (x : IdBytes × ℕ). lookup (text_eq x.0) es ≡ Some x.1) es
unfolding IsDistinct
all_found [] apart = tt
all_found (e ∷ es) apart = (ap (λ b. cond b (Some e.1) (lookup (text_eq e.0) es)) (text_equality.own e.0), behind e es es apart.0 (all_found es apart.1))

module _ {T : Type 0} (es : List (IdBytes × ℕ)) (s : Slab (IdBytes × T)) (tied : IsTied es s) where
  all_there : (fs : List (IdBytes × ℕ)) → AllByRecursion (λ (x : IdBytes × ℕ). lookup (text_eq x.0) es ≡ Some x.1) fs
      → AllByRecursion (λ k. is_some (node_at es s k) ≡ true) (map {B = IdBytes} (λ e. e.0) fs)
  all_there [] found = tt
  all_there (e ∷ fs) found = (ap is_some (in_table es s tied e.0 e.1 found.0).2, all_there fs found.1)

  keys_are : IsDistinct text_eq (map {B = IdBytes} (λ e. e.0) es) → in_order id_cmp (map {B = IdBytes} (λ e. e.0) es) ≡ keys (table es s)
  keys_are apart = keys_in_order id_order text_eq texts_ties (node_at es s) (map {B = IdBytes} (λ e. e.0) es) apart (all_there es (all_found es apart))

module _ {Y T : Type 0} (es : List (String Y × ℕ)) (s : Slab (IdBytes × T)) (tied : IsTied (named es) s) where
  -- the slots of the table have its ids
  slots_have : (fs : List (String Y × ℕ)) → AllByRecursion (λ (x : IdBytes × ℕ). lookup (text_eq x.0) (named es) ≡ Some x.1) (named fs)
      → map (λ e. id_in s e.1) fs ≡ map {B = IdBytes} (λ e. e.0) (named fs)
  slots_have [] found = refl
  slots_have (e ∷ fs) found =
      let here : id_in s e.1 ≡ string_bytes e.0 = ap (λ o. option_map_or (λ x. x.0) o []) (tied (string_bytes e.0) e.1 found.0).1 in
      let rest = slots_have fs found.1 in
      λ i. here i ∷ rest i

  -- in order they are the keys
  pub ids_are : IsDistinct string_eq (map {B = String Y} (λ e. e.0) es) → in_order id_cmp (map (λ e. id_in s e.1) es) ≡ keys (table (named es) s)
  ids_are apart =
      let ids = distinct_named es apart in
      ap (in_order id_cmp) (slots_have es (all_found (named es) ids)) ∙ keys_are (named es) s tied ids
