-- What an import leaves in the maps of classes, places and values, looked up by element.
use Rattle.std.proofs.Common.{◌≡◌, ◌∙◌, ℕ, zero, suc, ◌+◌, ◌<◌, ◌≤◌, true, false, cond, not, List, [], ◌∷◌, drop, length, map, nat_eq, refl, sym, ap, arith}
use Rattle.std.specs.Prelude.{Option, None, Some, slice_get, unwrap_or}
use Rattle.std.specs.List.{list_any}
use Rattle.std.specs.Ordering.{eq_by_cmp}
use Rattle.std.specs.FinMap.{FinMap, get}
use Rattle.std.specs.declared.cmp.Ordering.{Ordering}
use Rattle.finite_maps.specs.Equal.{text_eq}
use Rattle.finite_maps.specs.Maps.{set}
use Rattle.finite_maps.proofs.Cases.{not_so, not_true, true_false, or_first, or_second}
use Rattle.finite_maps.proofs.EqualLaws.{and_first, and_second, nat_equality, text_equality}
use Rattle.finite_maps.proofs.MapLaws.{IsKeyOrder, get-set_other, get-set_same, same_key}
use Rattle.model_state.specs.Keys.{AttrKey, IdBytes, id_cmp}
use Rattle.model_state.proofs.Orders.{attr_order, id_order}
use Rattle.model_documents.specs.declared.doc.DocAttr.{DocAttr}
use Rattle.model_documents.specs.declared.doc.DocRow.{DocRow}
use Rattle.model_documents.specs.Fits.{numbers_differ}
use Rattle.model_documents.specs.Completed.{attr_at}
use Rattle.import_laws.specs.After.{Attrs, Kinds, Places, attrs_from, attrs_set, kinds_from, places_from}
use Rattle.import_laws.specs.Laws.{ids_differ}
use Rattle.import_laws.specs.Names.{name_at}
use Rattle.import_laws.specs.News.{place_of}
use Rattle.import_laws.proofs.Indexed.{drop_less, drop_next, none_at, one_at}
use Rattle.round_trip.specs.Describes.{first_values, values_given}

-- ---- keys and names
pub keys_apart : {K : Type 0} {R : K → K → Ordering} (o : IsKeyOrder R) (q k : K) → (q ≡ k → ⊥) → eq_by_cmp R q k ≡ false
keys_apart {K} {R} o q k other = not_so (eq_by_cmp R q k) (λ same. other (same_key o q k same))

-- an id is none of the names from the n-th on
abbrev pub Away : List IdBytes → ℕ → IdBytes → Type 0
Away names n e = (i : ℕ) → n ≤ i → i < length names → e ≡ name_at names i → ⊥

pub away_next : (names : List IdBytes) (n : ℕ) (e : IdBytes) → Away names n e → Away names (suc n) e
away_next names n e away i le less = away i (omega (arith, le)) less

pub away_all : (names : List IdBytes) (e : IdBytes) → list_any (text_eq e) names ≡ false → Away names 0 e
away_all names e none i le less same =
    true_false (text_eq e (name_at names i)) (ap (text_eq e) (sym same) ∙ text_equality.own e) (none_at (text_eq e) names i none less)

pub away_later : (names : List IdBytes) → ids_differ names ≡ true → (n : ℕ) → n < length names → Away names (suc n) (name_at names n)
away_later names differ n small i le less same =
    not_self n i le (one_at names differ n i small less (ap (text_eq (name_at names n)) (sym same) ∙ text_equality.own (name_at names n)))
  where
    not_self : (n i : ℕ) → suc n ≤ i → n ≡ i → ⊥
    not_self n i le same = omega arith

-- a later name is not the n-th
pub other_name : (names : List IdBytes) → ids_differ names ≡ true → (n k : ℕ) → n < k → k < length names → name_at names k ≡ name_at names n → ⊥
other_name names differ n k less small same =
    not_self n k less
    (one_at names differ k n small (omega (arith, less, small)) (ap (text_eq (name_at names k)) (sym same) ∙ text_equality.own (name_at names k)))
  where
    not_self : (n k : ℕ) → n < k → k ≡ n → ⊥
    not_self n k less same = omega arith

pub first_is : (k n : ℕ) → k ≡ n + 0 → k ≡ n
first_is k n at = omega arith

pub next_is : (k n j : ℕ) → k ≡ n + suc j → k ≡ suc n + j
next_is k n j at = omega arith

pub is_later : (k n j : ℕ) → k ≡ n + suc j → n < k
is_later k n j at = omega arith

pub itself : (n : ℕ) → n ≤ n
itself n = omega arith

pub same_row : (x r : DocRow) → ◌≡◌ {A = Option DocRow} (Some x) (Some r) → x ≡ r
same_row x r is = cc

-- ---- one value for each row
module _ {X : Type 0} (names : List IdBytes) (value : DocRow → X) where
  -- each of the rows from the n-th on has its value, under its name
  abbrev pub set_from : ℕ → FinMap id_cmp X → List DocRow → FinMap id_cmp X
  set_from n m [] = m
  set_from n m (r ∷ rest) = set_from (suc n) (set m (name_at names n) (Some (value r))) rest

pub kinds_are : (names : List IdBytes) (rest : List DocRow) (n : ℕ) (kind : Kinds)
    → kinds_from names n kind rest ≡ set_from names (λ (r : DocRow). r.class) n kind rest
kinds_are names [] n kind = refl
kinds_are names (r ∷ rest) n kind = kinds_are names rest (suc n) (set kind (name_at names n) (Some r.class))

pub places_are : (names : List IdBytes) (rest : List DocRow) (n : ℕ) (place : Places)
    → places_from names n place rest ≡ set_from names (λ (r : DocRow). place_of names r.parent) n place rest
places_are names [] n place = refl
places_are names (r ∷ rest) n place = places_are names rest (suc n) (set place (name_at names n) (Some (place_of names r.parent)))

module _ (names : List IdBytes) (rows : List DocRow) (as_many : length names ≡ length rows) where
  pub named_here : (n : ℕ) (r : DocRow) (rest : List DocRow) → drop n rows ≡ r ∷ rest → n < length names
  named_here n r rest left = let less = drop_less n rows r rest left in omega (arith, less, as_many)

  module _ {X : Type 0} (value : DocRow → X) where
    pub set_other : (rest : List DocRow) (n : ℕ) (m : FinMap id_cmp X) (e : IdBytes) → drop n rows ≡ rest → Away names n e
        → get (set_from names value n m rest) e ≡ get m e
    set_other [] n m e left away = refl
    set_other (r ∷ rest) n m e left away =
        set_other rest (suc n) (set m (name_at names n) (Some (value r))) e (drop_next n rows r rest left) (away_next names n e away)
        ∙ get-set_other id_order m (name_at names n) (Some (value r)) e
        (keys_apart id_order e (name_at names n) (away n (itself n) (named_here n r rest left)))

    pub set_mine : ids_differ names ≡ true → (rest : List DocRow) (n : ℕ) (m : FinMap id_cmp X) (j : ℕ) (r : DocRow) → drop n rows ≡ rest
        → slice_get rest j ≡ Some r → (k : ℕ) → k ≡ n + j → get (set_from names value n m rest) (name_at names k) ≡ Some (value r)
    set_mine differ [] n m j r left is k at = cc
    set_mine differ (x ∷ rest) n m zero r left is k at =
        let next = set m (name_at names n) (Some (value x)) in
        ap (λ i. get (set_from names value (suc n) next rest) (name_at names i)) (first_is k n at)
        ∙ set_other rest (suc n) next (name_at names n) (drop_next n rows x rest left) (away_later names differ n (named_here n x rest left))
        ∙ get-set_same id_order m (name_at names n) (Some (value x))
        ∙ ap (λ y. Some (value y)) (same_row x r is)
    set_mine differ (x ∷ rest) n m (suc j) r left is k at =
        set_mine differ rest (suc n) (set m (name_at names n) (Some (value x))) j r (drop_next n rows x rest left) is k (next_is k n j at)

-- ---- the values of an element
abbrev features : List DocAttr → List ℕ
features attrs = map (λ (a : DocAttr). a.feature) attrs

attrs_other : (x : IdBytes) (attrs : List DocAttr) (attr : Attrs) (q : AttrKey) → (q.0 ≡ x → ⊥) → get (attrs_set x attr attrs) q ≡ get attr q
attrs_other x [] attr q other = refl
attrs_other x (a ∷ attrs) attr q other =
    attrs_other x attrs (set attr (x, a.feature) (Some a.values)) q other
    ∙ get-set_other attr_order attr (x, a.feature) (Some a.values) q
    (keys_apart attr_order q (x, a.feature) (λ same. other (ap (λ (z : AttrKey). z.0) same)))

attrs_missing : (x : IdBytes) (g : ℕ) (attrs : List DocAttr) (attr : Attrs) → list_any (nat_eq g) (features attrs) ≡ false
    → get (attrs_set x attr attrs) (x, g) ≡ get attr (x, g)
attrs_missing x g [] attr none = refl
attrs_missing x g (a ∷ attrs) attr none =
    attrs_missing x g attrs (set attr (x, a.feature) (Some a.values)) (or_second (nat_eq g a.feature) _ none)
    ∙ get-set_other attr_order attr (x, a.feature) (Some a.values) (x, g)
    (keys_apart attr_order (x, g) (x, a.feature) (λ same.
    true_false (nat_eq g a.feature) (ap (λ (z : AttrKey). nat_eq g z.1) (sym same) ∙ nat_equality.own g) (or_first (nat_eq g a.feature) _ none)))

attrs_mine : (x : IdBytes) (f : ℕ) (attrs : List DocAttr) (attr : Attrs) → numbers_differ (features attrs) ≡ true → get attr (x, f) ≡ None
    → unwrap_or (get (attrs_set x attr attrs) (x, f)) [] ≡ values_given f attrs
attrs_mine x f [] attr ok none = ap (λ o. unwrap_or o []) none
attrs_mine x f (a ∷ attrs) attr ok none =
    let next = set attr (x, a.feature) (Some a.values) in
    elim (nat_eq f a.feature) as (λ b. nat_eq f a.feature ≡ b
    → unwrap_or (get (attrs_set x next attrs) (x, f)) [] ≡ first_values (cond b (a ∷ []) (attr_at f attrs))) [
      | true ↦ λ same.
          ap (λ g. unwrap_or (get (attrs_set x next attrs) (x, g)) []) (nat_equality.exact f a.feature same)
          ∙ ap (λ o. unwrap_or o [])
          (attrs_missing x a.feature attrs next (not_true (list_any (nat_eq a.feature) (features attrs)) (and_first _ _ ok))
          ∙ get-set_same attr_order attr (x, a.feature) (Some a.values))
      | false ↦ λ other.
          attrs_mine x f attrs next (and_second (not (list_any (nat_eq a.feature) (features attrs))) _ ok)
          (get-set_other attr_order attr (x, a.feature) (Some a.values) (x, f)
          (keys_apart attr_order (x, f) (x, a.feature) (λ same.
          true_false (nat_eq f a.feature) (ap (λ (z : AttrKey). nat_eq f z.1) (sym same) ∙ nat_equality.own f) other))
          ∙ none)
    ] refl

-- ---- the values of all rows
module _ (names : List IdBytes) (rows : List DocRow) (as_many : length names ≡ length rows) where
  pub values_other : (rest : List DocRow) (n : ℕ) (attr : Attrs) (q : AttrKey) → drop n rows ≡ rest → Away names n q.0
      → get (attrs_from names n attr rest) q ≡ get attr q
  values_other [] n attr q left away = refl
  values_other (r ∷ rest) n attr q left away =
      values_other rest (suc n) (attrs_set (name_at names n) attr r.attrs) q (drop_next n rows r rest left) (away_next names n q.0 away)
      ∙ attrs_other (name_at names n) r.attrs attr q (away n (itself n) (named_here names rows as_many n r rest left))

  pub values_mine : ids_differ names ≡ true → (rest : List DocRow) (n : ℕ) (attr : Attrs) (j : ℕ) (r : DocRow) (f : ℕ) → drop n rows ≡ rest
      → slice_get rest j ≡ Some r → numbers_differ (map (λ (a : DocAttr). a.feature) r.attrs) ≡ true → (k : ℕ) → k ≡ n + j → k < length names
      → get attr (name_at names k, f) ≡ None
      → unwrap_or (get (attrs_from names n attr rest) (name_at names k, f)) [] ≡ values_given f r.attrs
  values_mine differ [] n attr j r f left is ok k at small none = cc
  values_mine differ (x ∷ rest) n attr zero r f left is ok k at small none =
      let here = first_is k n at in
      let next = attrs_set (name_at names n) attr x.attrs in
      ap (λ i. unwrap_or (get (attrs_from names (suc n) next rest) (name_at names i, f)) []) here
      ∙ ap (λ o. unwrap_or o [])
      (values_other rest (suc n) next (name_at names n, f) (drop_next n rows x rest left)
      (away_later names differ n (named_here names rows as_many n x rest left)))
      ∙ ap (λ (y : DocRow). unwrap_or (get (attrs_set (name_at names n) attr y.attrs) (name_at names n, f)) []) (same_row x r is)
      ∙ attrs_mine (name_at names n) f r.attrs attr ok (ap (λ i. get attr (name_at names i, f)) (sym here) ∙ none)
  values_mine differ (x ∷ rest) n attr (suc j) r f left is ok k at small none =
      values_mine differ rest (suc n) (attrs_set (name_at names n) attr x.attrs) j r f (drop_next n rows x rest left) is ok k (next_is k n j at) small
      (attrs_other (name_at names n) x.attrs attr (name_at names k, f) (other_name names differ n k (is_later k n j at) small) ∙ none)
