-- A metamodel whose parts keep their numbers stays as it is.
use Rattle.std.proofs.Common.{◌≡◌, ℕ, suc, ◌+◌, ◌<◌, ◌≤◌, Bool, true, false, List, [], ◌∷◌, ◌++◌, refl, sym, ap, ◌∙◌, arith, get_or, length, map}
use Rattle.std.proofs.Common.{take}
use Rattle.std.specs.Prelude.{Option, None, Some, slice_get}
use Rattle.std.specs.List.{filter, filter_map, range_with_len}
use Rattle.std.specs.Option.{option_map, option_map_or}
use Rattle.std.proofs.lemmas.List.{take_all, take_more}
use Rattle.std.proofs.lemmas.List.Elements.{filter_agree}
use Rattle.std.proofs.lemmas.List.FromFn.{get_or-range_with_len, length-range_with_len}
use Rattle.std.proofs.lemmas.Option.{slice_get-get_or, slice_get_within}
use Rattle.ecore_meta.specs.Above.{above_of}
use Rattle.ecore_meta.specs.Ends.{end_in, target_in}
use Rattle.ecore_meta.specs.Meta.{Meta, is_a}
use Rattle.ecore_meta.specs.Promised.{IsMetamodel, declared}
use Rattle.ecore_meta.specs.Ranges.{scalar_in}
use Rattle.ecore_meta.specs.Typing.{kind_of}
use Rattle.ecore_meta.specs.declared.meta.Class.{Class}
use Rattle.ecore_meta.specs.declared.meta.Feature.{Feature}
use Rattle.ecore_meta.specs.declared.meta.Kind.{Kind}
use Rattle.ecore_meta.specs.declared.meta.Kind.TheVariants.{Attr, AttrMany, Bounded, Free, Contains, Container, Skip}
use Rattle.ecore_meta.specs.declared.meta.Scalar.{Scalar}
use Rattle.ecore_meta.specs.declared.meta.Scalar.TheVariants.{Text, Flag, Byte, Short, Int, Long, Literal}
use Rattle.ecore_meta.proofs.RisingLaws.{rising_range, same_rising}
use Rattle.metamodel_growth.specs.Order.{IsIdentity, place_in, places}
use Rattle.metamodel_growth.specs.Renumbered.{AreIdentities, AreOrders, class_moved, feature_moved, kind_moved, renumbered, scalar_moved}
use Rattle.metamodel_growth.specs.declared.order.Orders.{Orders}
use Rattle.metamodel_growth.proofs.CodeLaws.{none_less, range_more}
use Rattle.metamodel_growth.proofs.ExtensionLaws.{low_enum, low_opposite}
use Rattle.metamodel_growth.proofs.OrderLaws.{in_places, place_back, places_rise, rising_distinct}
use Rattle.metamodel_growth.proofs.PlaceLaws.{in_above, low_declared}
use Rattle.metamodel_growth.proofs.RenumberLaws.{by_option, got_more}

-- ---- numbers that stand in their own places
own_get : (m k : ℕ) → k < m → slice_get (range_with_len 0 m) k ≡ Some k
own_get m k lt =
    slice_get-get_or (range_with_len 0 m) k 0 (omega (arith, length-range_with_len 0 m))
    ∙ ap Some (get_or-range_with_len 0 m k 0 lt ∙ none_less k)

own_place : (m k : ℕ) → k < m → place_in (range_with_len 0 m) k ≡ k
own_place m k lt = place_back (range_with_len 0 m) (rising_distinct (range_with_len 0 m) (rising_range 0 m)) k k (own_get m k lt)

-- a test of numbers below m passes the same of them in their places
own_test : (test : ℕ → Bool) (m : ℕ) → ((k : ℕ) → test k ≡ true → k < m) → (k : ℕ)
    → option_map_or test (slice_get (range_with_len 0 m) k) false ≡ test k
own_test test m low k = by_test (test k) refl
  where
    there : k < m → option_map_or test (slice_get (range_with_len 0 m) k) false ≡ test k
    there lt = ap (λ o. option_map_or test o false) (own_get m k lt)

    by_test : (b : Bool) → test k ≡ b → option_map_or test (slice_get (range_with_len 0 m) k) false ≡ test k
    by_test true e = there (low k e)
    by_test false e = by_option (slice_get (range_with_len 0 m) k)
        (λ none. ap (λ o. option_map_or test o false) none ∙ sym e)
        (λ x at. let lt = slice_get_within (range_with_len 0 m) k x at in there (omega (arith, lt, length-range_with_len 0 m)))

own_places : (test : ℕ → Bool) (m : ℕ) → ((k : ℕ) → test k ≡ true → k < m) → places test (range_with_len 0 m) ≡ filter test (range_with_len 0 m)
own_places test m low =
    filter_agree (λ k. option_map_or test (slice_get (range_with_len 0 m) k) false) test (own_test test m low)
    (range_with_len 0 (length (range_with_len 0 m)))
    ∙ ap (λ j. filter test (range_with_len 0 j)) (length-range_with_len 0 m)

-- ---- as the code finds it
pub one_more_own : (xs : List ℕ) (i : ℕ) → i < length xs → get_or xs i 0 ≡ i → take i xs ≡ range_with_len 0 i
    → take (i + 1) xs ≡ range_with_len 0 (i + 1)
one_more_own xs i lt at is =
    take_more xs i 0 lt
    ∙ ap (λ ys. ys ++ get_or xs i 0 ∷ []) is
    ∙ ap (λ k. range_with_len 0 i ++ k ∷ []) (at ∙ sym (none_less i))
    ∙ sym (range_more 0 i)

pub all_own : (xs : List ℕ) (i : ℕ) → take i xs ≡ range_with_len 0 i → i ≤ length xs → length xs ≤ i → IsIdentity xs
all_own xs i is few many =
    let long : i ≡ length xs = omega (arith, few, many) in
    sym (take_all i xs many) ∙ is ∙ ap (range_with_len 0) long

pub one_not_own : (xs : List ℕ) (i : ℕ) → i < length xs → (get_or xs i 0 ≡ i → ⊥) → IsIdentity xs → ⊥
one_not_own xs i lt other is = other (ap (λ ys. get_or ys i 0) is ∙ get_or-range_with_len 0 (length xs) i 0 lt ∙ none_less i)

-- ---- what is found for each number of a list is the list
up : (a i : ℕ) → a + 1 + i ≡ a + suc i
up a i = omega arith

none_more : (a : ℕ) → a ≡ a + 0
none_more a = omega arith

got_all : {X : Type 0} (h : ℕ → Option X) (a : ℕ) (xs : List X) → ((i : ℕ) (x : X) → slice_get xs i ≡ Some x → h (a + i) ≡ Some x)
    → filter_map h (range_with_len a (length xs)) ≡ xs
got_all h a [] all = refl
got_all h a (x ∷ xs) all =
    got_more h a (range_with_len (a + 1) (length xs)) x (ap h (none_more a) ∙ all 0 x refl)
    ∙ ap (λ ys. x ∷ ys) (got_all h (a + 1) xs (λ i y at. ap h (up a i) ∙ all (suc i) y at))

mapped_all : {X : Type 0} (g : ℕ → X) (a : ℕ) (xs : List X) → ((i : ℕ) (x : X) → slice_get xs i ≡ Some x → g (a + i) ≡ x)
    → map g (range_with_len a (length xs)) ≡ xs
mapped_all g a [] all = refl
mapped_all g a (x ∷ xs) all =
    let head : g a ≡ x = ap g (none_more a) ∙ all 0 x refl in
    let tail : map g (range_with_len (a + 1) (length xs)) ≡ xs = mapped_all g (a + 1) xs (λ i y at. ap g (up a i) ∙ all (suc i) y at) in
    λ i. head i ∷ tail i

-- ---- each part stays
module _ (n : Meta) (is : IsMetamodel n) where
  abbrev own : Orders
  own = record {
    classes = range_with_len 0 (length n.classes);
    features = range_with_len 0 (length n.features);
    enums = range_with_len 0 (length n.enums);
  }

  class_stays : (c : ℕ) (x : Class) → slice_get n.classes c ≡ Some x → class_moved n own c x ≡ x
  class_stays c x at =
      let has : places (declared n c) own.features ≡ x.features =
      own_places (declared n c) (length n.features) (low_declared n c) ∙ sym (is.lists c) ∙ ap (λ o. option_map_or (λ (k : Class). k.features) o []) at in
      λ i. record { name = x.name; is_abstract = x.is_abstract; features = has i }

  above_stays : (c : ℕ) (ds : List ℕ) → slice_get n.above c ≡ Some ds → places (is_a n c) own.classes ≡ ds
  above_stays c ds at =
      same_rising (places (is_a n c) own.classes) (above_of n c) (places_rise (is_a n c) own.classes) (is.above.rising c)
      (λ d. in_places (is_a n c) own.classes d ∙ own_test (is_a n c) (length n.classes) (is.above.classes c) d ∙ sym (in_above n c d))
      ∙ ap (λ o. option_map_or (λ ks. ks) o []) at

  scalar_stays : (s : Scalar) → ((e : ℕ) → s ≡ Literal e → e < length n.enums) → scalar_moved own s ≡ s
  scalar_stays (Literal e) low = ap (λ (z : ℕ). Literal z) (own_place (length n.enums) e (low e refl))
  scalar_stays Text low = refl
  scalar_stays Flag low = refl
  scalar_stays Byte low = refl
  scalar_stays Short low = refl
  scalar_stays Int low = refl
  scalar_stays Long low = refl

  opposite_stays : (o : Option ℕ) → ((f : ℕ) → o ≡ Some f → f < length n.features) → option_map (place_in own.features) o ≡ o
  opposite_stays None low = refl
  opposite_stays (Some f) low = ap (λ (z : ℕ). Some z) (own_place (length n.features) f (low f refl))

  kind_stays : (k : Kind) → ((c : ℕ) → target_in k ≡ Some c → c < length n.classes) → ((f : ℕ) → end_in k ≡ Some f → f < length n.features)
      → ((e : ℕ) → scalar_in k ≡ Some (Literal e) → e < length n.enums) → kind_moved own k ≡ k
  kind_stays (Attr scalar default) target opposite literal =
      ap (λ s. Attr s default) (scalar_stays scalar (λ e is_e. literal e (ap Some is_e)))
  kind_stays (AttrMany scalar unique) target opposite literal =
      ap (λ s. AttrMany s unique) (scalar_stays scalar (λ e is_e. literal e (ap Some is_e)))
  kind_stays (Bounded c f) target opposite literal =
      let to = own_place (length n.classes) c (target c refl) in let from = opposite_stays f opposite in λ i. Bounded (to i) (from i)
  kind_stays (Free c f) target opposite literal =
      let to = own_place (length n.classes) c (target c refl) in let from = opposite_stays f opposite in λ i. Free (to i) (from i)
  kind_stays (Contains c f) target opposite literal =
      let to = own_place (length n.classes) c (target c refl) in let from = opposite_stays f opposite in λ i. Contains (to i) (from i)
  kind_stays (Container c f) target opposite literal =
      let to = own_place (length n.classes) c (target c refl) in
      let from = own_place (length n.features) f (opposite f refl) in
      λ i. Container (to i) (from i)
  kind_stays Skip target opposite literal = refl

  feature_stays : (f : ℕ) (x : Feature) → slice_get n.features f ≡ Some x → feature_moved own x ≡ x
  feature_stays f x at =
      let here : kind_of n f ≡ x.kind = ap (λ o. option_map_or (λ (feature : Feature). feature.kind) o Skip) at in
      let owner = own_place (length n.classes) x.owner (is.in_range.owners f x at) in
      let kind = kind_stays x.kind
      (λ c e. is.in_range.targets f c (ap target_in here ∙ e))
      (λ g e. low_opposite n is f g (ap end_in here ∙ e))
      (λ k e. low_enum n is k (is.in_range.enums f k (ap scalar_in here ∙ e))) in
      λ i. record { owner = owner i; name = x.name; lower = x.lower; upper = x.upper; kind = kind i }

  classes_stay : filter_map (λ c. option_map (class_moved n own c) (slice_get n.classes c)) own.classes ≡ n.classes
  classes_stay = got_all (λ c. option_map (class_moved n own c) (slice_get n.classes c)) 0 n.classes (λ c x at.
      ap (λ k. option_map (class_moved n own k) (slice_get n.classes k)) (none_less c)
      ∙ ap (option_map (class_moved n own c)) at ∙ ap Some (class_stays c x at))

  all_above_stay : map (λ c. places (is_a n c) own.classes) own.classes ≡ n.above
  all_above_stay =
      ap (λ m. map (λ c. places (is_a n c) own.classes) (range_with_len 0 m)) (sym is.above.many)
      ∙ mapped_all (λ c. places (is_a n c) own.classes) 0 n.above (λ c ds at.
      ap (λ k. places (is_a n k) own.classes) (none_less c) ∙ above_stays c ds at)

  features_stay : filter_map (λ f. option_map (feature_moved own) (slice_get n.features f)) own.features ≡ n.features
  features_stay = got_all (λ f. option_map (feature_moved own) (slice_get n.features f)) 0 n.features (λ f x at.
      ap (λ k. option_map (feature_moved own) (slice_get n.features k)) (none_less f)
      ∙ ap (option_map (feature_moved own)) at ∙ ap Some (feature_stays f x at))

  enums_stay : filter_map (slice_get n.enums) own.enums ≡ n.enums
  enums_stay = got_all (slice_get n.enums) 0 n.enums (λ e x at. ap (slice_get n.enums) (none_less e) ∙ at)

  own_stays : renumbered n own ≡ n
  own_stays = λ i. record { uri = n.uri; classes = classes_stay i; above = all_above_stay i; features = features_stay i; enums = enums_stay i }

-- the metamodel by numbers that are its own is the same metamodel
pub renumbered_stays : (n : Meta) → IsMetamodel n → (to : Orders) → to.classes ≡ range_with_len 0 (length n.classes)
    → to.features ≡ range_with_len 0 (length n.features) → to.enums ≡ range_with_len 0 (length n.enums) → renumbered n to ≡ n
renumbered_stays n is to classes features enums =
    (λ i. renumbered n (record { classes = classes i; features = features i; enums = enums i })) ∙ own_stays n is

-- so it is where each order of its parts is the identity
pub identities_stay : (n : Meta) → IsMetamodel n → (to : Orders) → AreOrders n to → AreIdentities to → renumbered n to ≡ n
identities_stay n is to are own = renumbered_stays n is to
    (own.classes ∙ ap (range_with_len 0) are.classes.long)
    (own.features ∙ ap (range_with_len 0) are.features.long)
    (own.enums ∙ ap (range_with_len 0) are.enums.long)
