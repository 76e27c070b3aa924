-- A class has a feature exactly where the class that declares it is that class or above it.
use Rattle.std.proofs.Common.{length-append, ◌≡◌, ℕ, zero, suc, ◌+◌, ◌<◌, ◌≤◌, Bool, true, false, cond, List, [], ◌∷◌, ◌++◌, ◌⊎◌, inl, inr, refl, sym}
use Rattle.std.proofs.Common.{ap, subst, ◌∙◌, arith, length, map, nat_eq}
use Rattle.std.specs.Prelude.{Option, None, Some, slice_get}
use Rattle.std.specs.List.{list_any, filter, flat_map, range_with_len}
use Rattle.std.specs.Option.{option_map_or}
use Rattle.std.proofs.lemmas.List.{length-map}
use Rattle.std.proofs.lemmas.List.Elements.{filter-append}
use Rattle.ecore_build.specs.Build.{feature_from, meta_of}
use Rattle.ecore_drafts.specs.Document.{ClassifierRows, own_features, supers_in}
use Rattle.ecore_drafts.specs.Drafts.{draft, drafts}
use Rattle.ecore_build.specs.Faults.{all_inherited, features_in, features_of, inherited, is_declared, enums_in, own_of}
use Rattle.ecore_meta.specs.Meta.{Meta, features_of as class_features, has_feature, is_a}
use Rattle.ecore_meta.specs.declared.meta.Feature.{Feature}
use Rattle.ecore_drafts.specs.Supers.{is_above}
use Rattle.ecore_meta.specs.Promised.{ListsDeclared}
use Rattle.ecore_drafts.specs.declared.drafts.FeatureDraft.{FeatureDraft}
use Rattle.ecore_meta.specs.declared.meta.Class.{Class as Made}
use Rattle.ecore_drafts.specs.declared.rows.FeatureRow.{FeatureRow}
use Rattle.ecore_drafts.specs.declared.rows.MetaRows.{MetaRows}
use Rattle.ecore_drafts.specs.declared.rows.ClassifierRow.TheVariants.{Class, Enum, Plain}
use Rattle.ecore_meta.proofs.RisingLaws.{in_kept}
use Rattle.ecore_build.proofs.BuildLaws.{classes_at, supers_inside}
use Rattle.ecore_drafts.proofs.OwnLaws.{own_features_counted, own_features_from}
use Rattle.ecore_drafts.proofs.PlaceLaws.{drafts_counted, drafts_from}
use Rattle.ecore_drafts.proofs.TableLaws.{above_none, table_is}

split : (k n : ℕ) → (k < n) ⊎ (n ≤ k)
split k zero = inr (omega arith)
split zero (suc n) = inl (omega arith)
split (suc k) (suc n) = elim (split k n) [ inl h ↦ inl (omega arith) | inr h ↦ inr (omega arith) ]

get_right : {X : Type 0} (xs ys : List X) (k j : ℕ) → k ≡ length xs + j → slice_get (xs ++ ys) k ≡ slice_get ys j
get_right [] ys k j h = ap (slice_get ys) (same k j h)
  where
    same : (k j : ℕ) → k ≡ 0 + j → k ≡ j
    same k j h = omega (arith, h)
get_right (x ∷ xs) ys zero j h = absurd (omega (arith, h))
get_right (x ∷ xs) ys (suc k) j h = get_right xs ys k j (omega (arith, h))

ranged : (g : ℕ → List ℕ) (a n c : ℕ) → c < n → own_of (map g (range_with_len a n)) c ≡ g (a + c)
ranged g a zero c h = absurd (omega arith)
ranged g a (suc n) zero h = ap g (plus_none a)
  where
    plus_none : (a : ℕ) → a ≡ a + 0
    plus_none a = omega arith
ranged g a (suc n) (suc c) h = ranged g (a + 1) n c (omega arith) ∙ ap g (shift a c)
  where
    shift : (a c : ℕ) → a + 1 + c ≡ a + suc c
    shift a c = omega arith

got_test : {X Y : Type 0} (h : Y → Bool) (g : X → Y) (xs : List X) (k : ℕ)
    → option_map_or h (slice_get (map g xs) k) false ≡ option_map_or (λ x. h (g x)) (slice_get xs k) false
got_test h g [] k = refl
got_test h g (x ∷ xs) zero = refl
got_test h g (x ∷ xs) (suc k) = got_test h g xs k

low_draft : (ds : List FeatureDraft) (f : ℕ) (h : FeatureDraft → Bool) → option_map_or h (slice_get ds f) false ≡ true → f < length ds
low_draft [] f h e = cc
low_draft (x ∷ xs) zero h e = omega arith
low_draft (x ∷ xs) (suc f) h e = let more = low_draft xs f h e in omega (arith, more)

-- a test that answers b at each number of a range keeps all of it or nothing
kept_all : (test : ℕ → Bool) (b : Bool) (m f : ℕ) → ((k : ℕ) → k < m → test (f + k) ≡ b) → filter test (range_with_len f m) ≡ cond b (range_with_len f m) []
kept_all test true zero f h = refl
kept_all test false zero f h = refl
kept_all test b (suc m) f h = by_answer b h (λ d more. kept_all test d m (f + 1) more)
  where
    plus_none : (f : ℕ) → f ≡ f + 0
    plus_none f = omega arith

    shift : (f k : ℕ) → f + 1 + k ≡ f + suc k
    shift f k = omega arith

    by_answer : (b : Bool) → ((k : ℕ) → k < suc m → test (f + k) ≡ b)
        → ((d : Bool) → ((k : ℕ) → k < m → test (f + 1 + k) ≡ d) → filter test (range_with_len (f + 1) m) ≡ cond d (range_with_len (f + 1) m) [])
        → filter test (range_with_len f (suc m)) ≡ cond b (range_with_len f (suc m)) []
    by_answer true h on =
        ap (λ t. cond t (f ∷ filter test (range_with_len (f + 1) m)) (filter test (range_with_len (f + 1) m))) (ap test (plus_none f) ∙ h 0 (omega arith))
        ∙ ap (λ xs. f ∷ xs) (on true (λ k less. ap test (shift f k) ∙ h (suc k) (omega arith)))
    by_answer false h on =
        ap (λ t. cond t (f ∷ filter test (range_with_len (f + 1) m)) (filter test (range_with_len (f + 1) m))) (ap test (plus_none f) ∙ h 0 (omega arith))
        ∙ on false (λ k less. ap test (shift f k) ∙ h (suc k) (omega arith))

range_append : (f m n : ℕ) → range_with_len f (m + n) ≡ range_with_len f m ++ range_with_len (f + m) n
range_append f zero n = ap (range_with_len f) (none_more n) ∙ ap (λ k. range_with_len k n) (plus_none f)
  where
    none_more : (n : ℕ) → 0 + n ≡ n
    none_more n = omega arith

    plus_none : (f : ℕ) → f ≡ f + 0
    plus_none f = omega arith
range_append f (suc m) n =
    ap (range_with_len f) (one_more m n)
    ∙ ap (λ xs. f ∷ xs) (range_append (f + 1) m n ∙ ap (λ k. range_with_len (f + 1) m ++ range_with_len k n) (shift f m))
  where
    one_more : (m n : ℕ) → suc m + n ≡ suc (m + n)
    one_more m n = omega arith

    shift : (f m : ℕ) → f + 1 + m ≡ f + suc m
    shift f m = omega arith

flat_first : (g : ℕ → List ℕ) (b : Bool) (n : ℕ) (xs : List ℕ) → flat_map g (cond b (n ∷ xs) xs) ≡ cond b (g n) [] ++ flat_map g xs
flat_first g true n xs = refl
flat_first g false n xs = refl

-- a feature of the first class has that class as its owner
own_draft : (all : ClassifierRows) (n : ℕ) (fs : List FeatureRow) (rest : List FeatureDraft) (k : ℕ) → k < length fs
    → (d : FeatureDraft) × (slice_get (map (draft all n) fs ++ rest) k ≡ Some d) × (d.owner ≡ n)
own_draft all n [] rest k h = absurd (omega arith)
own_draft all n (x ∷ fs) rest zero h = (draft all n x, refl, refl)
own_draft all n (x ∷ fs) rest (suc k) h = own_draft all n fs rest k (omega arith)

-- what the classes that pass declare, class by class, is by number what a class that passes declares
gathered_is : (all : ClassifierRows) (P : ℕ → Bool) (g : ℕ → List ℕ) (test : ℕ → Bool) (n f : ℕ) (rows : ClassifierRows)
    → ((b : ℕ) → g (n + b) ≡ own_of (own_features_from f rows) b)
    → ((k : ℕ) (d : FeatureDraft) → slice_get (drafts_from all n rows) k ≡ Some d → test (f + k) ≡ P d.owner)
    → flat_map g (filter P (range_with_len n (length (supers_in all rows)))) ≡ filter test (range_with_len f (length (drafts_from all n rows)))
gathered_is all P g test n f [] h t = refl
gathered_is all P g test n f (Class c ∷ rows) h t =
    flat_first g (P n) n (filter P (range_with_len (n + 1) (length (supers_in all rows))))
    ∙ ap (λ ys. cond (P n) ys [] ++ flat_map g (filter P (range_with_len (n + 1) (length (supers_in all rows))))) (ap g (plus_none n) ∙ h 0)
    ∙ ap (λ ys. cond (P n) (range_with_len f (length c.features)) [] ++ ys)
    (ap (λ k. flat_map g (filter P (range_with_len k (length (supers_in all rows))))) (plus_one n)
    ∙ gathered_is all P g test (suc n) (f + length c.features) rows
    (λ b. ap g (one_more n b) ∙ h (suc b))
    (λ k d is. ap test (joined f (length c.features) k)
    ∙ t (length c.features + k) d (get_right own later (length c.features + k) k (omega (arith, long)) ∙ is)))
    ∙ ap (λ ys. ys ++ filter test (range_with_len (f + length c.features) (length later)))
    (sym (kept_all test (P n) (length c.features) f (λ k less. let at = own_draft all n c.features later k less in t k at.0 at.1 ∙ ap P at.2)))
    ∙ sym (filter-append test (range_with_len f (length c.features)) (range_with_len (f + length c.features) (length later)))
    ∙ ap (filter test) (sym (range_append f (length c.features) (length later)))
    ∙ ap (λ k. filter test (range_with_len f k)) (ap (λ k. k + length later) (sym long) ∙ sym (length-append own later))
  where
    own : List FeatureDraft
    own = map (draft all n) c.features

    later : List FeatureDraft
    later = drafts_from all (suc n) rows

    long : length own ≡ length c.features
    long = length-map c.features (draft all n)

    plus_none : (n : ℕ) → n ≡ n + 0
    plus_none n = omega arith

    plus_one : (n : ℕ) → n + 1 ≡ suc n
    plus_one n = omega arith

    one_more : (n b : ℕ) → suc n + b ≡ n + suc b
    one_more n b = omega arith

    joined : (f m k : ℕ) → f + m + k ≡ f + (m + k)
    joined f m k = omega arith
gathered_is all P g test n f (Enum e ∷ rows) h t = gathered_is all P g test n f rows h t
gathered_is all P g test n f (Plain e ∷ rows) h t = gathered_is all P g test n f rows h t

class_is : (all : ClassifierRows) (c : ℕ) → inherited (supers_in all all) (own_features_from 0 all) c ≡ features_in (supers_in all all) (drafts all) c
unfolding inherited
class_is all c =
    gathered_is all above (own_of own) declares 0 0 all (λ b. ap (own_of own) (none_more b))
    (λ k d is. ap declares (none_more k)
    ∙ ap (λ o. option_map_or (λ (d : FeatureDraft). above d.owner) o false) (ap (λ ds. slice_get ds k) (drafts_counted all) ∙ is))
    ∙ ap (λ k. filter declares (range_with_len 0 k)) (sym (ap length (drafts_counted all)))
  where
    own : List (List ℕ)
    own = own_features_from 0 all

    above : ℕ → Bool
    above = is_above (supers_in all all) c

    declares : ℕ → Bool
    declares = is_declared (supers_in all all) (drafts all) c

    none_more : (n : ℕ) → 0 + n ≡ n
    none_more n = omega arith

owner_low : (all : ClassifierRows) (n : ℕ) (rows : ClassifierRows) (k : ℕ) (d : FeatureDraft) → slice_get (drafts_from all n rows) k ≡ Some d
    → d.owner < n + length (supers_in all rows)
owner_low all n [] k d h = cc
owner_low all n (Class c ∷ rows) k d h = part (λ j. owner_low all (suc n) rows j d) c.features k h
  where
    part : ((j : ℕ) → slice_get (drafts_from all (suc n) rows) j ≡ Some d → d.owner < suc n + length (supers_in all rows))
        → (fs : List FeatureRow) (k : ℕ) → slice_get (map (draft all n) fs ++ drafts_from all (suc n) rows) k ≡ Some d
        → d.owner < n + suc (length (supers_in all rows))
    part on [] k h = let more = on k h in omega (arith, more)
    part on (x ∷ fs) zero h = owner (draft all n x) d h (omega arith)
      where
        owner : (x d : FeatureDraft) → Some x ≡ Some d → x.owner < n + suc (length (supers_in all rows)) → d.owner < n + suc (length (supers_in all rows))
        owner x d h e = let same : x ≡ d = cc in subst (λ y. y.owner < n + suc (length (supers_in all rows))) same e
    part on (x ∷ fs) (suc k) h = part on fs k h
owner_low all n (Enum r ∷ rows) k d h = owner_low all n rows k d h
owner_low all n (Plain t ∷ rows) k d h = owner_low all n rows k d h

-- the class that declares a feature is one of the document
pub owner_below : (all : ClassifierRows) (f : ℕ) (d : FeatureDraft) → slice_get (drafts all) f ≡ Some d → d.owner < length (supers_in all all)
owner_below all f d is = let low = owner_low all 0 all f d (ap (λ ds. slice_get ds f) (sym (drafts_counted all)) ∙ is) in omega (arith, low)

pub listed_is : (all : ClassifierRows) → all_inherited (supers_in all all) (own_features all) ≡ features_of all
listed_is all = ap (all_inherited (supers_in all all)) (own_features_counted all)
    ∙ (λ i. map (λ c. class_is all c i) (range_with_len 0 (length (supers_in all all))))

-- ---- the features of a class of the metamodel
filter_none : (p : ℕ → Bool) → ((k : ℕ) → p k ≡ false) → (xs : List ℕ) → filter p xs ≡ []
filter_none p none [] = refl
filter_none p none (x ∷ xs) = ap (λ b. cond b (x ∷ filter p xs) (filter p xs)) (none x) ∙ filter_none p none xs

class_listed : (all : ClassifierRows) (n : ℕ) (fs : List (List ℕ)) (rows : ClassifierRows) (c : ℕ) → c < length (supers_in all rows)
    → option_map_or (λ (class : Made). class.features) (slice_get (classes_at n fs rows) c) [] ≡ own_of fs (n + c)
class_listed all n fs [] c h = absurd (omega arith)
class_listed all n fs (Class r ∷ rows) zero h = ap (own_of fs) (plus_none n)
  where
    plus_none : (n : ℕ) → n ≡ n + 0
    plus_none n = omega arith
class_listed all n fs (Class r ∷ rows) (suc c) h = class_listed all (n + 1) fs rows c (omega arith) ∙ ap (own_of fs) (shift n c)
  where
    shift : (n c : ℕ) → n + 1 + c ≡ n + suc c
    shift n c = omega arith
class_listed all n fs (Enum e ∷ rows) c h = class_listed all n fs rows c h
class_listed all n fs (Plain t ∷ rows) c h = class_listed all n fs rows c h

no_class : (all : ClassifierRows) (n : ℕ) (fs : List (List ℕ)) (rows : ClassifierRows) (c : ℕ) → length (supers_in all rows) ≤ c
    → option_map_or (λ (class : Made). class.features) (slice_get (classes_at n fs rows) c) [] ≡ []
no_class all n fs [] c h = refl
no_class all n fs (Class r ∷ rows) zero h = absurd (omega arith)
no_class all n fs (Class r ∷ rows) (suc c) h = no_class all (n + 1) fs rows c (omega arith)
no_class all n fs (Enum e ∷ rows) c h = no_class all n fs rows c h
no_class all n fs (Plain t ∷ rows) c h = no_class all n fs rows c h

none_declared : (supers : List (List ℕ)) (ds : List FeatureDraft) (c : ℕ) → length supers ≤ c → (f : ℕ) → is_declared supers ds c f ≡ false
none_declared supers ds c h f = by_draft (slice_get ds f)
  where
    by_draft : (o : Option FeatureDraft) → option_map_or (λ (d : FeatureDraft). is_above supers c d.owner) o false ≡ false
    by_draft None = refl
    by_draft (Some d) = above_none supers c d.owner h

class_features_are : (rows : MetaRows) (c : ℕ)
    → class_features (meta_of rows) c ≡ features_in (supers_in rows.classifiers rows.classifiers) (drafts rows.classifiers) c
class_features_are rows c = by_place (split c (length supers))
  where
    all : ClassifierRows
    all = rows.classifiers

    supers : List (List ℕ)
    supers = supers_in all all

    none_less : (n : ℕ) → n ≡ 0 + n
    none_less n = omega arith

    by_place : (c < length supers) ⊎ (length supers ≤ c) → class_features (meta_of rows) c ≡ features_in supers (drafts all) c
    by_place (inl lt) =
        class_listed all 0 (features_of all) all c lt ∙ ap (own_of (features_of all)) (sym (none_less c))
        ∙ ranged (features_in supers (drafts all)) 0 (length supers) c lt ∙ ap (features_in supers (drafts all)) (sym (none_less c))
    by_place (inr le) = no_class all 0 (features_of all) all c le
        ∙ sym (filter_none (is_declared supers (drafts all) c) (none_declared supers (drafts all) c le) (range_with_len 0 (length (drafts all))))

-- a class of the metamodel is another exactly where it is that class or below it
pub is_a_is : (rows : MetaRows) (c d : ℕ) → is_a (meta_of rows) c d ≡ is_above (supers_in rows.classifiers rows.classifiers) c d
is_a_is rows c d = table_is (supers_in rows.classifiers rows.classifiers) (supers_inside rows.classifiers _ refl) c d

-- the features of a class are, by number, those that it or a class above it declares
pub lists_declared : (rows : MetaRows) → ListsDeclared (meta_of rows)
lists_declared rows c =
    class_features_are rows c
    ∙ (λ i. filter (λ f. option_map_or (λ (d : FeatureDraft). sym (is_a_is rows c d.owner) i) (slice_get ds f) false) (range_with_len 0 (length ds)))
    ∙ (λ i. filter (λ f. sym (got_test (λ (feature : Feature). is_a (meta_of rows) c feature.owner) g ds f) i) (range_with_len 0 (sym (length-map ds g) i)))
  where
    ds : List FeatureDraft
    ds = drafts rows.classifiers

    g : FeatureDraft → Feature
    g = feature_from (enums_in rows.classifiers) ds

has_any : (meta : Meta) (c f : ℕ) → has_feature meta c f ≡ list_any (nat_eq f) (class_features meta c)
has_any meta c f = elim (slice_get meta.classes c) as (λ x.
    option_map_or (λ (class : Made). list_any (nat_eq f) class.features) x false ≡ list_any (nat_eq f)
    (option_map_or (λ (class : Made). class.features) x [])) [
      | None ↦ refl
      | Some k ↦ refl
    ]

-- a class has a feature exactly where the class that declares it is that class or above it
pub has_is : (rows : MetaRows) (c f : ℕ) (d : FeatureDraft) → slice_get (drafts rows.classifiers) f ≡ Some d
    → has_feature (meta_of rows) c f ≡ is_a (meta_of rows) c d.owner
has_is rows c f d is =
    let supers = supers_in rows.classifiers rows.classifiers in
    let ds = drafts rows.classifiers in
    has_any (meta_of rows) c f ∙ ap (list_any (nat_eq f)) (class_features_are rows c)
    ∙ in_kept (is_declared supers ds c) (length ds) f (low_draft ds f (λ (d : FeatureDraft). is_above supers c d.owner))
    ∙ ap (λ x. option_map_or (λ (d : FeatureDraft). is_above supers c d.owner) x false) is ∙ sym (is_a_is rows c d.owner)
