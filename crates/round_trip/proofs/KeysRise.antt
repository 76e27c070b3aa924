-- The names of the keys of an object rise.
use Rattle.std.proofs.Common.{◌≡◌, ℕ, false, List, [], ◌∷◌, map, refl, sym, subst, codes}
use Rattle.std.specs.declared.cmp.Ordering.{Ordering}
use Rattle.std.specs.declared.cmp.Ordering.TheVariants.{Less, Equal, Greater}
use Rattle.std.specs.Ordering.{is_lt, nat_cmp, ordering_then}
use Rattle.std.specs.Cmp.Lexicographic.{slice_cmp}
use Rattle.std.specs.List.{AllByRecursion, list_any}
use Rattle.std.specs.Str.{bytes_eq}
use Rattle.std.proofs.lemmas.Bool.{or_parts}
use Rattle.std.proofs.lemmas.Map.Lookups.{exact_bytes}
use Rattle.finite_maps.specs.Sorts.{in_order}
use Rattle.finite_maps.proofs.SortLaws.{Rises, rises-in_order}
use Rattle.ecore_meta.specs.Meta.{Meta, features_of, name_at}
use Rattle.ecore_meta.specs.Names.{has_repeat}
use Rattle.model_texts.specs.Keys.{key_cmp, key_name, key_number, keys_of}
use Rattle.model_texts.proofs.Order.{key_order}
use Rattle.ecore_meta.specs.Named.{IsNamed}
use Rattle.round_trip.proofs.KeysPairs.{Pairs, pairs_in_order, bytes_differ}
use Rattle.round_trip.proofs.KeysTypes.{Key, Ident, Class, Feature, keys_are}

module _ (meta : Meta) where
  -- keys of different names
  abbrev Differ : Key → Key → Type 0
  Differ k l = key_name meta k ≡ key_name meta l → ⊥

  -- the name stands after the other
  abbrev pub IsAfter : Key → Key → Type 0
  IsAfter k l = slice_cmp nat_cmp (key_name meta l) (key_name meta k) ≡ Greater

  -- each key's name stands before those of the keys after it
  abbrev pub InOrder : List Key → Type 0
  InOrder ks = Pairs IsAfter ks

  differ_from : (f : ℕ) (fs : List ℕ) → list_any (bytes_eq (name_at meta.features f)) (map (name_at meta.features) fs) ≡ false
      → AllByRecursion (Differ (Feature f)) (map Feature fs)
  unfolding keys_of Feature
  differ_from f [] h = tt
  differ_from f (g ∷ fs) h =
      let parts = or_parts (bytes_eq (name_at meta.features f) (name_at meta.features g))
      (list_any (bytes_eq (name_at meta.features f)) (map (name_at meta.features) fs)) h in
      (bytes_differ (name_at meta.features f) (name_at meta.features g) parts.0, differ_from f fs parts.1)

  features_differ : (fs : List ℕ) → has_repeat (map (name_at meta.features) fs) ≡ false → Pairs Differ (map Feature fs)
  features_differ [] h = tt
  features_differ (f ∷ fs) h =
      let parts = or_parts (list_any (bytes_eq (name_at meta.features f)) (map (name_at meta.features) fs)) (has_repeat (map (name_at meta.features) fs)) h in
      (differ_from f fs parts.0, features_differ fs parts.1)

  module _ (named : IsNamed meta) where
    pub not_class : (f : ℕ) → codes "eClass" ≡ name_at meta.features f → ⊥
    not_class f e = bytes_differ _ _
        (or_parts (bytes_eq (name_at meta.features f) (codes "eClass")) (bytes_eq (name_at meta.features f) (codes "_id")) (named.keys f)).0 (sym e)

    pub not_ident : (f : ℕ) → codes "_id" ≡ name_at meta.features f → ⊥
    not_ident f e = bytes_differ _ _
        (or_parts (bytes_eq (name_at meta.features f) (codes "eClass")) (bytes_eq (name_at meta.features f) (codes "_id")) (named.keys f)).1 (sym e)

    all_features : (k : Key) → ((f : ℕ) → Differ k (Feature f)) → (fs : List ℕ) → AllByRecursion (Differ k) (map Feature fs)
    all_features k h [] = tt
    all_features k h (f ∷ fs) = (h f, all_features k h fs)

    keys_differ : (c : ℕ) → Pairs Differ (Ident ∷ Class ∷ map Feature (features_of meta c))
    unfolding keys_of Ident Class Feature
    keys_differ c = (
      (bytes_differ (codes "_id") (codes "eClass") refl, all_features Ident not_ident (features_of meta c)),
      (all_features Class not_class (features_of meta c), features_differ (features_of meta c) (named.features c)),
    )

    -- what stands after and differs is above
    is_above : (k l : Key) (r : Ordering) → slice_cmp nat_cmp (key_name meta l) (key_name meta k) ≡ r
        → is_lt (ordering_then r (nat_cmp (key_number l) (key_number k))) ≡ false → Differ k l → r ≡ Greater
    is_above k l Less is h d = cc
    is_above k l Equal is h d = absurd (d (sym (exact_bytes (key_name meta l) (key_name meta k) is)))
    is_above k l Greater is h d = refl

    all_above : (k : Key) (ls : List Key) → AllByRecursion (λ l. is_lt (key_cmp meta l k) ≡ false) ls → AllByRecursion (Differ k) ls
        → AllByRecursion (IsAfter k) ls
    all_above k [] h d = tt
    all_above k (l ∷ ls) h d = (is_above k l _ refl h.0 d.0, all_above k ls h.1 d.1)

    rising : (ks : List Key) → Rises (key_cmp meta) ks → Pairs Differ ks → InOrder ks
    rising [] h d = tt
    rising (k ∷ ks) h d = (all_above k ks h.0 d.0, rising ks h.1 d.1)

    pub keys_rise : (c : ℕ) → InOrder (keys_of meta c)
    keys_rise c =
        let all = Ident ∷ Class ∷ map Feature (features_of meta c) in
        subst InOrder (sym (keys_are meta c))
        (rising (in_order (key_cmp meta) all) (rises-in_order (key_order meta) all)
        (pairs_in_order Differ (λ k l d e. d (sym e)) (key_cmp meta) all (keys_differ c)))
