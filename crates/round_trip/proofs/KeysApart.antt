-- The keys of an object are those of different features.
use Rattle.std.proofs.Common.{◌≡◌, ℕ, suc, false, List, [], ◌∷◌, map, refl, sym, ap, subst, ◌∙◌, arith}
use Rattle.std.specs.List.{AllByRecursion, list_any}
use Rattle.std.specs.Str.{bytes_eq}
use Rattle.std.proofs.lemmas.Bool.{or_parts}
use Rattle.ecore_meta.specs.Meta.{Meta, features_of, name_at}
use Rattle.ecore_meta.specs.Names.{has_repeat}
use Rattle.model_texts.specs.Keys.{key_cmp, key_number, keys_of}
use Rattle.ecore_meta.specs.Named.{IsNamed}
use Rattle.round_trip.proofs.KeysPairs.{Pairs, bytes_differ, pairs_in_order}
use Rattle.round_trip.proofs.KeysTypes.{Key, Ident, Class, Feature, feature_number, keys_are}

-- no feature has both keys
abbrev pub NumbersApart : Key → Key → Type 0
NumbersApart k l = (f : ℕ) → key_number k ≡ suc (suc f) → key_number l ≡ suc (suc f) → ⊥

two_less : (f g : ℕ) → suc (suc f) ≡ suc (suc g) → f ≡ g
two_less f g h = omega arith

no_two : (n f : ℕ) → ◌≡◌ {A = ℕ} n (suc (suc f)) → n ≡ 0 → ⊥
no_two n f h k = omega arith

not_two : (n f : ℕ) → ◌≡◌ {A = ℕ} n (suc (suc f)) → n ≡ 1 → ⊥
not_two n f h k = omega arith

ident_number : key_number Ident ≡ 0
unfolding keys_of Ident
ident_number = refl

class_number : key_number Class ≡ 1
unfolding keys_of Class
class_number = refl

module _ (meta : Meta) where
  apart_from : (f : ℕ) (fs : List ℕ) → list_any (bytes_eq (name_at meta.features f)) (map (name_at meta.features) fs) ≡ false
      → AllByRecursion (NumbersApart (Feature f)) (map Feature fs)
  apart_from f [] h = tt
  apart_from f (g ∷ fs) h =
      let parts = or_parts (bytes_eq (name_at meta.features f) (name_at meta.features g))
      (list_any (bytes_eq (name_at meta.features f)) (map (name_at meta.features) fs)) h in (
        λ x is at. bytes_differ _ _ parts.0
            (ap (name_at meta.features) (two_less f x (sym (feature_number f) ∙ is) ∙ sym (two_less g x (sym (feature_number g) ∙ at)))),
        apart_from f fs parts.1,
      )

  features_apart : (fs : List ℕ) → has_repeat (map (name_at meta.features) fs) ≡ false → Pairs NumbersApart (map Feature fs)
  features_apart [] h = tt
  features_apart (f ∷ fs) h =
      let parts = or_parts (list_any (bytes_eq (name_at meta.features f)) (map (name_at meta.features) fs)) (has_repeat (map (name_at meta.features) fs)) h in
      (apart_from f fs parts.0, features_apart fs parts.1)

  from_ident : (ks : List Key) → AllByRecursion (NumbersApart Ident) ks
  from_ident [] = tt
  from_ident (k ∷ ks) = (λ f is at. no_two (key_number Ident) f is ident_number, from_ident ks)

  from_class : (ks : List Key) → AllByRecursion (NumbersApart Class) ks
  from_class [] = tt
  from_class (k ∷ ks) = (λ f is at. not_two (key_number Class) f is class_number, from_class ks)

  pub keys_apart : IsNamed meta → (c : ℕ) → Pairs NumbersApart (keys_of meta c)
  keys_apart named c =
      let fs = features_of meta c in
      subst (Pairs NumbersApart) (sym (keys_are meta c))
      (pairs_in_order NumbersApart (λ k l h f is at. h f at is) (key_cmp meta) (Ident ∷ Class ∷ map Feature fs)
      (from_ident (Class ∷ map Feature fs), (from_class (map Feature fs), features_apart fs (named.features c))))
