-- Two ways to give the objects inside give one object, where they agree on what is inside.
use Rattle.std.proofs.Common.{◌≡◌, ℕ, List, [], ◌∷◌, refl, ap, map}
use Rattle.std.specs.Prelude.{Option, None, Some}
use Rattle.std.specs.List.{AllByRecursion}
use Rattle.serde_json.specs.Data.{Data, object}
use Rattle.ecore_meta.specs.Meta.{Meta}
use Rattle.ecore_meta.specs.Typing.{kind_of}
use Rattle.ecore_meta.specs.declared.meta.Kind.{Kind}
use Rattle.ecore_meta.specs.declared.meta.Kind.TheVariants.{Attr, AttrMany, Bounded, Free, Contains, Container, Skip}
use Rattle.model_state.specs.declared.step.Place.TheVariants.{Inside}
use Rattle.ecore_meta.specs.Names.{Name}
use Rattle.model_state.specs.Keys.{IdBytes}
use Rattle.model_state.specs.State.{State}
use Rattle.model_texts.specs.declared.key.Key.{Key}
use Rattle.model_texts.specs.declared.key.Key.TheVariants.{Ident, Class, Feature}
use Rattle.model_texts.specs.Keys.{key_name, keys_of}
use Rattle.model_texts.specs.Tree.{child_ids, content, is_single, listed, members, object_of, part, with_member}

pub same_members : (name : Key → Name) (f g : Key → Option Data) → ((k : Key) → f k ≡ g k) → (ks : List Key) → members name f ks ≡ members name g ks
same_members name f g h [] = refl
same_members name f g h (k ∷ ks) = λ i. with_member (name k) (h k i) (same_members name f g h ks i)

same_mapped : (f g : IdBytes → Data) (xs : List IdBytes) → AllByRecursion (λ x. f x ≡ g x) xs → map f xs ≡ map g xs
same_mapped f g [] h = refl
same_mapped f g (x ∷ xs) h = λ i. h.0 i ∷ same_mapped f g xs h.1 i

module _ (meta : Meta) (m : State) (f g : IdBytes → Data) (e : IdBytes)
    (same : (n : ℕ) → map f (child_ids m (Inside e n)) ≡ map g (child_ids m (Inside e n))) where
  same_content : (n : ℕ) (k : Kind) → content meta m f e n k ≡ content meta m g e n k
  same_content n (Attr scalar default) = refl
  same_content n (AttrMany scalar unique) = refl
  same_content n (Bounded target opposite) = refl
  same_content n (Free target opposite) = refl
  same_content n (Contains target opposite) = ap (listed (is_single meta n)) (same n)
  same_content n (Container target opposite) = refl
  same_content n Skip = refl

  same_part : (c : ℕ) (k : Key) → part meta m f e c k ≡ part meta m g e c k
  same_part c Ident = refl
  same_part c Class = refl
  same_part c (Feature n) = same_content n (kind_of meta n)

  object_alike : (o : Option ℕ) → object_of meta m f e o ≡ object_of meta m g e o
  object_alike None = refl
  object_alike (Some c) = ap object (same_members (key_name meta) (part meta m f e c) (part meta m g e c) (same_part c) (keys_of meta c))

pub same_object : (meta : Meta) (m : State) (f g : IdBytes → Data) (e : IdBytes) (o : Option ℕ)
    → ((n : ℕ) → AllByRecursion (λ x. f x ≡ g x) (child_ids m (Inside e n))) → object_of meta m f e o ≡ object_of meta m g e o
same_object meta m f g e o h = object_alike meta m f g e (λ n. same_mapped f g (child_ids m (Inside e n)) (h n)) o
