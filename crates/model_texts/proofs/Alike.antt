-- States with the same classes, values and lists have one text.
use Rattle.std.proofs.Common.{◌≡◌, ℕ, zero, suc, List, [], ◌∷◌, refl, ap, ◌∙◌, map, true, false}
use Rattle.std.specs.Prelude.{Option, None, Some}
use Rattle.std.specs.FinMap.{get, len}
use Rattle.serde_json.specs.Data.{Data, object}
use Rattle.serde_json.specs.Written.{compact_text}
use Rattle.ecore_meta.specs.Meta.{Meta}
use Rattle.ecore_meta.specs.Typing.{kind_of}
use Rattle.ecore_meta.specs.declared.meta.Kind.{Kind}
use Rattle.ecore_meta.specs.declared.meta.Kind.TheVariants.{Attr, AttrMany, Bounded, Free, Contains, Container, Skip}
use Rattle.model_state.specs.declared.step.Place.TheVariants.{Root, Inside}
use Rattle.model_state.specs.Keys.{IdBytes}
use Rattle.model_state.specs.State.{State}
use Rattle.emfjson_values.specs.Values.{data_of}
use Rattle.model_texts.specs.declared.key.Key.{Key}
use Rattle.model_texts.specs.declared.key.Key.TheVariants.{Ident, Class, Feature}
use Rattle.model_texts.specs.Keys.{key_name, keys_of}
use Rattle.model_texts.specs.Laws.{Alike, TextIsOfLists}
use Rattle.model_texts.specs.Tree.{content, element, first_value, is_single, listed, object_of, one_or_list, part, reference, text, whole}
use Rattle.model_texts.proofs.Objects.{same_members}

mapped : (f g : IdBytes → Data) → ((x : IdBytes) → f x ≡ g x) → (xs ys : List IdBytes) → xs ≡ ys → map f xs ≡ map g ys
mapped f g h xs ys e = go xs ∙ ap (map g) e
  where
    go : (xs : List IdBytes) → map f xs ≡ map g xs
    go [] = refl
    go (x ∷ xs) = λ i. h x i ∷ go xs i

module _ (meta : Meta) (m n : State) (alike : Alike m n) where
  alike_content : (f g : IdBytes → Data) → ((x : IdBytes) → f x ≡ g x) → (e : IdBytes) (k : ℕ) (kind : Kind)
      → content meta m f e k kind ≡ content meta n g e k kind
  alike_content f g h e k (Attr scalar default) = ap (first_value meta scalar) (alike.values e k)
  alike_content f g h e k (AttrMany scalar unique) = ap (λ vs. listed false (map (data_of meta scalar) vs)) (alike.values e k)
  alike_content f g h e k (Bounded target opposite) = ap (λ xs. listed (is_single meta k) (map reference xs)) (alike.targets e k)
  alike_content f g h e k (Free target opposite) = ap (λ xs. listed (is_single meta k) (map reference xs)) (alike.targets e k)
  alike_content f g h e k (Contains target opposite) = ap (listed (is_single meta k)) (mapped f g h _ _ (alike.children (Inside e k)))
  alike_content f g h e k (Container target opposite) = refl
  alike_content f g h e k Skip = refl

  alike_part : (f g : IdBytes → Data) → ((x : IdBytes) → f x ≡ g x) → (e : IdBytes) (c : ℕ) (k : Key) → part meta m f e c k ≡ part meta n g e c k
  alike_part f g h e c Ident = refl
  alike_part f g h e c Class = refl
  alike_part f g h e c (Feature k) = alike_content f g h e k (kind_of meta k)

  alike_object : (f g : IdBytes → Data) → ((x : IdBytes) → f x ≡ g x) → (e : IdBytes) (o : Option ℕ) → object_of meta m f e o ≡ object_of meta n g e o
  alike_object f g h e None = refl
  alike_object f g h e (Some c) = ap object (same_members (key_name meta) (part meta m f e c) (part meta n g e c) (alike_part f g h e c) (keys_of meta c))

  alike_element : (k : ℕ) (e : IdBytes) → element meta m k e ≡ element meta n k e
  unfolding element
  alike_element zero e = refl
  alike_element (suc k) e =
      alike_object (element meta m k) (element meta n k) (alike_element k) e (get m.kind e)
      ∙ ap (λ kind. object_of meta n (element meta n k) e (get kind e)) alike.kinds

  alike_whole : (e : IdBytes) → whole meta m e ≡ whole meta n e
  unfolding whole
  alike_whole e = alike_element (len m.kind) e ∙ ap (λ kind. element meta n (len kind) e) alike.kinds

  alike_text : text meta m ≡ text meta n
  alike_text = ap (λ ds. compact_text (one_or_list true ds)) (mapped (whole meta m) (whole meta n) alike_whole _ _ (alike.children Root))

pub text_is_of_lists : TextIsOfLists
text_is_of_lists meta m n alike = alike_text meta m n alike
