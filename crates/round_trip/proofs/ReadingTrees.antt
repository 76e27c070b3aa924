-- The tree of a model is plain: its keys rise, and its numbers are whole.
use Rattle.std.proofs.Common.{◌≡◌, ℕ, ℤ, pos, negsuc, ◌^◌, ◌<◌, ◌≤◌, zero, suc, Bool, true, false, List, [], ◌∷◌, arith, map}
use Rattle.std.specs.Prelude.{Option, None, Some, unwrap_or}
use Rattle.std.specs.FinMap.{get, len}
use Rattle.std.specs.List.{AllByRecursion, list_all}
use Rattle.std.specs.declared.cmp.Ordering.TheVariants.{Greater}
use Rattle.std.specs.Ordering.{nat_cmp}
use Rattle.std.specs.Cmp.Lexicographic.{slice_cmp}
use Rattle.std.proofs.lemmas.Bool.{ltb-true}
use Rattle.finite_maps.proofs.EqualLaws.{and_first, and_second}
use Rattle.serde_json.specs.Data.{Data, Members, depth}
use Rattle.serde_json.specs.Find.{of_integer}
use Rattle.serde_json.specs.Read.{read, max_depth}
use Rattle.serde_json.specs.View.{items_of}
use Rattle.ecore_meta.specs.Meta.{Meta, features_of}
use Rattle.ecore_meta.specs.Typing.{fits, in_width, kind_of, upper_of}
use Rattle.ecore_meta.specs.declared.meta.Kind.{Kind}
use Rattle.ecore_meta.specs.declared.meta.Kind.TheVariants.{Attr, AttrMany, Bounded, Free, Contains, Container, Skip}
use Rattle.ecore_meta.specs.declared.meta.Scalar.{Scalar}
use Rattle.ecore_meta.specs.declared.meta.Scalar.TheVariants.{Text as TextType, Flag as FlagType, Byte, Short, Int, Long, Literal as LiteralType}
use Rattle.ecore_meta.specs.declared.meta.Value.{Value}
use Rattle.ecore_meta.specs.declared.meta.Value.TheVariants.{Text, Flag, Whole, Literal}
use Rattle.model_state.specs.declared.step.Place.TheVariants.{Root, Inside}
use Rattle.model_state.specs.Good.{AttrOk, Good, ValuesOk}
use Rattle.model_state.specs.Keys.{IdBytes}
use Rattle.model_state.specs.State.{State}
use Rattle.emfjson_values.specs.Values.{data_of}
use Rattle.edit_steps.proofs.Lists.{all-in_order}
use Rattle.model_texts.specs.Keys.{key_name, keys_of}
use Rattle.model_state.specs.Listing.{values_at}
use Rattle.model_texts.specs.Tree.{child_ids, content, element, first_value, is_single, listed, members, object_of, one_or_list, part, reference}
use Rattle.model_texts.specs.Tree.{target_ids, text, tree, whole, with_member}
use Rattle.ecore_meta.specs.Named.{IsNamed}
use Rattle.round_trip.proofs.KeysRise.{InOrder, IsAfter, keys_rise}
use Rattle.round_trip.proofs.KeysTypes.{Key, Ident, Class, Feature}
use Rattle.round_trip.proofs.ReadingPlain.{IsBelow, IsPlain, ArePlain, IsWhole, Rise, read_compact}

-- what may stand under a key is plain
abbrev IsPlainIf : Option Data → Type 0
IsPlainIf None = Unit {0}
IsPlainIf (Some d) = IsPlain d

-- ---- values
width_whole : (half : ℕ) → half ≤ 2 ^ 63 → (n : ℤ) → in_width half n ≡ true → IsWhole (of_integer n)
width_whole half small (pos n) h = let below : n < half = ltb-true n half h in omega arith
width_whole half small (negsuc n) h = let below : n < half = ltb-true n half h in omega arith

pub plain_value : (meta : Meta) (s : Scalar) (v : Value) → fits meta s v ≡ true → IsPlain (data_of meta s v)
plain_value meta s (Text t) h = tt
plain_value meta s (Flag b) h = tt
plain_value meta s (Literal n) h = tt
plain_value meta TextType (Whole n) h = cc
plain_value meta FlagType (Whole n) h = cc
plain_value meta Byte (Whole n) h = width_whole 128 (omega arith) n h
plain_value meta Short (Whole n) h = width_whole 32768 (omega arith) n h
plain_value meta Int (Whole n) h = width_whole 2147483648 (omega arith) n h
plain_value meta Long (Whole n) h = width_whole 9223372036854775808 (omega arith) n h
plain_value meta (LiteralType e) (Whole n) h = cc

-- values that an attribute may hold, or none
abbrev pub AreOk : Meta → Kind → Option ℕ → List Value → Type 0
AreOk meta k upper [] = Unit {0}
AreOk meta k upper (v ∷ vs) = ValuesOk meta k upper (v ∷ vs)

no_values_ok : (meta : Meta) (k : Kind) (upper : Option ℕ) → ValuesOk meta k upper [] → ⊥
no_values_ok meta (Attr scalar default) upper h = h
no_values_ok meta (AttrMany scalar unique) upper h = h
no_values_ok meta (Bounded target opposite) upper h = h
no_values_ok meta (Free target opposite) upper h = h
no_values_ok meta (Contains target opposite) upper h = h
no_values_ok meta (Container target opposite) upper h = h
no_values_ok meta Skip upper h = h

entry_ok : (meta : Meta) (c : Option ℕ) (f : ℕ) (o : Option (List Value)) → AttrOk meta c f o → AreOk meta (kind_of meta f) (upper_of meta f) (unwrap_or o [])
entry_ok meta c f None h = tt
entry_ok meta None f (Some vs) h = absurd h
entry_ok meta (Some c) f (Some []) h = tt
entry_ok meta (Some c) f (Some (v ∷ vs)) h = h.1

-- so are those of every attribute of a good state
pub values_ok : (meta : Meta) (m : State) → Good meta m → (e : IdBytes) (f : ℕ) → AreOk meta (kind_of meta f) (upper_of meta f) (values_at m e f)
values_ok meta m good e f = entry_ok meta (get m.kind e) f (get m.attr (e, f)) (good.attrs.typed e f)

-- ---- lists
pub all_of : {A : Type 0} (P : A → Type 0) → ((x : A) → P x) → (xs : List A) → AllByRecursion P xs
all_of P h [] = tt
all_of P h (x ∷ xs) = (h x, all_of P h xs)

pub all_from : {A : Type 0} (p : A → Bool) (xs : List A) → list_all p xs ≡ true → AllByRecursion (λ x. p x ≡ true) xs
all_from p [] h = tt
all_from p (x ∷ xs) h = (and_first (p x) (list_all p xs) h, all_from p xs (and_second (p x) (list_all p xs) h))

pub all_so : {A : Type 0} (P Q : A → Type 0) → ((x : A) → P x → Q x) → (xs : List A) → AllByRecursion P xs → AllByRecursion Q xs
all_so P Q h [] all = tt
all_so P Q h (x ∷ xs) all = (h x all.0, all_so P Q h xs all.1)

module _ {A : Type 0} (f : A → Data) where
  plain_items : (xs : List A) → AllByRecursion (λ x. IsPlain (f x)) xs → ArePlain (items_of (map f xs))
  plain_items [] all = tt
  plain_items (x ∷ xs) all = (all.0, plain_items xs all.1)

  plain_list : (single : Bool) (xs : List A) → AllByRecursion (λ x. IsPlain (f x)) xs → IsPlain (one_or_list single (map f xs))
  plain_list single [] all = tt
  plain_list true (x ∷ []) all = all.0
  plain_list true (x ∷ y ∷ xs) all = plain_items (x ∷ y ∷ xs) all
  plain_list false (x ∷ xs) all = plain_items (x ∷ xs) all

  plain_listed : (single : Bool) (xs : List A) → AllByRecursion (λ x. IsPlain (f x)) xs → IsPlainIf (listed single (map f xs))
  plain_listed single [] all = tt
  plain_listed single (x ∷ xs) all = plain_list single (x ∷ xs) all

-- ---- what stands under a key
module _ (meta : Meta) where
  plain_first : (scalar : Scalar) (default : Option Value) (upper : Option ℕ) (vs : List Value) → AreOk meta (Attr scalar default) upper vs
      → IsPlainIf (first_value meta scalar vs)
  plain_first scalar default upper [] ok = tt
  plain_first scalar default upper (v ∷ []) ok = plain_value meta scalar v ok.0
  plain_first scalar default upper (v ∷ w ∷ vs) ok = absurd ok

  plain_many : (scalar : Scalar) (unique : Bool) (upper : Option ℕ) (vs : List Value) → AreOk meta (AttrMany scalar unique) upper vs
      → IsPlainIf (listed false (map (data_of meta scalar) vs))
  plain_many scalar unique upper [] ok = tt
  plain_many scalar unique upper (v ∷ vs) ok =
      plain_listed (data_of meta scalar) false (v ∷ vs)
      (all_so (λ v. fits meta scalar v ≡ true) (λ v. IsPlain (data_of meta scalar v)) (λ v h. plain_value meta scalar v h) (v ∷ vs)
      (all_from (fits meta scalar) (v ∷ vs) ok.0))

module _ (meta : Meta) (m : State) (good : Good meta m) (below : IdBytes → Data) (plain : (e : IdBytes) → IsPlain (below e)) where
  plain_content : (e : IdBytes) (f : ℕ) (k : Kind) (upper : Option ℕ) → AreOk meta k upper (values_at m e f) → IsPlainIf (content meta m below e f k)
  plain_content e f (Attr scalar default) upper ok = plain_first meta scalar default upper (values_at m e f) ok
  plain_content e f (AttrMany scalar unique) upper ok = plain_many meta scalar unique upper (values_at m e f) ok
  plain_content e f (Bounded target opposite) upper ok =
      plain_listed reference (is_single meta f) (target_ids m e f) (all_of (λ b. IsPlain (reference b)) (λ b. (tt, tt, tt)) (target_ids m e f))
  plain_content e f (Free target opposite) upper ok =
      plain_listed reference (is_single meta f) (target_ids m e f) (all_of (λ b. IsPlain (reference b)) (λ b. (tt, tt, tt)) (target_ids m e f))
  plain_content e f (Contains target opposite) upper ok =
      plain_listed below (is_single meta f) (child_ids m (Inside e f)) (all_of (λ c. IsPlain (below c)) plain (child_ids m (Inside e f)))
  plain_content e f (Container target opposite) upper ok = tt
  plain_content e f Skip upper ok = tt

  plain_features : (e : IdBytes) (c : ℕ) (fs : List ℕ) → AllByRecursion (λ k. IsPlainIf (part meta m below e c k)) (map Feature fs)
  unfolding keys_of Feature
  plain_features e c [] = tt
  plain_features e c (f ∷ fs) = (plain_content e f (kind_of meta f) (upper_of meta f) (values_ok meta m good e f), plain_features e c fs)

  plain_parts : (e : IdBytes) (c : ℕ) → AllByRecursion (λ k. IsPlainIf (part meta m below e c k)) (keys_of meta c)
  unfolding keys_of Ident Class Feature
  plain_parts e c = all-in_order _ (λ k. IsPlainIf (part meta m below e c k)) (Ident ∷ Class ∷ map Feature (features_of meta c))
      (tt, (tt, plain_features e c (features_of meta c)))

-- ---- objects
module _ (meta : Meta) (p : Key → Option Data) where
  below_with : (a b : IdBytes) (o : Option Data) (ms : Members) → slice_cmp nat_cmp b a ≡ Greater → IsBelow a ms → IsBelow a (with_member b o ms)
  below_with a b None ms g h = h
  below_with a b (Some d) ms g h = (g, h)

  below_members : (k : Key) (ks : List Key) → AllByRecursion (IsAfter meta k) ks → IsBelow (key_name meta k) (members (key_name meta) p ks)
  below_members k [] h = tt
  below_members k (l ∷ ks) h = below_with (key_name meta k) (key_name meta l) (p l) (members (key_name meta) p ks) h.0 (below_members k ks h.1)

  rise_with : (a : IdBytes) (o : Option Data) (ms : Members) → IsPlainIf o → IsBelow a ms → Rise ms → Rise (with_member a o ms)
  rise_with a None ms p b r = r
  rise_with a (Some d) ms p b r = (p, b, r)

  rising : (ks : List Key) → AllByRecursion (λ k. IsPlainIf (p k)) ks → InOrder meta ks → Rise (members (key_name meta) p ks)
  rising [] plain h = tt
  rising (k ∷ ks) plain h = rise_with (key_name meta k) (p k) (members (key_name meta) p ks) plain.0 (below_members k ks h.0) (rising ks plain.1 h.1)

module _ (meta : Meta) (named : IsNamed meta) (m : State) (good : Good meta m) where
  plain_object : (below : IdBytes → Data) → ((e : IdBytes) → IsPlain (below e)) → (e : IdBytes) (o : Option ℕ) → IsPlain (object_of meta m below e o)
  plain_object below plain e None = tt
  plain_object below plain e (Some c) = rising meta (part meta m below e c) (keys_of meta c) (plain_parts meta m good below plain e c) (keys_rise meta named c)

  plain_element : (n : ℕ) (e : IdBytes) → IsPlain (element meta m n e)
  unfolding element
  plain_element zero e = tt
  plain_element (suc n) e = plain_object (element meta m n) (plain_element n) e (get m.kind e)

  plain_whole : (e : IdBytes) → IsPlain (whole meta m e)
  unfolding whole
  plain_whole e = plain_element (len m.kind) e

  plain_tree : IsPlain (tree meta m)
  plain_tree = plain_list (whole meta m) true (child_ids m Root) (all_of (λ e. IsPlain (whole meta m e)) plain_whole (child_ids m Root))

-- the text of a model reads as its tree
pub text_reads : (meta : Meta) → IsNamed meta → (m : State) → Good meta m → depth (tree meta m) ≤ max_depth → read (text meta m) ≡ Some (tree meta m)
text_reads meta named m good shallow = read_compact (tree meta m) (plain_tree meta named m good) shallow
