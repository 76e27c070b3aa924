-- What stands under a key is found by the key's name, a feature by its name, and a class by its text.
use Rattle.std.proofs.Math.Bool.{or-true}
use Rattle.std.proofs.Common.{◌≡◌, ℕ, zero, suc, ◌==◌, ◌||◌, Bool, true, false, cond, List, [], ◌∷◌, ◌++◌, map, refl, sym, ap, subst, ◌∙◌, codes, ◌⊎◌}
use Rattle.std.proofs.Common.{inl, inr, eq-eqb, append_assoc}
use Rattle.std.specs.Prelude.{Option, None, Some, option_map, option_and_then, slice_get}
use Rattle.std.specs.declared.cmp.Ordering.{Ordering}
use Rattle.std.specs.declared.cmp.Ordering.TheVariants.{Greater}
use Rattle.std.specs.Ordering.{is_lt, nat_cmp, match_ordering}
use Rattle.std.specs.Cmp.{tied_itself}
use Rattle.std.specs.Cmp.Lexicographic.{slice_cmp, nat_list_cmp_total}
use Rattle.std.specs.List.{AllByRecursion, list_any}
use Rattle.std.specs.Option.{option_map_or}
use Rattle.std.specs.Str.{bytes_eq}
use Rattle.std.proofs.lemmas.Bool.{or_parts}
use Rattle.finite_maps.specs.Sorts.{put_in, in_order}
use Rattle.serde_json.specs.Data.{Data, Members}
use Rattle.serde_json.specs.Find.{get_member}
use Rattle.ecore_json.specs.References.{after_prefix, or_else}
use Rattle.ecore_meta.specs.Meta.{Meta, class_named, feature_named, features_of, first_named, name_at}
use Rattle.ecore_meta.specs.Names.{Name, has_repeat, number_of}
use Rattle.ecore_meta.specs.declared.meta.Class.{Class as ClassOf}
use Rattle.model_documents.specs.Classes.{class_after, class_spelled}
use Rattle.model_texts.specs.Keys.{key_cmp, key_name, keys_of}
use Rattle.model_texts.specs.Tree.{class_text, members, with_member}
use Rattle.ecore_meta.specs.Named.{IsNamed}
use Rattle.round_trip.proofs.KeysPairs.{bytes_own, bytes_same}
use Rattle.round_trip.proofs.KeysRise.{InOrder, IsAfter}
use Rattle.round_trip.proofs.KeysTypes.{Key, Ident, Class, Feature, keys_are}

-- ---- items of a list
module _ {A : Type 0} where
  -- the item stands in the list
  abbrev pub Stands : A → List A → Type 0
  Stands x [] = ⊥
  Stands x (y ∷ ys) = (x ≡ y) ⊎ Stands x ys

  stands_put : (cmp : A → A → Ordering) (x y : A) (ys : List A) → (x ≡ y) ⊎ Stands x ys → Stands x (put_in cmp y ys)
  stands_put cmp x y [] h = h
  stands_put cmp x y (z ∷ zs) h =
      elim (is_lt (cmp z y)) as (λ b. Stands x (cond {A = List A} b (z ∷ put_in cmp y zs) (y ∷ z ∷ zs))) [
        | true ↦ inner (stands_put cmp x y zs) h
        | false ↦ h
      ]
    where
      inner : ((x ≡ y) ⊎ Stands x zs → Stands x (put_in cmp y zs)) → (x ≡ y) ⊎ ((x ≡ z) ⊎ Stands x zs) → (x ≡ z) ⊎ Stands x (put_in cmp y zs)
      inner more (inl e) = inr (more (inl e))
      inner more (inr (inl e)) = inl e
      inner more (inr (inr s)) = inr (more (inr s))

  pub stands_in_order : (cmp : A → A → Ordering) (x : A) (ys : List A) → Stands x ys → Stands x (in_order cmp ys)
  stands_in_order cmp x [] h = h
  stands_in_order cmp x (y ∷ ys) (inl e) = stands_put cmp x y (in_order cmp ys) (inl e)
  stands_in_order cmp x (y ∷ ys) (inr s) = stands_put cmp x y (in_order cmp ys) (inr (stands_in_order cmp x ys s))

  pub all_at : (P : A → Type 0) (xs : List A) → ((n : ℕ) (x : A) → slice_get xs n ≡ Some x → P x) → AllByRecursion P xs
  all_at P [] h = tt
  all_at P (x ∷ xs) h = (h 0 x refl, all_at P xs (λ n y e. h (suc n) y e))

  pub all_stand : (P : A → Type 0) (xs : List A) → AllByRecursion P xs → (x : A) → Stands x xs → P x
  all_stand P [] all x h = absurd h
  all_stand P (y ∷ ys) all x (inl e) = subst P (sym e) all.0
  all_stand P (y ∷ ys) all x (inr s) = all_stand P ys all.1 x s

-- ---- what stands under a key
module _ (meta : Meta) (p : Key → Option Data) where
  past : (s a : List ℕ) (o : Option Data) (ms : Members) → slice_cmp nat_cmp s a ≡ Greater → get_member s (with_member a o ms) ≡ get_member s ms
  past s a None ms g = refl
  past s a (Some d) ms g = ap (λ r. match_ordering r (get_member s ms) (Some d) (get_member s ms)) g

  pub member_at : (ks : List Key) → InOrder meta ks → (k : Key) (d : Data) → Stands k ks → p k ≡ Some d
      → get_member (key_name meta k) (members (key_name meta) p ks) ≡ Some d
  member_at [] order k d h is = absurd h
  member_at (l ∷ ks) order k d (inl e) is =
      ap (λ (x : Key). get_member (key_name meta k) (with_member (key_name meta x) (p x) (members (key_name meta) p ks))) (sym e)
      ∙ ap (λ o. get_member (key_name meta k) (with_member (key_name meta k) o (members (key_name meta) p ks))) is
      ∙ ap (λ r. match_ordering r (get_member (key_name meta k) (members (key_name meta) p ks)) (Some d)
      (get_member (key_name meta k) (members (key_name meta) p ks))) (tied_itself nat_list_cmp_total (key_name meta k))
  member_at (l ∷ ks) order k d (inr h) is =
      past (key_name meta k) (key_name meta l) (p l) (members (key_name meta) p ks) (all_stand (IsAfter meta l) ks order.0 k h) ∙ member_at ks order.1 k d h is

module _ (meta : Meta) (c : ℕ) where
  pub ident_stands : Stands Ident (keys_of meta c)
  ident_stands = subst (Stands Ident) (sym (keys_are meta c))
      (stands_in_order (key_cmp meta) Ident (Ident ∷ Class ∷ map Feature (features_of meta c)) (inl refl))

  pub class_stands : Stands Class (keys_of meta c)
  class_stands = subst (Stands Class) (sym (keys_are meta c))
      (stands_in_order (key_cmp meta) Class (Ident ∷ Class ∷ map Feature (features_of meta c)) (inr (inl refl)))

  mapped : (f : ℕ) (fs : List ℕ) → Stands f fs → Stands (Feature f) (map Feature fs)
  mapped f [] h = absurd h
  mapped f (g ∷ fs) (inl e) = inl (ap Feature e)
  mapped f (g ∷ fs) (inr s) = inr (mapped f fs s)

  pub feature_stands : (f : ℕ) → Stands f (features_of meta c) → Stands (Feature f) (keys_of meta c)
  feature_stands f h = subst (Stands (Feature f)) (sym (keys_are meta c))
      (stands_in_order (key_cmp meta) (Feature f) (Ident ∷ Class ∷ map Feature (features_of meta c)) (inr (inr (mapped f (features_of meta c) h))))

-- ---- features by name
module _ (meta : Meta) where
  any_mapped : (q : Name) (f : ℕ) (fs : List ℕ) → bytes_eq q (name_at meta.features f) ≡ true → Stands f fs
      → list_any (bytes_eq q) (map (name_at meta.features) fs) ≡ true
  any_mapped q f [] is h = absurd h
  any_mapped q f (g ∷ fs) is (inl e) =
      ap (λ b. b || list_any (bytes_eq q) (map (name_at meta.features) fs)) (subst (λ x. bytes_eq q (name_at meta.features x) ≡ true) e is)
  any_mapped q f (g ∷ fs) is (inr s) =
      ap (λ b. bytes_eq q (name_at meta.features g) || b) (any_mapped q f fs is s) ∙ or-true (bytes_eq q (name_at meta.features g))

  named_first : (f : ℕ) (fs : List ℕ) → has_repeat (map (name_at meta.features) fs) ≡ false → Stands f fs
      → first_named meta.features fs (name_at meta.features f) ≡ Some f
  named_first f [] apart h = absurd h
  named_first f (g ∷ fs) apart (inl e) =
      ap (λ b. cond b (Some g) (first_named meta.features fs (name_at meta.features f)))
      (subst (λ x. bytes_eq (name_at meta.features x) (name_at meta.features f) ≡ true) e (bytes_own (name_at meta.features f)))
      ∙ ap (λ x. Some x) (sym e)
  named_first f (g ∷ fs) apart (inr s) =
      let parts = or_parts (list_any (bytes_eq (name_at meta.features g)) (map (name_at meta.features) fs))
      (has_repeat (map (name_at meta.features) fs)) apart in
      by_test (bytes_eq (name_at meta.features g) (name_at meta.features f)) refl parts.0 (named_first f fs parts.1 s)
    where
      by_test : (b : Bool) → bytes_eq (name_at meta.features g) (name_at meta.features f) ≡ b
          → list_any (bytes_eq (name_at meta.features g)) (map (name_at meta.features) fs) ≡ false
          → first_named meta.features fs (name_at meta.features f) ≡ Some f → cond b (Some g) (first_named meta.features fs (name_at meta.features f)) ≡ Some f
      by_test true is none more = let there = any_mapped (name_at meta.features g) f fs is s in cc
      by_test false is none more = more

  pub feature_found : IsNamed meta → (c f : ℕ) → Stands f (features_of meta c) → feature_named meta c (name_at meta.features f) ≡ Some f
  feature_found named c f h = named_first f (features_of meta c) (named.features c) h

-- ---- classes by their texts
any_there : (p : Name → Bool) (xs : List Name) (n : ℕ) (x : Name) → slice_get xs n ≡ Some x → p x ≡ true → list_any p xs ≡ true
any_there p [] n x is h = cc
any_there p (y ∷ ys) zero x is h = let e : y ≡ x = cc in ap (λ b. b || list_any p ys) (ap p e ∙ h)
any_there p (y ∷ ys) (suc n) x is h = ap (λ b. p y || b) (any_there p ys n x is h) ∙ or-true (p y)

-- in a list without repeats a name that stands at a place has that number
number_at : (xs : List Name) (n : ℕ) (x : Name) → has_repeat xs ≡ false → slice_get xs n ≡ Some x → number_of x xs ≡ Some n
number_at [] n x apart is = cc
number_at (y ∷ ys) zero x apart is =
    let e : y ≡ x = cc in
    ap (λ b. cond b (Some 0) (option_map (λ n. suc n) (number_of x ys))) (subst (λ z. bytes_eq x z ≡ true) (sym e) (bytes_own x))
number_at (y ∷ ys) (suc n) x apart is =
    let parts = or_parts (list_any (bytes_eq y) ys) (has_repeat ys) apart in
    by_test (bytes_eq x y) refl parts.0 (number_at ys n x parts.1 is)
  where
    by_test : (b : Bool) → bytes_eq x y ≡ b → list_any (bytes_eq y) ys ≡ false → number_of x ys ≡ Some n
        → cond b (Some 0) (option_map (λ n. suc n) (number_of x ys)) ≡ Some (suc n)
    by_test true e none more =
        let there : list_any (bytes_eq y) ys ≡ true = any_there (bytes_eq y) ys n x is (subst (λ z. bytes_eq z x ≡ true) (bytes_same x y e) (bytes_own x)) in
        cc
    by_test false e none more = ap (option_map (λ n. suc n)) more

-- a name with a slash
abbrev has_slash : Name → Bool
has_slash q = list_any (λ b. b == 47) q

slash_behind : (u rest : Name) → has_slash (u ++ 35 ∷ 47 ∷ rest) ≡ true
slash_behind [] rest = refl
slash_behind (b ∷ u) rest = ap (λ t. (b == 47) || t) (slash_behind u rest) ∙ or-true (b == 47)

none_named : (q : Name) (xs : List Name) → has_slash q ≡ true → AllByRecursion (λ x. has_slash x ≡ false) xs → number_of q xs ≡ None
none_named q [] h all = refl
none_named q (x ∷ xs) h all = by_test (bytes_eq q x) refl (none_named q xs h all.1)
  where
    by_test : (b : Bool) → bytes_eq q x ≡ b → number_of q xs ≡ None → cond b (Some 0) (option_map (λ n. suc n) (number_of q xs)) ≡ None
    by_test true e more = let same = bytes_same q x e in let no = all.0 in let yes : has_slash x ≡ true = subst (λ z. has_slash z ≡ true) same h in cc
    by_test false e more = ap (option_map (λ n. suc n)) more

behind_own : (ps xs : Name) → after_prefix ps (ps ++ xs) ≡ Some xs
behind_own [] xs = refl
behind_own (p ∷ ps) xs = ap (λ b. cond b (after_prefix ps (ps ++ xs)) None) (eq-eqb p p refl) ∙ behind_own ps xs

module _ (meta : Meta) (named : IsNamed meta) where
  mapped_all : (xs : List ClassOf) → AllByRecursion (λ (x : ClassOf). has_slash x.name ≡ false) xs
      → AllByRecursion (λ x. has_slash x ≡ false) (map (λ (x : ClassOf). x.name) xs)
  mapped_all [] all = tt
  mapped_all (x ∷ xs) all = (all.0, mapped_all xs all.1)

  not_named : (q : Name) → has_slash q ≡ true → class_named meta q ≡ None
  not_named q h = none_named q (map (λ (x : ClassOf). x.name) meta.classes) h
      (mapped_all meta.classes (all_at (λ (x : ClassOf). has_slash x.name ≡ false) meta.classes named.slashes))

  dropped : (b : Bool) (rest : Name) → class_named meta rest ≡ None → option_and_then (class_named meta) (cond b (Some rest) None) ≡ None
  dropped true rest h = h
  dropped false rest h = refl

  either_none : (b : Bool) (o : Option Name) → option_and_then (class_named meta) o ≡ None → option_and_then (class_named meta) (cond b o None) ≡ None
  either_none true o h = h
  either_none false o h = refl

  -- the name after `#//`
  abbrev hashed : Name → Name
  hashed name = 35 ∷ 47 ∷ 47 ∷ name

  -- what is spelled with a slash first, or with the number sign, is no class after another text
  slashed : (a b : ℕ) (u name : Name) → class_after meta (codes "//") (a ∷ b ∷ (u ++ hashed name)) ≡ None
  slashed a b u name = either_none (47 == a) (cond (47 == b) (Some (u ++ hashed name)) None)
      (dropped (47 == b) (u ++ hashed name) (not_named (u ++ hashed name) (slash_behind u (47 ∷ name))))

  signed : (a b : ℕ) (u name : Name) → class_after meta (codes "#//") (a ∷ b ∷ (u ++ hashed name)) ≡ None
  signed a b [] name = either_none (35 == a) (cond (47 == b) None None) (either_none (47 == b) None refl)
  signed a b (x ∷ u) name =
      either_none (35 == a) (cond (47 == b) (cond (47 == x) (Some (u ++ hashed name)) None) None)
      (either_none (47 == b) (cond (47 == x) (Some (u ++ hashed name)) None)
      (dropped (47 == x) (u ++ hashed name) (not_named (u ++ hashed name) (slash_behind u (47 ∷ name)))))

  spelled : (u name : Name) (c : ℕ) → class_named meta name ≡ Some c
      → or_else (class_after meta (codes "//") (u ++ hashed name))
      (or_else (class_after meta (codes "#//") (u ++ hashed name))
      (option_and_then (class_after meta (codes "#//")) (after_prefix u (u ++ hashed name)))) ≡ Some c
  spelled [] name c is = ap (λ o. or_else o (option_and_then (class_after meta (codes "#//")) (Some (hashed name)))) is
  spelled (a ∷ []) name c is =
      ap (λ o. or_else o (or_else (class_after meta (codes "#//") (a ∷ hashed name))
      (option_and_then (class_after meta (codes "#//")) (after_prefix (a ∷ []) (a ∷ hashed name))))) (either_none (47 == a) None refl)
      ∙ ap (λ o. or_else o (option_and_then (class_after meta (codes "#//")) (after_prefix (a ∷ []) (a ∷ hashed name)))) (either_none (35 == a) None refl)
      ∙ ap (option_and_then (class_after meta (codes "#//"))) (behind_own (a ∷ []) (hashed name)) ∙ is
  spelled (a ∷ b ∷ u) name c is =
      let t = a ∷ b ∷ (u ++ hashed name) in
      ap (λ o. or_else o (or_else (class_after meta (codes "#//") t) (option_and_then (class_after meta (codes "#//")) (after_prefix (a ∷ b ∷ u) t))))
      (slashed a b u name)
      ∙ ap (λ o. or_else o (option_and_then (class_after meta (codes "#//")) (after_prefix (a ∷ b ∷ u) t))) (signed a b u name)
      ∙ ap (option_and_then (class_after meta (codes "#//"))) (behind_own (a ∷ b ∷ u) (hashed name)) ∙ is

  name_of_place : (xs : List ClassOf) (n : ℕ) (x : ClassOf) → slice_get xs n ≡ Some x → slice_get (map (λ (x : ClassOf). x.name) xs) n ≡ Some x.name
  name_of_place [] n x is = cc
  name_of_place (y ∷ ys) zero x is = let e : y ≡ x = cc in ap (λ (z : ClassOf). Some z.name) e
  name_of_place (y ∷ ys) (suc n) x is = name_of_place ys n x is

  -- a class is the one that its text names
  pub class_again : (c : ℕ) (class : ClassOf) → slice_get meta.classes c ≡ Some class → class_spelled meta (class_text meta c) ≡ Some c
  class_again c class is =
      let name : option_map_or (λ (x : ClassOf). x.name) (slice_get meta.classes c) [] ≡ class.name =
      ap (λ o. option_map_or (λ (x : ClassOf). x.name) o []) is in
      ap (class_spelled meta) (append_assoc meta.uri (codes "#//") (option_map_or (λ (x : ClassOf). x.name) (slice_get meta.classes c) []))
      ∙ ap (λ t. class_spelled meta (meta.uri ++ hashed t)) name
      ∙ spelled meta.uri class.name c (number_at (map (λ (x : ClassOf). x.name) meta.classes) c class.name named.classes
      (name_of_place meta.classes c class is))
