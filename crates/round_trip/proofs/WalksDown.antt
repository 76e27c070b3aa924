-- Each element stands in the tree of each of its containers.
use Rattle.std.proofs.Common.{◌≡◌, ℕ, zero, suc, ◌≤◌, Bool, true, false, ◌||◌, List, [], ◌∷◌, ◌++◌, map, refl, sym, ap, subst, ◌∙◌, arith, ◌⊎◌, inl, inr}
use Rattle.std.specs.Prelude.{Option, None, Some, option_and_then, unwrap_or}
use Rattle.std.specs.FinMap.{get}
use Rattle.std.specs.List.{list_any}
use Rattle.finite_maps.specs.Equal.{text_eq}
use Rattle.finite_maps.specs.Sorts.{picked}
use Rattle.finite_maps.proofs.EqualLaws.{text_equality}
use Rattle.serde_json.specs.Data.{depth, object, members_depth}
use Rattle.ecore_meta.specs.Meta.{Meta, features_of}
use Rattle.ecore_meta.specs.Typing.{kind_of}
use Rattle.ecore_meta.specs.declared.meta.Kind.{Kind}
use Rattle.ecore_meta.specs.declared.meta.Kind.TheVariants.{Attr, AttrMany, Bounded, Free, Contains, Container, Skip}
use Rattle.model_state.specs.declared.entry.Entry.{Entry}
use Rattle.model_state.specs.declared.step.Place.{Place}
use Rattle.model_state.specs.declared.step.Place.TheVariants.{Root, Inside}
use Rattle.model_state.specs.Chains.{parent_of}
use Rattle.model_state.specs.Good.{Good}
use Rattle.model_state.specs.Keys.{IdBytes}
use Rattle.model_state.specs.Listing.{children, entry_cmp, rank_at}
use Rattle.model_state.specs.State.{State, place_eq}
use Rattle.model_state.specs.Steps.{class_has}
use Rattle.model_state.specs.Typing.{contains_to}
use Rattle.model_state.proofs.Orders.{id_order}
use Rattle.model_state.proofs.StepTests.{place_equality}
use Rattle.edit_steps.proofs.Lists.{any-in_order, any-map, picked_has}
use Rattle.model_texts.specs.Keys.{key_name, keys_of}
use Rattle.model_texts.specs.Laws.{IsNested}
use Rattle.model_texts.specs.Tree.{child_ids, content, is_single, listed, members, object_of, part, whole}
use Rattle.round_trip.proofs.KeysFound.{Stands, all_stand, feature_stands}
use Rattle.round_trip.proofs.KeysTypes.{Feature}
use Rattle.round_trip.proofs.ReadingValues.{in_class}
use Rattle.round_trip.proofs.WalksLevels.{above, up}
use Rattle.round_trip.proofs.WalksNames.{flat, key_names, kind_names, names_step, tree_names}
use Rattle.round_trip.proofs.WalksRows.{class_at}
use Rattle.round_trip.proofs.WalksWhole.{IsWithinIf, depths, listed_depths, placed}

-- ---- the elements of a place are all that stand in it
pub entry_stands : (d : IdBytes) (xs : List Entry) → list_any (λ (x : Entry). text_eq d x.id) xs ≡ true → Stands d (map (λ (x : Entry). x.id) xs)
entry_stands d [] h = cc
entry_stands d (x ∷ xs) h = by_test (text_eq d x.id) refl (entry_stands d xs) h
  where
    by_test : (b : Bool) → text_eq d x.id ≡ b → (list_any (λ (x : Entry). text_eq d x.id) xs ≡ true → Stands d (map (λ (x : Entry). x.id) xs))
        → b || list_any (λ (x : Entry). text_eq d x.id) xs ≡ true
        → (d ≡ x.id) ⊎ Stands d (map (λ (x : Entry). x.id) xs)
    by_test true e more h = inl (text_equality.exact d x.id e)
    by_test false e more h = inr (more h)

pub child_stands : (m : State) (d : IdBytes) (p : Place) → get m.place d ≡ Some p → Stands d (child_ids m p)
child_stands m d p at =
    entry_stands d (children m.place m.prank p)
    (any-in_order entry_cmp (λ (x : Entry). text_eq d x.id)
    (map (λ (e : IdBytes × Place). record { rank = rank_at m.prank e.0; id = e.0 }) (picked (λ (e : IdBytes × Place). place_eq p e.1) m.place))
    ∙ any-map (λ (x : Entry). text_eq d x.id) (λ (e : IdBytes × Place). record { rank = rank_at m.prank e.0; id = e.0 })
    (picked (λ (e : IdBytes × Place). place_eq p e.1) m.place)
    ∙ picked_has id_order (λ (e : IdBytes × Place). place_eq p e.1) m.place (λ (e : IdBytes × Place). text_eq d e.0) d p at (place_equality.own p)
    (text_equality.own d))

-- ---- lists one after another
stands_first : {A : Type 0} (x : A) (xs ys : List A) → Stands x xs → Stands x (xs ++ ys)
stands_first x [] ys h = absurd h
stands_first x (z ∷ xs) ys (inl e) = inl e
stands_first x (z ∷ xs) ys (inr h) = inr (stands_first x xs ys h)

stands_second : {A : Type 0} (x : A) (xs ys : List A) → Stands x ys → Stands x (xs ++ ys)
stands_second x [] ys h = h
stands_second x (z ∷ xs) ys h = inr (stands_second x xs ys h)

pub stands_flat : {A B : Type 0} (g : A → List B) (a : A) (b : B) (xs : List A) → Stands a xs → Stands b (g a) → Stands b (flat g xs)
stands_flat g a b [] s h = absurd s
stands_flat g a b (x ∷ xs) (inl e) h = stands_first b (g x) (flat g xs) (subst (λ z. Stands b (g z)) e h)
stands_flat g a b (x ∷ xs) (inr s) h = stands_second b (g x) (flat g xs) (stands_flat g a b xs s h)

-- ---- one level down
pub inside_of : (o : Option Place) (e : IdBytes) → option_and_then parent_of o ≡ Some e → (g : ℕ) × (o ≡ Some (Inside e g))
inside_of None e is = cc
inside_of (Some Root) e is = cc
inside_of (Some (Inside a f)) e is = let same : a ≡ e = cc in (f, ap (λ (z : IdBytes). Some (Inside z f)) same)

pub down : (m : State) (k : ℕ) (x e : IdBytes) → above m (suc k) x ≡ Some e
    → (d : IdBytes) × (g : ℕ) × (above m k x ≡ Some d) × (get m.place d ≡ Some (Inside e g))
down m k x e is = by_above (above m k x) refl is
  where
    by_above : (o : Option IdBytes) → above m k x ≡ o → option_and_then (up m) o ≡ Some e
        → (d : IdBytes) × (g : ℕ) × (above m k x ≡ Some d) × (get m.place d ≡ Some (Inside e g))
    by_above None at is = cc
    by_above (Some d) at is = let p = inside_of (get m.place d) e is in (d, p.0, at, p.1)

-- a containment
abbrev pub IsContains : Kind → Type 0
IsContains k = (t : ℕ) × (o : Option ℕ) × (k ≡ Contains t o)

contains_is : (meta : Meta) (k : Kind) (c : ℕ) → contains_to meta k c ≡ true → IsContains k
contains_is meta (Attr scalar default) c h = cc
contains_is meta (AttrMany scalar unique) c h = cc
contains_is meta (Bounded target opposite) c h = cc
contains_is meta (Free target opposite) c h = cc
contains_is meta (Contains target opposite) c h = (target, opposite, refl)
contains_is meta (Container target opposite) c h = cc
contains_is meta Skip c h = cc

-- an element with children is live, and they stand in a containment of its class
pub record Holds (meta : Meta) (m : State) (e : IdBytes) (g : ℕ) : Type 0 where
  pub class : get m.kind e ≡ Some (class_at meta m e)
  pub feature : Stands g (features_of meta (class_at meta m e))
  pub kind : IsContains (kind_of meta g)

module _ (meta : Meta) (m : State) (good : Good meta m) where
  pub holds : (e d : IdBytes) (g : ℕ) → get m.place d ≡ Some (Inside e g) → Holds meta m e g
  holds e d g at =
      let p = placed meta m.kind (get m.kind d) (get m.place d) (Inside e g) (get m.prank d) (good.places.stands d) at in
      by_class (get m.kind e) refl p.3.0 (contains_is meta (kind_of meta g) p.0 p.3.1)
    where
      by_class : (o : Option ℕ) → get m.kind e ≡ o → class_has meta o g ≡ true → IsContains (kind_of meta g) → Holds meta m e g
      by_class None is has kind = cc
      by_class (Some c) is has kind =
          let same : c ≡ class_at meta m e = sym (ap (λ o. unwrap_or o 0) is) in
          record { class = is ∙ ap (λ x. Some x) same; feature = subst (λ x. Stands g (features_of meta x)) same (in_class meta c g has); kind = kind }

  -- the children of an element in a containment are among the names of its keys
  pub key_is : (below : IdBytes → List IdBytes) (e : IdBytes) (g : ℕ) → IsContains (kind_of meta g)
      → key_names meta m below e (Feature g) ≡ flat below (child_ids m (Inside e g))
  unfolding keys_of Feature
  key_is below e g k = ap (kind_names m below e g) k.2

  module _ (nested : IsNested meta m) where
    shape : (e : IdBytes) (c : ℕ) → get m.kind e ≡ Some c → whole meta m e ≡ object (members (key_name meta) (part meta m (whole meta m) e c) (keys_of meta c))
    shape e c kind = nested e ∙ ap (object_of meta m (whole meta m) e) kind

    pub some_depth : (e : IdBytes) (c : ℕ) → get m.kind e ≡ Some c → depth (whole meta m e) ≤ 0 → ⊥
    some_depth e c kind h = let l = ap depth (shape e c kind) in omega arith

    content_depth : (e : IdBytes) (n g : ℕ) → Holds meta m e g → depth (whole meta m e) ≤ suc n
        → IsWithinIf n (listed (is_single meta g) (map (whole meta m) (child_ids m (Inside e g))))
    unfolding keys_of Feature
    content_depth e n g h deep =
        let c = class_at meta m e in
        let p = part meta m (whole meta m) e c in
        let shallow : members_depth (members (key_name meta) p (keys_of meta c)) ≤ n = let l = ap depth (shape e c h.class) in omega arith in
        subst (λ k. IsWithinIf n (content meta m (whole meta m) e g k)) h.kind.2
        (all_stand (λ k. IsWithinIf n (p k)) (keys_of meta c) (depths (key_name meta) p n (keys_of meta c) shallow) (Feature g)
        (feature_stands meta c g h.feature))

    pub child_depth : (e d : IdBytes) (n g : ℕ) → get m.place d ≡ Some (Inside e g) → depth (whole meta m e) ≤ suc n → depth (whole meta m d) ≤ n
    child_depth e d n g at deep =
        all_stand (λ c. depth (whole meta m c) ≤ n) (child_ids m (Inside e g))
        (listed_depths (whole meta m) n (is_single meta g) (child_ids m (Inside e g)) (content_depth e n g (holds e d g at) deep)) d
        (child_stands m d (Inside e g) at)

    -- an element stands in the tree of each of its containers
    pub covered : (k n : ℕ) (x e : IdBytes) (c : ℕ) → above m k x ≡ Some e → get m.kind e ≡ Some c → depth (whole meta m e) ≤ n
        → Stands x (tree_names meta m n e)
    covered k zero x e c is kind deep = absurd (some_depth e c kind deep)
    covered zero (suc n) x e c is kind deep = let same : x ≡ e = cc in subst (Stands x) (sym (names_step meta m n e)) (inl same)
    covered (suc k) (suc n) x e c is kind deep =
        let d = down m k x e is in
        let h = holds e d.0 d.1 d.3 in
        let child = placed meta m.kind (get m.kind d.0) (get m.place d.0) (Inside e d.1) (get m.prank d.0) (good.places.stands d.0) d.3 in
        let inner = covered k n x d.0 child.0 d.2 child.1 (child_depth e d.0 n d.1 d.3 deep) in
        subst (Stands x) (sym (names_step meta m n e))
        (inr (stands_flat (key_names meta m (tree_names meta m n) e) (Feature d.1) x (keys_of meta (class_at meta m e))
        (feature_stands meta (class_at meta m e) d.1 h.feature)
        (subst (Stands x) (sym (key_is (tree_names meta m n) e d.1 h.kind))
        (stands_flat (tree_names meta m n) d.0 x (child_ids m (Inside e d.1)) (child_stands m d.0 (Inside e d.1) d.3) inner))))
