-- No name comes twice in the tree of a good model.
use Rattle.std.proofs.Common.{◌≡◌, ℕ, zero, suc, true, false, ◌||◌, List, [], ◌∷◌, ◌++◌, map, refl, sym, ap, subst, ◌∙◌}
use Rattle.std.specs.Prelude.{Option, None, Some}
use Rattle.std.specs.FinMap.{get}
use Rattle.std.specs.List.{AllByRecursion, list_any}
use Rattle.std.proofs.lemmas.Bool.{or_parts}
use Rattle.std.proofs.lemmas.List.Folds.{list_any-append}
use Rattle.finite_maps.specs.Equal.{option_eq, text_eq}
use Rattle.finite_maps.proofs.Cases.{not_so}
use Rattle.finite_maps.proofs.EqualLaws.{text_equality}
use Rattle.ecore_meta.specs.Meta.{Meta}
use Rattle.ecore_meta.specs.Typing.{kind_of}
use Rattle.ecore_meta.specs.declared.meta.Kind.{Kind}
use Rattle.ecore_meta.specs.declared.meta.Kind.TheVariants.{Attr, AttrMany, Bounded, Free, Contains, Container, Skip}
use Rattle.model_state.specs.declared.entry.Entry.{Entry}
use Rattle.model_state.specs.declared.step.Place.{Place}
use Rattle.model_state.specs.declared.step.Place.TheVariants.{Root, Inside}
use Rattle.model_state.specs.Good.{Good}
use Rattle.model_state.specs.Keys.{IdBytes}
use Rattle.model_state.specs.Listing.{children}
use Rattle.model_state.specs.State.{State}
use Rattle.edit_steps.proofs.Creates.{Stand, children_stand}
use Rattle.model_documents.specs.Parts.{Ids, ids_of}
use Rattle.model_texts.specs.Keys.{key_number, keys_of}
use Rattle.model_texts.specs.Tree.{child_ids}
use Rattle.model_texts.proofs.Children.{each_child}
use Rattle.ecore_meta.specs.Named.{IsNamed}
use Rattle.round_trip.proofs.KeysApart.{NumbersApart, keys_apart}
use Rattle.round_trip.proofs.KeysPairs.{Pairs}
use Rattle.round_trip.proofs.KeysTypes.{Key}
use Rattle.round_trip.proofs.ReadingTrees.{all_of, all_so}
use Rattle.round_trip.proofs.WalksLevels.{Level, Under, above, inside_level, inside_up, not_inside, root_level, same_above, under_own, under_up, above_up}
use Rattle.round_trip.proofs.WalksNames.{all_flat, flat, forest_names, key_names, kind_names, pairs_flat, tree_named, tree_names}
use Rattle.round_trip.proofs.WalksRows.{Come, among, by_number, class_at, forest, tree_rows}

-- different names
abbrev pub Differ : IdBytes → IdBytes → Type 0
Differ x y = x ≡ y → ⊥

text_differ : (x y : IdBytes) → text_eq x y ≡ false → Differ x y
text_differ x y h e = let own : text_eq x y ≡ true = subst (λ z. text_eq x z ≡ true) e (text_equality.own x) in cc

-- ---- the elements of a place are there once
module _ (meta : Meta) (m : State) (good : Good meta m) where
  pub entry_differs : (x : Entry) (xs : List Entry) → list_any (λ (y : Entry). text_eq x.id y.id) xs ≡ false
      → AllByRecursion (Differ x.id) (map (λ (y : Entry). y.id) xs)
  entry_differs x [] h = tt
  entry_differs x (y ∷ ys) h =
      let parts = or_parts (text_eq x.id y.id) (list_any (λ (y : Entry). text_eq x.id y.id) ys) h in
      (text_differ x.id y.id parts.0, entry_differs x ys parts.1)

  entries_differ : (xs : List Entry) → Stand m xs → Pairs Differ (map (λ (y : Entry). y.id) xs)
  entries_differ [] h = tt
  entries_differ (x ∷ xs) h = (entry_differs x xs h.2, entries_differ xs h.3)

  pub children_differ : (p : Place) → Pairs Differ (child_ids m p)
  children_differ p = entries_differ (children m.place m.prank p) (children_stand meta m good p)

-- ---- what is in a tree is under its element
module _ (meta : Meta) (m : State) where
  -- an element under one in a feature
  abbrev pub InChild : IdBytes → ℕ → IdBytes → Type 0
  InChild e f x = (c : IdBytes) × (get m.place c ≡ Some (Inside e f)) × Under m c x

  -- an element under one in the feature of the key of that number
  abbrev pub InKey : IdBytes → ℕ → IdBytes → Type 0
  InKey e n x = (f : ℕ) × (n ≡ suc (suc f)) × InChild e f x

  module _ (below : IdBytes → List IdBytes) (under : (c : IdBytes) → AllByRecursion (Under m c) (below c)) (e : IdBytes) where
    kind_in : (f : ℕ) (k : Kind) → AllByRecursion (InChild e f) (kind_names m below e f k)
    kind_in f (Attr scalar default) = tt
    kind_in f (AttrMany scalar unique) = tt
    kind_in f (Bounded target opposite) = tt
    kind_in f (Free target opposite) = tt
    kind_in f (Contains target opposite) =
        all_flat below (InChild e f) (child_ids m (Inside e f))
        (all_so (λ c. get m.place c ≡ Some (Inside e f)) (λ c. AllByRecursion (InChild e f) (below c))
        (λ c at. all_so (Under m c) (InChild e f) (λ x u. (c, at, u)) (below c) (under c)) (child_ids m (Inside e f)) (each_child m (Inside e f)))
    kind_in f (Container target opposite) = tt
    kind_in f Skip = tt

    number_in : (n : ℕ) → AllByRecursion (InKey e n) (by_number (λ f. kind_names m below e f (kind_of meta f)) n)
    number_in zero = tt
    number_in (suc zero) = tt
    number_in (suc (suc f)) =
        all_so (InChild e f) (InKey e (suc (suc f))) (λ x i. (f, refl, i)) (kind_names m below e f (kind_of meta f)) (kind_in f (kind_of meta f))

    pub key_in : (key : Key) → AllByRecursion (InKey e (key_number key)) (key_names meta m below e key)
    key_in key = number_in (key_number key)

  in_under : (e : IdBytes) (n : ℕ) (x : IdBytes) → InKey e n x → Under m e x
  in_under e n x i = under_up m e i.2.0 x (inside_up m e i.2.0 i.0 i.2.1) i.2.2

  pub under_tree : (n : ℕ) (e : IdBytes) → AllByRecursion (Under m e) (tree_names meta m n e)
  unfolding tree_names
  under_tree zero e = tt
  under_tree (suc n) e = (
    under_own m e,
    all_flat (key_names meta m (tree_names meta m n) e) (Under m e) (keys_of meta (class_at meta m e))
        (all_of (λ key. AllByRecursion (Under m e) (key_names meta m (tree_names meta m n) e key))
        (λ key. all_so (InKey e (key_number key)) (Under m e) (in_under e (key_number key)) (key_names meta m (tree_names meta m n) e key)
        (key_in (tree_names meta m n) (under_tree n) e key)) (keys_of meta (class_at meta m e))),
  )

-- ---- no name twice
module _ (meta : Meta) (named : IsNamed meta) (m : State) (good : Good meta m) where
  -- two under different elements of a place differ
  siblings_apart : (j : ℕ) (p : Place) → ((c : IdBytes) → get m.place c ≡ Some p → Level m c j) → (c d : IdBytes) → Differ c d → (x y : IdBytes)
      → Under m c x × (get m.place c ≡ Some p) → Under m d y × (get m.place d ≡ Some p) → Differ x y
  siblings_apart j p level c d differ x y u v e = differ (same_above m x c d j u.0 (subst (Under m d) (sym e) v.0) (level c u.1) (level d v.1))

  place_apart : (below : IdBytes → List IdBytes) → ((c : IdBytes) → AllByRecursion (Under m c) (below c)) → (j : ℕ) (p : Place)
      → ((c : IdBytes) → get m.place c ≡ Some p → Level m c j)
      → ((c : IdBytes) → get m.place c ≡ Some p → Pairs Differ (below c)) → Pairs Differ (flat below (child_ids m p))
  place_apart below under j p level apart =
      pairs_flat below Differ Differ (λ c x. Under m c x × (get m.place c ≡ Some p)) (siblings_apart j p level) (child_ids m p) (children_differ meta m good p)
      (all_so (λ c. get m.place c ≡ Some p) (λ c. Pairs Differ (below c)) apart (child_ids m p) (each_child m p))
      (all_so (λ c. get m.place c ≡ Some p) (λ c. AllByRecursion (λ x. Under m c x × (get m.place c ≡ Some p)) (below c))
      (λ c at. all_so (Under m c) (λ x. Under m c x × (get m.place c ≡ Some p)) (λ x u. (u, at)) (below c) (under c)) (child_ids m p)
      (each_child m p))

  module _ (below : IdBytes → List IdBytes) (under : (c : IdBytes) → AllByRecursion (Under m c) (below c)) (e : IdBytes) (j : ℕ) (level : Level m e j)
      (apart : (c : IdBytes) (f : ℕ) → get m.place c ≡ Some (Inside e f) → Pairs Differ (below c)) where
    kind_apart : (f : ℕ) (k : Kind) → Pairs Differ (kind_names m below e f k)
    kind_apart f (Attr scalar default) = tt
    kind_apart f (AttrMany scalar unique) = tt
    kind_apart f (Bounded target opposite) = tt
    kind_apart f (Free target opposite) = tt
    kind_apart f (Contains target opposite) = place_apart below under (suc j) (Inside e f) (λ c at. inside_level m e c f j at level) (λ c at. apart c f at)
    kind_apart f (Container target opposite) = tt
    kind_apart f Skip = tt

    number_apart : (n : ℕ) → Pairs Differ (by_number (λ f. kind_names m below e f (kind_of meta f)) n)
    number_apart zero = tt
    number_apart (suc zero) = tt
    number_apart (suc (suc f)) = kind_apart f (kind_of meta f)

    same_feature : (c d : IdBytes) (f g : ℕ) → c ≡ d → get m.place c ≡ Some (Inside e f) → get m.place d ≡ Some (Inside e g) → f ≡ g
    same_feature c d f g is at there = let same : ◌≡◌ {A = Option Place} (Some (Inside e f)) (Some (Inside e g)) = sym at ∙ ap (get m.place) is ∙ there in cc

    keys_cross : (k l : Key) → NumbersApart k l → (x y : IdBytes) → InKey meta m e (key_number k) x → InKey meta m e (key_number l) y → Differ x y
    keys_cross k l numbers x y u v is =
        let same = same_above m x u.2.0 v.2.0 (suc j) u.2.2 (subst (Under m v.2.0) (sym is) v.2.2) (inside_level m e u.2.0 u.0 j u.2.1 level)
        (inside_level m e v.2.0 v.0 j v.2.1 level) in
        let feature = same_feature u.2.0 v.2.0 u.0 v.0 same u.2.1 v.2.1 in
        numbers u.0 u.1 (v.1 ∙ ap (λ f. suc (suc f)) (sym feature))

    not_own : (n : ℕ) (x : IdBytes) → InKey meta m e n x → Differ e x
    not_own n x i is =
        not_inside m e j i.2.2.0 level
        (subst (λ z. above m (suc i.2.2.0) z ≡ Some e) (sym is) (above_up m e i.2.0 x i.2.2.0 (inside_up m e i.2.0 i.0 i.2.1) i.2.2.1))

    names_apart : (keys : List Key) → Pairs NumbersApart keys → Pairs Differ (e ∷ flat (key_names meta m below e) keys)
    names_apart keys numbers = (
      all_flat (key_names meta m below e) (Differ e) keys
          (all_of (λ key. AllByRecursion (Differ e) (key_names meta m below e key))
          (λ key. all_so (InKey meta m e (key_number key)) (Differ e) (not_own (key_number key)) (key_names meta m below e key)
          (key_in meta m below under e key)) keys),
      pairs_flat (key_names meta m below e) Differ NumbersApart (λ key x. InKey meta m e (key_number key) x) keys_cross keys numbers
          (all_of (λ key. Pairs Differ (key_names meta m below e key)) (λ key. number_apart (key_number key)) keys)
          (all_of (λ key. AllByRecursion (InKey meta m e (key_number key)) (key_names meta m below e key)) (key_in meta m below under e) keys),
    )

  pub tree_apart : (n : ℕ) (e : IdBytes) (j : ℕ) → Level m e j → Pairs Differ (tree_names meta m n e)
  unfolding tree_names
  tree_apart zero e j level = tt
  tree_apart (suc n) e j level =
      names_apart (tree_names meta m n) (under_tree meta m n) e j level (λ c f at. tree_apart n c (suc j) (inside_level m e c f j at level))
      (keys_of meta (class_at meta m e)) (keys_apart meta named (class_at meta m e))

  pub roots_apart : (n : ℕ) → Pairs Differ (flat (tree_names meta m n) (child_ids m Root))
  roots_apart n = place_apart (tree_names meta m n) (under_tree meta m n) 0 Root (λ c at. root_level m c at) (λ c at. tree_apart n c 0 (root_level m c at))

-- ---- names that differ come one after another
came : (x y : IdBytes) (ids : Ids) → among (Some y) ids ≡ false → Differ x y → among (Some y) (ids ++ Some x ∷ []) ≡ false
came x y ids h d =
    list_any-append (option_eq text_eq (Some y)) ids (Some x ∷ []) ∙ ap (λ b. b || (text_eq y x || false)) h
    ∙ ap (λ b. b || false) (not_so (text_eq y x) (λ e. d (sym (text_equality.exact y x e))))

all_came : (x : IdBytes) (ids : Ids) (ys : List IdBytes) → AllByRecursion (λ y. among (Some y) ids ≡ false) ys → AllByRecursion (Differ x) ys
    → AllByRecursion (λ y. among (Some y) (ids ++ Some x ∷ []) ≡ false) ys
all_came x ids [] h d = tt
all_came x ids (y ∷ ys) h d = (came x y ids h.0 d.0, all_came x ids ys h.1 d.1)

come_apart : (ids : Ids) (xs : List IdBytes) → AllByRecursion (λ x. among (Some x) ids ≡ false) xs → Pairs Differ xs → Come ids (map (λ x. Some x) xs)
come_apart ids [] h d = tt
come_apart ids (x ∷ xs) h d = (h.0, come_apart (ids ++ Some x ∷ []) xs (all_came x ids xs h.1 d.0) d.1)

module _ (meta : Meta) (named : IsNamed meta) (m : State) (good : Good meta m) where
  pub rows_come : (n : ℕ) → Come [] (ids_of (forest (tree_rows meta m n) 0 None (child_ids m Root)))
  rows_come n =
      subst (Come []) (sym (forest_names (tree_rows meta m n) (tree_names meta m n) (tree_named meta m n) 0 None (child_ids m Root)))
      (come_apart [] (flat (tree_names meta m n) (child_ids m Root))
      (all_of (λ x. among (Some x) [] ≡ false) (λ x. refl) (flat (tree_names meta m n) (child_ids m Root))) (roots_apart meta named m good n))
