-- The names of a model that stand in a place are its elements, in their order.
use Rattle.std.proofs.Common.{◌≡◌, ℕ, zero, suc, ◌+◌, ◌≤◌, Bool, true, false, cond, List, [], ◌∷◌, ◌++◌, refl, sym, ap, subst, ◌∙◌, arith, append-nil}
use Rattle.std.proofs.Common.{◌⊎◌, inl, inr}
use Rattle.std.specs.Prelude.{Option, None, Some, option_and_then}
use Rattle.std.specs.FinMap.{FinMap, get}
use Rattle.std.specs.List.{AllByRecursion}
use Rattle.finite_maps.proofs.Cases.{not_so}
use Rattle.serde_json.specs.Data.{depth}
use Rattle.ecore_meta.specs.Meta.{Meta}
use Rattle.model_state.specs.declared.step.Place.{Place}
use Rattle.model_state.specs.declared.step.Place.TheVariants.{Root, Inside}
use Rattle.model_state.specs.Chains.{IsChain}
use Rattle.model_state.specs.Good.{Good, PlaceOk}
use Rattle.model_state.specs.Keys.{IdBytes, id_cmp}
use Rattle.model_state.specs.State.{State, place_eq}
use Rattle.model_state.proofs.StepTests.{place_equality}
use Rattle.model_texts.specs.Keys.{key_number, keys_of}
use Rattle.model_texts.specs.Laws.{IsNested}
use Rattle.model_texts.specs.Tree.{child_ids, whole}
use Rattle.model_texts.proofs.Children.{each_child}
use Rattle.ecore_meta.specs.Named.{IsNamed}
use Rattle.round_trip.proofs.KeysApart.{NumbersApart, keys_apart}
use Rattle.round_trip.proofs.KeysFound.{Stands, all_stand, feature_stands}
use Rattle.round_trip.proofs.KeysPairs.{Pairs}
use Rattle.round_trip.proofs.KeysTypes.{Key, Feature, feature_number}
use Rattle.round_trip.proofs.ReadingTrees.{all_of, all_so}
use Rattle.round_trip.proofs.WalksApart.{Differ, InKey, children_differ, key_in, under_tree}
use Rattle.round_trip.proofs.WalksDown.{Holds, child_depth, child_stands, covered, down, holds, key_is, some_depth, stands_flat}
use Rattle.round_trip.proofs.WalksLevels.{Level, Under, above, inside_level, inside_up, lift_level, not_inside, one_level, root_above, root_level}
use Rattle.round_trip.proofs.WalksLevels.{same_above, under_own, up}
use Rattle.round_trip.proofs.WalksNames.{all_flat, flat, key_names, names_step, tree_names}
use Rattle.round_trip.proofs.WalksRows.{class_at}
use Rattle.round_trip.proofs.WalksWhole.{all_both, placed}

above_shift : (m : State) (x y : IdBytes) (k : ℕ) → up m y ≡ Some x → above m (suc k) y ≡ above m k x
above_shift m x y zero is = is
above_shift m x y (suc k) is = ap (option_and_then (up m)) (above_shift m x y k is)

-- ---- the names of a place
module _ (m : State) (p : Place) where
  -- the place of an element is this one
  abbrev pub at_place : Option Place → Bool
  at_place None = false
  at_place (Some q) = place_eq q p

  -- the names of the elements that stand in the place
  abbrev pub kept : List IdBytes → List IdBytes
  kept [] = []
  kept (x ∷ xs) = cond (at_place (get m.place x)) (x ∷ kept xs) (kept xs)

  -- an element that stands elsewhere
  abbrev IsAway : IdBytes → Type 0
  IsAway x = get m.place x ≡ Some p → ⊥

  at_true : (o : Option Place) → at_place o ≡ true → o ≡ Some p
  at_true None h = cc
  at_true (Some q) h = ap (λ (z : Place). Some z) (place_equality.exact q p h)

  kept_skip : (x : IdBytes) (xs : List IdBytes) → IsAway x → kept (x ∷ xs) ≡ kept xs
  kept_skip x xs away = ap (λ b. cond b (x ∷ kept xs) (kept xs)) (not_so (at_place (get m.place x)) (λ h. away (at_true (get m.place x) h)))

  kept_here : (x : IdBytes) (xs : List IdBytes) → get m.place x ≡ Some p → kept (x ∷ xs) ≡ x ∷ kept xs
  kept_here x xs at = ap (λ o. cond (at_place o) (x ∷ kept xs) (kept xs)) at ∙ ap (λ b. cond b (x ∷ kept xs) (kept xs)) (place_equality.own p)

  kept_none : (xs : List IdBytes) → AllByRecursion IsAway xs → kept xs ≡ []
  kept_none [] all = refl
  kept_none (x ∷ xs) all = kept_skip x xs all.0 ∙ kept_none xs all.1

  kept_append : (xs ys : List IdBytes) → kept (xs ++ ys) ≡ kept xs ++ kept ys
  kept_append [] ys = refl
  kept_append (x ∷ xs) ys =
      elim (at_place (get m.place x)) as (λ b. cond b (x ∷ kept (xs ++ ys)) (kept (xs ++ ys)) ≡ cond b (x ∷ kept xs) (kept xs) ++ kept ys) [
        | true ↦ ap (λ zs. x ∷ zs) (kept_append xs ys)
        | false ↦ kept_append xs ys
      ]

  -- of lists one after another, where all but one keep nothing
  kept_one : {A : Type 0} (g : A → List IdBytes) (R : A → A → Type 0) (Q : A → Type 0) (a : A)
      → ((b : A) → Q b → R a b ⊎ R b a → AllByRecursion IsAway (g b)) → (xs : List A) → Pairs R xs → AllByRecursion Q xs → Stands a xs
      → kept (flat g xs) ≡ kept (g a)
  kept_one g R Q a away [] pairs all s = absurd s
  kept_one g R Q a away (b ∷ rest) pairs all (inl e) =
      kept_append (g b) (flat g rest)
      ∙ ap (λ ys. kept (g b) ++ ys)
      (kept_none (flat g rest)
      (all_flat g IsAway rest
      (all_both (R b) Q (λ c. AllByRecursion IsAway (g c)) (λ c r q. away c q (inl (subst (λ z. R z c) (sym e) r))) rest pairs.0 all.1)))
      ∙ append-nil (kept (g b)) ∙ ap (λ z. kept (g z)) (sym e)
  kept_one g R Q a away (b ∷ rest) pairs all (inr s) =
      kept_append (g b) (flat g rest)
      ∙ ap (λ ys. ys ++ kept (flat g rest)) (kept_none (g b) (away b all.0 (inr (all_stand (R b) rest pairs.0 a s))))
      ∙ kept_one g R Q a away rest pairs.1 all.1 s

  kept_each : (g : IdBytes → List IdBytes) (cs : List IdBytes) → AllByRecursion (λ c. kept (g c) ≡ c ∷ []) cs → kept (flat g cs) ≡ cs
  kept_each g [] all = refl
  kept_each g (c ∷ cs) all = kept_append (g c) (flat g cs) ∙ ap (λ ys. ys ++ kept (flat g cs)) all.0 ∙ ap (λ ys. c ∷ ys) (kept_each g cs all.1)

  -- where no element stands in the place
  kept_empty : child_ids m p ≡ [] → (xs : List IdBytes) → kept xs ≡ []
  kept_empty none xs = kept_none xs (all_of IsAway (λ x at. subst (Stands x) none (child_stands m x p at)) xs)

module _ (meta : Meta) (named : IsNamed meta) (m : State) (good : Good meta m) (nested : IsNested meta m) where
  -- an element of the place alone, where all of the place stand equally deep
  alone_kept : (p : Place) (j : ℕ) → ((y : IdBytes) → get m.place y ≡ Some p → Level m y j) → (n : ℕ) (c : IdBytes) → get m.place c ≡ Some p
      → depth (whole meta m c) ≤ n → kept m p (tree_names meta m n c) ≡ c ∷ []
  alone_kept p j level zero c at deep = let x = placed meta m.kind (get m.kind c) (get m.place c) p (get m.prank c) (good.places.stands c) at
      in absurd (some_depth meta m good nested c x.0 x.1 deep)
  alone_kept p j level (suc n) c at deep =
      let keys = keys_of meta (class_at meta m c) in
      let below = tree_names meta m n in
      ap (kept m p) (names_step meta m n c)
      ∙ kept_here m p c (flat (key_names meta m below c) keys) at
      ∙ ap (λ xs. c ∷ xs) (kept_none m p (flat (key_names meta m below c) keys)
      (all_flat (key_names meta m below c) (IsAway m p) keys (all_of (λ key. AllByRecursion (IsAway m p) (key_names meta m below c key))
      (λ key. all_so (InKey meta m c (key_number key)) (IsAway m p) (λ y i there. deeper c y (key_number key) i (level c at) (level y there))
      (key_names meta m below c key) (key_in meta m below (under_tree meta m n) c key)) keys)))
    where
      deeper : (c y : IdBytes) (number : ℕ) → InKey meta m c number y → Level m c j → Level m y j → ⊥
      deeper c y number i l k = let same =
          one_level m y (i.2.2.0 + suc j) j (lift_level m i.2.2.0 y i.2.0 (suc j) i.2.2.1 (inside_level m c i.2.0 i.0 j i.2.1 l)) k in omega arith

  module _ (x : IdBytes) (f : ℕ) (held : Holds meta m x f) where
    -- the place of the children of the element in the feature
    abbrev here : Place
    here = Inside x f

    feature_same : (c d e : IdBytes) (g h : ℕ) → c ≡ d → get m.place c ≡ Some (Inside e g) → get m.place d ≡ Some (Inside e h) → g ≡ h
    feature_same c d e g h is at there = let same : ◌≡◌ {A = Option Place} (Some (Inside e g)) (Some (Inside e h)) = sym at ∙ ap (get m.place) is ∙ there in cc

    no_key : (g h : ℕ) (key : Key) → g ≡ h → key_number key ≡ suc (suc g) → NumbersApart (Feature h) key ⊎ NumbersApart key (Feature h) → ⊥
    no_key g h key same is (inl apart) = apart h (feature_number h) (is ∙ ap (λ z. suc (suc z)) same)
    no_key g h key same is (inr apart) = apart h (is ∙ ap (λ z. suc (suc z)) same) (feature_number h)

    no_child : (c d : IdBytes) → c ≡ d → Differ d c ⊎ Differ c d → ⊥
    no_child c d same (inl apart) = apart (sym same)
    no_child c d same (inr apart) = apart same

    -- what stands here is under its container
    here_under : (k : ℕ) (d y : IdBytes) → above m k x ≡ Some d → get m.place y ≡ Some here → Under m d y
    here_under k d y is at = (suc k, above_shift m x y k (inside_up m x y f at) ∙ is)

    own_kept : (n j : ℕ) → Level m x j → depth (whole meta m x) ≤ suc n
        → kept m here (flat (key_names meta m (tree_names meta m n) x) (keys_of meta (class_at meta m x))) ≡ child_ids m here
    own_kept n j level deep =
        let below = tree_names meta m n in
        let keys = keys_of meta (class_at meta m x) in
        kept_one m here (key_names meta m below x) NumbersApart (λ key. Unit {0}) (Feature f)
        (λ key u apart. all_so (InKey meta m x (key_number key)) (IsAway m here) (λ y i at.
        let same = same_above m y i.2.0 y (suc j) i.2.2 (under_own m y) (inside_level m x i.2.0 i.0 j i.2.1 level) (inside_level m x y f j at level) in
        no_key i.0 f key (feature_same i.2.0 y x i.0 f same i.2.1 at) i.1 apart) (key_names meta m below x key)
        (key_in meta m below (under_tree meta m n) x key))
        keys (keys_apart meta named (class_at meta m x)) (all_of (λ key. Unit {0}) (λ key. tt) keys) (feature_stands meta (class_at meta m x) f held.feature)
        ∙ ap (kept m here) (key_is meta m good below x f held.kind)
        ∙ kept_each m here below (child_ids m here)
        (all_so (λ c. get m.place c ≡ Some here) (λ c. kept m here (below c) ≡ c ∷ [])
        (λ c at. alone_kept here (suc j) (λ y there. inside_level m x y f j there level) n c at (child_depth meta m good nested x c n f at deep))
        (child_ids m here) (each_child m here))

    away_from_own : (k j : ℕ) (e : IdBytes) → above m k x ≡ Some e → Level m e j → IsAway m here e
    away_from_own k j e is level at = not_inside m x (k + j) k (lift_level m k x e j is level) (ap (option_and_then (up m)) is ∙ inside_up m x e f at)

    down_kept : (k n j : ℕ) (e : IdBytes) (c : ℕ) → above m k x ≡ Some e → get m.kind e ≡ Some c → depth (whole meta m e) ≤ n → Level m e j
        → kept m here (tree_names meta m n e) ≡ child_ids m here
    down_kept k zero j e c is kind deep level = absurd (some_depth meta m good nested e c kind deep)
    down_kept zero (suc n) j e c is kind deep level =
        let same : x ≡ e = cc in
        ap (kept m here) (names_step meta m n e)
        ∙ kept_skip m here e (flat (key_names meta m (tree_names meta m n) e) (keys_of meta (class_at meta m e))) (away_from_own 0 j e is level)
        ∙ ap (λ z. kept m here (flat (key_names meta m (tree_names meta m n) z) (keys_of meta (class_at meta m z)))) (sym same)
        ∙ own_kept n j (subst (λ z. Level m z j) (sym same) level) (subst (λ z. depth (whole meta m z) ≤ suc n) (sym same) deep)
    down_kept (suc k) (suc n) j e c is kind deep level =
        let d = down m k x e is in
        let g = d.1 in
        let h = holds meta m good e d.0 g d.3 in
        let child = placed meta m.kind (get m.kind d.0) (get m.place d.0) (Inside e g) (get m.prank d.0) (good.places.stands d.0) d.3 in
        let below = tree_names meta m n in
        let keys = keys_of meta (class_at meta m e) in
        let deeper = inside_level m e d.0 g j d.3 level in
        ap (kept m here) (names_step meta m n e)
        ∙ kept_skip m here e (flat (key_names meta m below e) keys) (away_from_own (suc k) j e is level)
        ∙ kept_one m here (key_names meta m below e) NumbersApart (λ key. Unit {0}) (Feature g)
        (λ key u apart. all_so (InKey meta m e (key_number key)) (IsAway m here) (λ y i at.
        let same = same_above m y i.2.0 d.0 (suc j) i.2.2 (here_under k d.0 y d.2 at) (inside_level m e i.2.0 i.0 j i.2.1 level) deeper in
        no_key i.0 g key (feature_same i.2.0 d.0 e i.0 g same i.2.1 d.3) i.1 apart) (key_names meta m below e key)
        (key_in meta m below (under_tree meta m n) e key))
        keys (keys_apart meta named (class_at meta m e)) (all_of (λ key. Unit {0}) (λ key. tt) keys) (feature_stands meta (class_at meta m e) g h.feature)
        ∙ ap (kept m here) (key_is meta m good below e g h.kind)
        ∙ kept_one m here below Differ (λ b. get m.place b ≡ Some (Inside e g)) d.0
        (λ b at apart. all_so (Under m b) (IsAway m here)
        (λ y u there. no_child b d.0
        (same_above m y b d.0 (suc j) u (here_under k d.0 y d.2 there) (inside_level m e b g j at level) deeper) apart) (below b)
        (under_tree meta m n b))
        (child_ids m (Inside e g)) (children_differ meta m good (Inside e g)) (each_child m (Inside e g)) (child_stands m d.0 (Inside e g) d.3)
        ∙ down_kept k n (suc j) d.0 child.0 d.2 child.1 (child_depth meta m good nested e d.0 n g d.3 deep) deeper

  live_placed : (kind : FinMap id_cmp ℕ) (k : Option ℕ) (q : Option Place) (r : Option ℕ) (c : ℕ) → PlaceOk meta kind k q r → k ≡ Some c
      → (p : Place) × (q ≡ Some p)
  live_placed kind None q r c ok is = cc
  live_placed kind (Some d) None r c ok is = absurd ok
  live_placed kind (Some d) (Some p) r c ok is = (p, refl)

  -- each live element is under one at the root
  pub live_root : (x : IdBytes) (c : ℕ) → get m.kind x ≡ Some c → (r : IdBytes) × (k : ℕ) × (above m k x ≡ Some r) × (get m.place r ≡ Some Root)
  live_root x c kind =
      let p = live_placed m.kind (get m.kind x) (get m.place x) (get m.prank x) c (good.places.stands x) kind in
      let chain = good.places.ends x p.0 p.1 in
      root_above m x chain.0 (subst (λ o. IsChain m.place o chain.0) (sym p.1) chain.1)

  module _ (n : ℕ) (deep : AllByRecursion (λ c. depth (whole meta m c) ≤ n) (child_ids m Root)) where
    -- the names of the elements, in the order of their rows
    abbrev names : List IdBytes
    names = flat (tree_names meta m n) (child_ids m Root)

    root_kept : kept m Root names ≡ child_ids m Root
    root_kept =
        kept_each m Root (tree_names meta m n) (child_ids m Root)
        (all_both (λ c. get m.place c ≡ Some Root) (λ c. depth (whole meta m c) ≤ n) (λ c. kept m Root (tree_names meta m n c) ≡ c ∷ [])
        (λ c at d. alone_kept Root 0 (λ y there. root_level m y there) n c at d) (child_ids m Root) (each_child m Root) deep)

    held_kept : (x : IdBytes) (f : ℕ) → Holds meta m x f → kept m (Inside x f) names ≡ child_ids m (Inside x f)
    held_kept x f held =
        let r = live_root x (class_at meta m x) held.class in
        let root = placed meta m.kind (get m.kind r.0) (get m.place r.0) Root (get m.prank r.0) (good.places.stands r.0) r.3 in
        kept_one m (Inside x f) (tree_names meta m n) Differ (λ b. get m.place b ≡ Some Root) r.0
        (λ b at apart. all_so (Under m b) (IsAway m (Inside x f))
        (λ y u there. no_child x f held b r.0
        (same_above m y b r.0 0 u (here_under x f held r.1 r.0 y r.2 there) (root_level m b at) (root_level m r.0 r.3)) apart)
        (tree_names meta m n b) (under_tree meta m n b))
        (child_ids m Root) (children_differ meta m good Root) (each_child m Root) (child_stands m r.0 Root r.3)
        ∙ down_kept x f held r.1 n 0 r.0 root.0 r.2 root.1
        (all_stand (λ c. depth (whole meta m c) ≤ n) (child_ids m Root) deep r.0 (child_stands m r.0 Root r.3)) (root_level m r.0 r.3)

    -- those of a place are its elements
    pub names_kept : (p : Place) → kept m p names ≡ child_ids m p
    names_kept Root = root_kept
    names_kept (Inside x f) = by_children (child_ids m (Inside x f)) refl (each_child m (Inside x f))
      where
        by_children : (cs : List IdBytes) → child_ids m (Inside x f) ≡ cs → AllByRecursion (λ c. get m.place c ≡ Some (Inside x f)) cs
            → kept m (Inside x f) names ≡ child_ids m (Inside x f)
        by_children [] is all = kept_empty m (Inside x f) is names ∙ sym is
        by_children (c ∷ cs) is all = held_kept x f (holds meta m good x c f all.0)

    -- each live element is among the names
    pub all_covered : (x : IdBytes) (c : ℕ) → get m.kind x ≡ Some c → Stands x names
    all_covered x c kind =
        let r = live_root x c kind in
        let root = placed meta m.kind (get m.kind r.0) (get m.place r.0) Root (get m.prank r.0) (good.places.stands r.0) r.3 in
        stands_flat (tree_names meta m n) r.0 x (child_ids m Root) (child_stands m r.0 Root r.3)
        (covered meta m good nested r.1 n x r.0 root.0 r.2 root.1
        (all_stand (λ c. depth (whole meta m c) ≤ n) (child_ids m Root) deep r.0 (child_stands m r.0 Root r.3)))
