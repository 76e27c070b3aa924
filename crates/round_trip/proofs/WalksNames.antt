-- The names of the elements in a tree, in the order of their rows.
use Rattle.std.proofs.Common.{◌≡◌, ℕ, zero, suc, ◌+◌, List, [], ◌∷◌, ◌++◌, length, map, refl, sym, ap, ap₂, ◌∙◌}
use Rattle.std.specs.Prelude.{Option, Some}
use Rattle.std.specs.List.{AllByRecursion}
use Rattle.std.proofs.lemmas.List.{map-append}
use Rattle.ecore_meta.specs.Meta.{Meta}
use Rattle.ecore_meta.specs.Typing.{kind_of}
use Rattle.ecore_meta.specs.declared.meta.Kind.{Kind}
use Rattle.ecore_meta.specs.declared.meta.Kind.TheVariants.{Attr, AttrMany, Bounded, Free, Contains, Container, Skip}
use Rattle.model_state.specs.declared.step.Place.TheVariants.{Inside}
use Rattle.model_state.specs.Keys.{IdBytes}
use Rattle.model_state.specs.State.{State}
use Rattle.model_documents.specs.declared.doc.DocParent.{DocParent}
use Rattle.model_documents.specs.Parts.{ids_of}
use Rattle.model_documents.proofs.IdLists.{ids_append}
use Rattle.model_texts.specs.Keys.{key_number, keys_of}
use Rattle.model_texts.specs.Tree.{child_ids}
use Rattle.round_trip.proofs.KeysPairs.{Pairs}
use Rattle.round_trip.proofs.KeysTypes.{ElementDraft, Key}
use Rattle.round_trip.proofs.WalksRows.{by_number, class_at, forest, kind_rows, key_rows, keys_rows, tree_rows}

-- ---- lists one after another
abbrev pub flat : {A B : Type 0} → (A → List B) → List A → List B
flat g [] = []
flat g (a ∷ rest) = g a ++ flat g rest

module _ {A : Type 0} where
  pub all_append : (P : A → Type 0) (xs ys : List A) → AllByRecursion P xs → AllByRecursion P ys → AllByRecursion P (xs ++ ys)
  all_append P [] ys p q = q
  all_append P (x ∷ xs) ys p q = (p.0, all_append P xs ys p.1 q)

  pub pairs_append : (P : A → A → Type 0) (xs ys : List A) → Pairs P xs → Pairs P ys → AllByRecursion (λ x. AllByRecursion (P x) ys) xs → Pairs P (xs ++ ys)
  pairs_append P [] ys p q cross = q
  pairs_append P (x ∷ xs) ys p q cross = (all_append (P x) xs ys p.0 cross.0, pairs_append P xs ys p.1 q cross.1)

module _ {A B : Type 0} (g : A → List B) where
  pub all_flat : (P : B → Type 0) (rest : List A) → AllByRecursion (λ a. AllByRecursion P (g a)) rest → AllByRecursion P (flat g rest)
  all_flat P [] all = tt
  all_flat P (a ∷ rest) all = all_append P (g a) (flat g rest) all.0 (all_flat P rest all.1)

  module _ (P : B → B → Type 0) (R : A → A → Type 0) (Q : A → B → Type 0) (cross : (a b : A) → R a b → (x y : B) → Q a x → Q b y → P x y) where
    apart_from_one : (a : A) (x : B) → Q a x → (bs : List A) → AllByRecursion (R a) bs → AllByRecursion (λ b. AllByRecursion (Q b) (g b)) bs
        → AllByRecursion (P x) (flat g bs)
    apart_from_one a x q [] r all = tt
    apart_from_one a x q (b ∷ bs) r all = all_append (P x) (g b) (flat g bs) (each (g b) all.0) (apart_from_one a x q bs r.1 all.1)
      where
        each : (ys : List B) → AllByRecursion (Q b) ys → AllByRecursion (P x) ys
        each [] h = tt
        each (y ∷ ys) h = (cross a b r.0 x y q h.0, each ys h.1)

    apart_from_all : (a : A) (xs : List B) → AllByRecursion (Q a) xs → (bs : List A) → AllByRecursion (R a) bs
        → AllByRecursion (λ b. AllByRecursion (Q b) (g b)) bs → AllByRecursion (λ x. AllByRecursion (P x) (flat g bs)) xs
    apart_from_all a [] q bs r all = tt
    apart_from_all a (x ∷ xs) q bs r all = (apart_from_one a x q.0 bs r all, apart_from_all a xs q.1 bs r all)

    -- lists that have nothing in common, and no item twice, make one that has none twice
    pub pairs_flat : (rest : List A) → Pairs R rest → AllByRecursion (λ a. Pairs P (g a)) rest → AllByRecursion (λ a. AllByRecursion (Q a) (g a)) rest
        → Pairs P (flat g rest)
    pairs_flat [] r p q = tt
    pairs_flat (a ∷ rest) r p q = pairs_append P (g a) (flat g rest) p.0 (pairs_flat rest r.1 p.1 q.1) (apart_from_all a (g a) q.0 rest r.0 q.1)

-- ---- the names
module _ (m : State) (below : IdBytes → List IdBytes) (e : IdBytes) (f : ℕ) where
  -- the names under a feature
  abbrev pub kind_names : Kind → List IdBytes
  kind_names (Attr scalar default) = []
  kind_names (AttrMany scalar unique) = []
  kind_names (Bounded target opposite) = []
  kind_names (Free target opposite) = []
  kind_names (Contains target opposite) = flat below (child_ids m (Inside e f))
  kind_names (Container target opposite) = []
  kind_names Skip = []

module _ (meta : Meta) (m : State) where
  -- the names under a key
  abbrev pub key_names : (IdBytes → List IdBytes) → IdBytes → Key → List IdBytes
  key_names below e key = by_number (λ f. kind_names m below e f (kind_of meta f)) (key_number key)

  -- the names of an element and of those inside, down to a depth
  unfoldable pub tree_names : ℕ → IdBytes → List IdBytes
  tree_names zero e = []
  tree_names (suc n) e = e ∷ flat (key_names (tree_names n) e) (keys_of meta (class_at meta m e))

  pub names_step : (n : ℕ) (e : IdBytes) → tree_names (suc n) e ≡ e ∷ flat (key_names (tree_names n) e) (keys_of meta (class_at meta m e))
  unfolding tree_names
  names_step n e = refl

-- ---- the rows have these names
abbrev some : IdBytes → Option IdBytes
some x = Some x

-- rows that have the names, wherever they stand
abbrev Names : (ℕ → Option DocParent → IdBytes → List ElementDraft) → (IdBytes → List IdBytes) → Type 0
Names rows names = (k : ℕ) (parent : Option DocParent) (e : IdBytes) → ids_of (rows k parent e) ≡ map some (names e)

pub forest_names : (rows : ℕ → Option DocParent → IdBytes → List ElementDraft) (names : IdBytes → List IdBytes) → Names rows names
    → (k : ℕ) (parent : Option DocParent) (cs : List IdBytes) → ids_of (forest rows k parent cs) ≡ map some (flat names cs)
forest_names rows names h k parent [] = refl
forest_names rows names h k parent (c ∷ cs) =
    ids_append (rows k parent c) (forest rows (k + length (rows k parent c)) parent cs)
    ∙ ap₂ (λ xs ys. xs ++ ys) (h k parent c) (forest_names rows names h (k + length (rows k parent c)) parent cs)
    ∙ sym (map-append some (names c) (flat names cs))

module _ (meta : Meta) (m : State) (rows : ℕ → Option DocParent → IdBytes → List ElementDraft) (names : IdBytes → List IdBytes) (h : Names rows names)
    (own : ℕ) (e : IdBytes) where
  kind_named : (f k : ℕ) (kind : Kind) → ids_of (kind_rows m e f rows own k kind) ≡ map some (kind_names m names e f kind)
  kind_named f k (Attr scalar default) = refl
  kind_named f k (AttrMany scalar unique) = refl
  kind_named f k (Bounded target opposite) = refl
  kind_named f k (Free target opposite) = refl
  kind_named f k (Contains target opposite) = forest_names rows names h k (Some (record { row = own; feature = f })) (child_ids m (Inside e f))
  kind_named f k (Container target opposite) = refl
  kind_named f k Skip = refl

  by_number_named : (k n : ℕ)
      → ids_of (by_number (λ f. kind_rows m e f rows own k (kind_of meta f)) n) ≡ map some (by_number (λ f. kind_names m names e f (kind_of meta f)) n)
  by_number_named k zero = refl
  by_number_named k (suc zero) = refl
  by_number_named k (suc (suc f)) = kind_named f k (kind_of meta f)

  keys_named : (k : ℕ) (keys : List Key) → ids_of (keys_rows meta m e rows own k keys) ≡ map some (flat (key_names meta m names e) keys)
  keys_named k [] = refl
  keys_named k (key ∷ keys) =
      let here = key_rows meta m e rows own k key in
      ids_append here (keys_rows meta m e rows own (k + length here) keys)
      ∙ ap₂ (λ xs ys. xs ++ ys) (by_number_named k (key_number key)) (keys_named (k + length here) keys)
      ∙ sym (map-append some (key_names meta m names e key) (flat (key_names meta m names e) keys))

module _ (meta : Meta) (m : State) where
  pub tree_named : (n : ℕ) → Names (tree_rows meta m n) (tree_names meta m n)
  unfolding tree_rows tree_names
  tree_named zero k parent e = refl
  tree_named (suc n) k parent e =
      ap (λ xs. Some e ∷ xs) (keys_named meta m (tree_rows meta m n) (tree_names meta m n) (tree_named n) k e (suc k) (keys_of meta (class_at meta m e)))
