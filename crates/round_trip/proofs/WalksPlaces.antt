-- Each row is that of a live element, and its parent is where the element stands.
use Rattle.std.proofs.Common.{◌≡◌, ℕ, zero, suc, ◌+◌, List, [], ◌∷◌, ◌++◌, length, refl, sym, ap, subst, ◌∙◌, arith, append_assoc, length-append}
use Rattle.std.specs.Prelude.{Option, None, Some, slice_get, unwrap_or}
use Rattle.std.specs.FinMap.{get}
use Rattle.std.specs.List.{AllByRecursion}
use Rattle.std.proofs.lemmas.List.{length-map}
use Rattle.ecore_meta.specs.Meta.{Meta}
use Rattle.ecore_meta.specs.Typing.{kind_of}
use Rattle.ecore_meta.specs.declared.meta.Kind.{Kind}
use Rattle.ecore_meta.specs.declared.meta.Kind.TheVariants.{Attr, AttrMany, Bounded, Free, Contains, Container, Skip}
use Rattle.model_state.specs.declared.step.Place.{Place}
use Rattle.model_state.specs.declared.step.Place.TheVariants.{Root, Inside}
use Rattle.model_state.specs.Good.{Good}
use Rattle.model_state.specs.Keys.{IdBytes}
use Rattle.model_state.specs.State.{State}
use Rattle.import_laws.specs.News.{inside, place_of}
use Rattle.model_documents.specs.declared.doc.DocParent.{DocParent}
use Rattle.model_texts.specs.Keys.{key_number, keys_of}
use Rattle.model_texts.specs.Tree.{child_ids}
use Rattle.model_texts.proofs.Children.{each_child}
use Rattle.round_trip.proofs.KeysTypes.{ElementDraft, Key}
use Rattle.round_trip.proofs.ReadingTrees.{all_so}
use Rattle.round_trip.proofs.WalksNames.{all_append, flat, key_names, kind_names, tree_named, tree_names}
use Rattle.round_trip.proofs.WalksRows.{by_number, class_at, forest, key_rows, keys_rows, kind_rows, own_row, tree_rows}
use Rattle.round_trip.proofs.WalksWhole.{placed}

-- the names stand in the list from that place on
abbrev pub StandAt : List IdBytes → ℕ → List IdBytes → Type 0
StandAt names k xs = (before : List IdBytes) × (after : List IdBytes) × (names ≡ before ++ (xs ++ after)) × (length before ≡ k)

module _ (names : List IdBytes) where
  stand_first : (k : ℕ) (xs ys : List IdBytes) → StandAt names k (xs ++ ys) → StandAt names k xs
  stand_first k xs ys s = (s.0, ys ++ s.1, s.2 ∙ ap (λ l. s.0 ++ l) (append_assoc xs ys s.1), s.3)

  stand_second : (k : ℕ) (xs ys : List IdBytes) → StandAt names k (xs ++ ys) → StandAt names (k + length xs) ys
  stand_second k xs ys s = (
    s.0 ++ xs,
    s.1,
    s.2 ∙ ap (λ l. s.0 ++ l) (append_assoc xs ys s.1) ∙ sym (append_assoc s.0 xs (ys ++ s.1)),
    length-append s.0 xs
        ∙ ap (λ n. n + length xs) s.3,
  )

  stand_next : (k : ℕ) (x : IdBytes) (xs : List IdBytes) → StandAt names k (x ∷ xs) → StandAt names (suc k) xs
  stand_next k x xs s = let t = stand_second k (x ∷ []) xs s in (t.0, t.1, t.2, t.3 ∙ one k)
    where
      one : (k : ℕ) → k + 1 ≡ suc k
      one k = omega arith

  at_length : (before : List IdBytes) (x : IdBytes) (rest : List IdBytes) → slice_get (before ++ x ∷ rest) (length before) ≡ Some x
  at_length [] x rest = refl
  at_length (y ∷ before) x rest = at_length before x rest

  stand_here : (k : ℕ) (x : IdBytes) (xs : List IdBytes) → StandAt names k (x ∷ xs) → slice_get names k ≡ Some x
  stand_here k x xs s = ap (λ l. slice_get l k) s.2 ∙ ap (slice_get (s.0 ++ (x ∷ (xs ++ s.1)))) (sym s.3) ∙ at_length s.0 x (xs ++ s.1)

module _ (meta : Meta) (m : State) (names : List IdBytes) where
  -- a row of a live element, with its place
  pub record IsRow (r : ElementDraft) (e : IdBytes) : Type 0 where
    pub parent : Option DocParent
    pub is : r ≡ own_row meta m parent e
    pub class : get m.kind e ≡ Some (class_at meta m e)
    pub place : get m.place e ≡ Some (place_of names parent)

  -- a row of some element
  abbrev pub RowOk : ElementDraft → Type 0
  RowOk r = (e : IdBytes) × IsRow r e

module _ (meta : Meta) (m : State) (good : Good meta m) (names : List IdBytes) where
  -- the rows of an element that stands where the parent says
  abbrev RowsOk : ℕ → Type 0
  RowsOk n = (k : ℕ) (parent : Option DocParent) (e : IdBytes) → get m.place e ≡ Some (place_of names parent)
      → StandAt names k (tree_names meta m n e) → AllByRecursion (RowOk meta m names) (tree_rows meta m n k parent e)

  rows_many : (n k : ℕ) (parent : Option DocParent) (e : IdBytes) → length (tree_rows meta m n k parent e) ≡ length (tree_names meta m n e)
  rows_many n k parent e =
      sym (length-map (tree_rows meta m n k parent e) (λ (r : ElementDraft). r.id)) ∙ ap length (tree_named meta m n k parent e)
      ∙ length-map (tree_names meta m n e) (λ x. Some x)

  module _ (n : ℕ) (rows_ok : RowsOk n) where
    forest_many : (k : ℕ) (parent : Option DocParent) (cs : List IdBytes)
        → length (forest (tree_rows meta m n) k parent cs) ≡ length (flat (tree_names meta m n) cs)
    forest_many k parent [] = refl
    forest_many k parent (c ∷ cs) =
        length-append (tree_rows meta m n k parent c) (forest (tree_rows meta m n) (k + length (tree_rows meta m n k parent c)) parent cs)
        ∙ ap (λ l. l + length (forest (tree_rows meta m n) (k + length (tree_rows meta m n k parent c)) parent cs)) (rows_many n k parent c)
        ∙ ap (λ l. length (tree_names meta m n c) + l) (forest_many (k + length (tree_rows meta m n k parent c)) parent cs)
        ∙ sym (length-append (tree_names meta m n c) (flat (tree_names meta m n) cs))

    pub forest_ok : (k : ℕ) (parent : Option DocParent) (cs : List IdBytes) → AllByRecursion (λ c. get m.place c ≡ Some (place_of names parent)) cs
        → StandAt names k (flat (tree_names meta m n) cs)
        → AllByRecursion (RowOk meta m names) (forest (tree_rows meta m n) k parent cs)
    forest_ok k parent [] all at = tt
    forest_ok k parent (c ∷ cs) all at =
        all_append (RowOk meta m names) (tree_rows meta m n k parent c) (forest (tree_rows meta m n) (k + length (tree_rows meta m n k parent c)) parent cs)
        (rows_ok k parent c all.0 (stand_first names k (tree_names meta m n c) (flat (tree_names meta m n) cs) at))
        (forest_ok (k + length (tree_rows meta m n k parent c)) parent cs all.1
        (subst (λ l. StandAt names (k + l) (flat (tree_names meta m n) cs)) (sym (rows_many n k parent c))
        (stand_second names k (tree_names meta m n c) (flat (tree_names meta m n) cs) at)))

    module _ (own : ℕ) (e : IdBytes) (here : slice_get names own ≡ Some e) where
      kind_many : (f k : ℕ) (kind : Kind) → length (kind_rows m e f (tree_rows meta m n) own k kind) ≡ length (kind_names m (tree_names meta m n) e f kind)
      kind_many f k (Attr scalar default) = refl
      kind_many f k (AttrMany scalar unique) = refl
      kind_many f k (Bounded target opposite) = refl
      kind_many f k (Free target opposite) = refl
      kind_many f k (Contains target opposite) = forest_many k (Some (record { row = own; feature = f })) (child_ids m (Inside e f))
      kind_many f k (Container target opposite) = refl
      kind_many f k Skip = refl

      key_many : (k number : ℕ)
          → length (by_number (λ f. kind_rows m e f (tree_rows meta m n) own k (kind_of meta f)) number) ≡ length
          (by_number (λ f. kind_names m (tree_names meta m n) e f (kind_of meta f)) number)
      key_many k zero = refl
      key_many k (suc zero) = refl
      key_many k (suc (suc f)) = kind_many f k (kind_of meta f)

      kind_ok : (f k : ℕ) (kind : Kind) → StandAt names k (kind_names m (tree_names meta m n) e f kind)
          → AllByRecursion (RowOk meta m names) (kind_rows m e f (tree_rows meta m n) own k kind)
      kind_ok f k (Attr scalar default) at = tt
      kind_ok f k (AttrMany scalar unique) at = tt
      kind_ok f k (Bounded target opposite) at = tt
      kind_ok f k (Free target opposite) at = tt
      kind_ok f k (Contains target opposite) at =
          forest_ok k (Some (record { row = own; feature = f })) (child_ids m (Inside e f))
          (all_so (λ c. get m.place c ≡ Some (Inside e f)) (λ c. get m.place c ≡ Some (inside (slice_get names own) f))
          (λ c is. is ∙ ap (λ o. Some (inside o f)) (sym here)) (child_ids m (Inside e f)) (each_child m (Inside e f))) at
      kind_ok f k (Container target opposite) at = tt
      kind_ok f k Skip at = tt

      key_ok : (k number : ℕ) → StandAt names k (by_number (λ f. kind_names m (tree_names meta m n) e f (kind_of meta f)) number)
          → AllByRecursion (RowOk meta m names) (by_number (λ f. kind_rows m e f (tree_rows meta m n) own k (kind_of meta f)) number)
      key_ok k zero at = tt
      key_ok k (suc zero) at = tt
      key_ok k (suc (suc f)) at = kind_ok f k (kind_of meta f) at

      keys_ok : (k : ℕ) (keys : List Key) → StandAt names k (flat (key_names meta m (tree_names meta m n) e) keys)
          → AllByRecursion (RowOk meta m names) (keys_rows meta m e (tree_rows meta m n) own k keys)
      keys_ok k [] at = tt
      keys_ok k (key ∷ keys) at =
          let here = key_names meta m (tree_names meta m n) e key in
          let rest = flat (key_names meta m (tree_names meta m n) e) keys in
          all_append (RowOk meta m names) (key_rows meta m e (tree_rows meta m n) own k key)
          (keys_rows meta m e (tree_rows meta m n) own (k + length (key_rows meta m e (tree_rows meta m n) own k key)) keys)
          (key_ok k (key_number key) (stand_first names k here rest at))
          (keys_ok (k + length (key_rows meta m e (tree_rows meta m n) own k key)) keys
          (subst (λ l. StandAt names (k + l) rest) (sym (key_many k (key_number key))) (stand_second names k here rest at)))

  class_of_placed : (e : IdBytes) (p : Place) → get m.place e ≡ Some p → get m.kind e ≡ Some (class_at meta m e)
  class_of_placed e p at = let x = placed meta m.kind (get m.kind e) (get m.place e) p (get m.prank e) (good.places.stands e) at
      in x.1 ∙ ap (λ o. Some (unwrap_or o 0)) (sym x.1)

  pub rows_are_ok : (n : ℕ) → RowsOk n
  unfolding tree_rows tree_names
  rows_are_ok zero k parent e place at = tt
  rows_are_ok (suc n) k parent e place at = (
    (e, record { parent = parent; is = refl; class = class_of_placed e (place_of names parent) place; place = place }),
    keys_ok n (rows_are_ok n) k e (stand_here names k e (flat (key_names meta m (tree_names meta m n) e) (keys_of meta (class_at meta m e))) at)
        (suc k) (keys_of meta (class_at meta m e))
        (stand_next names k e (flat (key_names meta m (tree_names meta m n) e) (keys_of meta (class_at meta m e))) at),
  )

-- the rows of a good model
module _ (meta : Meta) (m : State) (good : Good meta m) (n : ℕ) where
  -- the names of the elements, in the order of their rows
  abbrev pub model_names : List IdBytes
  model_names = flat (tree_names meta m n) (child_ids m Root)

  pub model_ok : AllByRecursion (RowOk meta m model_names) (forest (tree_rows meta m n) 0 None (child_ids m Root))
  model_ok = forest_ok meta m good model_names n (rows_are_ok meta m good model_names n) 0 None (child_ids m Root) (each_child m Root)
      ([], [], whole model_names, refl)
    where
      whole : (xs : List IdBytes) → xs ≡ [] ++ (xs ++ [])
      whole [] = refl
      whole (x ∷ xs) = ap (λ l. x ∷ l) (whole xs)
