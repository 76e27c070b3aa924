-- An element is found by its id.
use Rattle.std.proofs.Common.{◌≡◌, ℕ, zero, suc, ◌+◌, ◌==◌, Bool, true, false, cond, not, ◌&&◌, ◌||◌, List, [], ◌∷◌, ◌++◌, length, map, refl, sym, ap}
use Rattle.std.proofs.Common.{subst, ◌∙◌, arith, nat_eq, ◌⊎◌, inl, inr, eq-eqb, append_assoc, append-nil}
use Rattle.std.specs.Prelude.{None, Some, Ok, slice_get, nat_le}
use Rattle.std.specs.List.{AllByRecursion, list_all, list_any}
use Rattle.std.specs.Option.{option_map_or}
use Rattle.std.proofs.lemmas.List.Folds.{list_any-append}
use Rattle.finite_maps.specs.Equal.{option_eq, text_eq}
use Rattle.finite_maps.proofs.Cases.{not_so, not_true, true_false}
use Rattle.finite_maps.proofs.EqualLaws.{and_first, and_second, nat_equality, text_equality}
use Rattle.ecore_json.specs.References.{after_prefix}
use Rattle.ecore_meta.specs.Meta.{Meta}
use Rattle.ecore_meta.specs.Typing.{kind_of, plain_to}
use Rattle.model_state.specs.Ident.{begins_as_id, is_id, is_id_byte}
use Rattle.model_state.specs.Keys.{IdBytes}
use Rattle.model_state.specs.State.{State}
use Rattle.model_documents.specs.declared.fault.ModelFault.TheVariants.{BadRef, WrongType}
use Rattle.model_documents.specs.Parts.{ids_of}
use Rattle.model_documents.specs.Reads.{«then», unless, collected}
use Rattle.model_documents.specs.References.{bare, located, located_bare, located_by, new_target, target_of}
use Rattle.model_documents.specs.Places.{class_at, has_id, named, numbers_where}
use Rattle.round_trip.proofs.KeysFound.{Stands, all_stand}
use Rattle.round_trip.proofs.KeysPairs.{Pairs}
use Rattle.round_trip.proofs.KeysTypes.{ElementDraft}
use Rattle.round_trip.proofs.WalksApart.{Differ}
use Rattle.round_trip.proofs.WalksPlaces.{IsRow, RowOk}
use Rattle.round_trip.proofs.WalksRows as walks

-- the number of a name in a list
abbrev pub spot : List IdBytes → IdBytes → ℕ
spot [] b = 0
spot (x ∷ xs) b = cond (text_eq x b) 0 (suc (spot xs b))

pub spot_there : (b : IdBytes) (xs : List IdBytes) → Stands b xs → slice_get xs (spot xs b) ≡ Some b
spot_there b [] h = absurd h
spot_there b (x ∷ xs) h = by_test (text_eq x b) refl (spot_there b xs) h
  where
    by_test : (t : Bool) → text_eq x b ≡ t → (Stands b xs → slice_get xs (spot xs b) ≡ Some b) → (b ≡ x) ⊎ Stands b xs
        → slice_get (x ∷ xs) (cond t 0 (suc (spot xs b))) ≡ Some b
    by_test true is more h = ap (λ (z : IdBytes). Some z) (text_equality.exact x b is)
    by_test false is more (inl same) = absurd (true_false (text_eq x b) (subst (λ z. text_eq x z ≡ true) (sym same) (text_equality.own x)) is)
    by_test false is more (inr s) = more s

pub place_stands : (xs : List IdBytes) (n : ℕ) (x : IdBytes) → slice_get xs n ≡ Some x → Stands x xs
place_stands [] n x is = cc
place_stands (y ∷ ys) zero x is = inl cc
place_stands (y ∷ ys) (suc n) x is = inr (place_stands ys n x is)

pub spot_at : (xs : List IdBytes) (n : ℕ) (x : IdBytes) → Pairs Differ xs → slice_get xs n ≡ Some x → spot xs x ≡ n
spot_at [] n x apart is = cc
spot_at (y ∷ ys) zero x apart is = let same : y ≡ x = cc in ap (λ b. cond b 0 (suc (spot ys x))) (subst (λ z. text_eq y z ≡ true) same (text_equality.own y))
spot_at (y ∷ ys) (suc n) x apart is =
    ap (λ b. cond b 0 (suc (spot ys x))) (not_so (text_eq y x) (λ e. all_stand (Differ y) ys apart.0 x (place_stands ys n x is) (text_equality.exact y x e)))
    ∙ ap suc (spot_at ys n x apart.1 is)

pub spot_same : (a b : IdBytes) (xs : List IdBytes) → Stands a xs → Stands b xs → spot xs a ≡ spot xs b → a ≡ b
spot_same a b xs s t is = let same : Some a ≡ Some b = sym (spot_there a xs s) ∙ ap (slice_get xs) is ∙ spot_there b xs t in cc

-- ---- by its id
named_from : (b : IdBytes) (rows : List ElementDraft) (xs : List IdBytes) (n : ℕ) → ids_of rows ≡ map (λ x. Some x) xs → Stands b xs
    → slice_get (numbers_where (has_id b) n rows) 0 ≡ Some (n + spot xs b)
named_from b rows [] n ids h = absurd h
named_from b [] (x ∷ xs) n ids h = cc
named_from b (r ∷ rows) (x ∷ xs) n ids h =
    let head : r.id ≡ Some x = cc in
    let tail : ids_of rows ≡ map (λ x. Some x) xs = cc in
    ap (λ o. slice_get (cond (option_eq text_eq o (Some b)) (n ∷ numbers_where (has_id b) (suc n) rows) (numbers_where (has_id b) (suc n) rows)) 0) head
    ∙ by_test (text_eq x b) refl (named_from b rows xs (suc n) tail) h
  where
    none : (n : ℕ) → n ≡ n + 0
    none n = omega arith

    later : (n k : ℕ) → suc n + k ≡ n + suc k
    later n k = omega arith

    by_test : (t : Bool) → text_eq x b ≡ t → (Stands b xs → slice_get (numbers_where (has_id b) (suc n) rows) 0 ≡ Some (suc n + spot xs b))
        → (b ≡ x) ⊎ Stands b xs
        → slice_get (cond t (n ∷ numbers_where (has_id b) (suc n) rows) (numbers_where (has_id b) (suc n) rows)) 0 ≡ Some (n + cond t 0 (suc (spot xs b)))
    by_test true is more h = ap (λ k. Some k) (none n)
    by_test false is more (inl same) = absurd (true_false (text_eq x b) (subst (λ z. text_eq x z ≡ true) (sym same) (text_equality.own x)) is)
    by_test false is more (inr s) = more s ∙ ap (λ k. Some k) (later n (spot xs b))

other_byte : (x y : ℕ) → (x == y) ≡ false → (y == x) ≡ false
other_byte x y h = not_so (y == x) (λ e. true_false (x == y) (eq-eqb x y (sym (nat_equality.exact y x e))) h)

not_behind : (y : ℕ) (b : IdBytes) → ((x : ℕ) (xs : IdBytes) → b ≡ x ∷ xs → (x == y) ≡ false) → after_prefix (y ∷ []) b ≡ None
not_behind y [] h = refl
not_behind y (x ∷ xs) h = ap (λ t. cond t (Some xs) None) (other_byte x y (h x xs refl))

no_slash : (b : IdBytes) → begins_as_id b ≡ true → (x : ℕ) (xs : IdBytes) → b ≡ x ∷ xs → (x == 47) ≡ false
no_slash b h x xs is = not_true (x == 47) (and_first (not (x == 47)) (not (x == 35)) (subst (λ z. begins_as_id z ≡ true) is h))

no_sign : (b : IdBytes) → begins_as_id b ≡ true → (x : ℕ) (xs : IdBytes) → b ≡ x ∷ xs → (x == 35) ≡ false
no_sign b h x xs is = not_true (x == 35) (and_second (not (x == 47)) (not (x == 35)) (subst (λ z. begins_as_id z ≡ true) is h))

located_id : (meta : Meta) (rows : List ElementDraft) (b : IdBytes) → is_id b ≡ true → located meta rows b ≡ named rows b
located_id meta rows b h =
    let begins = and_second (nat_le 1 (length b) && nat_le (length b) 128 && list_all is_id_byte b) (begins_as_id b) h in
    ap (λ o. located_bare meta rows (bare b o)) (not_behind 35 b (no_sign b begins)) ∙ ap (located_by meta rows b) (not_behind 47 b (no_slash b begins))

-- ---- the row of that id
pub row_at : (meta : Meta) (m : State) (names : List IdBytes) (rows : List ElementDraft) (xs : List IdBytes) (n : ℕ) (b : IdBytes)
    → ids_of rows ≡ map (λ x. Some x) xs → AllByRecursion (RowOk meta m names) rows → slice_get xs n ≡ Some b
    → (r : ElementDraft) × (slice_get rows n ≡ Some r) × IsRow meta m names r b
row_at meta m names rows [] n b ids all at = cc
row_at meta m names [] (x ∷ xs) n b ids all at = cc
row_at meta m names (r ∷ rows) (x ∷ xs) zero b ids all at =
    let own : Some all.0.0 ≡ r.id = sym (ap (λ (q : ElementDraft). q.id) all.0.1.is) in
    let head : r.id ≡ Some x = cc in
    let same : all.0.0 ≡ b = cc in
    (r, refl, subst (IsRow meta m names r) same all.0.1)
row_at meta m names (r ∷ rows) (x ∷ xs) (suc n) b ids all at = let tail : ids_of rows ≡ map (λ x. Some x) xs = cc
    in row_at meta m names rows xs n b tail all.1 at

module _ (meta : Meta) (m : State) (names : List IdBytes) (rows : List ElementDraft) (ids : ids_of rows ≡ map (λ x. Some x) names)
    (all : AllByRecursion (RowOk meta m names) rows) where
  pub class_there : (b : IdBytes) → Stands b names → class_at rows (spot names b) ≡ walks.class_at meta m b
  class_there b s =
      let r = row_at meta m names rows names (spot names b) b ids all (spot_there b names s) in
      ap (λ o. option_map_or (λ (q : ElementDraft). q.class) o 0) r.1 ∙ ap (λ (q : ElementDraft). q.class) r.2.is

  -- a target that is read: an element of the model, with an id, of the feature's type
  pub record IsReady (f : ℕ) (b : IdBytes) : Type 0 where
    pub there : Stands b names
    pub form : is_id b ≡ true
    pub type : plain_to meta (kind_of meta f) (walks.class_at meta m b) ≡ true

  target_read : (f : ℕ) (done : List ℕ) (b : IdBytes) → IsReady f b → list_any (nat_eq (spot names b)) done ≡ false
      → target_of meta rows f done (Some b) ≡ Ok (spot names b)
  target_read f done b ready new =
      ap (new_target meta rows f done) (located_id meta rows b ready.form ∙ named_from b rows names 0 ids ready.there ∙ ap (λ k. Some k) (none (spot names b)))
      ∙ ap (λ t. unless (not t) BadRef (unless (plain_to meta (kind_of meta f) (class_at rows (spot names b))) WrongType (Ok (spot names b)))) new
      ∙ ap (λ t. unless t WrongType (Ok (spot names b))) (ap (plain_to meta (kind_of meta f)) (class_there b ready.there) ∙ ready.type)
    where
      none : (n : ℕ) → 0 + n ≡ n
      none n = omega arith

  one_more : (f : ℕ) (b : IdBytes) → IsReady f b → (done : List ℕ) (bs : List IdBytes) → AllByRecursion (IsReady f) bs → AllByRecursion (Differ b) bs
      → AllByRecursion (λ x. list_any (nat_eq (spot names x)) done ≡ false) bs
      → AllByRecursion (λ x. list_any (nat_eq (spot names x)) (done ++ spot names b ∷ []) ≡ false) bs
  one_more f b ready done [] readies differ new = tt
  one_more f b ready done (x ∷ bs) readies differ new = (
    list_any-append (nat_eq (spot names x)) done (spot names b ∷ [])
        ∙ ap (λ t. t || (nat_eq (spot names x) (spot names b) || false)) new.0
        ∙ ap (λ t. t || false)
        (not_so (nat_eq (spot names x) (spot names b))
        (λ e. differ.0 (sym (spot_same x b names readies.0.there ready.there (nat_equality.exact (spot names x) (spot names b) e))))),
    one_more f b ready done bs readies.1 differ.1 new.1,
  )

  pub targets_read : (f : ℕ) (done : List ℕ) (bs : List IdBytes) → AllByRecursion (IsReady f) bs → Pairs Differ bs
      → AllByRecursion (λ x. list_any (nat_eq (spot names x)) done ≡ false) bs
      → collected (target_of meta rows f) done (map (λ x. Some x) bs) ≡ Ok (done ++ map (spot names) bs)
  targets_read f done [] ready differ new = ap (λ xs. Ok xs) (sym (append-nil done))
  targets_read f done (b ∷ bs) ready differ new =
      ap (λ r. «then» r (λ n. collected (target_of meta rows f) (done ++ n ∷ []) (map (λ x. Some x) bs))) (target_read f done b ready.0 new.0)
      ∙ targets_read f (done ++ spot names b ∷ []) bs ready.1 differ.1 (one_more f b ready.0 done bs ready.1 differ.0 new.1)
      ∙ ap (λ xs. Ok xs) (append_assoc done (spot names b ∷ []) (map (spot names) bs))
