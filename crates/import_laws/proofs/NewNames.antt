-- The ids that the elements of a document get are new.
use Rattle.std.proofs.Common.{◌≡◌, ℕ, ◌+◌, ◌<◌, ◌≤◌, ◌^◌, suc, Bool, true, false, ◌||◌, not, List, [], ◌∷◌, length, refl, sym, ap, subst, ◌∙◌, arith}
use Rattle.std.specs.Prelude.{Option, None, Some}
use Rattle.std.specs.List.{list_any}
use Rattle.finite_maps.specs.Equal.{option_eq, text_eq}
use Rattle.finite_maps.proofs.EqualLaws.{and_both, text_equality}
use Rattle.finite_maps.proofs.Cases.{not_so, true_false, or_first, or_second}
use Rattle.model_state.specs.Keys.{IdBytes}
use Rattle.model_state.specs.State.{State, is_live}
use Rattle.edits.specs.FreshIds.{numbered}
use Rattle.edits.proofs.Fresh.{numbered_apart}
use Rattle.model_documents.specs.declared.doc.DocRow.{DocRow}
use Rattle.model_documents.specs.Laws.{gives_id, ids_repeat, is_given}
use Rattle.import_laws.specs.Names.{AreNames, IsName, any_in_use, in_use, is_taken, greatest_number}
use Rattle.import_laws.specs.Laws.{NamesAreNew, ids_differ}

-- ---- tests
neither : (a b : Bool) → a ≡ false → b ≡ false → a || b ≡ false
neither a b p q = ap (λ c. c || b) p ∙ q

same : (x y : IdBytes) → text_eq x y ≡ true → x ≡ y
same x y h = text_equality.exact x y h

-- a row that has the id is found
found : (e : IdBytes) (r : DocRow) (rest : List DocRow) → r.id ≡ Some e → list_any (gives_id e) (r ∷ rest) ≡ true
found e r rest is = ap (λ (b : Bool). b || list_any (gives_id e) rest) (ap (λ (o : Option IdBytes). option_eq text_eq (Some e) o) is ∙ text_equality.own e)

module _ (m : State) (rows : List DocRow) (ws : ℕ) where
  -- the ids that these rows give are given by the document's
  abbrev AreGiven : List DocRow → Type 0
  AreGiven rest = (id : IdBytes) → list_any (gives_id id) rest ≡ true → list_any (gives_id id) rows ≡ true

  free_is : (k : ℕ) → is_taken m rows (numbered ws k) ≡ false → (is_live m (numbered ws k) ≡ false) × (list_any (gives_id (numbered ws k)) rows ≡ false)
  free_is k h = (
    or_first (is_live m (numbered ws k)) (list_any (gives_id (numbered ws k)) rows) h,
    or_second (is_live m (numbered ws k)) (list_any (gives_id (numbered ws k)) rows) h,
  )

  -- ---- none is live
  not_live : (from : ℕ) (o : Option IdBytes) (x : IdBytes) (next : ℕ) → IsName m rows ws from o x next → in_use m o ≡ false → is_live m x ≡ false
  not_live from (Some id) x next is h = ap (is_live m) is.0 ∙ h
  not_live from None x next is h = ap (is_live m) is.1 ∙ (free_is is.0 is.2.free).0

  none_live : (from : ℕ) (rest : List DocRow) (names : List IdBytes) → AreNames m rows ws from rest names → any_in_use m rest ≡ false
      → list_any (is_live m) names ≡ false
  none_live from [] [] are h = refl
  none_live from [] (x ∷ xs) are h = absurd are
  none_live from (r ∷ rest) [] are h = absurd are
  none_live from (r ∷ rest) (x ∷ xs) are h =
      neither (is_live m x) (list_any (is_live m) xs) (not_live from r.id x are.0 are.1 (or_first (in_use m r.id) (any_in_use m rest) h))
      (none_live are.0 rest xs are.2 (or_second (in_use m r.id) (any_in_use m rest) h))

  -- ---- as many
  as_many : (from : ℕ) (rest : List DocRow) (names : List IdBytes) → AreNames m rows ws from rest names → length names ≡ length rest
  as_many from [] [] are = refl
  as_many from [] (x ∷ xs) are = absurd are
  as_many from (r ∷ rest) [] are = absurd are
  as_many from (r ∷ rest) (x ∷ xs) are = ap (λ n. suc n) (as_many are.0 rest xs are.2)

  -- ---- an id of the document differs from the names after it
  given_differs : (id : IdBytes) → list_any (gives_id id) rows ≡ true → (from : ℕ) (o : Option IdBytes) (y : IdBytes) (next : ℕ)
      → IsName m rows ws from o y next → option_eq text_eq (Some id) o ≡ false → text_eq id y ≡ false
  given_differs id here from (Some other) y next is h = ap (text_eq id) is.0 ∙ h
  given_differs id here from None y next is h =
      not_so (text_eq id y) (λ e.
      let one : id ≡ numbered ws is.0 = same id y e ∙ is.1 in
      true_false (list_any (gives_id id) rows) here (ap (λ z. list_any (gives_id z) rows) one ∙ (free_is is.0 is.2.free).1))

  given_apart : (id : IdBytes) → list_any (gives_id id) rows ≡ true → (from : ℕ) (rest : List DocRow) (names : List IdBytes)
      → AreNames m rows ws from rest names → list_any (gives_id id) rest ≡ false → list_any (text_eq id) names ≡ false
  given_apart id here from [] [] are h = refl
  given_apart id here from [] (y ∷ ys) are h = absurd are
  given_apart id here from (r ∷ rest) [] are h = absurd are
  given_apart id here from (r ∷ rest) (y ∷ ys) are h =
      neither (text_eq id y) (list_any (text_eq id) ys)
      (given_differs id here from r.id y are.0 are.1 (or_first (gives_id id r) (list_any (gives_id id) rest) h))
      (given_apart id here are.0 rest ys are.2 (or_second (gives_id id r) (list_any (gives_id id) rest) h))

  -- ---- a fresh id differs from the names after it
  fresh_differs : (k : ℕ) → k < 2 ^ 64 → list_any (gives_id (numbered ws k)) rows ≡ false → (from : ℕ) → k < from
      → (o : Option IdBytes) (y : IdBytes) (next : ℕ) → IsName m rows ws from o y next
      → ((id : IdBytes) → o ≡ Some id → list_any (gives_id id) rows ≡ true) → text_eq (numbered ws k) y ≡ false
  fresh_differs k small none from less (Some id) y next is within =
      not_so (text_eq (numbered ws k) y) (λ e.
      let one : numbered ws k ≡ id = same (numbered ws k) y e ∙ is.0 in
      true_false (list_any (gives_id id) rows) (within id refl) (ap (λ z. list_any (gives_id z) rows) (sym one) ∙ none))
  fresh_differs k small none from less None y next is within =
      not_so (text_eq (numbered ws k) y) (λ e.
      let j = is.0 in
      let one : k ≡ j = numbered_apart ws k j small (within_64 j is.2.small) (same (numbered ws k) y e ∙ is.1) in
      apart k j from less is.2.from_there one)
    where
      within_64 : (j : ℕ) → j < greatest_number → j < 2 ^ 64
      within_64 j h = omega arith

      apart : (k j from : ℕ) → k < from → from ≤ j → k ≡ j → ⊥
      apart k j from p q r = omega arith

  goes_on : (k from : ℕ) → k < from → (o : Option IdBytes) (y : IdBytes) (next : ℕ) → IsName m rows ws from o y next → k < next
  goes_on k from less (Some id) y next is = subst (λ n. k < n) (sym is.1) less
  goes_on k from less None y next is = further k from is.0 next less is.2.from_there is.3
    where
      further : (k from j next : ℕ) → k < from → from ≤ j → next ≡ j + 1 → k < next
      further k from j next p q r = omega arith

  fresh_apart : (k : ℕ) → k < 2 ^ 64 → list_any (gives_id (numbered ws k)) rows ≡ false → (from : ℕ) → k < from
      → (rest : List DocRow) (names : List IdBytes) → AreNames m rows ws from rest names → AreGiven rest
      → list_any (text_eq (numbered ws k)) names ≡ false
  fresh_apart k small none from less [] [] are within = refl
  fresh_apart k small none from less [] (y ∷ ys) are within = absurd are
  fresh_apart k small none from less (r ∷ rest) [] are within = absurd are
  fresh_apart k small none from less (r ∷ rest) (y ∷ ys) are within =
      neither (text_eq (numbered ws k) y) (list_any (text_eq (numbered ws k)) ys)
      (fresh_differs k small none from less r.id y are.0 are.1 (λ id is. within id (found id r rest is)))
      (fresh_apart k small none are.0 (goes_on k from less r.id y are.0 are.1) rest ys are.2
      (λ id h. within id (or_true (gives_id id r) (list_any (gives_id id) rest) h)))
    where
      or_true : (a b : Bool) → b ≡ true → a || b ≡ true
      or_true true b h = refl
      or_true false b h = h

  -- ---- no two are the same
  first_apart : (from : ℕ) (o : Option IdBytes) (x : IdBytes) (next : ℕ) → IsName m rows ws from o x next
      → (rest : List DocRow) (names : List IdBytes) → AreNames m rows ws next rest names
      → ((id : IdBytes) → o ≡ Some id → list_any (gives_id id) rows ≡ true)
      → AreGiven rest → is_given o rest ≡ false → list_any (text_eq x) names ≡ false
  first_apart from (Some id) x next is rest names are here within h =
      ap (λ z. list_any (text_eq z) names) is.0 ∙ given_apart id (here id refl) next rest names are h
  first_apart from None x next is rest names are here within h =
      ap (λ z. list_any (text_eq z) names) is.1
      ∙ fresh_apart is.0 (small_64 is.0 is.2.small) (free_is is.0 is.2.free).1 next (after is.0 next is.3) rest names are within
    where
      small_64 : (j : ℕ) → j < greatest_number → j < 2 ^ 64
      small_64 j h = omega arith

      after : (j next : ℕ) → next ≡ j + 1 → j < next
      after j next h = omega arith

  all_apart : (from : ℕ) (rest : List DocRow) (names : List IdBytes) → AreNames m rows ws from rest names → AreGiven rest
      → ids_repeat rest ≡ false → ids_differ names ≡ true
  all_apart from [] [] are within h = refl
  all_apart from [] (x ∷ xs) are within h = absurd are
  all_apart from (r ∷ rest) [] are within h = absurd are
  all_apart from (r ∷ rest) (x ∷ xs) are within h =
      let more : AreGiven rest = λ id g. within id (behind (gives_id id r) (list_any (gives_id id) rest) g) in
      and_both (not (list_any (text_eq x) xs)) (ids_differ xs)
      (ap not (first_apart from r.id x are.0 are.1 rest xs are.2 (λ id is. within id (found id r rest is)) more
      (or_first (is_given r.id rest) (ids_repeat rest) h)))
      (all_apart are.0 rest xs are.2 more (or_second (is_given r.id rest) (ids_repeat rest) h))
    where
      behind : (a b : Bool) → b ≡ true → a || b ≡ true
      behind true b h = refl
      behind false b h = h

pub names_new : NamesAreNew
names_new m rows ws names are unused apart =
    (as_many m rows ws 1 rows names are, none_live m rows ws 1 rows names are unused, all_apart m rows ws 1 rows names are (λ id h. h) apart)
