-- The ids of a document's elements are a function of the model and the document.
use Rattle.std.proofs.lemmas.Bool.Decides.{nat_tests}
use Rattle.std.proofs.Common.{◌≡◌, ℕ, zero, suc, ◌+◌, ◌<◌, ◌≤◌, nat_eq, Bool, true, false, List, [], ◌∷◌, ◌⊎◌, ⊎_elim, inl, inr, refl, sym, ap, ◌∙◌, arith}
use Rattle.std.specs.Prelude.{Option, None, Some, Result, Ok, Err, if◌then◌else◌}
use Rattle.ecore_meta.specs.Meta.{Meta}
use Rattle.model_state.specs.declared.operation.Operation.{Operation}
use Rattle.model_state.specs.Keys.{IdBytes}
use Rattle.model_state.specs.State.{State}
use Rattle.edit_steps.specs.declared.fault.EditFault.{EditFault}
use Rattle.edits.specs.FreshIds.{numbered}
use Rattle.model_documents.specs.declared.doc.DocRow.{DocRow}
use Rattle.import_laws.specs.Import.{Imports, import_of, of_steps, recorded_import, steps_made}
use Rattle.import_laws.specs.Names.{AreNames, IsName, IsNext, any_in_use, first_untaken, is_taken, name_and_rest, names_from, names_of, next_number}
use Rattle.import_laws.specs.Names.{greatest_number}
use Rattle.edits.specs.Answers.{Answers}

if_true : (b : Bool) (x y : ℕ) → b ≡ true → (if b then x else y) ≡ x
if_true true x y h = refl
if_true false x y h = absurd cc

if_false : (b : Bool) (x y : ℕ) → b ≡ false → (if b then x else y) ≡ y
if_false true x y h = absurd cc
if_false false x y h = refl

-- the first number that is not taken is found, where enough are tried
first_is : (m : State) (rows : List DocRow) (ws n from k : ℕ) → IsNext m rows ws from k → k < from + n → first_untaken m rows ws n from ≡ k
first_is m rows ws zero from k next low = absurd (none from k next.from_there low)
  where
    none : (from k : ℕ) → from ≤ k → k < from + zero → ⊥
    none from k le lt = omega arith
first_is m rows ws (suc n) from k next low =
    ⊎_elim here (λ lt. later lt (first_is m rows ws n (from + 1) k (behind lt) (fewer from n k low))) (split from k next.from_there)
  where
    split : (from k : ℕ) → from ≤ k → (from ≡ k) ⊎ (from < k)
    split from k le = by (nat_eq from k) refl
      where
        by : (b : Bool) → nat_eq from k ≡ b → (from ≡ k) ⊎ (from < k)
        by true is = inl (same from k is)
          where
            same : (from k : ℕ) → nat_eq from k ≡ true → from ≡ k
            same from k is = grind (arith, nat_tests)
        by false is = inr (less from k le is)
          where
            less : (from k : ℕ) → from ≤ k → nat_eq from k ≡ false → from < k
            less from k le is = grind (arith, nat_tests)

    here : from ≡ k → first_untaken m rows ws (suc n) from ≡ k
    here same = if_false (is_taken m rows (numbered ws from)) _ _ (ap (λ j. is_taken m rows (numbered ws j)) same ∙ next.free) ∙ same

    after : (from k : ℕ) → from < k → from + 1 ≤ k
    after from k lt = omega arith

    before : (from j : ℕ) → from + 1 ≤ j → from ≤ j
    before from j le = omega arith

    fewer : (from n k : ℕ) → k < from + suc n → k < from + 1 + n
    fewer from n k lt = omega arith

    itself : (from : ℕ) → from ≤ from
    itself from = omega arith

    -- the number is the first from the next one on
    behind : from < k → IsNext m rows ws (from + 1) k
    behind lt = record { from_there = after from k lt; free = next.free; before = λ j le below. next.before j (before from j le) below; small = next.small }

    later : from < k → first_untaken m rows ws n (from + 1) ≡ k → first_untaken m rows ws (suc n) from ≡ k
    later lt rest = if_true (is_taken m rows (numbered ws from)) _ _ (next.before from (itself from) lt) ∙ rest

next_is : (m : State) (rows : List DocRow) (ws from k : ℕ) → IsNext m rows ws from k → next_number m rows ws from ≡ k
unfolding next_number
next_is m rows ws from k next = first_is m rows ws greatest_number from k next (low from k next.small)
  where
    low : (from k : ℕ) → k < greatest_number → k < from + greatest_number
    low from k small = omega arith

-- the ids that a document's elements get are these
pub names_are : (m : State) (rows : List DocRow) (ws k : ℕ) (rest : List DocRow) (names : List IdBytes) → AreNames m rows ws k rest names
    → names ≡ names_from m rows ws k rest
names_are m rows ws k [] [] are = refl
names_are m rows ws k [] (x ∷ xs) are = absurd are
names_are m rows ws k (r ∷ rest) [] are = absurd are
names_are m rows ws k (r ∷ rest) (x ∷ xs) are = by r.id are.1 (names_are m rows ws are.0 rest xs are.2)
  where
    by : (id : Option IdBytes) → IsName m rows ws k id x are.0 → xs ≡ names_from m rows ws are.0 rest
        → x ∷ xs ≡ name_and_rest m rows ws k id (λ next. names_from m rows ws next rest)
    by (Some id) is others = (λ i. is.0 i ∷ xs) ∙ ap (λ l. id ∷ l) (others ∙ ap (λ n. names_from m rows ws n rest) is.1)
    by None is others =
        let number = next_is m rows ws k is.0 is.2 in
        (λ i. is.1 i ∷ xs)
        ∙ ap (λ l. numbered ws is.0 ∷ l) (others ∙ ap (λ n. names_from m rows ws n rest) is.3)
        ∙ ap (λ n. numbered ws n ∷ names_from m rows ws (n + 1) rest) (sym number)

with_names : (meta : Meta) (m : State) (ws : ℕ) (rows : List DocRow) (names : List IdBytes) → AreNames m rows ws 1 rows names
    → recorded_import meta m ws rows ≡ import_of meta m names rows
with_names meta m ws rows names are = ap (λ l. import_of meta m l rows) (sym (names_are m rows ws 1 rows names are))

in_use : (meta : Meta) (m : State) (ws : ℕ) (rows : List DocRow) → any_in_use m rows ≡ true → recorded_import meta m ws rows ≡ Err EditFault.IdInUse
in_use meta m ws rows is = by (any_in_use m rows) is
  where
    by : (b : Bool) → b ≡ true
        → ◌≡◌ {A = Result (Option Operation) EditFault}
        (if b then Err EditFault.IdInUse else of_steps rows (steps_made meta m (names_of m ws rows) rows)) (Err EditFault.IdInUse)
    by true h = refl
    by false h = absurd cc

-- what an import answers is what is recorded
pub is_recorded : (meta : Meta) (m : State) (ws : ℕ) (rows : List DocRow) (r : Result (Option Operation) EditFault) → Imports meta m ws rows r
    → Answers r (recorded_import meta m ws rows)
is_recorded meta m ws rows (Ok operation) imports = with_names meta m ws rows imports.0 imports.1 ∙ imports.2
is_recorded meta m ws rows (Err fault) imports = by imports
  where
    by : Imports meta m ws rows (Err fault) → Answers (Err fault) (recorded_import meta m ws rows)
    by (inl memory) = inl memory
    by (inr (inl live)) = inr (in_use meta m ws rows live.0 ∙ ap (λ f. Err f) (sym live.1))
    by (inr (inr given)) = inr (with_names meta m ws rows given.0 given.1 ∙ given.2)
