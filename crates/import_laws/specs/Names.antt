-- The ids that the elements of a document get.
use Rattle.std.specs.Prelude.{◌≡◌, ℕ, zero, suc, ◌+◌, ◌<◌, ◌≤◌, Bool, true, false, ◌||◌, List, [], ◌∷◌, Option, None, Some, slice_get, unwrap_or, if◌then◌else◌}
use Rattle.std.specs.List.{list_any}
use Rattle.model_state.specs.Keys.{IdBytes}
use Rattle.model_state.specs.State.{State, is_live}
use Rattle.edits.specs.FreshIds.{numbered}
use Rattle.model_documents.specs.declared.doc.DocRow.{DocRow}
use Rattle.model_documents.specs.Laws.{gives_id}

-- the greatest number of 64 bits, which no id has
abbrev pub greatest_number : ℕ
greatest_number = 18446744073709551615

-- the id is live, or the document gives it
abbrev pub is_taken : State → List DocRow → IdBytes → Bool
is_taken m rows e = is_live m e || list_any (gives_id e) rows

-- the number is the first from the given one on whose id is not taken
pub record IsNext (m : State) (rows : List DocRow) (ws from k : ℕ) : Type 0 where
  pub from_there : from ≤ k
  pub free : is_taken m rows (numbered ws k) ≡ false
  pub before : (j : ℕ) → from ≤ j → j < k → is_taken m rows (numbered ws j) ≡ true
  pub small : k < greatest_number

-- The id of a row is the one that the document gives, or else the fresh one of the next number. The numbers go on from next.
abbrev pub IsName : State → List DocRow → ℕ → ℕ → Option IdBytes → IdBytes → ℕ → Type 0
IsName m rows ws from (Some id) x next = (x ≡ id) × (next ≡ from)
IsName m rows ws from None x next = (k : ℕ) × (x ≡ numbered ws k) × IsNext m rows ws from k × (next ≡ k + 1)

-- the ids of some rows in order, where fresh numbers go on from the given one
abbrev pub AreNames : State → List DocRow → ℕ → ℕ → List DocRow → List IdBytes → Type 0
AreNames m rows ws from [] [] = Unit {0}
AreNames m rows ws from [] (x ∷ xs) = ⊥
AreNames m rows ws from (r ∷ rest) [] = ⊥
AreNames m rows ws from (r ∷ rest) (x ∷ xs) = (next : ℕ) × IsName m rows ws from r.id x next × AreNames m rows ws next rest xs

-- the id of the n-th element
abbrev pub name_at : List IdBytes → ℕ → IdBytes
name_at names n = unwrap_or (slice_get names n) []

-- the id that a row gives is live
abbrev pub in_use : State → Option IdBytes → Bool
in_use m None = false
in_use m (Some id) = is_live m id

-- one of the rows gives an id that is live
abbrev pub any_in_use : State → List DocRow → Bool
any_in_use m rows = list_any (λ (r : DocRow). in_use m r.id) rows

-- ---- the same ids as a function
-- the first of n numbers from k on whose id is not taken, else the one after them
abbrev pub first_untaken : State → List DocRow → ℕ → ℕ → ℕ → ℕ
first_untaken m rows ws zero k = k
first_untaken m rows ws (suc n) k = if is_taken m rows (numbered ws k) then first_untaken m rows ws n (k + 1) else k

-- the first number from k on whose id is not taken: memory holds fewer elements than there are numbers that are tried
unfoldable pub next_number : State → List DocRow → ℕ → ℕ → ℕ
next_number m rows ws k = first_untaken m rows ws greatest_number k

-- the id that is given, or else the fresh one of the next number, with the ids of those after it
abbrev pub name_and_rest : State → List DocRow → ℕ → ℕ → Option IdBytes → (ℕ → List IdBytes) → List IdBytes
name_and_rest m rows ws k (Some id) rest = id ∷ rest k
name_and_rest m rows ws k None rest = numbered ws (next_number m rows ws k) ∷ rest (next_number m rows ws k + 1)

-- the ids of some rows in order, where fresh numbers go on from k
abbrev pub names_from : State → List DocRow → ℕ → ℕ → List DocRow → List IdBytes
names_from m rows ws k [] = []
names_from m rows ws k (r ∷ rest) = name_and_rest m rows ws k r.id (λ next. names_from m rows ws next rest)

-- the ids of all rows
abbrev pub names_of : State → ℕ → List DocRow → List IdBytes
names_of m ws rows = names_from m rows ws 1 rows
