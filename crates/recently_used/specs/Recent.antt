-- Numbers in the order in which they were used.
use Rattle.std.specs.Prelude.{◌≡◌, ℕ, ◌≤◌, Bool, true, false, List, [], ◌∷◌, ◌++◌, length, get_or, not, nat_eq, count_by}
use Rattle.std.specs.List.{Contains, filter}

-- how many numbers stay at most
abbrev pub most_recent : ℕ
most_recent = 64

-- the numbers once this one is used: it stands last, and nowhere else
abbrev pub used : ℕ → List ℕ → List ℕ
used number numbers = filter (λ n. not (nat_eq n number)) numbers ++ number ∷ []

-- no more flags of a list are set than there are numbers, where the place of each that is set is among the numbers
abbrev pub NoMorePlaces : Type 0
NoMorePlaces = (numbers : List ℕ) (flags : List Bool) → ((at : ℕ) → get_or flags at false ≡ true → Contains numbers at)
    → count_by (λ flag. flag) flags ≤ length numbers
