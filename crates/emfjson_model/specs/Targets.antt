-- The targets of a list, as a set.
use Rattle.std.specs.Prelude.{◌≡◌, ℕ, List, nat_eq}
use Rattle.std.specs.List.{list_any}
use Rattle.std.specs.Ordering.{nat_cmp}
use Rattle.std.specs.BTreeSet.{BTreeSet, contains}

-- the set has the numbers of the list, and no others
abbrev pub HasThese : BTreeSet ℕ → List ℕ → Type 0
HasThese set list = (n : ℕ) → contains nat_cmp set n ≡ list_any (nat_eq n) list
