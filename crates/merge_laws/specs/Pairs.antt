-- The pairs of operations of two packages that interfere, whether there is such a pair, and the first of some versions that has one.
use Rattle.std.specs.Prelude.{ℕ, suc, List, [], ◌∷◌, ◌++◌, Bool, Option, cond}
use Rattle.std.specs.List.{find, list_any}
use Rattle.ecore_meta.specs.Meta.{Meta}
use Rattle.model_state.specs.declared.operation.Operation.{Operation}
use Rattle.history_tree.specs.declared.version.Version.{Version}
use Rattle.history_tree.specs.States.{package_of_version}
use Rattle.footprint.specs.Interference.{interferes}

-- the positions from k on of the operations that interfere with the one at i
abbrev pub pairs_with : Meta → ℕ → Operation → ℕ → List Operation → List (ℕ × ℕ)
pairs_with meta i o k [] = []
pairs_with meta i o k (p ∷ ps) = cond (interferes meta o p) ((i, k) ∷ pairs_with meta i o (suc k) ps) (pairs_with meta i o (suc k) ps)

-- the interfering pairs of one of the first list, whose positions count from i, and one of the second
abbrev pub pairs_from : Meta → ℕ → List Operation → List Operation → List (ℕ × ℕ)
pairs_from meta i [] mine = []
pairs_from meta i (o ∷ os) mine = pairs_with meta i o 0 mine ++ pairs_from meta (suc i) os mine

-- the interfering pairs of one of theirs and one of mine, in order
abbrev pub pairs : Meta → List Operation → List Operation → List (ℕ × ℕ)
pairs meta theirs mine = pairs_from meta 0 theirs mine

-- does an operation of the one list interfere with one of the other
abbrev pub have_pair : Meta → List Operation → List Operation → Bool
have_pair meta os ps = list_any (λ o. list_any (interferes meta o) ps) os

-- the first of some versions with an operation that interferes with one of the list
abbrev pub first_interfering : Meta → List Version → List Operation → List ℕ → Option ℕ
first_interfering meta versions operations us = find (λ u. have_pair meta operations (package_of_version versions u)) us
