-- What holds of every metamodel.
use Rattle.std.specs.Prelude.{◌≡◌, ℕ, Bool, false, slice_get, length}
use Rattle.std.specs.List.{filter, range_with_len}
use Rattle.std.specs.Option.{option_map_or}
use Rattle.ecore_meta.specs.Above.{StandsAbove}
use Rattle.ecore_meta.specs.Bounds.{IsBounded}
use Rattle.ecore_meta.specs.Ends.{EndsMeet}
use Rattle.ecore_meta.specs.Meta.{Meta, features_of, is_a}
use Rattle.ecore_meta.specs.Named.{IsNamed}
use Rattle.ecore_meta.specs.Ranges.{IsInRange}
use Rattle.ecore_meta.specs.Sound.{Sound}

-- the class of that number is one that declares the feature, or below it
abbrev pub declared : Meta → ℕ → ℕ → Bool
declared meta c f = option_map_or (λ feature. is_a meta c feature.owner) (slice_get meta.features f) false

-- the features of a class are, by number, those that it or a class above it declares
abbrev pub ListsDeclared : Meta → Type 0
ListsDeclared meta = (c : ℕ) → features_of meta c ≡ filter (declared meta c) (range_with_len 0 (length meta.features))

-- Classes stand above each other without a cycle, and list what is declared at or above them. Links may go back by their
-- opposites, and opposites of both sorts name each other. Names differ where one is looked for. Kinds agree with bounds, and what
-- a feature names is there.
pub record IsMetamodel (meta : Meta) : Type 0 where
  pub above : StandsAbove meta
  pub sound : Sound meta
  pub lists : ListsDeclared meta
  pub ends : EndsMeet meta
  pub named : IsNamed meta
  pub bounded : IsBounded meta
  pub in_range : IsInRange meta
