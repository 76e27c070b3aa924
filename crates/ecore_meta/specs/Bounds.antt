-- What holds of the bounds of every feature.
use Rattle.std.specs.Prelude.{◌≡◌, ◌≤◌, ℕ, Bool, true, Option, None, Some, slice_get, not, is_some}
use Rattle.ecore_meta.specs.Meta.{Meta}
use Rattle.ecore_meta.specs.Typing.{is_one}
use Rattle.ecore_meta.specs.declared.meta.Feature.{Feature}
use Rattle.ecore_meta.specs.declared.meta.Kind.{Kind}
use Rattle.ecore_meta.specs.declared.meta.Kind.TheVariants.{Attr, AttrMany, Bounded, Free, Contains, Container, Skip}

-- the kind goes with the upper bound: one value where it is single, else not one; references without a bound exactly where they are free
abbrev pub agrees : Kind → Option ℕ → Bool
agrees (Attr s default) upper = is_one upper
agrees (AttrMany s unique) upper = not (is_one upper)
agrees (Bounded target opposite) upper = is_some upper
agrees (Free target opposite) upper = not (is_some upper)
agrees (Contains target opposite) upper = true
agrees (Container target opposite) upper = is_one upper
agrees Skip upper = is_one upper

-- an upper bound is at least one, and at least the lower
abbrev pub IsAbove : ℕ → Option ℕ → Type 0
IsAbove lower None = Unit {0}
IsAbove lower (Some upper) = (1 ≤ upper) × (lower ≤ upper)

-- the kind of each feature goes with its upper bound, and its bounds are in order
pub record IsBounded (meta : Meta) : Type 0 where
  pub agree : (f : ℕ) (x : Feature) → slice_get meta.features f ≡ Some x → agrees x.kind x.upper ≡ true
  pub order : (f : ℕ) (x : Feature) → slice_get meta.features f ≡ Some x → IsAbove x.lower x.upper
