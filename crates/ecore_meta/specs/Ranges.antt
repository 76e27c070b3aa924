-- What holds of the numbers and the values that features name.
use Rattle.std.specs.Prelude.{◌≡◌, ◌<◌, ℕ, true, Option, None, Some, slice_get, length}
use Rattle.ecore_meta.specs.Ends.{target_in}
use Rattle.ecore_meta.specs.Meta.{Meta}
use Rattle.ecore_meta.specs.Typing.{fits, kind_of, literal_count}
use Rattle.ecore_meta.specs.declared.meta.Feature.{Feature}
use Rattle.ecore_meta.specs.declared.meta.Kind.{Kind}
use Rattle.ecore_meta.specs.declared.meta.Kind.TheVariants.{Attr, AttrMany, Bounded, Free, Contains, Container, Skip}
use Rattle.ecore_meta.specs.declared.meta.Scalar.{Scalar}
use Rattle.ecore_meta.specs.declared.meta.Scalar.TheVariants.{Literal}
use Rattle.ecore_meta.specs.declared.meta.Value.{Value}

-- the type of an attribute's values, single or many
abbrev pub scalar_in : Kind → Option Scalar
scalar_in (Attr s default) = Some s
scalar_in (AttrMany s unique) = Some s
scalar_in (Bounded target opposite) = None
scalar_in (Free target opposite) = None
scalar_in (Contains target opposite) = None
scalar_in (Container target opposite) = None
scalar_in Skip = None

-- owners and targets are classes of the metamodel, an attribute's enum is one that has a literal, and a default is of its type
pub record IsInRange (meta : Meta) : Type 0 where
  pub owners : (f : ℕ) (x : Feature) → slice_get meta.features f ≡ Some x → x.owner < length meta.classes
  pub targets : (f c : ℕ) → target_in (kind_of meta f) ≡ Some c → c < length meta.classes
  pub enums : (f e : ℕ) → scalar_in (kind_of meta f) ≡ Some (Literal e) → 0 < literal_count meta e
  pub defaults : (f : ℕ) (s : Scalar) (v : Value) → kind_of meta f ≡ Attr s (Some v) → fits meta s v ≡ true
