-- What steps must be to be shown: of the metamodel, by their numbers and values.
use Rattle.std.specs.Prelude.{◌≡◌, ℕ, ◌<◌, Bool, true, false, List, Option, None, Some, All, length}
use Rattle.ecore_meta.specs.Meta.{Meta}
use Rattle.ecore_meta.specs.Typing.{fits, kind_of}
use Rattle.ecore_meta.specs.declared.meta.Kind.{Kind}
use Rattle.ecore_meta.specs.declared.meta.Kind.TheVariants.{Attr, AttrMany, Bounded, Free, Contains, Container, Skip}
use Rattle.ecore_meta.specs.declared.meta.Value.{Value}
use Rattle.model_state.specs.Packages.{steps_of}
use Rattle.model_state.specs.declared.operation.Operation.{Operation}
use Rattle.model_state.specs.declared.step.Place.{Place}
use Rattle.model_state.specs.declared.step.Place.TheVariants.{Root, Inside}
use Rattle.model_state.specs.declared.step.Step.{Step}
use Rattle.model_state.specs.declared.step.Step.TheVariants.{Put, Ins, Del, Shift, Link, Unlink, RerankRow, New, Gone, Move, RerankPlace}

-- the number of a class of the metamodel
abbrev pub IsClass : Meta → ℕ → Type 0
IsClass meta c = c < length meta.classes

-- the number of a feature of the metamodel
abbrev pub IsFeature : Meta → ℕ → Type 0
IsFeature meta f = f < length meta.features

-- a value of a feature of the kind
abbrev pub is_value : Meta → Kind → Value → Bool
is_value meta (Attr scalar default) v = fits meta scalar v
is_value meta (AttrMany scalar unique) v = fits meta scalar v
is_value meta (Bounded target opposite) v = false
is_value meta (Free target opposite) v = false
is_value meta (Contains target opposite) v = false
is_value meta (Container target opposite) v = false
is_value meta Skip v = false

-- a value of the feature of that number
abbrev pub IsValue : Meta → ℕ → Value → Type 0
IsValue meta f v = is_value meta (kind_of meta f) v ≡ true

-- such a value, or none
abbrev pub IsValueIfAny : Meta → ℕ → Option Value → Type 0
IsValueIfAny meta f None = Unit {0}
IsValueIfAny meta f (Some v) = IsValue meta f v

-- the root, or inside a feature of the metamodel
abbrev pub IsPlace : Meta → Place → Type 0
IsPlace meta Root = Unit {0}
IsPlace meta (Inside parent f) = IsFeature meta f

-- its classes and features are the metamodel's, and its values are of their features
abbrev pub IsTyped : Meta → Step → Type 0
IsTyped meta (Put e f old new) = IsFeature meta f × IsValueIfAny meta f old × IsValueIfAny meta f new
IsTyped meta (Ins e f at v) = IsFeature meta f × IsValue meta f v
IsTyped meta (Del e f at v) = IsFeature meta f × IsValue meta f v
IsTyped meta (Shift e f from to) = IsFeature meta f
IsTyped meta (Link a f ra b rb) = IsFeature meta f
IsTyped meta (Unlink a f ra b rb) = IsFeature meta f
IsTyped meta (RerankRow a f b old new) = IsFeature meta f
IsTyped meta (New e class place rank) = IsClass meta class × IsPlace meta place
IsTyped meta (Gone e class place rank) = IsClass meta class × IsPlace meta place
IsTyped meta (Move e from from_rank to to_rank above_from above_to) = IsPlace meta from × IsPlace meta to
IsTyped meta (RerankPlace e old new) = Unit {0}

-- so is each of the steps
abbrev pub AreTyped : Meta → List Step → Type 0
AreTyped meta steps = All (IsTyped meta) steps

-- so is each step of each operation
abbrev pub IsTypedPackage : Meta → List Operation → Type 0
IsTypedPackage meta operations = All (λ o. AreTyped meta (steps_of o)) operations
