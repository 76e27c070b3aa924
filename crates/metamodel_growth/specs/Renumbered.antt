-- A metamodel with other numbers.
use Rattle.std.specs.Prelude.{ℕ, length, map, slice_get}
use Rattle.std.specs.List.{filter_map}
use Rattle.std.specs.Option.{option_map}
use Rattle.ecore_meta.specs.Meta.{Meta, is_a}
use Rattle.ecore_meta.specs.Promised.{declared}
use Rattle.ecore_meta.specs.declared.meta.Class.{Class}
use Rattle.ecore_meta.specs.declared.meta.Feature.{Feature}
use Rattle.ecore_meta.specs.declared.meta.Kind.{Kind}
use Rattle.ecore_meta.specs.declared.meta.Kind.TheVariants.{Attr, AttrMany, Bounded, Free, Contains, Container, Skip}
use Rattle.ecore_meta.specs.declared.meta.Scalar.{Scalar}
use Rattle.ecore_meta.specs.declared.meta.Scalar.TheVariants.{Literal}
use Rattle.metamodel_growth.specs.Order.{IsIdentity, IsOrder, place_in, places}
use Rattle.metamodel_growth.specs.declared.order.Orders.{Orders}

-- each class, each feature and each enum of the metamodel has one place in its order
pub record AreOrders (meta : Meta) (to : Orders) : Type 0 where
  pub classes : IsOrder (length meta.classes) to.classes
  pub features : IsOrder (length meta.features) to.features
  pub enums : IsOrder (length meta.enums) to.enums

-- each has the place of its number
pub record AreIdentities (to : Orders) : Type 0 where
  pub classes : IsIdentity to.classes
  pub features : IsIdentity to.features
  pub enums : IsIdentity to.enums

-- a type of values, with its enum's new number
abbrev pub scalar_moved : Orders → Scalar → Scalar
scalar_moved to (Literal e) = Literal (place_in to.enums e)
scalar_moved to s = s

-- a kind with the new numbers; literals keep theirs
abbrev pub kind_moved : Orders → Kind → Kind
kind_moved to (Attr scalar default) = Attr (scalar_moved to scalar) default
kind_moved to (AttrMany scalar unique) = AttrMany (scalar_moved to scalar) unique
kind_moved to (Bounded target opposite) = Bounded (place_in to.classes target) (option_map (place_in to.features) opposite)
kind_moved to (Free target opposite) = Free (place_in to.classes target) (option_map (place_in to.features) opposite)
kind_moved to (Contains target opposite) = Contains (place_in to.classes target) (option_map (place_in to.features) opposite)
kind_moved to (Container target opposite) = Container (place_in to.classes target) (place_in to.features opposite)
kind_moved to Skip = Skip

-- a feature with the new numbers of its owner and of what its kind names
abbrev pub feature_moved : Orders → Feature → Feature
feature_moved to x = record { owner = place_in to.classes x.owner; name = x.name; lower = x.lower; upper = x.upper; kind = kind_moved to x.kind }

-- a class with what it or a class above it declares, by the new numbers
abbrev pub class_moved : Meta → Orders → ℕ → Class → Class
class_moved meta to c x = record { name = x.name; is_abstract = x.is_abstract; features = places (declared meta c) to.features }

-- the metamodel with the new numbers
abbrev pub renumbered : Meta → Orders → Meta
renumbered meta to = record {
  uri = meta.uri;
  classes = filter_map (λ c. option_map (class_moved meta to c) (slice_get meta.classes c)) to.classes;
  above = map (λ c. places (is_a meta c) to.classes) to.classes;
  features = filter_map (λ f. option_map (feature_moved to) (slice_get meta.features f)) to.features;
  enums = filter_map (λ e. slice_get meta.enums e) to.enums;
}
