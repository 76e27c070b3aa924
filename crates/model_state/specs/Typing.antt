-- What a metamodel says of classes, features and values.
use Rattle.std.specs.Prelude.{ℕ, Bool, true, false, Option, None, Some, slice_get, nat_eq, not, cond}
use Rattle.std.specs.Ordering.{int_eq}
use Rattle.std.specs.Option.{option_map_or}
use Rattle.finite_maps.specs.Equal.{option_eq, text_eq}
pub use Rattle.ecore_meta.specs.Meta.{has_feature, is_a}
pub use Rattle.ecore_meta.specs.Typing.{in_width, literal_count, fits, kind_of, upper_of, opposite_of, plain_to, links}
pub use Rattle.ecore_meta.specs.Ends.{is_containment}
use Rattle.ecore_meta.specs.Meta.{Meta}
use Rattle.ecore_meta.specs.declared.meta.Kind.{Kind}
use Rattle.ecore_meta.specs.declared.meta.Kind.TheVariants.{Attr, AttrMany, Bounded, Free, Contains, Container, Skip}
use Rattle.ecore_meta.specs.declared.meta.Value.{Value}
use Rattle.ecore_meta.specs.declared.meta.Value.TheVariants.{Text, Flag, Whole, Literal}

-- equal flags
abbrev pub flag_eq : Bool → Bool → Bool
flag_eq true b = b
flag_eq false b = not b

-- equal values
abbrev pub value_eq : Value → Value → Bool
value_eq (Text a) (Text b) = text_eq a b
value_eq (Flag a) (Flag b) = flag_eq a b
value_eq (Whole a) (Whole b) = int_eq a b
value_eq (Literal a) (Literal b) = nat_eq a b
value_eq a b = false

-- a containment of elements of a class
abbrev pub contains_to : Meta → Kind → ℕ → Bool
contains_to meta (Attr scalar default) d = false
contains_to meta (AttrMany scalar unique) d = false
contains_to meta (Bounded target opposite) d = false
contains_to meta (Free target opposite) d = false
contains_to meta (Contains target opposite) d = is_a meta d target
contains_to meta (Container target opposite) d = false
contains_to meta Skip d = false

-- a class that exists and is not abstract
abbrev pub is_concrete : Meta → ℕ → Bool
is_concrete meta c = option_map_or (λ class. not class.is_abstract) (slice_get meta.classes c) false

-- the value is the default of the single attribute
abbrev pub is_default : Kind → Value → Bool
is_default (Attr scalar default) v = option_eq value_eq default (Some v)
is_default (AttrMany scalar unique) v = false
is_default (Bounded target opposite) v = false
is_default (Free target opposite) v = false
is_default (Contains target opposite) v = false
is_default (Container target opposite) v = false
is_default Skip v = false

-- a value of a single attribute
abbrev pub attr_fits : Meta → Kind → Value → Bool
attr_fits meta (Attr scalar default) v = fits meta scalar v
attr_fits meta (AttrMany scalar unique) v = false
attr_fits meta (Bounded target opposite) v = false
attr_fits meta (Free target opposite) v = false
attr_fits meta (Contains target opposite) v = false
attr_fits meta (Container target opposite) v = false
attr_fits meta Skip v = false

-- a single attribute
abbrev pub is_attr : Kind → Bool
is_attr (Attr scalar default) = true
is_attr (AttrMany scalar unique) = false
is_attr (Bounded target opposite) = false
is_attr (Free target opposite) = false
is_attr (Contains target opposite) = false
is_attr (Container target opposite) = false
is_attr Skip = false

-- a plain reference with a finite upper bound
abbrev pub bounded_kind : Kind → Bool
bounded_kind (Attr scalar default) = false
bounded_kind (AttrMany scalar unique) = false
bounded_kind (Bounded target opposite) = true
bounded_kind (Free target opposite) = false
bounded_kind (Contains target opposite) = false
bounded_kind (Container target opposite) = false
bounded_kind Skip = false

-- the bound of a feature's rows
abbrev pub row_upper : Meta → ℕ → Option ℕ
row_upper meta f = cond (bounded_kind (kind_of meta f)) (upper_of meta f) None

-- the bound of a feature's children
abbrev pub child_upper : Meta → ℕ → Option ℕ
child_upper meta f = cond (is_containment (kind_of meta f)) (upper_of meta f) None

-- a many-valued attribute
abbrev pub is_many : Kind → Bool
is_many (Attr scalar default) = false
is_many (AttrMany scalar unique) = true
is_many (Bounded target opposite) = false
is_many (Free target opposite) = false
is_many (Contains target opposite) = false
is_many (Container target opposite) = false
is_many Skip = false

-- one that holds each value once
abbrev pub is_unique : Kind → Bool
is_unique (Attr scalar default) = false
is_unique (AttrMany scalar unique) = unique
is_unique (Bounded target opposite) = false
is_unique (Free target opposite) = false
is_unique (Contains target opposite) = false
is_unique (Container target opposite) = false
is_unique Skip = false

-- a value of a many-valued attribute
abbrev pub many_fits : Meta → Kind → Value → Bool
many_fits meta (Attr scalar default) v = false
many_fits meta (AttrMany scalar unique) v = fits meta scalar v
many_fits meta (Bounded target opposite) v = false
many_fits meta (Free target opposite) v = false
many_fits meta (Contains target opposite) v = false
many_fits meta (Container target opposite) v = false
many_fits meta Skip v = false

-- a plain reference
abbrev pub is_plain : Kind → Bool
is_plain (Attr scalar default) = false
is_plain (AttrMany scalar unique) = false
is_plain (Bounded target opposite) = true
is_plain (Free target opposite) = true
is_plain (Contains target opposite) = false
is_plain (Container target opposite) = false
is_plain Skip = false
