-- Opposites of both sorts: of links, and of containments and containers.
use Rattle.std.specs.Prelude.{◌≡◌, ℕ, Bool, true, false, Option, None, Some, slice_get, nat_eq}
use Rattle.std.specs.Option.{option_map}
use Rattle.ecore_meta.specs.Meta.{Meta}
use Rattle.ecore_meta.specs.Typing.{kind_of}
use Rattle.ecore_meta.specs.declared.meta.Kind.{Kind}
use Rattle.ecore_meta.specs.declared.meta.Kind.TheVariants.{Attr, AttrMany, Bounded, Free, Contains, Container, Skip}

-- the opposite of a reference of any sort
abbrev pub end_in : Kind → Option ℕ
end_in (Attr scalar default) = None
end_in (AttrMany scalar unique) = None
end_in (Bounded target opposite) = opposite
end_in (Free target opposite) = opposite
end_in (Contains target opposite) = opposite
end_in (Container target opposite) = Some opposite
end_in Skip = None

-- the class whose elements a reference of any sort names
abbrev pub target_in : Kind → Option ℕ
target_in (Attr scalar default) = None
target_in (AttrMany scalar unique) = None
target_in (Bounded target opposite) = Some target
target_in (Free target opposite) = Some target
target_in (Contains target opposite) = Some target
target_in (Container target opposite) = Some target
target_in Skip = None

-- a containment
abbrev pub is_containment : Kind → Bool
is_containment (Attr scalar default) = false
is_containment (AttrMany scalar unique) = false
is_containment (Bounded target opposite) = false
is_containment (Free target opposite) = false
is_containment (Contains target opposite) = true
is_containment (Container target opposite) = false
is_containment Skip = false

-- a container
abbrev pub is_container : Kind → Bool
is_container (Attr scalar default) = false
is_container (AttrMany scalar unique) = false
is_container (Bounded target opposite) = false
is_container (Free target opposite) = false
is_container (Contains target opposite) = false
is_container (Container target opposite) = true
is_container Skip = false

-- the class that declares the feature of that number
abbrev pub owner_of : Meta → ℕ → Option ℕ
owner_of meta f = option_map (λ feature. feature.owner) (slice_get meta.features f)

-- Opposites name each other, and none is its own. Each goes to the class that declares the other. A containment's is a container,
-- and a container's a containment.
pub record EndsMeet (meta : Meta) : Type 0 where
  pub other : (f g : ℕ) → end_in (kind_of meta f) ≡ Some g → nat_eq f g ≡ false
  pub both : (f g : ℕ) → end_in (kind_of meta f) ≡ Some g → end_in (kind_of meta g) ≡ Some f
  pub goes : (f g : ℕ) → end_in (kind_of meta f) ≡ Some g → target_in (kind_of meta f) ≡ owner_of meta g
  pub around : (f g : ℕ) → end_in (kind_of meta f) ≡ Some g → is_containment (kind_of meta f) ≡ is_container (kind_of meta g)
