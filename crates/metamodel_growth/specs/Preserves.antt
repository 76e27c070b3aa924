-- One metamodel whose parts another has too, by number.
use Rattle.std.specs.Prelude.{◌≡◌, ℕ, true, List, ◌++◌, Some, slice_get}
use Rattle.ecore_meta.specs.Meta.{Meta, is_a}
use Rattle.ecore_meta.specs.declared.meta.Class.{Class}
use Rattle.ecore_meta.specs.declared.meta.Enum.{Enum}
use Rattle.ecore_meta.specs.declared.meta.EnumLiteral.{EnumLiteral}
use Rattle.ecore_meta.specs.declared.meta.Feature.{Feature}

-- What the old one has by number the new one has too: each class with its name and flag, below what it was below; each
-- feature with all its parts; each enum with its name, and more literals behind its own at most.
pub record Preserves (old new : Meta) : Type 0 where
  pub uri : new.uri ≡ old.uri
  pub classes : (c : ℕ) (k : Class) → slice_get old.classes c ≡ Some k
      → (l : Class) × (slice_get new.classes c ≡ Some l) × (l.name ≡ k.name) × (l.is_abstract ≡ k.is_abstract)
  pub above : (c d : ℕ) → is_a old c d ≡ true → is_a new c d ≡ true
  pub features : (f : ℕ) (x : Feature) → slice_get old.features f ≡ Some x → slice_get new.features f ≡ Some x
  pub enums : (e : ℕ) (k : Enum) → slice_get old.enums e ≡ Some k
      → (l : Enum) × (more : List EnumLiteral) × (slice_get new.enums e ≡ Some l) × (l.name ≡ k.name) × (l.literals ≡ k.literals ++ more)
