-- The metamodel that its parts are.
use Rattle.std.specs.Prelude.{map}
use Rattle.ecore_meta.specs.Meta.{Meta}
use Rattle.ecore_meta.specs.declared.metamodel.Parts.{Parts}

-- the metamodel of these parts
abbrev pub meta_in : Parts → Meta
meta_in parts = record {
  uri = parts.uri;
  classes = parts.classes.items;
  above = map (λ s. s.keys) parts.above.items;
  features =
      parts.features.items;
  enums = parts.enums;
}
