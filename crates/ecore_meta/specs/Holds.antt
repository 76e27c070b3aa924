-- What the type of metamodels holds.
use Rattle.std.specs.Prelude.{◌<◌, length, ◌^◌}
use Rattle.ecore_meta.specs.Meta.{Meta}
use Rattle.ecore_meta.specs.Promised.{IsMetamodel}

-- what holds of a metamodel, and that its classes and features can be numbered
pub record Holds (meta : Meta) : Type 0 where
  pub few_classes : length meta.classes < 2 ^ 32
  pub few_features : length meta.features < 2 ^ 32
  pub is : IsMetamodel meta
