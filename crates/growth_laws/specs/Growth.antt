-- A metamodel and one that it evolves to.
use Rattle.ecore_meta.specs.Meta.{Meta}
use Rattle.ecore_meta.specs.Promised.{IsMetamodel}
use Rattle.metamodel_growth.specs.Preserves.{Preserves}

-- two metamodels, the second of which preserves the first
pub record Evolves (old new : Meta) : Type 0 where
  pub was : IsMetamodel old
  pub is : IsMetamodel new
  pub preserves : Preserves old new
