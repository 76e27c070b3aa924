-- What an evolved metamodel has: all of the new one, by name, and no other.
use Rattle.std.specs.Prelude.{◌≡◌, None}
use Rattle.ecore_meta.specs.Meta.{Meta}
use Rattle.ecore_meta.specs.Promised.{IsMetamodel}
use Rattle.metamodel_growth.specs.Evolved.{evolved}
use Rattle.metamodel_growth.specs.Extension.{missing}

-- neither lacks a part that the other has, each by its name
pub record HaveSameParts (a b : Meta) : Type 0 where
  pub all : missing a b ≡ None
  pub no_other : missing b a ≡ None

-- whatever the old one is, the evolved one has the parts of the new one
abbrev pub EvolvedHasTheNew : Type 0
EvolvedHasTheNew = (old new : Meta) → IsMetamodel old → IsMetamodel new → HaveSameParts new (evolved old new)
