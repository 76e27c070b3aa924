-- What holds with a metamodel holds with the one that it evolves to.
use Rattle.std.specs.Prelude.{◌≡◌, List, None, Some}
use Rattle.ecore_meta.specs.Meta.{Meta}
use Rattle.ecore_meta.specs.Promised.{IsMetamodel}
use Rattle.model_state.specs.declared.step.Step.{Step}
use Rattle.model_state.specs.State.{State}
use Rattle.model_state.specs.Steps.{Can, apply, fold}
use Rattle.model_state.specs.Good.{Good}
use Rattle.model_laws.specs.Cells.{step_writes, writes_all}
use Rattle.model_texts.specs.Tree.{text}
use Rattle.metamodel_growth.specs.Evolved.{evolved}
use Rattle.metamodel_growth.specs.Extension.{missing}
use Rattle.growth_laws.specs.Growth.{Evolves}

-- a metamodel evolves to each that has all its parts by name, once that one has its numbers
abbrev pub ExtensionEvolves : Type 0
ExtensionEvolves = (old next : Meta) → IsMetamodel old → IsMetamodel next → missing old next ≡ None → Evolves old (evolved old next)

-- a good state stays good
abbrev pub GrowthKeepsGood : Type 0
GrowthKeepsGood = (old new : Meta) → Evolves old new → (m : State) → Good old m → Good new m

-- a step that can be taken can still be taken, does the same and writes the same cells
abbrev pub GrowthKeepsSteps : Type 0
GrowthKeepsSteps =
    (old new : Meta) → Evolves old new → (m : State) → Good old m → (s : Step) → Can old m s
    → Can new m s × (apply new m s ≡ apply old m s) × (step_writes new s ≡ step_writes old s)

-- a run leads where it led, and writes the same cells; which cells it reads no metamodel says
abbrev pub GrowthKeepsRuns : Type 0
GrowthKeepsRuns =
    (old new : Meta) → Evolves old new → (m n : State) → Good old m → (steps : List Step) → fold old m steps ≡ Some n
    → (fold new m steps ≡ Some n) × (writes_all new steps ≡ writes_all old steps)

-- a good state has the text that it had
abbrev pub GrowthKeepsText : Type 0
GrowthKeepsText = (old new : Meta) → Evolves old new → (m : State) → Good old m → text new m ≡ text old m
