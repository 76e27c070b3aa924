use Rattle.std.proofs.Common.{◌∙◌, ap, subst, sym}
use Rattle.ecore_drafts.specs.Document.{ClassifierRows}
use Rattle.ecore_build.specs.Faults.{IsFault, fault}
use Rattle.ecore_build.specs.Resolves.{Resolves}
use Rattle.ecore_build.proofs.ChainLaws.{chains}
use Rattle.ecore_build.proofs.building.build.Goals as goal

pub returns-in-Err-clause-fault : goal.returns-in-Err-clause-fault
returns-in-Err-clause-fault c =
    let P : ClassifierRows → Type 0 = λ rows. IsFault (fault rows) c.in-Err.fault in
    subst P c.as_slice.ensures c.in-Err.ensures.fault

pub assemble-requires-clause-none : goal.assemble-requires-clause-none
assemble-requires-clause-none c = ap fault (sym c.as_slice.ensures) ∙ c.in-Ok.ensures.none

pub assemble-requires-clause-resolved : goal.assemble-requires-clause-resolved
assemble-requires-clause-resolved c =
    let P : ClassifierRows → Type 0 = λ rows. Resolves rows c.in-Ok.resolved in
    subst P c.as_slice.ensures c.in-Ok.ensures.resolved

pub returns-in_ok-assemble-in-Ok-clause-none : goal.returns-in_ok-assemble-in-Ok-clause-none
returns-in_ok-assemble-in-Ok-clause-none c = ap fault (sym c.as_slice.ensures) ∙ c.in-Ok.ensures.none

pub returns-in_ok-assemble-in-Ok-clause-chain : goal.returns-in_ok-assemble-in-Ok-clause-chain
returns-in_ok-assemble-in-Ok-clause-chain c = chains c.args.rows.now _ c.in_ok-assemble-in-Ok.ensures
