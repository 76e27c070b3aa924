use Rattle.std.proofs.Common.{◌∙◌, subst, sym}
use Rattle.ecore_drafts.specs.Classifiers.{MayHave}
use Rattle.ecore_build.proofs.BuildLaws.{is_fault, neither}
use Rattle.ecore_build.proofs.building.checked.Goals as goal

pub resolve-requires-clause-same : goal.resolve-requires-clause-same
resolve-requires-clause-same c = (subst (MayHave c.args.rows.now) c.in-Some.is c.in_ok-classifiers.ensures).1

pub resolved_fault-requires-clause-same : goal.resolved_fault-requires-clause-same
resolved_fault-requires-clause-same c = (subst (MayHave c.args.rows.now) c.in-Some.is c.in_ok-classifiers.ensures).1

pub resolved_fault-requires-clause-apart : goal.resolved_fault-requires-clause-apart
resolved_fault-requires-clause-apart c =
    sym (neither _ _ (sym (subst (MayHave c.args.rows.now) c.in-Some.is c.in_ok-classifiers.ensures).0)
    (sym c.if-branch.false ∙ c.in_ok-any_repeats_within.ensures))

pub returns-in-Some-first-clause-fault : goal.returns-in-Some-first-clause-fault
returns-in-Some-first-clause-fault c = is_fault _ c.in-Some-first.fault (sym c.in_ok-first.ensures ∙ c.in-Some-first.is)
