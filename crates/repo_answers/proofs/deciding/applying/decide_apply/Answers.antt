use Rattle.std.proofs.Common.{◌≡◌, Option, sym, ◌∙◌, ap, subst, true}
use Rattle.std.specs.Prelude.{IfOk, not}
use Rattle.plain_repository.specs.Answers as plain
use Rattle.plain_repository.specs.Applying.{apply_read}
use Rattle.plain_repository.specs.State.{Workspace, is_closed, workspace_of}
use Rattle.repo_state.specs.Keeping.{plain_of}
use Rattle.repo_answers.specs.Decisions.{plain_decision}
use Rattle.repo_answers.proofs.Applied.{apply_goes, closed_takes}
use Rattle.repo_answers.proofs.deciding.applying.decide_apply.Goals as goal

pub apply_package-requires-clause-takes : goal.apply_package-requires-clause-takes
apply_package-requires-clause-takes c =
    closed_takes (workspace_of c.args.repo.now c.args.ws) c.in-Ok.«package»
    (subst (λ (o : Option Workspace). is_closed o ≡ true) c.in-Some.ensures.found (ap not (sym c.is_open.ensures.open ∙ c.if-is_open.false)))

pub returns-in-Ok-clause-decision : goal.returns-in-Ok-clause-decision
returns-in-Ok-clause-decision c = λ meta begun.
    let s = c.args.repo.now in
    let w = plain_of c.in-Some.workspace.now in
    let there = sym c.in-Some.ensures.found in
    subst (λ (y : plain.Decision). IfOk c.apply_package.result (λ d. plain_decision d ≡ y))
    (ap (apply_read s meta c.args.ws w) (sym c.in-Ok.ensures.read)
    ∙ apply_goes s meta c.args.ws w c.args.bytes.now there (sym c.is_open.ensures.open ∙ c.if-is_open.false))
    (c.apply_package.ensures.decision meta w begun there)

pub returns-in-Err-clause-decision : goal.returns-in-Err-clause-decision
returns-in-Err-clause-decision c = λ meta begun.
    let s = c.args.repo.now in
    let w = plain_of c.in-Some.workspace.now in
    let read = c.unread.ensures.applied _ s meta c.args.ws w c.in-Err.ensures.read in
    subst (λ (y : plain.Decision). IfOk c.refuse_or_fail.result (λ d. plain_decision d ≡ y))
    (apply_goes s meta c.args.ws w c.args.bytes.now (sym c.in-Some.ensures.found) (sym c.is_open.ensures.open ∙ c.if-is_open.false))
    (c.refuse_or_fail.ensures.decision _ read)
