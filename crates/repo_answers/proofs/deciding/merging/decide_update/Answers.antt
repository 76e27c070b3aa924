use Rattle.std.proofs.Common.{◌≡◌, ◌<◌, length, sym, ◌∙◌, ap, subst}
use Rattle.std.specs.Prelude.{IfOk}
use Rattle.history_tree.specs.History.{History}
use Rattle.plain_repository.specs.Answers as plain
use Rattle.plain_repository.proofs.Reached.{workspaces_stand}
use Rattle.repo_answers.specs.Decisions.{plain_decision}
use Rattle.repo_state.specs.Keeping.{plain_of}
use Rattle.repo_answers.proofs.Chosen.{update_goes}
use Rattle.repo_state.proofs.Ordered.{is_there}
use Rattle.repo_answers.proofs.deciding.merging.decide_update.Goals as goal

pub decide_update_of-requires-clause-there : goal.decide_update_of-requires-clause-there
decide_update_of-requires-clause-there c = sym c.in-Some.ensures.found

pub decide_update_of-requires-clause-closed : goal.decide_update_of-requires-clause-closed
decide_update_of-requires-clause-closed c = sym c.is_open.ensures.open ∙ c.if-is_open.false

pub decide_update_of-requires-clause-branch : goal.decide_update_of-requires-clause-branch
decide_update_of-requires-clause-branch c =
    let s = c.args.repo.now in
    let meta = c.args.begun.now.meta in
    let w = plain_of c.in-Some.workspace.now in
    subst (λ (h : History). w.branch < length h.branches) c.requires.history
    (workspaces_stand s meta w (is_there s meta c.args.ws w c.recall_order.ensures c.requires.meta (sym c.in-Some.ensures.found))).branch

pub returns-clause-decision : goal.returns-clause-decision
returns-clause-decision c =
    subst (λ (y : plain.Decision). IfOk c.decide_update_of.result (λ d. plain_decision d ≡ y))
    (update_goes c.args.repo.now c.args.begun.now.meta c.args.ws (plain_of c.in-Some.workspace.now) c.args.choices.now (sym c.in-Some.ensures.found)
    (sym c.is_open.ensures.open ∙ c.if-is_open.false))
    c.decide_update_of.ensures.decision
