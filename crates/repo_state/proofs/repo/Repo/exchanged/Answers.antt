use Rattle.std.proofs.Common.{sym}
use Rattle.repo_state.specs.Keeping.{plain_of}
use Rattle.repo_state.proofs.LedOver.{base_below}
use Rattle.repo_state.proofs.repo.Repo.exchanged.Goals as goal

pub steps_between-between-requires-clause-from : goal.steps_between-between-requires-clause-from
steps_between-between-requires-clause-from c =
    base_below c.args.self.now c.in-Some.begun.now.meta c.in-Some.begun.now.history.history c.args.from (plain_of c.in-Some-workspace.other.now)
    c.recall_order.ensures c.in-Some.ensures.meta c.in-Some.ensures.history (sym c.in-Some-workspace.ensures.found)

pub steps_between-between-requires-clause-to : goal.steps_between-between-requires-clause-to
steps_between-between-requires-clause-to c =
    base_below c.args.self.now c.in-Some.begun.now.meta c.in-Some.begun.now.history.history c.args.to (plain_of c.in-Some-workspace-2.workspace.now)
    c.recall_order.ensures c.in-Some.ensures.meta c.in-Some.ensures.history (sym c.in-Some-workspace-2.ensures.found)
