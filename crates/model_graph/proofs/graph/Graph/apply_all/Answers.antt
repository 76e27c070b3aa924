use Rattle.std.proofs.Common.{subst}
use Rattle.model_state.specs.Faults.{IsApplyFault}
use Rattle.model_state.specs.Steps.{first_stop}
use Rattle.model_graph.proofs.graph.Graph.apply_all.Goals as goal

pub returns-in-Err-clause-cannot : goal.returns-in-Err-clause-cannot
returns-in-Err-clause-cannot c =
    subst (λ m. IsApplyFault (first_stop c.args.meta.now m c.args.steps.now) c.in-Err.fault) c.in-Ok.ensures c.in-Err.ensures.cannot
