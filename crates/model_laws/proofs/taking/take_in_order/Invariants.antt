-- the steps so far are taken, and what is left leads where all lead
use Rattle.std.proofs.Common.{◌≡◌, Some, drop, take}
use Rattle.model_state.specs.Steps.{fold, first_stop, further_on}
use Rattle.model_state.specs.Good.{Good}
use Rattle.model_laws.proofs.taking.take_in_order.Given as goal

abbrev pub invariant-loop-at : goal.invariant-loop-at
invariant-loop-at g l =
    let state = g.M.Look.state in
    record {
      good : Good l.meta (state l.model);
      taken : fold l.meta (state l.fn.model) (take l.at l.steps) ≡ Some (state l.model);
      rest : fold l.meta (state l.model) (drop l.at l.steps) ≡ fold l.meta (state l.fn.model) l.steps;
      stops : further_on l.at (first_stop l.meta (state l.model) (drop l.at l.steps)) ≡ first_stop l.meta (state l.fn.model) l.steps;
    }
