use Rattle.std.proofs.Common.{List, inl, inr}
use Rattle.ecore_meta.specs.Meta.{Meta}
use Rattle.model_state.specs.declared.step.ApplyFault.{ApplyFault}
use Rattle.model_state.specs.declared.step.Step.{Step}
use Rattle.model_state.specs.State.{State}
use Rattle.model_state.specs.Steps.{fault_along, first_stop}
use Rattle.model_state.specs.Faults.{IsApplyFault, IsFault}
use Rattle.version_states.proofs.Folding.{fault_at_stop}
use Rattle.version_states.proofs.states.take_steps.Goals as goal

fault_of_stop : (meta : Meta) (m : State) (ss : List Step) (x : ApplyFault) → IsApplyFault (first_stop meta m ss) x → IsFault (fault_along meta m ss) x.fault
fault_of_stop meta m ss x (inl memory) = inl memory
fault_of_stop meta m ss x (inr stops) = inr (fault_at_stop meta m ss x stops)

pub returns-in-Err-clause-cannot : goal.returns-in-Err-clause-cannot
returns-in-Err-clause-cannot c = fault_of_stop c.args.meta.now c.args.model.now c.args.steps.now c.in-Err.stop c.in-Err.ensures.cannot
