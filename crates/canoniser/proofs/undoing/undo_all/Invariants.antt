-- the steps so far are reversals, and what is left decides
use Rattle.std.proofs.Common.{◌≡◌, ◌-◌, length, drop, take}
use Rattle.model_state.specs.Steps.{rev_all}
use Rattle.merge_laws.specs.Joins.{steps_eq}
use Rattle.canoniser.proofs.undoing.undo_all.Given as goal

abbrev pub invariant-loop-i : goal.invariant-loop-i
invariant-loop-i l = steps_eq l.later (rev_all l.earlier) ≡ steps_eq (drop l.i l.later) (rev_all (take (length l.earlier - l.i) l.earlier))
