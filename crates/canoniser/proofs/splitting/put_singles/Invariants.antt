-- the operations of the steps so far stand, and those of the rest come
use Rattle.std.proofs.Common.{◌≡◌, ◌++◌, drop}
use Rattle.merge_laws.specs.Split.{singles}
use Rattle.canoniser.proofs.splitting.put_singles.Given as goal

abbrev pub invariant-loop-step : goal.invariant-loop-step
invariant-loop-step l = l.list.items ++ singles (drop l.step-index l.steps) ≡ l.initial.list.items ++ singles l.steps
