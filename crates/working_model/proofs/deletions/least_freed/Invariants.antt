use Rattle.std.proofs.Common.{◌≡◌, ◌<◌, ◌≤◌, ◌++◌, ℕ, false, take}
use Rattle.std.specs.Fmt.{decimal}
use Rattle.std.specs.List.{list_any}
use Rattle.working_model.specs.Taken.{deletes}
use Rattle.working_model.proofs.deletions.least_freed.Given as goal

abbrev pub invariant-loop-step : goal.invariant-loop-step
invariant-loop-step l = record {
  below : l.least ≤ l.from;
  kept : (j : ℕ) → j < l.least → list_any (deletes (l.prefix ++ decimal j)) (take l.step-index l.steps) ≡ false;
}
