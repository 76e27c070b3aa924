-- the cells of the steps so far stand, and those of the rest come
use Rattle.std.proofs.Common.{◌≡◌, ◌++◌, drop}
use Rattle.model_laws.specs.Cells.{writes_all, reads_all}
use Rattle.footprint.specs.Prints.{cells}
use Rattle.footprint.proofs.printing.print_steps.Given as goal

abbrev pub invariant-loop-step : goal.invariant-loop-step
invariant-loop-step l = record {
  writes : cells l.writes ++ writes_all l.meta (drop l.step-index l.steps) ≡ writes_all l.meta l.steps;
  reads : cells l.reads ++ reads_all (drop l.step-index l.steps) ≡ reads_all l.steps;
}
