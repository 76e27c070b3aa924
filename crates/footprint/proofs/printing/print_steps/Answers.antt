-- No cell stands at first.
use Rattle.std.proofs.Common.{ap, ◌++◌}
use Rattle.model_laws.specs.Cells.{writes_all, reads_all}
use Rattle.footprint.specs.Prints.{cells}
use Rattle.footprint.proofs.printing.print_steps.Goals as goal

pub loop-step-init : goal.loop-step-init
unfolding cells
loop-step-init c = record {
  writes = ap (λ l. cells l ++ writes_all c.args.meta.now c.args.steps.now) c.new-writes.ensures;
  reads = ap (λ l. cells l ++ reads_all c.args.steps.now) c.new-reads.ensures;
}
