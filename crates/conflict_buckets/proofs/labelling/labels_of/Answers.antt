use Rattle.cell_index.proofs.Drained.{lists_all}
use Rattle.conflict_buckets.proofs.Spreading.{labels_are}
use Rattle.conflict_buckets.proofs.labelling.labels_of.Goals as goal

pub returns-clause-labels : goal.returns-clause-labels
returns-clause-labels c =
    λ meta ops shows. labels_are meta c.args.prints.now ops c.loop-start.found.labels.items c.loop-start.found.reached.items
    c.loop-start.found.order.items c.loop-start.start shows c.loop-start.invariant.spread c.loop-start-test.false

pub loop-start-init : goal.loop-start-init
loop-start-init c = record {
  spread = c.in_ok-found.ensures;
  index = lists_all c.in_ok-index.index c.args.prints.now c.in_ok-found.found.reached.items c.in_ok-index.ensures;
}
