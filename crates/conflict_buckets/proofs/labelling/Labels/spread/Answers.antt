-- the operation that all start from is linked with itself
use Rattle.std.proofs.Common.{◌≤◌, length, arith}
use Rattle.merge_laws.specs.Classes.{here}
use Rattle.cell_index.proofs.Drained.{lists_kept}
use Rattle.conflict_buckets.proofs.Spreading.{start_on}
use Rattle.conflict_buckets.proofs.labelling.Labels.spread.Goals as goal

pub reach_new-requires-clause-linked : goal.reach_new-requires-clause-linked
reach_new-requires-clause-linked c = λ meta ops shows. here

pub loop-at-init : goal.loop-at-init
loop-at-init c =
    let made = c.in_ok-reach_new.ensures in
    record {
      spread = made.spread;
      index = lists_kept c.args.index.now c.args.prints.now c.args.self.now.reached.items c.reach_new.new.self.reached.items made.further.kept
          c.requires.index;
      here = made.here;
    }

pub returns-clause-spread : goal.returns-clause-spread
returns-clause-spread c =
    let order = c.loop-at.self.order.items in
    let size = c.len.ensures in
    let long = c.loop-at.self.order.ok.0 in
    let over = c.loop-at-test.false in
    let past : length order ≤ c.loop-at.at = omega (arith, size, long, over) in
    start_on c.args.prints.now c.args.start c.loop-at.at c.loop-at.self.labels.items c.loop-at.self.reached.items order c.loop-at.invariant.spread
    past c.loop-at.invariant.here
