-- the buckets are classes, in order
use Rattle.std.proofs.Common.{sym, subst}
use Rattle.merge_laws.specs.Classes.{AreClasses}
use Rattle.merge_laws.specs.Order.{InOrder}
use Rattle.merge_laws.proofs.Exact.{buckets_are_classes}
use Rattle.merge_laws.proofs.Order.{buckets_in_order}
use Rattle.conflict_buckets.proofs.grouping.buckets.Goals as goal

pub returns-clause-classes : goal.returns-clause-classes
returns-clause-classes c =
    subst (AreClasses c.args.meta.now c.args.theirs.now c.args.mine.now) (sym c.in_ok-rows.ensures)
    (buckets_are_classes c.args.meta.now c.args.theirs.now c.args.mine.now)

pub returns-clause-order : goal.returns-clause-order
returns-clause-order c = subst InOrder (sym c.in_ok-rows.ensures) (buckets_in_order c.args.meta.now c.args.theirs.now c.args.mine.now)
