use Rattle.ecore_drafts.proofs.ClassifierLaws.{placed_more}
use Rattle.ecore_drafts.proofs.classifiers.own_places.Goals as goal

pub loop-row-preserved : goal.loop-row-preserved
loop-row-preserved c =
    placed_more c.args.rows.now c.loop-row.row-index c.row-item.result c.loop-row.own.items c.in_ok-row_places.field-0 c.push.new.self.items
    c.in_ok-push.ensures.items c.loop-row-test.true c.loop-row.invariant c.row-item.is c.in_ok-row_places.ensures
