use Rattle.ecore_drafts.proofs.Items.{item_is}
use Rattle.ecore_drafts.proofs.classifiers.row_at.Goals as goal

pub returns : goal.returns
returns c = item_is c.args.rows.now c.args.place c.get.result c.get.ensures.lookup
