use Rattle.ecore_drafts.proofs.Items.{item_is}
use Rattle.ecore_build.proofs.faults.at.Goals as goal

pub returns : goal.returns
returns c = item_is c.args.drafts.now _ c.get.result c.get.ensures.lookup
