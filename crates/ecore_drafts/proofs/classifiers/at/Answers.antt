use Rattle.std.proofs.Common.{◌∙◌}
use Rattle.ecore_drafts.proofs.Items.{item_is}
use Rattle.ecore_drafts.proofs.classifiers.at.Goals as goal

pub returns : goal.returns
returns c = c.copied.ensures ∙ item_is c.args.numbered.now c.args.place c.get.result c.get.ensures.lookup
