use Rattle.std.proofs.Common.{sym, ap, ◌∙◌, length}
use Rattle.change_index.proofs.Sets.{length-pairs_below}
use Rattle.change_index.proofs.index.ChangeIndex.count.Goals as goal

pub returns : goal.returns
returns c = sym (length-pairs_below c.self.inside.table c.self.inside.count) ∙ ap length c.self.view_is
