use Rattle.std.proofs.Common.{refl}
use Rattle.change_index.specs.Table.{pairs_below}
use Rattle.change_index.proofs.index.ChangeIndex.new.Goals as goal

pub returns : goal.returns
unfolding pairs_below
returns c = refl
