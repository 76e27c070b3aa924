use Rattle.std.proofs.Common.{refl}
use Rattle.page_pool.specs.Frames.{zeros}
use Rattle.page_pool.proofs.slot.blank.Goals as goal

pub returns : goal.returns
unfolding zeros
returns c = refl
