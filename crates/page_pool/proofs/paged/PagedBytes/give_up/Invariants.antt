use Rattle.std.proofs.Common.{vec_len}
use Rattle.page_pool.proofs.Giving.{Giving}
use Rattle.page_pool.proofs.paged.PagedBytes.give_up.Given as goal

abbrev pub invariant-loop-frame : goal.invariant-loop-frame
invariant-loop-frame l = Giving l.fn.pool l.pool l.fn.self.frames l.frames.items

abbrev pub decreases-loop-frame : goal.decreases-loop-frame
decreases-loop-frame l = vec_len l.frames
