use Rattle.std.proofs.Common.{◌*◌}
use Rattle.page_pool.specs.Paged.{content}
use Rattle.commit_journal.proofs.Pages.{Wrote}
use Rattle.commit_journal.proofs.write.write_pieces.Given as goal
use Rattle.page_pool.specs.Frames.{frame_size}

abbrev pub invariant-loop-i : goal.invariant-loop-i
invariant-loop-i g l = Wrote (g.H.Host.told l.fn.host) (g.H.Host.told l.host) l.at (content l.pool l.paged) (frame_size * l.i)
