use Rattle.std.proofs.Common.{◌≡◌, take}
use Rattle.page_pool.specs.Paged.{joined}
use Rattle.page_pool.proofs.paged.PagedBytes.read.Given as goal

abbrev pub invariant-loop-frame : goal.invariant-loop-frame
invariant-loop-frame l = l.bytes.items ≡ joined l.pool (take l.frame-index l.self-inside.frames.items)
