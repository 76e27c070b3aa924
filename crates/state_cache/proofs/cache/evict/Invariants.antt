use Rattle.std.proofs.Common.{◌≡◌, ◌-◌, length}
use Rattle.page_pool.specs.Frames.{out_of}
use Rattle.state_cache.specs.Entries.{Fits}
use Rattle.state_cache.proofs.Popping.{Popping}
use Rattle.state_cache.proofs.cache.evict.Given as goal

abbrev pub invariant-loop-limits : goal.invariant-loop-limits
invariant-loop-limits l = record {
  popping : Popping l.fn.pool l.pool l.fn.entries.entries l.entries.entries l.count
      (Fits l.limits.entries l.limits.frames (out_of l.fn.pool - l.held_frames) l.limits.needed);
  cap : l.entries.cap ≡ l.fn.entries.cap;
}

abbrev pub decreases-loop-limits : goal.decreases-loop-limits
decreases-loop-limits l = length l.entries.entries
