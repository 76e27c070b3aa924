use Rattle.std.proofs.Common.{◌≡◌, ◌+◌, ◌≤◌, length, vec_len, vec_capacity}
use Rattle.page_pool.specs.Frames.{out_of, free_of}
use Rattle.page_pool.specs.Paged.{frames_for}
use Rattle.page_pool.proofs.Filling.{Filled}
use Rattle.page_pool.proofs.paged.Room.fill.Given as goal

abbrev pub invariant-loop-i : goal.invariant-loop-i
invariant-loop-i l = record {
  filled : Filled l.fn.pool l.pool l.frames.items l.bytes l.i;
  size : vec_len l.frames ≡ l.i;
  room : frames_for (length l.bytes) ≤ vec_capacity l.frames;
  out : out_of l.pool ≡ out_of l.fn.pool + l.i;
  free : frames_for (length l.bytes) ≤ free_of l.pool + l.i;
}
