use Rattle.std.proofs.Common.{◌≡◌, ℕ, ◌-◌, ◌^◌, ◌≤◌, ◌+◌, ◌++◌, List, [], Bool, Ok, length}
use Rattle.std.specs.Prelude.{IsTrue, string_bytes}
use Rattle.std.specs.List.{slice_split}
use Rattle.host_port.specs.Host.{GoesOn, KeepsDisk, KeepsSaid, RaisesTakesAlone}
use Rattle.host_port.specs.Cut.{cut_block, is_lf}
use Rattle.host_port.specs.Limits.{block_limit}
use Rattle.host_port.specs.Reads.{read_so_far}
use Rattle.host_port.proofs.lines.block.Block.read.Given as goal

abbrev pub invariant-lines : goal.invariant-lines
invariant-lines g l = record {
  started : l.start ≤ l.unread.offset;
  near : l.unread.offset ≤ l.start + block_limit;
  short : length (string_bytes l.self.text) + l.start ≤ l.unread.offset;
  goes : IsTrue (g.H.Host.told l.fn.host).tells → (takes : List ℕ → Bool) (line : List ℕ) →
      cut_block takes line l.start l.start (Ok []) (slice_split is_lf (l.fn.unread.pending ++ (g.H.Host.told l.fn.host).left))
      ≡ cut_block takes line l.start l.unread.offset (read_so_far l.self) (slice_split is_lf (l.unread.pending ++ (g.H.Host.told l.host).left));
  course : GoesOn (g.H.Host.told l.fn.host) (g.H.Host.told l.host);
  disk : KeepsDisk (g.H.Host.told l.fn.host) (g.H.Host.told l.host);
  said : KeepsSaid (g.H.Host.told l.fn.host) (g.H.Host.told l.host);
  alone : RaisesTakesAlone (g.H.Host.told l.fn.host) (g.H.Host.told l.host);
}

abbrev pub decreases-lines : goal.decreases-lines
decreases-lines g l = 2 ^ 40 - l.unread.offset
