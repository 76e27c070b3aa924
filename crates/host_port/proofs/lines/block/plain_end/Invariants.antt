use Rattle.std.proofs.Common.{◌-◌, ◌≤◌, length, take}
use Rattle.host_port.specs.Reads.{ArePlain}
use Rattle.host_port.proofs.lines.block.plain_end.Given as goal

abbrev pub invariant-lines : goal.invariant-lines
invariant-lines l = record {
  inside : l.end ≤ length l.bytes;
  low : l.end ≤ l.room;
  plain : ArePlain (take l.end l.bytes);
}

abbrev pub decreases-lines : goal.decreases-lines
decreases-lines l = length l.bytes - l.end
