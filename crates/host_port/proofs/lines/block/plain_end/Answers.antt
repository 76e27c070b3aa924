use Rattle.std.proofs.Common.{arith}
use Rattle.host_port.proofs.ScriptRuns.{plain_more}
use Rattle.host_port.proofs.lines.block.plain_end.Goals as goal

pub lines-preserved : goal.lines-preserved
lines-preserved c =
    let found = c.in-Some.ensures in
    let is = c.is_plain.ensures.plain c.if-is_plain.true in
    record {
      inside = omega (arith, found.1);
      low = omega (arith, c.if-at-room.true);
      plain = plain_more c.args.bytes.now c.lines.end c.in-Some.at found.0 found.1 c.lines.invariant.plain found.3 found.2 is.0 is.1;
    }
