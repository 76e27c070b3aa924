use Rattle.std.proofs.Common.{arith, ◌≤◌, take, length, sym}
use Rattle.host_port.specs.Reads.{ArePlain, AddsRun, read_so_far}
use Rattle.host_port.proofs.ScriptRuns.{run_goes}
use Rattle.host_port.proofs.lines.block.Block.add_plain.Goals as goal

pub returns-then-branch-clause-step : goal.returns-then-branch-clause-step
returns-then-branch-clause-step c = λ takes line left.
    let plain : ArePlain (take c.plain_end-run.result c.args.unread.now.pending) = rw (sym c.as_slice-bytes.ensures) c.plain_end-run.ensures.plain in
    let adds : AddsRun (read_so_far c.args.self.now) (take c.plain_end-run.result c.args.unread.now.pending) (read_so_far c.add_run.new.self) =
    rw (sym c.as_slice-bytes.ensures) (c.in_ok-add_run.ensures.added c.if-branch.true) in
    let short : c.plain_end-run.result ≤ length c.args.unread.now.pending = rw (sym c.as_slice-bytes.ensures) c.plain_end-run.ensures.within.0 in
    run_goes takes line c.args.start c.args.unread.now.offset c.go_past.new.self.offset c.plain_end-run.result (read_so_far c.args.self.now)
    (read_so_far c.add_run.new.self)
    c.args.unread.now.pending c.go_past.new.self.pending left short plain adds
    (grind (arith, c.plain_end-run.ensures.within, c.requires)) c.args.unread.now.within
    c.go_past.ensures.pending c.go_past.ensures.offset
