use Rattle.std.proofs.Common.{◌-◌, ◌^◌, ◌++◌}
use Rattle.host_port.specs.Cut.{script_from}
use Rattle.plain_repository.specs.Lines.{takes_block}
use Rattle.store_session.specs.Tasks.{gated}
use Rattle.store_runs.proofs.Script.{Serving}
use Rattle.store_runs.proofs.serving.serve_lines.Given as goal

abbrev pub invariant-commands : goal.invariant-commands
invariant-commands g l =
    Serving (gated (g.G.Gate.refusal l.fn.gate)) (g.H.Host.told l.fn.host) (g.H.Host.told l.host) l.fn.session.state
    (script_from takes_block l.fn.lines.offset (l.fn.lines.pending ++ (g.H.Host.told l.fn.host).left))
    l.lines.failed l.lines.offset l.lines.pending l.refused l.session.state l.session.broken

abbrev pub decreases-commands : goal.decreases-commands
decreases-commands g l = 2 ^ 40 - l.lines.offset
