use Rattle.system_port.specs.Stays.{Stays}
use Rattle.file_host.proofs.calls.measure.Given as goal

abbrev pub invariant-loop : goal.invariant-loop
invariant-loop g l = Stays (g.S.System.told l.fn.system) (g.S.System.told l.system)
