use Rattle.file_host.proofs.Going.{Filling}
use Rattle.file_host.proofs.calls.read_at_least.Given as goal

abbrev pub invariant-loop : goal.invariant-loop
invariant-loop g l = Filling (g.S.System.told l.fn.system) (g.S.System.told l.system) l.at l.into l.done
