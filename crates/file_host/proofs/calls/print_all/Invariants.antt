use Rattle.file_host.proofs.Going.{Printing}
use Rattle.file_host.proofs.calls.print_all.Given as goal

abbrev pub invariant-loop : goal.invariant-loop
invariant-loop g l = Printing (g.S.System.told l.fn.system) (g.S.System.told l.system) l.bytes l.done
