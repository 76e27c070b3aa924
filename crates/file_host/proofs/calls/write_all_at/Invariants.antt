use Rattle.file_host.proofs.Going.{Writing}
use Rattle.file_host.proofs.calls.write_all_at.Given as goal

abbrev pub invariant-loop : goal.invariant-loop
invariant-loop g l = Writing (g.S.System.told l.fn.system) (g.S.System.told l.system) l.at l.bytes l.done
