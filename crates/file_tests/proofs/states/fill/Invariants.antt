use Rattle.state_cache.specs.Entries.{HoldsAll}
use Rattle.file_tests.proofs.states.fill.Given as goal

abbrev pub invariant-loop-version : goal.invariant-loop-version
invariant-loop-version l = HoldsAll l.pool l.cache
