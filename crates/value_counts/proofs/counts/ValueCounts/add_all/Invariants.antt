-- what was counted before, and the values so far
use Rattle.std.proofs.Common.{◌++◌, List, take}
use Rattle.ecore_meta.specs.declared.meta.Value.{Value}
use Rattle.value_counts.specs.Counts.{Counts}
use Rattle.value_counts.proofs.counts.ValueCounts.add_all.Given as goal

abbrev pub invariant-loop-value : goal.invariant-loop-value
invariant-loop-value l = (vs : List Value) → Counts l.fn.self vs → Counts l.self (vs ++ take l.value-index l.values)
