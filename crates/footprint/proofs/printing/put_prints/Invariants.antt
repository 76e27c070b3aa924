-- the prints so far, and those of the rest
use Rattle.std.proofs.Common.{◌≡◌, ◌++◌, drop}
use Rattle.footprint.specs.Prints.{shown, printed}
use Rattle.footprint.proofs.printing.put_prints.Given as goal

abbrev pub invariant-loop-op : goal.invariant-loop-op
invariant-loop-op l = shown l.prints.items ++ printed l.meta (drop l.op-index l.ops) ≡ shown l.initial.prints.items ++ printed l.meta l.ops
