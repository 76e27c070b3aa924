use Rattle.std.proofs.Common.{◌≡◌, drop}
use Rattle.metamodel_growth.specs.Extension.{begins}
use Rattle.metamodel_growth.proofs.compare.begins.Given as goal

abbrev pub invariant-loop-i : goal.invariant-loop-i
invariant-loop-i l = begins (drop l.i l.ls) (drop l.i l.ms) ≡ begins l.ls l.ms
