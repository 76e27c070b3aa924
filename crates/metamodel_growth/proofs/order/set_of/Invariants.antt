use Rattle.std.proofs.Common.{take}
use Rattle.metamodel_growth.specs.Order.{IsSetOf}
use Rattle.metamodel_growth.proofs.order.set_of.Given as goal

abbrev pub invariant-loop-n : goal.invariant-loop-n
invariant-loop-n l = IsSetOf (take l.n-index l.numbers) l.set
