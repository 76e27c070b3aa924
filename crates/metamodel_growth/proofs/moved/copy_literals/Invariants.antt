use Rattle.std.proofs.Common.{◌≡◌, take}
use Rattle.metamodel_growth.proofs.moved.copy_literals.Given as goal

abbrev pub invariant-loop-literal : goal.invariant-loop-literal
invariant-loop-literal l = l.copies.items ≡ take l.literal-index l.literals
