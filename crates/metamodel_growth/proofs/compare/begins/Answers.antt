use Rattle.std.proofs.Common.{◌∙◌}
use Rattle.std.specs.Prelude.{[]}
use Rattle.metamodel_growth.proofs.CodeLaws.{begins_short}
use Rattle.metamodel_growth.proofs.compare.begins.Goals as goal

pub returns-then-i-ms : goal.returns-then-i-ms
returns-then-i-ms c = begins_short c.args.ls.now c.args.ms.now c.loop-i.i
    (record { name = []; text = [] }) c.loop-i-test.true c.if-i-ms.true ∙ c.loop-i.invariant
