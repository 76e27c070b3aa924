use Rattle.std.proofs.Common.{◌∙◌}
use Rattle.metamodel_growth.specs.Extension.{enum_in}
use Rattle.metamodel_growth.proofs.CodeLaws.{found_more}
use Rattle.metamodel_growth.proofs.found.enums_in.Goals as goal

pub loop-e-preserved : goal.loop-e-preserved
loop-e-preserved c = c.in_ok-push_found.ensures
    ∙ found_more (enum_in c.args.old.now c.args.next.now) c.loop-e.e c.loop-e.numbers.items c.enum_in.result c.loop-e.invariant c.enum_in.ensures
