use Rattle.std.proofs.Common.{◌∙◌}
use Rattle.metamodel_growth.specs.Extension.{class_in}
use Rattle.metamodel_growth.proofs.CodeLaws.{found_more}
use Rattle.metamodel_growth.proofs.found.classes_in.Goals as goal

pub loop-c-preserved : goal.loop-c-preserved
loop-c-preserved c = c.in_ok-push_found.ensures
    ∙ found_more (class_in c.args.old.now c.args.next.now) c.loop-c.c c.loop-c.numbers.items c.class_in.result c.loop-c.invariant c.class_in.ensures
