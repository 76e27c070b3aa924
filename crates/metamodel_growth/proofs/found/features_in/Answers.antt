use Rattle.std.proofs.Common.{◌∙◌}
use Rattle.metamodel_growth.specs.Extension.{feature_in}
use Rattle.metamodel_growth.proofs.CodeLaws.{found_more}
use Rattle.metamodel_growth.proofs.found.features_in.Goals as goal

pub loop-f-preserved : goal.loop-f-preserved
loop-f-preserved c = c.in_ok-push_found.ensures
    ∙ found_more (feature_in c.args.old.now c.args.next.now) c.loop-f.f c.loop-f.numbers.items c.feature_in.result c.loop-f.invariant c.feature_in.ensures
