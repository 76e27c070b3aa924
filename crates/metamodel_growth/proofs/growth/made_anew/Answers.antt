use Rattle.std.proofs.Common.{sym, subst, arith}
use Rattle.ecore_meta.specs.Holds.{Holds}
use Rattle.metamodel_growth.proofs.PromiseLaws.{renumbered_holds}
use Rattle.metamodel_growth.proofs.growth.made_anew.Goals as goal

pub of_parts-requires : goal.of_parts-requires
of_parts-requires c =
    subst Holds (sym c.in_ok-parts.ensures)
    (renumbered_holds c.args.next.now
    (record {
      few_classes = omega (arith, c.class_count-classes.ensures, c.class_count-classes.type_inv);
      few_features = omega (arith, c.feature_count-features.ensures, c.feature_count-features.type_inv);
      is = c.recall_promises.ensures;
    })
    c.args.to.now c.requires.classes c.requires.features c.requires.enums)
