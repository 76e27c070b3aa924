use Rattle.std.proofs.Common.{◌∙◌, sym, ap, subst}
use Rattle.ecore_meta.specs.Meta.{Meta}
use Rattle.metamodel_growth.specs.Evolved.{evolved}
use Rattle.metamodel_growth.specs.Preserves.{Preserves}
use Rattle.metamodel_growth.specs.Renumbered.{renumbered}
use Rattle.metamodel_growth.proofs.ExtensionLaws.{evolved_preserves}
use Rattle.metamodel_growth.proofs.growth.moved.Goals as goal

pub returns-clause-evolved : goal.returns-clause-evolved
unfolding evolved
returns-clause-evolved c = c.in_ok-meta.ensures ∙ ap (renumbered c.args.next) c.in_ok-to.ensures.numbers

pub returns-clause-preserves : goal.returns-clause-preserves
unfolding evolved
returns-clause-preserves c =
    subst (λ (m : Meta). Preserves c.args.old.now m)
    (sym (c.in_ok-meta.ensures ∙ ap (renumbered c.args.next) c.in_ok-to.ensures.numbers))
    (evolved_preserves c.args.old.now c.args.next c.recall_promises.ensures c.recall_promises-2.ensures c.requires.extends)
