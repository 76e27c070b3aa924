use Rattle.std.proofs.Common.{arith}
use Rattle.std.proofs.lemmas.Grind.{common_steps}
use Rattle.ecore_drafts.specs.Drafts.{drafts}
use Rattle.ecore_drafts.proofs.classifiers.Classifiers.drafts.Goals as goal

pub returns : goal.returns
unfolding drafts
returns c = grind (arith, common_steps)
