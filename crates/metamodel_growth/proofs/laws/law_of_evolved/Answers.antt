use Rattle.metamodel_growth.proofs.EvolvedLaws.{evolved_has_the_new}
use Rattle.metamodel_growth.proofs.laws.law_of_evolved.Goals as goal

pub returns : goal.returns
returns c = evolved_has_the_new
