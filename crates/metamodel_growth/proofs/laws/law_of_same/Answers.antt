use Rattle.metamodel_growth.proofs.SameLaws.{same_is_equal}
use Rattle.metamodel_growth.proofs.laws.law_of_same.Goals as goal

pub returns : goal.returns
returns c = same_is_equal
