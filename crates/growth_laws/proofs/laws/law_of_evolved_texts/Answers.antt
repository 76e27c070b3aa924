-- The text holds what it held, object by object.
use Rattle.growth_laws.proofs.Texts.{growth_keeps_text}
use Rattle.growth_laws.proofs.laws.law_of_evolved_texts.Goals as goal

pub returns : goal.returns
returns c = growth_keeps_text
