use Rattle.model_texts.proofs.Alike.{text_is_of_lists}
use Rattle.model_texts.proofs.Nested.{text_is_whole}
use Rattle.model_texts.proofs.laws.law_of_texts.Goals as goal

pub returns : goal.returns
returns c = record { lists = text_is_of_lists; whole = text_is_whole }
