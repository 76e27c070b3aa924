use Rattle.model_documents.proofs.Apart.{ids_apart}
use Rattle.model_documents.proofs.ParentsFirst.{parents_first}
use Rattle.model_documents.proofs.Fitting.{documents_fit}
use Rattle.model_documents.proofs.laws.law_of_documents.Goals as goal

pub returns : goal.returns
returns c = record { apart = ids_apart; parents = parents_first; fit = documents_fit }
