-- A metamodel that is extended preserves what was there.
use Rattle.plain_repository.proofs.Texts.{texts_stay, metamodels_grow, documents_become}
use Rattle.plain_repository.proofs.laws.law_of_metamodels.Goals as goal

pub returns-clause-grow : goal.returns-clause-grow
returns-clause-grow c = metamodels_grow

pub returns-clause-texts : goal.returns-clause-texts
returns-clause-texts c = texts_stay

pub returns-clause-document : goal.returns-clause-document
returns-clause-document c = documents_become
