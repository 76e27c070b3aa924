-- By cases on the event.
use Rattle.plain_repository.proofs.Reached.{branches_are_named, tags_are_named, tag_names_differ}
use Rattle.plain_repository.proofs.laws.law_of_names.Goals as goal

pub returns-clause-branches : goal.returns-clause-branches
returns-clause-branches c = branches_are_named

pub returns-clause-tags : goal.returns-clause-tags
returns-clause-tags c = tags_are_named

pub returns-clause-differ : goal.returns-clause-differ
returns-clause-differ c = tag_names_differ
