use Rattle.edits.proofs.Fresh.{fresh_is_first, first_is_fresh, fresh_is_id}
use Rattle.edits.proofs.laws.law_of_fresh_ids.Goals as goal

pub returns-clause-first : goal.returns-clause-first
returns-clause-first c = fresh_is_first

pub returns-clause-only : goal.returns-clause-only
returns-clause-only c = first_is_fresh

pub returns-clause-form : goal.returns-clause-form
returns-clause-form c = fresh_is_id
