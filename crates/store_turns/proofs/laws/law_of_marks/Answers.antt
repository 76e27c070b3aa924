use Rattle.store_turns.proofs.MarkLaws.{guards_say_lines, marks_are_found, refusals_are_lines, replies_are_lines, turns_are_lines}
use Rattle.store_turns.proofs.laws.law_of_marks.Goals as goal

pub returns-clause-refusals : goal.returns-clause-refusals
returns-clause-refusals c = refusals_are_lines

pub returns-clause-replies : goal.returns-clause-replies
returns-clause-replies c = replies_are_lines

pub returns-clause-guards : goal.returns-clause-guards
returns-clause-guards c = guards_say_lines

pub returns-clause-turns : goal.returns-clause-turns
returns-clause-turns c = turns_are_lines

pub returns-clause-found : goal.returns-clause-found
returns-clause-found c = marks_are_found
