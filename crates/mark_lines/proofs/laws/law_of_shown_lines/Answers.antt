use Rattle.mark_lines.proofs.Shown.{buckets_are_lines, json_is_whole, logs_are_lines, open_are_lines, operations_are_lines, packages_are_lines}
use Rattle.mark_lines.proofs.Shown.{shortages_are_lines, texts_are_lines}
use Rattle.mark_lines.proofs.laws.law_of_shown_lines.Goals as goal

pub returns-clause-json : goal.returns-clause-json
returns-clause-json c = json_is_whole

pub returns-clause-log : goal.returns-clause-log
returns-clause-log c = logs_are_lines

pub returns-clause-operations : goal.returns-clause-operations
returns-clause-operations c = operations_are_lines

pub returns-clause-composites : goal.returns-clause-composites
returns-clause-composites c = open_are_lines

pub returns-clause-packages : goal.returns-clause-packages
returns-clause-packages c = packages_are_lines

pub returns-clause-shortages : goal.returns-clause-shortages
returns-clause-shortages c = shortages_are_lines

pub returns-clause-buckets : goal.returns-clause-buckets
returns-clause-buckets c = buckets_are_lines

pub returns-clause-texts : goal.returns-clause-texts
returns-clause-texts c = texts_are_lines
