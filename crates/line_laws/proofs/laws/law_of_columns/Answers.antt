-- The law holds by the exact reading of lines.
use Rattle.line_laws.proofs.Lines.{columns_are_first, same_lines_are_refused_alike}
use Rattle.line_laws.proofs.laws.law_of_columns.Goals as goal

pub returns-clause-first : goal.returns-clause-first
returns-clause-first c = columns_are_first

pub returns-clause-alike : goal.returns-clause-alike
returns-clause-alike c = same_lines_are_refused_alike
