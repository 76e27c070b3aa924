use Rattle.script_lang.proofs.LineLemmas.{line_read, line_spelled, commands_have_lines}
use Rattle.script_lang.proofs.laws.law_of_lines.Goals as goal

pub returns-clause-read : goal.returns-clause-read
returns-clause-read c = line_read

pub returns-clause-spelled : goal.returns-clause-spelled
returns-clause-spelled c = line_spelled

pub returns-clause-there : goal.returns-clause-there
returns-clause-there c = commands_have_lines
