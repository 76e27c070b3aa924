use Rattle.script_lang.proofs.LineLemmas.{line_tells}
use Rattle.repo_answers.proofs.deciding.decide.Goals as goal

pub decide_command-requires-clause-command : goal.decide_command-requires-clause-command
decide_command-requires-clause-command c = (line_tells c.args.line.now c.in-Ok.command c.in-Ok.ensures.command).0
