-- something is written
use Rattle.std.proofs.Common.{◌∙◌}
use Rattle.cell_index.proofs.Touching.{length_none}
use Rattle.cell_index.proofs.staying.Standing.later_idle.Goals as goal

pub returns-else-len-eq0-clause-clear : goal.returns-else-len-eq0-clause-clear
returns-else-len-eq0-clause-clear c = λ none k has_k far hit. absurd (c.if-len-eq0.false (c.len.ensures ∙ length_none c.args.print.now.writes none))
