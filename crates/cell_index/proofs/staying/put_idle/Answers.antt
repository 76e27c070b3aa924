-- the list with one number more
use Rattle.std.proofs.Common.{sym, subst}
use Rattle.cell_index.specs.Standing.{Rise}
use Rattle.cell_index.proofs.Rises.{rise_push}
use Rattle.cell_index.proofs.Touching.{length_none}
use Rattle.cell_index.proofs.staying.put_idle.Goals as goal

pub returns-in_ok-push-clause-rise : goal.returns-in_ok-push-clause-rise
returns-in_ok-push-clause-rise c = λ h. subst (Rise 0 c.args.place) (sym c.in_ok-push.ensures.items) (rise_push 0 c.args.place c.args.list.now.items h)

pub returns-else-cells-eq0-clause-listed : goal.returns-else-cells-eq0-clause-listed
returns-else-cells-eq0-clause-listed c = λ none. absurd (c.if-cells-eq0.false (length_none c.args.cells.now none))
