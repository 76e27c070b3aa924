-- By which of the two rules it is.
use Rattle.std.proofs.Common.{sym, ◌∙◌}
use Rattle.canoniser.proofs.Leaving.{back_left, join_left}
use Rattle.canoniser.proofs.joining.left_of.Goals as goal

pub returns-then-takes_back : goal.returns-then-takes_back
returns-then-takes_back c = back_left c.args.a.now c.args.b.now (sym c.takes_back.ensures ∙ c.if-takes_back.true)

pub returns : goal.returns
returns c = join_left c.args.a.now c.args.b.now c.in_ok-left.left (sym c.takes_back.ensures ∙ c.if-takes_back.false) c.requires.met c.in_ok-left.ensures
