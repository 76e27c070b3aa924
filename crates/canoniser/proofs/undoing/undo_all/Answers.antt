-- By one step more.
use Rattle.std.proofs.Common.{sym, ◌∙◌}
use Rattle.model_state.specs.Steps.{rev_all}
use Rattle.merge_laws.specs.Joins.{steps_eq}
use Rattle.canoniser.proofs.Reversals.{unlike, differs, goes_on}
use Rattle.canoniser.proofs.undoing.undo_all.Goals as goal

pub returns-then-later-earlier : goal.returns-then-later-earlier
returns-then-later-earlier c = unlike c.args.later.now c.args.earlier.now c.if-later-earlier.true

pub returns-then-not-undoes : goal.returns-then-not-undoes
returns-then-not-undoes c =
    differs c.args.later.now c.args.earlier.now c.loop-i.i c.index-later-i.result c.index-earlier-earlier.result c.if-later-earlier.false
    c.loop-i-test.true c.index-later-i.is c.index-earlier-earlier.is
    (steps_eq c.args.later.now (rev_all c.args.earlier.now)) c.loop-i.invariant (sym c.undoes.ensures ∙ c.if-not-undoes.true)

pub loop-i-preserved : goal.loop-i-preserved
loop-i-preserved c =
    goes_on c.args.later.now c.args.earlier.now c.loop-i.i c.index-later-i.result c.index-earlier-earlier.result c.if-later-earlier.false
    c.loop-i-test.true c.index-later-i.is c.index-earlier-earlier.is
    (steps_eq c.args.later.now (rev_all c.args.earlier.now)) c.loop-i.invariant (sym c.undoes.ensures ∙ c.if-not-undoes.false)
