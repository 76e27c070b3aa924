use Rattle.std.proofs.Common.{◌∙◌, sym, arith}
use Rattle.history_tree.specs.Marks.{is_flagged}
use Rattle.history_tree.proofs.Bases.{passes_last, passes_before}
use Rattle.history_tree.proofs.history.History.last_flagged.Goals as goal

pub loop-at-preserved : goal.loop-at-preserved
loop-at-preserved c =
    let at = c.loop-at.at in
    record {
      there = omega (arith, c.loop-at.invariant.there, c.parent_of-at.ensures.before);
      same = sym (passes_before c.args.self.now.history
          (is_flagged c.args.flags.now) at c.parent_of-at.result c.parent_of-at.ensures.path c.loop-at-test.true) ∙ c.loop-at.invariant.same;
    }

pub returns-clause-last : goal.returns-clause-last
returns-clause-last c =
    sym (passes_last c.args.self.now.history c.recall_wholeness.ensures
    (is_flagged c.args.flags.now) c.loop-at.at c.loop-at.invariant.there c.loop-at-test.false) ∙ c.loop-at.invariant.same
