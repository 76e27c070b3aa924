use Rattle.std.proofs.Common.{◌≡◌, ◌<◌, ◌∙◌, sym, subst, arith, ap}
use Rattle.history_tree.specs.MergeBase.{last_common, IsLastCommon}
use Rattle.history_tree.proofs.Bases.{common_same, common_first, common_second, common_last}
use Rattle.history_tree.proofs.history.History.last_common.Goals as goal

pub loop-first-preserved : goal.loop-first-preserved
loop-first-preserved c =
    let first = c.loop-first.first in
    let second = c.loop-first.second in
    let later : second < first = omega (arith, c.loop-first-test.true, c.if-first-second.false) in
    record {
      first_there = omega (arith, c.loop-first.invariant.first_there, c.parent_of-first.ensures.before);
      second_there = c.loop-first.invariant.second_there;
      same = common_first c.args.self.now.history c.recall_wholeness.ensures first second c.parent_of-first.result c.loop-first.invariant.second_there later
          c.parent_of-first.ensures.path ∙ c.loop-first.invariant.same;
    }

pub loop-first-preserved-then-first-second : goal.loop-first-preserved-then-first-second
loop-first-preserved-then-first-second c =
    let first = c.loop-first.first in
    let second = c.loop-first.second in
    record {
      first_there = c.loop-first.invariant.first_there;
      second_there = omega (arith, c.loop-first.invariant.second_there, c.parent_of-second.ensures.before);
      same = common_second c.args.self.now.history c.recall_wholeness.ensures first second c.parent_of-second.result c.loop-first.invariant.first_there
          c.if-first-second.true c.parent_of-second.ensures.path ∙ c.loop-first.invariant.same;
    }

found : (c : goal.After-loop-first) → c.loop-first.first ≡ last_common c.args.self.now.history c.args.a c.args.b
found c =
    let h = c.args.self.now.history in
    sym (common_same h c.recall_wholeness.ensures c.loop-first.first c.loop-first.invariant.first_there)
    ∙ ap (λ k. last_common h c.loop-first.first k) c.loop-first-test.false
    ∙ c.loop-first.invariant.same

pub returns : goal.returns
returns c =
    let h = c.args.self.now.history in
    record {
      common = found c;
      last = subst (λ v. IsLastCommon h c.args.a c.args.b v) (sym (found c))
          (common_last h c.recall_wholeness.ensures c.args.a c.args.b c.requires.first c.requires.second);
      there = c.loop-first.invariant.first_there;
    }
