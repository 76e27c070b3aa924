use Rattle.std.proofs.Common.{◌<◌, arith, length}
use Rattle.history_tree.specs.declared.version.Branch.{Branch}
use Rattle.history_tree.proofs.Named.{knows_more, knows_same}
use Rattle.history_tree.proofs.history.enter_branch.Goals as goal

pub returns-in_err-enter : goal.returns-in_err-enter
returns-in_err-enter c =
    knows_same (λ (x : Branch). x.name) c.args.index.now c.enter.new.self c.args.branches.now c.requires.knows c.in_err-enter.ensures.same
    c.in_err-enter.ensures.same_count

pub returns : goal.returns
returns c =
    let low : c.args.index.now.entered < length c.args.branches.now = omega (arith, c.if-next-branches.false) in
    knows_more (λ (x : Branch). x.name) c.args.index.now c.enter.new.self c.args.branches.now c.as_str.result.now c.index-branches-next.result low
    c.as_str.ensures c.requires.knows c.in_ok-enter.ensures.numbers c.in_ok-enter.ensures.entered
