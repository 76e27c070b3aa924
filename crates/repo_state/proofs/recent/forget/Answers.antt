use Rattle.std.proofs.Common.{arith}
use Rattle.repo_state.proofs.Changing.{set_at}
use Rattle.repo_state.proofs.recent.forget.Goals as goal

pub returns-then-at-len-clause-same : goal.returns-then-at-len-clause-same
returns-then-at-len-clause-same c =
    set_at c.args.workspaces.now.items c.in-Some.at c.index_mut.result.now _ c.drop_model.new.place
    (omega (arith, c.if-at-len.true, c.len.ensures)) c.index_mut.ensures.value c.drop_model.ensures.same
