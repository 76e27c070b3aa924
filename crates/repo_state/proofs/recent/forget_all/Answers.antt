use Rattle.std.proofs.Common.{◌≢◌, ◌∙◌, ap, Some, arith}
use Rattle.repo_state.proofs.Keepers.{none_left}
use Rattle.repo_state.proofs.recent.forget_all.Goals as goal

pub loop-at-preserved : goal.loop-at-preserved
loop-at-preserved c = record {
  same = c.forget.ensures.same ∙ c.loop-at.invariant.same;
  fits = λ meta h all. c.forget.ensures.fits meta h (c.loop-at.invariant.fits meta h all);
  left = λ i keeps.
      let before = c.forget.ensures.gone i keeps in
      let other : c.loop-at.at ≢ i = λ is. before.1 (ap Some is) in
      omega (arith, c.loop-at.invariant.left i before.0, other);
}

pub returns-clause-none : goal.returns-clause-none
returns-clause-none c =
    none_left c.args.workspaces.now.items c.loop-at.workspaces.items c.loop-at.at c.loop-at.invariant.same
    (omega (arith, c.loop-at-test.false, c.len-at-end.ensures)) c.loop-at.invariant.left
