use Rattle.std.proofs.Common.{◌∙◌, ℕ, ap, subst, sym, List, Some}
use Rattle.std.specs.List.{Contains}
use Rattle.std.proofs.lemmas.Map.Made.{Contains-tail}
use Rattle.repo_state.specs.declared.sizes.Size.{Size}
use Rattle.repo_state.specs.Sizes.{sized}
use Rattle.repo_state.proofs.recent.let_go.Goals as goal

pub loop-out-preserved : goal.loop-out-preserved
loop-out-preserved c = record {
  same = c.forget.ensures.same ∙ c.loop-out.invariant.same;
  fits = λ meta h all. c.forget.ensures.fits meta h (c.loop-out.invariant.fits meta h all);
  kept = λ i keeps. c.loop-out.invariant.kept i (c.forget.ensures.gone i keeps).0;
  sized = λ i had keeps. let before = c.forget.ensures.gone i keeps in
      Contains-tail c.in-Some.out _ i (λ is. before.1 (ap Some is))
      (subst (λ (places : List ℕ). Contains places i) (sym c.in-Some.ensures.first) (c.loop-out.invariant.sized i had before.0));
}

pub returns-clause-sized : goal.returns-clause-sized
returns-clause-sized c = λ i had keeps.
    subst (λ (l : List Size). Contains (sized l) i) (sym c.in_default.ensures.same) (c.loop-out.invariant.sized i had keeps)
