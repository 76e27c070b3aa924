use Rattle.std.proofs.Common.{◌∙◌, ⊎_elim, inl, inr, List, Some, ap, subst, sym}
use Rattle.std.specs.List.{Contains}
use Rattle.repo_state.specs.declared.sizes.Size.{Size}
use Rattle.repo_state.specs.Sizes.{sized}
use Rattle.repo_state.proofs.Sized.{but_one}
use Rattle.repo_state.proofs.sizes.Sizes.forget.Goals as goal

pub returns : goal.returns
returns c = record {
  stays = λ i has. ⊎_elim
      (λ there. inl (subst (λ (l : List Size). Contains (sized l) i) (sym c.without.ensures.items) there))
      (λ is. inr (c.in-Some.is ∙ ap Some is))
      (but_one c.in-Some.at i c.args.self.now.sizes.items has);
}
