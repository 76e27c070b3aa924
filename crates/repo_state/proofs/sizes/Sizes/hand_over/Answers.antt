use Rattle.std.proofs.Common.{◌∙◌, ⊎_elim, inl, inr, List, subst, sym}
use Rattle.std.specs.List.{Contains}
use Rattle.repo_state.specs.declared.sizes.Size.{Size}
use Rattle.repo_state.specs.Sizes.{sized}
use Rattle.repo_state.proofs.Sized.{but_one, pushed}
use Rattle.repo_state.proofs.sizes.Sizes.hand_over.Goals as goal

pub returns-then-is_err : goal.returns-then-is_err
returns-then-is_err c = record {
  stays = λ i has. ⊎_elim
      (λ there. inl (subst (λ (l : List Size). Contains (sized l) i) (sym (c.reserve.ensures.items ∙ c.without.ensures.items)) there))
      (λ is. inr is)
      (but_one c.args.from i c.args.self.now.sizes.items has);
}

pub returns : goal.returns
returns c = record {
  stays = λ i has. ⊎_elim
      (λ there. inl (subst (λ (l : List Size). Contains (sized l) i) (sym c.push_reserved.ensures.items)
      (pushed c.reserve.new.self.items _ i
      (inl (subst (λ (l : List Size). Contains (sized l) i) (sym (c.reserve.ensures.items ∙ c.without.ensures.items)) there)))))
      (λ is. inr is)
      (but_one c.args.from i c.args.self.now.sizes.items has);
}
