use Rattle.std.proofs.Common.{◌∙◌, ◌∷◌, ◌++◌, [], ⊎_elim, inl, inr, List, ap, subst, sym}
use Rattle.std.specs.List.{Contains}
use Rattle.repo_state.specs.declared.sizes.Size.{Size}
use Rattle.repo_state.specs.Sizes.{sized}
use Rattle.repo_state.proofs.Sized.{but_one, pushed}
use Rattle.repo_state.proofs.sizes.Sizes.note.Goals as goal

pub returns-clause-stays : goal.returns-clause-stays
returns-clause-stays c = λ i has.
    let size = c.size_of-size.result in
    let before = subst (λ (l : List Size). Contains (sized l) i) (sym c.reserve.ensures.items) has in
    subst (λ (l : List Size). Contains (sized l) i) (sym c.push_reserved.ensures.items)
    (pushed c.without.new.sizes.items size i
    (⊎_elim (λ there. inl (subst (λ (l : List Size). Contains (sized l) i) (sym c.without.ensures.items) there)) (λ is. inr (c.size_of-size.ensures ∙ is))
    (but_one c.args.at i c.reserve.new.self.items before)))
