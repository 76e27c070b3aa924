use Rattle.std.proofs.Common.{◌<◌, ◌∙◌, ◌∷◌, ◌++◌, [], List, length, ap, subst, sym, arith}
use Rattle.std.specs.List.{Contains}
use Rattle.repo_state.specs.declared.sizes.Size.{Size}
use Rattle.repo_state.specs.Sizes.{sized}
use Rattle.repo_state.proofs.Sized.{moved}
use Rattle.repo_state.proofs.sizes.Sizes.put_last.Goals as goal

pub returns : goal.returns
returns c = record {
  stays = λ i has.
      let size = c.remove-size.result in
      let below : c.in-Some.place < length c.args.self.now.sizes.items =
      grind (arith, c.in-Some.ensures.bound, c.iter.ensures.len, c.deref.ensures.len, c.deref.ensures.value) in
      subst (λ (l : List Size). Contains (sized l) i)
      (sym (c.push_reserved.ensures.items ∙ ap (λ (l : List Size). l ++ size ∷ []) c.remove-size.ensures.items))
      (moved c.args.self.now.sizes.items c.in-Some.place i size below c.remove-size.ensures.value has);
}
