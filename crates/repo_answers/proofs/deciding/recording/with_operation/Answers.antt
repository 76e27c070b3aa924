use Rattle.std.proofs.Common.{◌≡◌, ap, subst, sym, ◌∙◌, true, Option, List, [], ◌∷◌, ◌++◌, refl}
use Rattle.std.specs.Prelude.{IfSome}
use Rattle.op_form.specs.declared.event.Event.TheVariants.{Edit}
use Rattle.model_state.specs.declared.operation.Operation.{Operation}
use Rattle.plain_repository.specs.Events.{playable_with}
use Rattle.repo_answers.proofs.deciding.recording.with_operation.Goals as goal

pub with_room-requires : goal.with_room-requires
with_room-requires c = record {
  could = subst (λ (l : List Operation). playable_with c.args.repo.now c.args.repo.now.meta (Edit c.args.ws l) ≡ true)
      (sym (c.in_ok-push.ensures.ok ∙ ap (λ (l : List Operation). l ++ c.in-Some.operation ∷ []) c.new-package.ensures))
      (subst (λ (o : Option Operation). IfSome o (λ x. playable_with c.args.repo.now c.args.repo.now.meta (Edit c.args.ws (x ∷ [])) ≡ true))
      c.in-Some.is c.requires.could);
  suits = refl;
}
