use Rattle.std.proofs.Common.{◌≡◌, List, ℕ, None, refl, ap, ◌∙◌, sym, subst}
use Rattle.std.specs.Prelude.{IfNone, is_ok}
use Rattle.ecore_json.specs.Metamodel.{metamodel_of}
use Rattle.repo_answers.proofs.Playable.{init_could}
use Rattle.repo_state.proofs.Initial.{none_of}
use Rattle.repo_answers.proofs.deciding.metamodels.decide_init.Goals as goal

pub with_event-requires : goal.with_event-requires
with_event-requires c =
    record {
      could = init_could c.args.repo.now c.args.repo.now.meta c.in_ok-text-in-Ok.text
          (subst (λ r. IfNone r (c.args.repo.now.meta ≡ None)) (none_of c.begun.result (sym c.is_some.ensures ∙ c.if-is_some.false)) c.begun.ensures.none)
          (ap (λ (t : List ℕ). is_ok (metamodel_of t)) c.in_ok-text-in-Ok.ensures ∙ c.in-Ok.ensures.reads);
      suits = refl;
    }
