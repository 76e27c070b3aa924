use Rattle.std.proofs.Common.{◌≡◌, ℕ, List, subst}
use Rattle.std.specs.Prelude.{IfOk}
use Rattle.plain_repository.specs.Answers.{with_room}
use Rattle.repo_answers.specs.Decisions.{plain_decision}
use Rattle.repo_answers.proofs.deciding.answers.with_words.Goals as goal

pub returns-in-Ok-clause-decision : goal.returns-in-Ok-clause-decision
returns-in-Ok-clause-decision c = λ x is.
    subst (λ (y : List ℕ). IfOk c.with_room.result (λ d. plain_decision d ≡ with_room c.args.repo.now c.args.lines y c.args.event))
    (subst (λ r. IfOk r (λ w. w ≡ x)) c.in-Ok.is is) c.with_room.ensures.decision
