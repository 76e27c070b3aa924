use Rattle.std.proofs.Common.{◌≡◌, refl, sym, ap, ◌∙◌, subst}
use Rattle.std.specs.Prelude.{IfOk}
use Rattle.plain_repository.specs.Answers.{Decision}
use Rattle.plain_repository.specs.Repository.{decide_command}
use Rattle.repo_answers.specs.Decisions.{plain_decision}
use Rattle.repo_state.specs.Working.{IsWorkingModel}
use Rattle.repo_answers.specs.Needs.{model_for}
use Rattle.repo_answers.proofs.Naming.{decided_alike, needs_alike}
use Rattle.repo_answers.proofs.Needed.{for_command}
use Rattle.repo_answers.proofs.deciding.decide_over.Goals as goal
use Rattle.model_state.specs.State as models

pub decide_on-requires-clause-model : goal.decide_on-requires-clause-model
decide_on-requires-clause-model c =
    let m = c.args.model.now in
    let command = c.args.command.now in
    for_command c.args.repo.now c.args.repo.now c.name_creation.new.command c.args.ws c.graph.result.now refl
    (ap model_for c.in_ok-name_creation.ensures.named ∙ needs_alike m command ∙ c.requires.needs)
    (subst (λ (x : models.State). IsWorkingModel c.args.repo.now c.args.ws x) (sym (c.graph.ensures ∙ c.name_creation.ensures.model)) c.requires.model)

pub returns-clause-decision : goal.returns-clause-decision
returns-clause-decision c =
    let s = c.args.repo.now in
    let block = c.args.block.now in
    subst (λ (d : Decision). IfOk c.decide_on.result (λ r. plain_decision r ≡ d))
    (ap (decide_command s block) c.in_ok-name_creation.ensures.named
    ∙ decided_alike s block c.args.command.now c.args.ws c.args.model.now c.requires.needs c.requires.model)
    c.decide_on.ensures.decision
