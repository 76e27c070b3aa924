use Rattle.std.proofs.Common.{◌≡◌, List, sym, ◌∙◌, ap, subst}
use Rattle.std.specs.Prelude.{IfOk}
use Rattle.model_state.specs.Packages.{steps_all}
use Rattle.model_state.specs.Steps.{first_stop}
use Rattle.plain_repository.specs.Answers as plain
use Rattle.plain_repository.specs.Applying.{with_operations}
use Rattle.plain_repository.specs.State.{State, model_of, workspace_of}
use Rattle.repo_answers.specs.Decisions.{plain_decision}
use Rattle.repo_answers.specs.Needs.{IsStop}
use Rattle.repo_answers.proofs.Applied.{could_apply, none_applied, some_applied, taken_there}
use Rattle.repo_answers.proofs.deciding.applying.apply_package.Goals as goal

pub stop_of-requires-clause-there : goal.stop_of-requires-clause-there
stop_of-requires-clause-there c = taken_there (workspace_of c.args.repo.now c.args.ws) c.args.«package» c.requires.takes

pub with_operations-requires : goal.with_operations-requires
with_operations-requires c = record {
  could = could_apply c.args.repo.now c.stop_of.new.repo c.args.ws c.args.«package» c.stop_of.ensures.same c.requires.begun c.requires.takes
      (subst (IsStop c.args.repo.now c.args.ws c.args.«package») c.in-Ok-None.field-0-is c.in-Ok-None.ensures.stop);
}

pub returns-in-Ok-None-clause-decision : goal.returns-in-Ok-None-clause-decision
returns-in-Ok-None-clause-decision c = λ meta w begun there.
    let s = c.args.repo.now in
    let stop = subst (IsStop s c.args.ws c.args.«package») c.in-Ok-None.field-0-is c.in-Ok-None.ensures.stop meta w begun there in
    subst (λ (d : plain.Decision). IfOk c.with_operations.result (λ r. plain_decision r ≡ d))
    (ap (λ (t : State). with_operations t c.args.ws c.args.«package») c.stop_of.ensures.same
    ∙ none_applied s c.args.ws c.args.«package» (first_stop meta (model_of meta s.history w) (steps_all c.args.«package»)) stop)
    c.with_operations.ensures.decision
