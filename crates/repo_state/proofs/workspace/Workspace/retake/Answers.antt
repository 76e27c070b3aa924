use Rattle.std.proofs.Common.{◌≡◌, ◌≢◌, List, Option, None, Some, ◌∙◌, ap, sym, subst}
use Rattle.std.specs.Option.{option_map}
use Rattle.model_state.specs.declared.step.StepFault.TheVariants.{Memory}
use Rattle.model_state.specs.declared.operation.Operation.{Operation}
use Rattle.model_state.specs.Packages.{fold_package}
use Rattle.plain_repository.specs.State.{open_steps}
use Rattle.repo_state.specs.Keeping.{plain_of, plain_composite}
use Rattle.repo_state.specs.declared.workspace.Composite.{Composite}
use Rattle.repo_state.proofs.Folding.{first_none, both_done, second_none}
use Rattle.repo_state.proofs.workspace.Workspace.retake.Goals as goal

pub returns-in_err-follow-clause-cannot : goal.returns-in_err-follow-clause-cannot
returns-in_err-follow-clause-cannot c =
    let w = plain_of c.args.self.now in
    first_none c.args.meta.now c.args.model.now w.operations
    (open_steps w.composite) c.in_err-follow.field-0.0 c.from_residual.result c.from_residual.ensures.0 c.from_residual.ensures.1
    (subst (λ (os : List Operation). c.in_err-follow.field-0.0 ≢ Memory
    → fold_package c.args.meta.now c.args.model.now os ≡ None) c.as_slice-operations.ensures.value c.in_err-follow.ensures.cannot)

pub returns-in-Some-clause-done : goal.returns-in-Some-clause-done
returns-in-Some-clause-done c =
    let w = plain_of c.args.self.now in
    let same : open_steps w.composite ≡ c.as_slice-steps.result.now =
    ap (λ (o : Option Composite). open_steps (option_map plain_composite o)) c.in-Some.is ∙ sym c.as_slice-steps.ensures.value in
    let first = subst (λ (os : List Operation). fold_package c.args.meta.now c.args.model.now os ≡ Some c.follow.new.model)
    c.as_slice-operations.ensures.value c.in_ok-follow.ensures.done in
    both_done c.args.meta.now c.args.model.now c.follow.new.model c.take_steps.new.model w.operations
    (open_steps w.composite) c.as_slice-steps.result.now c.take_steps.result same first c.take_steps.ensures.done

pub returns-in-Some-clause-cannot : goal.returns-in-Some-clause-cannot
returns-in-Some-clause-cannot c =
    let w = plain_of c.args.self.now in
    let same : open_steps w.composite ≡ c.as_slice-steps.result.now =
    ap (λ (o : Option Composite). open_steps (option_map plain_composite o)) c.in-Some.is ∙ sym c.as_slice-steps.ensures.value in
    let first = subst (λ (os : List Operation). fold_package c.args.meta.now c.args.model.now os ≡ Some c.follow.new.model)
    c.as_slice-operations.ensures.value c.in_ok-follow.ensures.done in
    second_none c.args.meta.now c.args.model.now c.follow.new.model w.operations
    (open_steps w.composite) c.as_slice-steps.result.now c.take_steps.result same first c.take_steps.ensures.cannot
