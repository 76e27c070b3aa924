use Rattle.std.proofs.Common.{◌≡◌, List, Some, sym, ◌∙◌, subst}
use Rattle.std.proofs.lemmas.Option.{same_Some}
use Rattle.model_state.specs.State.{State, nothing}
use Rattle.model_state.specs.Packages.{fold_package}
use Rattle.model_state.specs.declared.operation.Operation.{Operation}
use Rattle.history_tree.specs.States.{state_of}
use Rattle.op_reading.specs.declared.fault.FormFault.TheVariants.{NotForm}
use Rattle.version_states.proofs.Caching.{entry_read, entry_reads}
use Rattle.version_states.proofs.cached.read_state.Goals as goal

pub unreachable-requires : goal.unreachable-requires
unreachable-requires c =
    entry_reads c.args.meta.now (state_of c.args.meta.now c.args._history.now.history c.args._v) c.args.bytes.now
    (NotForm c.in-Err-NotForm.field-0-0) c.requires.form.1 (rw c.in-Err-NotForm.field-0-is at c.in-Err-NotForm.ensures.read)

pub returns-in-Ok-follow-clause-state : goal.returns-in-Ok-follow-clause-state
returns-in-Ok-follow-clause-state c =
    let meta = c.args.meta.now in
    let m = state_of meta c.args._history.now.history c.args._v in
    let leads : fold_package meta nothing c.in-Ok.package ≡ Some m =
    entry_read meta m c.args.bytes.now c.in-Ok.package c.requires.form.1 c.in-Ok.ensures.read in
    let run : fold_package meta nothing c.in-Ok.package ≡ Some c.follow.new.model =
    subst (λ (l : List Operation). fold_package meta nothing l ≡ Some c.follow.new.model) c.as_slice.ensures
    (subst (λ (n : State). fold_package meta n c.as_slice.result.now ≡ Some c.follow.new.model) c.new-model.ensures.empty c.in-Ok-follow.ensures.done) in
    same_Some c.follow.new.model m (sym run ∙ leads)

pub unreachable-requires-in_default : goal.unreachable-requires-in_default
unreachable-requires-in_default c =
    let meta = c.args.meta.now in
    let m = state_of meta c.args._history.now.history c.args._v in
    let leads : fold_package meta nothing c.in-Ok.package ≡ Some m =
    entry_read meta m c.args.bytes.now c.in-Ok.package c.requires.form.1 c.in-Ok.ensures.read in
    let here : fold_package meta c.new-model.result c.as_slice.result.now ≡ Some m =
    subst (λ (l : List Operation). fold_package meta c.new-model.result l ≡ Some m) (sym c.as_slice.ensures)
    (subst (λ (n : State). fold_package meta n c.in-Ok.package ≡ Some m) (sym c.new-model.ensures.empty) leads) in
    let none = c.in-Err.ensures.cannot c.in_default.not-Memory in
    absurd (cc (here, none))
