use Rattle.std.proofs.Common.{◌≡◌, ◌∙◌, List, Some, subst, sym}
use Rattle.history_tree.specs.States.{state_of}
use Rattle.model_state.specs.Packages.{fold_package}
use Rattle.model_state.specs.declared.operation.Operation.{Operation}
use Rattle.version_states.specs.Taking.{LedTo}
use Rattle.repo_state.specs.Keeping.{plain_of}
use Rattle.repo_state.proofs.Taken.{closed_folded_is, closed_led, started}
use Rattle.repo_state.proofs.workspace.Workspace.rewind.Goals as goal

pub model_before-requires-clause-led : goal.model_before-requires-clause-led
model_before-requires-clause-led c =
    let w = plain_of c.args.self.now in
    let m = c.in_ok-model.model in
    let value = c.take.ensures.value in
    let was = c.in_ok-model.was in
    let model : c.args.self.now.model ≡ Some m = cc in
    let whole = c.from_vec-operations.ensures in
    let moved = c.replace.ensures.value in
    let same : c.from_vec-operations.result ≡ w.operations = cc in
    subst (λ (os : List Operation). LedTo c.args.meta.now os m) (sym same)
    (closed_led c.args.meta.now c.args._history.now.history w m c.requires.closed c.requires.base (c.requires.fits m model).0)

pub returns-clause-state : goal.returns-clause-state
returns-clause-state c =
    let meta = c.args.meta.now in
    let h = c.args._history.now.history in
    let w = plain_of c.args.self.now in
    let m = c.in_ok-model.model in
    let value = c.take.ensures.value in
    let was = c.in_ok-model.was in
    let model : c.args.self.now.model ≡ Some m = cc in
    let whole = c.from_vec-operations.ensures in
    let moved = c.replace.ensures.value in
    let same : c.from_vec-operations.result ≡ w.operations = cc in
    started meta c.requires.sound (state_of meta h w.base) m c.from_vec-operations.result c.model_before.result c.requires.base
    (subst (λ (os : List Operation). fold_package meta (state_of meta h w.base) os ≡ Some m) (sym same)
    (sym (closed_folded_is meta h w c.requires.closed) ∙ (c.requires.fits m model).0))
    c.model_before.ensures.before c.model_before.ensures.good
