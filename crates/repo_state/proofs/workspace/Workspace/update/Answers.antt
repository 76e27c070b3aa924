use Rattle.std.proofs.Common.{◌≡◌, ◌∙◌, List, Some, subst, sym}
use Rattle.history_tree.specs.States.{state_of}
use Rattle.model_state.specs.Good.{Good}
use Rattle.model_state.specs.Packages.{fold_package}
use Rattle.model_state.specs.declared.operation.Operation.{Operation}
use Rattle.plain_repository.specs.State.{folded}
use Rattle.repo_state.specs.Keeping.{plain_of}
use Rattle.repo_state.specs.Planning.{restarted}
use Rattle.repo_state.proofs.Taken.{closed_folded_is, updated_fits}
use Rattle.repo_state.proofs.workspace.Workspace.update.Goals.{in-None, in-Some}
use Rattle.repo_state.proofs.workspace.Workspace.update.Goals as goal

pub updated_model-model-requires-clause-mine : goal.updated_model-model-requires-clause-mine
updated_model-model-requires-clause-mine c =
    let meta = c.args.meta.now in
    let h = c.args.history.now.history in
    let w = plain_of c.args.self.now in
    let m = c.in-Some.model in
    let value = c.take.ensures.value in
    let there = c.in-Some.is in
    let model : c.args.self.now.model ≡ Some m = cc in
    let whole = c.from_vec-mine.ensures in
    let moved = c.replace.ensures.value in
    let same : c.from_vec-mine.result ≡ w.operations = cc in
    subst (λ (os : List Operation). fold_package meta (state_of meta h w.base) os ≡ Some m) (sym same)
    (sym (closed_folded_is meta h w c.requires.closed) ∙ (c.requires.fits m model).0)

pub returns-clause-fits : goal.returns-clause-fits
returns-clause-fits c = λ m is. elim c.match-take.branch [
  | in-None w ↦ (let none = w.model-is in absurd cc)
  | in-Some w ↦ (
      let meta = c.args.meta.now in
      let h = c.args.history.now.history in
      let old = plain_of c.args.self.now in
      subst (λ (os : List Operation). (folded meta h (restarted c.args.updated.base os old) ≡ Some m) × Good meta m) (sym c.fitted.ensures)
      (updated_fits meta h old c.args.updated.base c.args.updated.operations w.updated_model-model.result m (sym w.model-is ∙ is)
      w.updated_model-model.ensures.after w.updated_model-model.ensures.good c.requires.closed))
]
