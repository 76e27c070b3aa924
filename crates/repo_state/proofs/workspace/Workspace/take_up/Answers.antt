use Rattle.std.proofs.Common.{◌≡◌, ◌∙◌, Some, ap, is_some, subst, sym}
use Rattle.model_state.specs.Good.{Good}
use Rattle.model_state.specs.Packages.{fold_package}
use Rattle.plain_repository.specs.State.{Workspace, folded}
use Rattle.repo_state.specs.Keeping.{plain_of}
use Rattle.repo_state.proofs.Taken.{merged_fits, taken_folded}
use Rattle.repo_state.proofs.workspace.Workspace.take_up.Goals.{in-None, in-Some}
use Rattle.repo_state.proofs.workspace.Workspace.take_up.Goals as goal

pub model_after-model-requires-clause-leads : goal.model_after-model-requires-clause-leads
model_after-model-requires-clause-leads c =
    let meta = c.args.meta.now in
    let h = c.args._history.now.history in
    let m = c.in-Some.model in
    let value = c.take.ensures.value in
    let there = c.in-Some.is in
    let model : c.args.self.now.model ≡ Some m = cc in
    ap is_some (ap (fold_package meta m) c.as_slice.ensures
    ∙ sym (taken_folded meta h (plain_of c.args.self.now) c.args.merged.more c.args.merged.version m c.requires.closed
    (c.requires.fits m model).0)) ∙ c.requires.leads

pub returns-clause-fits : goal.returns-clause-fits
returns-clause-fits c = λ m is. elim c.match-take.branch [
  | in-None w ↦ (let none = w.model-is in absurd cc)
  | in-Some w ↦ (
      let meta = c.args.meta.now in
      let h = c.args._history.now.history in
      let value = c.take.ensures.value in
      let there = w.in-Some.is in
      let model : c.args.self.now.model ≡ Some w.in-Some.model = cc in
      subst (λ (v : Workspace). (folded meta h v ≡ Some m) × Good meta m) (sym c.in_ok-append_merged.ensures.taken)
      (merged_fits meta h (plain_of c.args.self.now) c.args.merged.more w.as_slice.result.now c.args.merged.version w.in-Some.model
      w.model_after-model.result m (sym w.model-is ∙ is)
      w.model_after-model.ensures.after w.model_after-model.ensures.good w.as_slice.ensures c.requires.closed (c.requires.fits w.in-Some.model model).0))
]
