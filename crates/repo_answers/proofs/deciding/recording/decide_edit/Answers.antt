use Rattle.std.proofs.Common.{◌≡◌, subst, sym, true, is_some, [], ◌∷◌}
use Rattle.std.specs.Prelude.{IfSome}
use Rattle.model_state.specs.State as models
use Rattle.model_state.specs.Packages.{fold_package}
use Rattle.repo_state.specs.Keeping.{plain_of}
use Rattle.repo_state.specs.Working.{IsWorkingModel}
use Rattle.repo_answers.proofs.Playable.{each_could, edit_could}
use Rattle.repo_answers.proofs.Following.{recorded_follows}
use Rattle.repo_answers.proofs.deciding.recording.decide_edit.Goals as goal

pub recall_settled-requires : goal.recall_settled-requires
recall_settled-requires c = record {
  meta = c.requires.meta;
  there = sym c.in-Some.ensures.found;
  model = subst (λ r. IfSome r (λ m. IsWorkingModel c.args.repo.now c.args.ws m.now)) c.in-Some-model.is c.requires.model;
}

pub with_operation-requires : goal.with_operation-requires
with_operation-requires c =
    let s = c.args.repo.now in
    let meta = c.args.begun.now.meta in
    let w = plain_of c.in-Some.workspace.now in
    record {
      could = each_could c.in-Ok.recorded.operation _ (λ o is.
          edit_could s s.meta meta c.args.ws w o c.requires.meta (sym c.in-Some.ensures.found)
          (subst (λ (n : models.State). is_some (fold_package meta n (o ∷ [])) ≡ true) c.recall_settled.ensures.model
          (recorded_follows meta c.recall_soundness.ensures c.in-Some-model.model.now c.recall_settled.ensures.good c.args.ws c.args.edit.now c.in-Ok.recorded o
          c.in-Ok.ensures.recorded is)));
    }
