use Rattle.std.proofs.Common.{◌≡◌, subst, sym, true, is_some, [], ◌∷◌, Option, Ok}
use Rattle.std.specs.Prelude.{IfSome}
use Rattle.model_state.specs.State as models
use Rattle.model_state.specs.Packages.{fold_package}
use Rattle.model_state.specs.declared.operation.Operation.{Operation}
use Rattle.model_documents.proofs.Fitting.{documents_fit}
use Rattle.import_laws.specs.Import.{Imports}
use Rattle.repo_state.specs.Keeping.{plain_of}
use Rattle.repo_state.specs.Working.{IsWorkingModel}
use Rattle.repo_answers.proofs.Playable.{each_could, edit_could}
use Rattle.repo_answers.proofs.Following.{imported_follows}
use Rattle.repo_answers.proofs.deciding.recording.decide_import.Goals as goal

pub recall_settled-requires : goal.recall_settled-requires
recall_settled-requires c = record {
  meta = c.requires.meta;
  there = sym c.in-Some.ensures.found;
  model = subst (λ r. IfSome r (λ m. IsWorkingModel c.args.repo.now c.args.ws m.now)) c.in-Some-model.is c.requires.model;
}

pub import_doc-requires : goal.import_doc-requires
import_doc-requires c = record { fits = documents_fit c.args.begun.now.meta c.recall_promises.ensures c.args.text.now c.in-Ok.doc.rows c.in-Ok.ensures.read }

pub with_operation-requires : goal.with_operation-requires
with_operation-requires c =
    let s = c.args.repo.now in
    let meta = c.args.begun.now.meta in
    let w = plain_of c.in-Some.workspace.now in
    record {
      could = each_could c.in-Ok-import_doc.operation _ (λ o is.
          edit_could s s.meta meta c.args.ws w o c.requires.meta (sym c.in-Some.ensures.found)
          (subst (λ (n : models.State). is_some (fold_package meta n (o ∷ [])) ≡ true) c.recall_settled.ensures.model
          (imported_follows meta c.recall_promises.ensures c.in-Some-model.model.now c.recall_settled.ensures.good c.args.ws c.args.text.now c.in-Ok.doc.rows o
          c.in-Ok.ensures.read
          (subst (λ (p : Option Operation). Imports meta c.in-Some-model.model.now c.args.ws c.in-Ok.doc.rows (Ok p)) is c.in-Ok-import_doc.ensures.made))));
    }
