use Rattle.std.proofs.Common.{IfSome, subst, sym}
use Rattle.repo_state.specs.Working.{IsWorkingModel}
use Rattle.repo_answers.proofs.deciding.views.decide_validate.Goals as goal

pub recall_settled-requires : goal.recall_settled-requires
recall_settled-requires c = record {
  meta = c.requires.meta;
  there = sym c.in-Some.ensures.found;
  model = subst (λ r. IfSome r (λ m. IsWorkingModel c.args.repo.now c.args.ws m.now)) c.in-Some-model.is c.requires.model;
}
