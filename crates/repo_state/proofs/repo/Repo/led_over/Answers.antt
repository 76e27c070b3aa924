-- the model that is handed over is the working model, as it is when made anew
use Rattle.std.proofs.Common.{sym}
use Rattle.repo_state.specs.Keeping.{plain_of}
use Rattle.repo_state.proofs.Changing.{working_is}
use Rattle.repo_state.proofs.Could.{base_good}
use Rattle.repo_state.proofs.LedOver.{base_below, base_led, model_folded, model_led}
use Rattle.repo_state.proofs.repo.Repo.led_over.Goals as goal

pub model_from-requires-clause-there : goal.model_from-requires-clause-there
model_from-requires-clause-there c =
    base_below c.args.self.now c.in-Some.begun.now.meta c.in-Some.begun.now.history.history c.args.to (plain_of c.in-Some-workspace-2.workspace.now)
    c.recall_order.ensures c.in-Some.ensures.meta c.in-Some.ensures.history (sym c.in-Some-workspace-2.ensures.found)

pub model_from-requires-clause-base : goal.model_from-requires-clause-base
model_from-requires-clause-base c =
    base_led c.args.self.now c.in-Some.begun.now.meta c.in-Some.begun.now.history.history c.args.to (plain_of c.in-Some-workspace-2.workspace.now)
    c.recall_order.ensures c.in-Some.ensures.meta c.in-Some.ensures.history (sym c.in-Some-workspace-2.ensures.found)

pub model_from-requires-clause-leads : goal.model_from-requires-clause-leads
model_from-requires-clause-leads c =
    model_led c.args.self.now c.in-Some.begun.now.meta c.in-Some.begun.now.history.history c.args.to (plain_of c.in-Some-workspace-2.workspace.now)
    c.recall_order.ensures c.in-Some.ensures.meta c.in-Some.ensures.history (sym c.in-Some-workspace-2.ensures.found)

pub model_from-requires-clause-other_there : goal.model_from-requires-clause-other_there
model_from-requires-clause-other_there c =
    base_below c.args.self.now c.in-Some.begun.now.meta c.in-Some.begun.now.history.history c.args.from (plain_of c.in-Some-workspace.other.now)
    c.recall_order.ensures c.in-Some.ensures.meta c.in-Some.ensures.history (sym c.in-Some-workspace.ensures.found)

pub model_from-requires-clause-other_base : goal.model_from-requires-clause-other_base
model_from-requires-clause-other_base c =
    base_led c.args.self.now c.in-Some.begun.now.meta c.in-Some.begun.now.history.history c.args.from (plain_of c.in-Some-workspace.other.now)
    c.recall_order.ensures c.in-Some.ensures.meta c.in-Some.ensures.history (sym c.in-Some-workspace.ensures.found)

pub model_from-requires-clause-other_good : goal.model_from-requires-clause-other_good
model_from-requires-clause-other_good c =
    base_good c.args.self.now c.in-Some.begun.now.meta c.in-Some.begun.now.history.history c.args.from (plain_of c.in-Some-workspace.other.now)
    c.in-Some.ensures.meta c.in-Some.ensures.history (sym c.in-Some-workspace.ensures.found) c.recall_order.ensures c.recall_soundness.ensures

pub model_from-requires-clause-model : goal.model_from-requires-clause-model
model_from-requires-clause-model c =
    model_folded c.args.self.now c.in-Some.begun.now.meta c.in-Some.begun.now.history.history c.args.from (plain_of c.in-Some-workspace.other.now)
    c.recall_order.ensures c.in-Some.ensures.meta c.in-Some.ensures.history (sym c.in-Some-workspace.ensures.found) c.args.model c.requires.model

pub returns-in-Ok : goal.returns-in-Ok
returns-in-Ok c = record {
  model = working_is c.args.self.now c.args.to c.in-Some.begun.now.meta c.in-Some.begun.now.history.history (plain_of c.in-Some-workspace-2.workspace.now)
      c.in-Ok.model c.in-Some.ensures.meta c.in-Some.ensures.history (sym c.in-Some-workspace-2.ensures.found) c.in-Ok.ensures.model c.in-Ok.ensures.good;
}
