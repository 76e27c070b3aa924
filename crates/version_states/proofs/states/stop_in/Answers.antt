use Rattle.std.proofs.Common.{◌≡◌, List, Option, Some, take, ⊎_elim, ◌∙◌, ap, sym, subst}
use Rattle.std.specs.Prelude.{option_map}
use Rattle.model_state.specs.declared.step.ApplyFault.{ApplyFault}
use Rattle.model_state.specs.declared.step.Step.{Step}
use Rattle.model_state.specs.Steps.{first_stop, fold}
use Rattle.version_states.proofs.Taking.{no_stop_in, put_back}
use Rattle.version_states.proofs.states.stop_in.Goals as goal

pub untake-requires-clause-led : goal.untake-requires-clause-led
untake-requires-clause-led c = record {
  before = c.args.model.now;
  good = c.requires.good;
  run = subst (λ (l : List Step). fold c.args.meta.now c.args.model.now l ≡ Some c.take_in_order.new.self)
      (c.as_slice.ensures.value ∙ sym c.from_vec.ensures) c.in-Ok.ensures.done;
}

pub untake-requires-in_default : goal.untake-requires-in_default
untake-requires-in_default c = record {
  sound = c.recall_soundness.ensures;
  led = record {
    before = c.args.model.now;
    good = c.requires.good;
    run = subst (λ (l : List Step). fold c.args.meta.now c.args.model.now l ≡ Some c.take_in_order.new.self)
        (ap (take c.in-Err.stop.at) c.as_slice.ensures.value ∙ sym (c.from_vec-in_default.ensures ∙ c.truncate.ensures.items)) c.in-Err.ensures.taken;
  };
}

pub returns-in_ok-untake-in-Ok-clause-stop : goal.returns-in_ok-untake-in-Ok-clause-stop
returns-in_ok-untake-in-Ok-clause-stop c =
    let same = c.as_slice.ensures.value ∙ c.into_vec-steps.ensures ∙ c.in_ok-copy_steps.ensures in
    sym (ap (λ (o : Option ApplyFault). option_map (λ (x : ApplyFault). x.at) o)
    (ap (first_stop c.args.meta.now c.args.model.now) (sym same)
    ∙ no_stop_in c.args.meta.now c.args.model.now c.take_in_order.new.self c.as_slice.result.now c.in-Ok.ensures.done))

pub returns-in_ok-untake-in-Ok-clause-same : goal.returns-in_ok-untake-in-Ok-clause-same
returns-in_ok-untake-in-Ok-clause-same c =
    put_back c.args.meta.now c.recall_soundness.ensures c.args.model.now c.untake.new.model c.take_in_order.new.self c.as_slice.result.now c.from_vec.result
    c.requires.good c.in_ok-untake-in-Ok.ensures.good c.in-Ok.ensures.done (c.from_vec.ensures ∙ sym c.as_slice.ensures.value)
    c.in_ok-untake-in-Ok.ensures.back

pub returns-in_ok-untake-in_default : goal.returns-in_ok-untake-in_default
returns-in_ok-untake-in_default c =
    let same = c.as_slice.ensures.value ∙ c.into_vec-steps.ensures ∙ c.in_ok-copy_steps.ensures in
    let at = ⊎_elim (λ memory. absurd (c.in_default.not-Memory memory)) (λ at. at) c.in-Err.ensures.cannot in
    let steps = take c.in-Err.stop.at c.as_slice.result.now in
    let left = c.from_vec-in_default.ensures ∙ c.truncate.ensures.items ∙ ap (take c.in-Err.stop.at) (sym c.as_slice.ensures.value) in
    record {
      stop = sym (ap (λ (o : Option ApplyFault). option_map (λ (x : ApplyFault). x.at) o) (ap (first_stop c.args.meta.now c.args.model.now) (sym same) ∙ at));
      same = put_back c.args.meta.now c.recall_soundness.ensures c.args.model.now c.untake-in_default.new.model c.take_in_order.new.self steps
          c.from_vec-in_default.result c.requires.good c.in_ok-untake-in_default.ensures.good c.in-Err.ensures.taken left
          c.in_ok-untake-in_default.ensures.back;
    }
