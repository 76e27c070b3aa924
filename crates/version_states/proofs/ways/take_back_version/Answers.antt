use Rattle.std.proofs.Common.{◌≡◌, [], List, Some, sym, ◌∙◌, ap, subst}
use Rattle.std.specs.Prelude.{Option, OnOk}
use Rattle.std.specs.Option.{option_map_or}
use Rattle.model_state.specs.declared.step.Step.{Step}
use Rattle.model_state.specs.Packages.{steps_all}
use Rattle.model_state.specs.Steps.{fold}
use Rattle.history_tree.specs.declared.version.Version.{Version}
use Rattle.history_tree.specs.States.{package_of_version}
use Rattle.version_states.specs.Taking.{StepsLedTo}
use Rattle.version_states.proofs.ways.take_back_version.Goals as goal

pub untake-requires-clause-led : goal.untake-requires-clause-led
untake-requires-clause-led c =
    let at : package_of_version c.args.history.now.history.versions c.args.v ≡ c.as_slice.result.now =
    ap (λ (o : Option Version). option_map_or (λ v. v.«package») o []) c.version.ensures.version ∙ sym c.as_slice.ensures in
    subst (λ (l : List Step). StepsLedTo c.args.meta.now l c.args.model.now) (ap steps_all at ∙ sym c.in_ok-taken.ensures) c.requires.led

pub returns-clause-back : goal.returns-clause-back
returns-clause-back c =
    let at : package_of_version c.args.history.now.history.versions c.args.v ≡ c.as_slice.result.now =
    ap (λ (o : Option Version). option_map_or (λ v. v.«package») o []) c.version.ensures.version ∙ sym c.as_slice.ensures in
    subst (λ (l : List Step). OnOk c.untake.result (fold c.args.meta.now c.untake.new.model l ≡ Some c.args.model.now))
    (c.in_ok-taken.ensures ∙ sym (ap steps_all at)) c.untake.ensures.back
