use Rattle.repo_state.specs.Keeping.{plain_of}
use Rattle.repo_state.proofs.LedOver.{base_again, recorded_led}
use Rattle.repo_state.proofs.workspace.Workspace.unwind.Goals as goal

pub take_back_all-requires-clause-led : goal.take_back_all-requires-clause-led
take_back_all-requires-clause-led c =
    recorded_led c.args.meta.now c.args._history.now.history (plain_of c.args.self.now) c.as_slice-operations.result.now c.open_steps-steps.result.now
    c.args.model c.as_slice-operations.ensures.value c.open_steps-steps.ensures c.requires.base c.requires.model

pub returns-clause-state : goal.returns-clause-state
returns-clause-state c =
    base_again c.args.meta.now c.args._history.now.history (plain_of c.args.self.now) c.as_slice-operations.result.now c.open_steps-steps.result.now
    c.args.model c.as_slice-operations.ensures.value c.open_steps-steps.ensures c.requires.base c.requires.model c.requires.sound
    c.take_back_all.new.model c.in_ok-take_back_all.ensures.good c.in_ok-take_back_all.ensures.back
