use Rattle.version_states.proofs.Taking.{led_pushed}
use Rattle.version_states.proofs.states.untake.Goals as goal

pub take_back-requires : goal.take_back-requires
take_back-requires c = record {
  led = led_pushed c.args.meta.now c.args.steps c.args.model.now c.new-package.result c.push.new.self _ c.new-package.ensures c.in_ok-push.ensures.ok
      c.from_list-steps.ensures c.requires.led;
}
