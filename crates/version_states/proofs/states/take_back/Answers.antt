use Rattle.std.proofs.Common.{ap, ◌∙◌, is_some}
use Rattle.model_state.specs.Packages.{steps_all}
use Rattle.version_states.proofs.Taking.{all_taken_back, led_back, led_good}
use Rattle.version_states.proofs.states.take_back.Goals as goal

pub follow_all-requires-clause-good : goal.follow_all-requires-clause-good
follow_all-requires-clause-good c = led_good c.args.meta.now c.recall_soundness.ensures (steps_all c.args.«package».now) c.args.model.now c.requires.led

pub follow_all-requires-clause-leads : goal.follow_all-requires-clause-leads
follow_all-requires-clause-leads c =
    ap is_some (led_back c.args.meta.now c.recall_soundness.ensures c.args.«package».now c.as_slice.result.now c.args.model.now c.requires.led
    (c.as_slice.ensures ∙ c.in_ok-reversal.ensures.reversed))

pub returns-clause-back : goal.returns-clause-back
returns-clause-back c =
    all_taken_back c.args.meta.now c.recall_soundness.ensures c.args.«package».now c.as_slice.result.now c.args.model.now c.follow_all.new.model
    c.follow_all.result c.requires.led (c.as_slice.ensures ∙ c.in_ok-reversal.ensures.reversed) c.follow_all.ensures.done
