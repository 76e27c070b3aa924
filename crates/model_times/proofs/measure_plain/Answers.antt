use Rattle.step_apply.specs.View.{plain_state}
use Rattle.model_times.proofs.Models.{one_more_good}
use Rattle.model_times.proofs.measure_plain.Goals as goal

pub loop-preserved : goal.loop-preserved
loop-preserved c = one_more_good c.args.meta.now plain_state c.loop.models c.push.new.self c.new.result c.in_ok-push.ensures.ok c.loop.invariant
    (c.new.ensures.good c.args.meta.now)
