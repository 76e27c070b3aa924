use Rattle.model_state.specs.Listing.{targets}
use Rattle.edit_steps.proofs.Ends.{end_kept, end_rank}
use Rattle.edit_steps.proofs.entering.enter_last.Goals as goal

pub returns-in-Some-clause-steps : goal.returns-in-Some-clause-steps
returns-in-Some-clause-steps g c =
    let row = (g.L.Look.state c.args.look.now).row in
    end_kept c.args.steps.now c.args.a.now c.args.f (targets row c.args.a.now c.args.f) c.in-Some.rank c.in-Some.ensures

pub returns-in-Some-clause-rank : goal.returns-in-Some-clause-rank
returns-in-Some-clause-rank g c =
    let row = (g.L.Look.state c.args.look.now).row in
    end_rank (targets row c.args.a.now c.args.f) c.in-Some.rank c.in-Some.ensures
