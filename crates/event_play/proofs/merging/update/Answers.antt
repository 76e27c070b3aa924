use Rattle.op_form.specs.declared.event.Event.TheVariants.{Update}
use Rattle.event_play.proofs.Putting.{put_orderly, update_closed, update_there}
use Rattle.event_play.proofs.merging.update.Goals as goal

pub update-requires : goal.update-requires
update-requires c =
    let s = c.args.repo.now in
    let seen = c.in_ok-updated.ensures.update in
    record {
      there = update_there s s.meta c.args.ws c.args.letters.now seen.could;
      closed = update_closed s s.meta c.args.ws c.args.letters.now seen.could;
      orderly = put_orderly s _ (Update c.args.ws c.args.letters.now) seen.could c.requires.spelled c.recall_order.ensures seen.leads;
      theirs = seen.theirs;
    }
