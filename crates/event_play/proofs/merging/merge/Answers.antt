use Rattle.op_form.specs.declared.event.Event.TheVariants.{Merge}
use Rattle.event_play.proofs.Putting.{merge_closed, merge_there, put_orderly}
use Rattle.event_play.proofs.merging.merge.Goals as goal

pub take_up-requires : goal.take_up-requires
take_up-requires c =
    let s = c.args.repo.now in
    let seen = c.in_ok-merged.ensures.merge in
    record {
      there = merge_there s s.meta c.args.ws c.args.branch c.args.letters.now seen.could;
      closed = merge_closed s s.meta c.args.ws c.args.branch c.args.letters.now seen.could;
      orderly = put_orderly s _
          (Merge c.args.ws c.args.branch c.args.letters.now) seen.could c.requires.spelled c.recall_order.ensures seen.leads;
    }
