use Rattle.op_form.specs.declared.event.Event.TheVariants.{Tidy}
use Rattle.event_play.proofs.Putting.{put_orderly, tidy_there}
use Rattle.event_play.proofs.merging.tidy.Goals as goal

pub replace_operations-requires : goal.replace_operations-requires
replace_operations-requires c =
    let s = c.args.repo.now in
    record {
      there = tidy_there s s.meta c.args.ws c.in_ok-operations.ensures.could;
      orderly = put_orderly s _ (Tidy c.args.ws) c.in_ok-operations.ensures.could c.requires.spelled c.recall_order.ensures c.in_ok-operations.ensures.leads;
      model = c.in_ok-operations.ensures.model;
    }
