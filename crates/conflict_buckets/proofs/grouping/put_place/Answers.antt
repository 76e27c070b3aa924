use Rattle.std.proofs.Common.{refl}
use Rattle.conflict_buckets.proofs.Tables.{put_here}
use Rattle.conflict_buckets.proofs.grouping.put_place.Goals as goal

pub returns : goal.returns
returns c = put_here c.args.table.now.items _ c.args.label c.args.place c.index_mut.result.now c.push.new.self c.requires c.index_mut.ensures.value
    c.in_ok-push.ensures.items refl
