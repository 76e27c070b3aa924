-- the list at the slot is longer by the place
use Rattle.std.proofs.Common.{refl}
use Rattle.cell_index.proofs.Rows.{put_wider, put_listed}
use Rattle.cell_index.proofs.Rises.{put_rising}
use Rattle.cell_index.proofs.listing.put_place.Goals as goal

pub returns-clause-wider : goal.returns-clause-wider
returns-clause-wider c =
    put_wider c.args.table.now.items _ c.args.slot c.args.place c.index_mut.result.now c.push.new.self c.requires c.index_mut.ensures.value
    c.in_ok-push.ensures.items refl

pub returns-clause-listed : goal.returns-clause-listed
returns-clause-listed c =
    put_listed c.args.table.now.items _ c.args.slot c.args.place c.index_mut.result.now c.push.new.self c.requires c.in_ok-push.ensures.items refl

pub returns-clause-rising : goal.returns-clause-rising
returns-clause-rising c =
    put_rising c.args.table.now.items _ c.args.slot c.args.place c.index_mut.result.now c.push.new.self c.requires c.index_mut.ensures.value
    c.in_ok-push.ensures.items refl
