-- the list of the slot has the place no longer
use Rattle.std.proofs.Common.{refl}
use Rattle.cell_index.proofs.Rises.{out_without}
use Rattle.cell_index.proofs.staying.drop_place.Goals as goal

pub returns : goal.returns
returns c = out_without c.args.table.now.items _ c.args.slot c.args.place c.index_mut.result.now c.drop_last.new.list c.requires
    c.index_mut.ensures.value refl c.drop_last.ensures.kept c.drop_last.ensures.rise
