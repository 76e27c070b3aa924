-- the index with one place more
use Rattle.std.proofs.Common.{◌∙◌}
use Rattle.cell_index.proofs.Touching.{put_by}
use Rattle.cell_index.proofs.staying.Standing.put.Goals as goal

pub returns-clause-keeps : goal.returns-clause-keeps
returns-clause-keeps c =
    put_by c.args.self.now _ c.args.prints.now c.index-prints-place.result c.len-place.result c.requires.keeps c.requires.more
    (c.len-place.ensures ∙ c.args.self.now.stands.ok.0) c.index-prints-place.is c.in_ok-push.ensures.items
    c.as_slice.result.now c.as_slice-2.result.now c.as_slice-3.result.now c.as_slice.ensures c.as_slice-2.ensures c.as_slice-3.ensures
    c.in_ok-put_cells.ensures.wider c.in_ok-put_cells.ensures.listed c.in_ok-put_cells.ensures.rising c.in_ok-put_cells-2.ensures.wider
    c.in_ok-put_cells-2.ensures.listed c.in_ok-put_cells-2.ensures.rising
    c.in_ok-put_idle.ensures.kept c.in_ok-put_idle.ensures.listed c.in_ok-put_idle.ensures.rise
