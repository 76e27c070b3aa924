-- the index with one place less
use Rattle.std.proofs.Common.{refl}
use Rattle.cell_index.proofs.Touching.{take_keeps}
use Rattle.cell_index.proofs.staying.Standing.remove.Goals as goal

pub returns-clause-keeps : goal.returns-clause-keeps
returns-clause-keeps c =
    take_keeps c.args.self.now _ c.args.prints.now c.args.place c.requires.keeps c.requires.within refl c.drop_cells.ensures c.drop_cells-2.ensures
    c.drop_last.ensures.kept c.drop_last.ensures.rise
