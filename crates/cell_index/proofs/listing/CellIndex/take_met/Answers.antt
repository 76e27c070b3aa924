-- what no list has isn't met
use Rattle.std.proofs.Common.{refl}
use Rattle.cell_index.proofs.NoneMeets.{none_met}
use Rattle.cell_index.proofs.Drained.{take_found, take_lists}
use Rattle.cell_index.proofs.listing.CellIndex.take_met.Goals as goal

pub returns-clause-met : goal.returns-clause-met
returns-clause-met c =
    let none = none_met c.args.prints.now c.args.print.now c.new-met.result.items c.new-met.ensures.items in
    c.in_ok-drain_cells-3.ensures.drained.all_met (c.in_ok-drain_cells-2.ensures.drained.all_met (c.in_ok-drain_cells.ensures.drained.all_met none))

pub returns-clause-found : goal.returns-clause-found
returns-clause-found c =
    take_found c.args.prints.now c.args.print.now c.args.flags.now c.args.self.now
    (record { writers = c.drain_cells-3.new.table; readers = c.drain_cells-2.new.table })
    c.as_slice-writes.result.now c.as_slice-reads.result.now c.args.self.now.writers.items c.drain_cells.new.table.items c.drain_cells-3.new.table.items
    c.args.self.now.readers.items c.drain_cells-2.new.table.items
    c.new-met.result.items c.drain_cells.new.met.items c.drain_cells-2.new.met.items c.drain_cells-3.new.met.items
    c.requires.index c.as_slice-writes.ensures c.as_slice-reads.ensures refl refl refl refl
    c.in_ok-drain_cells.ensures.drained c.in_ok-drain_cells-2.ensures.drained c.in_ok-drain_cells-3.ensures.drained
    c.in_ok-drain_cells.ensures.found c.in_ok-drain_cells-2.ensures.found c.in_ok-drain_cells-3.ensures.found

pub returns-clause-index : goal.returns-clause-index
returns-clause-index c =
    take_lists c.args.prints.now c.args.print.now c.args.flags.now c.args.self.now
    (record { writers = c.drain_cells-3.new.table; readers = c.drain_cells-2.new.table })
    c.as_slice-writes.result.now c.as_slice-reads.result.now c.args.self.now.writers.items c.drain_cells.new.table.items c.drain_cells-3.new.table.items
    c.args.self.now.readers.items c.drain_cells-2.new.table.items
    c.new-met.result.items c.drain_cells.new.met.items c.drain_cells-2.new.met.items c.drain_cells-3.new.met.items
    c.requires.index c.as_slice-writes.ensures c.as_slice-reads.ensures refl refl refl refl
    c.in_ok-drain_cells.ensures.drained c.in_ok-drain_cells-2.ensures.drained c.in_ok-drain_cells-3.ensures.drained
