-- the list without its last number
use Rattle.cell_index.proofs.Rises.{pop_rise}
use Rattle.cell_index.proofs.staying.drop_last.Goals as goal

pub returns-then-index-place-clause-rise : goal.returns-then-index-place-clause-rise
returns-then-index-place-clause-rise c = pop_rise c.args.list.now.items c.pop.new.self.items c.pop.result c.pop.ensures.items
