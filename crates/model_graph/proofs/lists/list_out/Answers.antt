-- the list of the parent is written
use Rattle.std.proofs.Common.{refl}
use Rattle.model_graph.proofs.lists.list_out.Goals as goal

pub returns-in-Inside : goal.returns-in-Inside
returns-in-Inside c = rw c.in-Inside.is (refl, c.drop_inside.ensures)
