-- the list of the parent is written
use Rattle.std.proofs.Common.{refl}
use Rattle.std.proofs.lemmas.Result.{on_ok_weaker}
use Rattle.model_graph.proofs.lists.list_in.Goals as goal

pub returns-in-Inside-clause-ok : goal.returns-in-Inside-clause-ok
returns-in-Inside-clause-ok c = rw c.in-Inside.is (on_ok_weaker c.put_inside.result (λ w. (refl, w)) c.put_inside.ensures.ok)
