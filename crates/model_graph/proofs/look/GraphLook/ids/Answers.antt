use Rattle.std.proofs.Common.{◌≡◌, subst}
use Rattle.std.specs.Prelude.{IfOk}
use Rattle.model_graph.proofs.Looked.{keys_are}
use Rattle.model_graph.proofs.look.GraphLook.ids.Goals as goal

pub returns : goal.returns
returns c = subst (λ ks. IfOk c.ids.result (λ l. l ≡ ks)) (keys_are c.self.inside.nodes c.args.self.now c.self.view_is) c.ids.ensures
