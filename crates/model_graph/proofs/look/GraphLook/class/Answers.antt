use Rattle.std.specs.Prelude.{None, Some}
use Rattle.model_graph.proofs.Looked.{read_class}
use Rattle.model_graph.proofs.look.GraphLook.class.Goals as goal

pub returns-in-None : goal.returns-in-None
returns-in-None c = read_class c.self.inside.nodes c.args.self.now c.self.view_is c.args.e.now None c.in-None.ensures

pub returns-in-Some : goal.returns-in-Some
returns-in-Some c = read_class c.self.inside.nodes c.args.self.now c.self.view_is c.args.e.now (Some c.in-Some.node.now) c.in-Some.ensures
