use Rattle.std.proofs.Common.{◌∙◌}
use Rattle.std.specs.Prelude.{None, Some}
use Rattle.model_graph.proofs.Looked.{read_attr}
use Rattle.model_graph.proofs.graph.Graph.values_of.Goals as goal

pub returns-in-None : goal.returns-in-None
returns-in-None c = read_attr c.self.inside.nodes c.args.self.now c.self.view_is c.args.e.now c.args.f None c.in-None.ensures

pub returns-in-Some : goal.returns-in-Some
returns-in-Some c = c.find-in-Some.ensures
    ∙ read_attr c.self.inside.nodes c.args.self.now c.self.view_is c.args.e.now c.args.f (Some c.in-Some.node.now) c.in-Some.ensures
