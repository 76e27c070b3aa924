use Rattle.std.specs.Prelude.{None, Some}
use Rattle.model_graph.proofs.Looked.{read_place, read_rank}
use Rattle.model_graph.proofs.look.GraphLook.placed.Goals as goal

pub returns-in-None-clause-place : goal.returns-in-None-clause-place
returns-in-None-clause-place c = read_place c.self.inside.nodes c.args.self.now c.self.view_is c.args.e.now None c.in-None.ensures

pub returns-in-Some-clause-place : goal.returns-in-Some-clause-place
returns-in-Some-clause-place c = read_place c.self.inside.nodes c.args.self.now c.self.view_is c.args.e.now (Some c.in-Some.node.now) c.in-Some.ensures

pub returns-in-None-clause-rank : goal.returns-in-None-clause-rank
returns-in-None-clause-rank c = read_rank c.self.inside.nodes c.args.self.now c.self.view_is c.args.e.now None c.in-None.ensures

pub returns-in-Some-clause-rank : goal.returns-in-Some-clause-rank
returns-in-Some-clause-rank c = read_rank c.self.inside.nodes c.args.self.now c.self.view_is c.args.e.now (Some c.in-Some.node.now) c.in-Some.ensures
