use Rattle.model_graph.proofs.Stored.{source_live, target_live}
use Rattle.model_graph.proofs.write.GraphWrite.rerank_row.Goals as goal

pub put_row-requires-clause-source : goal.put_row-requires-clause-source
put_row-requires-clause-source c = source_live c.self.inside.nodes c.args.self.now c.args.a.now c.args.b.now c.args.f c.self.view_is c.requires

pub put_row-requires-clause-target : goal.put_row-requires-clause-target
put_row-requires-clause-target c =
    target_live c.self.inside.nodes c.args.self.now c.args.a.now c.args.b.now c.args.f c.self.invariant.0 c.self.view_is c.requires
