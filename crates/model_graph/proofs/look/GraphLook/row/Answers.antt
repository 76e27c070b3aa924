use Rattle.std.proofs.Common.{◌∙◌}
use Rattle.model_graph.proofs.Looked.{read_row}
use Rattle.model_graph.proofs.look.GraphLook.row.Goals as goal

pub returns : goal.returns
returns c = c.rank_out.ensures ∙ read_row c.self.inside.nodes c.args.self.now c.self.view_is c.args.a.now c.args.f c.args.b.now
