-- a reference taken out at both ends
use Rattle.std.proofs.Common.{ap, ◌∙◌}
use Rattle.std.specs.Prelude.{None}
use Rattle.finite_maps.specs.Maps.{set}
use Rattle.model_state.specs.State.{State}
use Rattle.model_graph.proofs.Housed.{row_written}
use Rattle.model_graph.proofs.Linked.{into_key, live_there, live_rewritten, linked}
use Rattle.model_graph.proofs.graph.Graph.drop_row.Goals as goal

pub drop_into-requires : goal.drop_into-requires
drop_into-requires c = live_there c.self.inside.nodes c.args.self.now c.args.b.now c.self.view_is c.requires.target

pub drop_out-requires : goal.drop_out-requires
drop_out-requires c =
    live_rewritten c.self.inside.nodes c.drop_into.new.nodes c.args.b.now c.args.a.now
    (λ n. record n { into = set n.into c.args.key.now None }) c.drop_into.ensures
    (live_there c.self.inside.nodes c.args.self.now c.args.a.now c.self.view_is c.requires.source)

pub invariant_of-self : goal.invariant_of-self
invariant_of-self c =
    linked c.self.inside.roots c.self.inside.nodes c.drop_into.new.nodes c.drop_out.new.nodes c.args.a.now c.args.b.now c.args.f None
    (into_key c.self.inside.nodes c.drop_into.new.nodes c.args.b.now c.args.key.now (c.args.a.now, c.args.f) None c.requires.key c.drop_into.ensures)
    c.drop_out.ensures c.self.invariant

pub returns : goal.returns
returns c =
    row_written c.self.inside.nodes c.drop_into.new.nodes c.drop_out.new.nodes c.args.a.now c.args.b.now c.args.f None
    (into_key c.self.inside.nodes c.drop_into.new.nodes c.args.b.now c.args.key.now (c.args.a.now, c.args.f) None c.requires.key c.drop_into.ensures)
    c.drop_out.ensures
    ∙ ap (λ (s : State). record s { row = set s.row (c.args.a.now, c.args.f, c.args.b.now) None }) c.self.view_is
