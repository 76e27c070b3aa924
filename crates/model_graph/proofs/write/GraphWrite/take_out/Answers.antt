-- an element taken out of its list, and then out of the model
use Rattle.std.proofs.Common.{sym, ap, subst, ◌∙◌}
use Rattle.std.specs.Prelude.{None}
use Rattle.std.specs.FinMap.{get}
use Rattle.model_graph.specs.Seen.{Elements, nodes_state}
use Rattle.model_graph.proofs.Housed.{alike_there, lists_alike}
use Rattle.model_graph.proofs.Linked.{live_there}
use Rattle.model_graph.proofs.Stored.{AreKept, node_of, housed_place, stands_at, took_out_state, took_out_kept}
use Rattle.model_graph.proofs.write.GraphWrite.take_out.Goals as goal

pub list_out-requires : goal.list_out-requires
list_out-requires c =
    let n = node_of (get c.self.inside.nodes c.args.e.now) (live_there c.self.inside.nodes c.args.self.now c.args.e.now c.self.view_is c.requires.live) in
    housed_place c.self.inside.roots c.self.inside.nodes c.args.e.now n.0 c.self.invariant.1 n.1 c.args.place.now
    (stands_at c.self.inside.nodes c.args.self.now c.args.e.now n.0 c.args.place.now c.self.view_is n.1 c.requires.stands)

pub drop_at-requires : goal.drop_at-requires
drop_at-requires c =
    alike_there c.self.inside.nodes c.list_out.new.nodes
    (lists_alike c.args.place.now c.args.e.now None c.self.inside.roots c.self.inside.nodes c.list_out.new.roots c.list_out.new.nodes
    c.list_out.ensures) c.args.e.now (live_there c.self.inside.nodes c.args.self.now c.args.e.now c.self.view_is c.requires.live)

pub invariant_of-self : goal.invariant_of-self
invariant_of-self c = subst (λ (t : Elements). AreKept c.list_out.new.roots t) (sym c.drop_at.ensures.now)
    (took_out_kept c.self.inside.roots c.self.inside.nodes c.list_out.new.roots c.list_out.new.nodes c.args.self.now c.args.e.now c.args.place.now
    c.self.view_is c.self.invariant c.requires.live c.requires.stands c.requires.no_value c.requires.no_row c.requires.no_child c.list_out.ensures)

pub returns : goal.returns
returns c = ap nodes_state c.drop_at.ensures.now
    ∙ took_out_state c.self.inside.roots c.self.inside.nodes c.list_out.new.roots c.list_out.new.nodes c.args.self.now c.args.e.now c.args.place.now
    c.self.view_is c.self.invariant c.requires.live c.requires.stands c.requires.no_value c.requires.no_row c.requires.no_child c.list_out.ensures
