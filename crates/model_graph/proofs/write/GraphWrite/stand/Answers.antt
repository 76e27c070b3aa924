-- an element put into the list of the new place, taken out of the old one, and put there itself
use Rattle.std.proofs.Common.{subst}
use Rattle.std.specs.Prelude.{None, Some}
use Rattle.std.specs.FinMap.{get}
use Rattle.graph_parts.specs.declared.element.Node.{Node}
use Rattle.model_graph.specs.Seen.{Rewrites}
use Rattle.model_graph.proofs.Changed.{some_is}
use Rattle.model_graph.proofs.Housed.{alike_there, alike_place, lists_alike}
use Rattle.model_graph.proofs.Stored.{place_there, housed_place, moved_state, moved_kept}
use Rattle.model_graph.proofs.Stored.{stood_node, written_for}
use Rattle.model_graph.proofs.write.GraphWrite.stand.Goals as goal

pub list_in-requires : goal.list_in-requires
list_in-requires c = place_there c.self.inside.nodes c.args.self.now c.args.to.now c.self.view_is c.requires.live

pub list_out-requires : goal.list_out-requires
list_out-requires c =
    let written = written_for c.args.to.now c.in_ok-id.id c.args.e.now (Some c.args.rank) c.self.inside.roots c.self.inside.nodes c.list_in.new.roots
    c.list_in.new.nodes c.in_ok-id.ensures c.in_ok-list_in.ensures.ok in
    let n = stood_node c.self.inside.nodes c.args.self.now c.args.e.now c.args.from.now c.self.view_is c.requires.stands in
    alike_place c.self.inside.nodes c.list_in.new.nodes (lists_alike c.args.to.now c.args.e.now (Some c.args.rank) c.self.inside.roots
    c.self.inside.nodes c.list_in.new.roots c.list_in.new.nodes written) c.args.from.now
    (housed_place c.self.inside.roots c.self.inside.nodes c.args.e.now n.0 c.self.invariant.1 n.1 c.args.from.now n.2)

pub write_placed-requires : goal.write_placed-requires
write_placed-requires c =
    let written = written_for c.args.to.now c.in_ok-id.id c.args.e.now (Some c.args.rank) c.self.inside.roots c.self.inside.nodes c.list_in.new.roots
    c.list_in.new.nodes c.in_ok-id.ensures c.in_ok-list_in.ensures.ok in
    let n = stood_node c.self.inside.nodes c.args.self.now c.args.e.now c.args.from.now c.self.view_is c.requires.stands in
    alike_there c.list_in.new.nodes c.list_out.new.nodes (lists_alike c.args.from.now c.args.e.now None c.list_in.new.roots c.list_in.new.nodes
    c.list_out.new.roots c.list_out.new.nodes c.list_out.ensures) c.args.e.now
    (alike_there c.self.inside.nodes c.list_in.new.nodes (lists_alike c.args.to.now c.args.e.now (Some c.args.rank) c.self.inside.roots
    c.self.inside.nodes c.list_in.new.roots c.list_in.new.nodes written) c.args.e.now (some_is (get c.self.inside.nodes c.args.e.now) n.0 n.1))

pub invariant_of-self-2 : goal.invariant_of-self-2
invariant_of-self-2 c =
    let written = written_for c.args.to.now c.in_ok-id.id c.args.e.now (Some c.args.rank) c.self.inside.roots c.self.inside.nodes c.list_in.new.roots
    c.list_in.new.nodes c.in_ok-id.ensures c.in_ok-list_in.ensures.ok in
    let n = stood_node c.self.inside.nodes c.args.self.now c.args.e.now c.args.from.now c.self.view_is c.requires.stands in
    moved_kept c.self.inside.roots c.self.inside.nodes c.list_in.new.roots c.list_in.new.nodes c.list_out.new.roots c.list_out.new.nodes
    c.write_placed.new.nodes c.args.self.now c.args.e.now n.0 c.args.from.now c.args.to.now c.args.rank c.self.view_is n.1 n.2
    written c.list_out.ensures
    (subst (λ p. Rewrites c.list_out.new.nodes c.write_placed.new.nodes c.args.e.now
    (λ (k : Node). record k { placed = record { place = p; rank = c.args.rank } })) c.in_ok-copy.ensures c.write_placed.ensures) c.self.invariant
    c.requires.differ

pub returns-clause-ok : goal.returns-clause-ok
returns-clause-ok c =
    let written = written_for c.args.to.now c.in_ok-id.id c.args.e.now (Some c.args.rank) c.self.inside.roots c.self.inside.nodes c.list_in.new.roots
    c.list_in.new.nodes c.in_ok-id.ensures c.in_ok-list_in.ensures.ok in
    let n = stood_node c.self.inside.nodes c.args.self.now c.args.e.now c.args.from.now c.self.view_is c.requires.stands in
    moved_state c.self.inside.roots c.self.inside.nodes c.list_in.new.roots c.list_in.new.nodes c.list_out.new.roots c.list_out.new.nodes
    c.write_placed.new.nodes c.args.self.now c.args.e.now n.0 c.args.from.now c.args.to.now c.args.rank c.self.view_is n.1 n.2
    written c.list_out.ensures
    (subst (λ p. Rewrites c.list_out.new.nodes c.write_placed.new.nodes c.args.e.now
    (λ (k : Node). record k { placed = record { place = p; rank = c.args.rank } })) c.in_ok-copy.ensures c.write_placed.ensures)
