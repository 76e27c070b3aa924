-- the rank written in the list and at the element
use Rattle.std.proofs.Common.{sym, ap, ◌∙◌}
use Rattle.std.specs.Prelude.{Some}
use Rattle.std.specs.FinMap.{get}
use Rattle.model_graph.proofs.Housed.{alike_there, lists_alike}
use Rattle.model_graph.proofs.Linked.{live_there}
use Rattle.model_graph.proofs.Stored.{housed_place, reranked_state, reranked_kept}
use Rattle.std.specs.Option.{option_copied}
use Rattle.model_graph.proofs.Stored.{no_live, written_for}
use Rattle.model_graph.proofs.write.GraphWrite.rerank.Goals as goal

pub list_in-requires : goal.list_in-requires
list_in-requires c = housed_place c.self.inside.roots c.self.inside.nodes c.args.e.now c.in-Some.node.now c.self.invariant.1
    (sym c.in-Some.ensures) c.in_ok-place.place (sym c.in_ok-place.ensures)

pub unreachable-requires : goal.unreachable-requires
unreachable-requires c =
    no_live (get c.self.inside.nodes c.args.e.now) (live_there c.self.inside.nodes c.args.self.now c.args.e.now c.self.view_is c.requires)
    (sym c.find.ensures ∙ ap option_copied c.in_default.is)

pub write_placed-requires : goal.write_placed-requires
write_placed-requires c =
    let written = written_for c.in_ok-place.place c.in_ok-id.id c.args.e.now (Some c.args.rank) c.self.inside.roots c.self.inside.nodes
    c.list_in.new.roots c.list_in.new.nodes c.in_ok-id.ensures c.in_ok-list_in.ensures.ok in
    alike_there c.self.inside.nodes c.list_in.new.nodes (lists_alike c.in_ok-place.place c.args.e.now (Some c.args.rank) c.self.inside.roots
    c.self.inside.nodes c.list_in.new.roots c.list_in.new.nodes written) c.args.e.now
    (live_there c.self.inside.nodes c.args.self.now c.args.e.now c.self.view_is c.requires)

pub invariant_of-self-2 : goal.invariant_of-self-2
invariant_of-self-2 c =
    let written = written_for c.in_ok-place.place c.in_ok-id.id c.args.e.now (Some c.args.rank) c.self.inside.roots c.self.inside.nodes
    c.list_in.new.roots c.list_in.new.nodes c.in_ok-id.ensures c.in_ok-list_in.ensures.ok in
    reranked_kept c.self.inside.roots c.self.inside.nodes c.list_in.new.roots c.list_in.new.nodes c.write_placed.new.nodes c.args.self.now
    c.args.e.now c.in-Some.node.now c.in_ok-place.place c.args.rank c.self.view_is (sym c.in-Some.ensures) (sym c.in_ok-place.ensures) written
    c.write_placed.ensures c.self.invariant

pub returns-clause-ok : goal.returns-clause-ok
returns-clause-ok c =
    let written = written_for c.in_ok-place.place c.in_ok-id.id c.args.e.now (Some c.args.rank) c.self.inside.roots c.self.inside.nodes
    c.list_in.new.roots c.list_in.new.nodes c.in_ok-id.ensures c.in_ok-list_in.ensures.ok in
    reranked_state c.self.inside.roots c.self.inside.nodes c.list_in.new.roots c.list_in.new.nodes c.write_placed.new.nodes c.args.self.now
    c.args.e.now c.in-Some.node.now c.in_ok-place.place c.args.rank c.self.view_is (sym c.in-Some.ensures) (sym c.in_ok-place.ensures) written
    c.write_placed.ensures
