-- a reference put in at both ends, or at none
use Rattle.std.proofs.Common.{sym, ap, subst, ◌∙◌}
use Rattle.std.specs.Prelude.{Some, IsSome, is_some}
use Rattle.std.specs.FinMap.{get}
use Rattle.finite_maps.specs.Maps.{set}
use Rattle.spread_maps.specs.Spread.{inner}
use Rattle.model_state.specs.Keys.{AttrKey}
use Rattle.model_state.specs.State.{State}
use Rattle.graph_parts.specs.declared.element.Node.{Node}
use Rattle.model_graph.specs.Seen.{Elements, nodes_state, Rewrites, IsAtBothEnds, IsHoused}
use Rattle.model_graph.proofs.Housed.{row_written}
use Rattle.model_graph.proofs.Linked.{out_key, into_key, live_there, live_rewritten, into_there, linked, row_back}
use Rattle.model_graph.proofs.graph.Graph.put_row.Goals as goal

pub put_into-requires : goal.put_into-requires
put_into-requires c = live_there c.self.inside.nodes c.args.self.now c.args.b.now c.self.view_is c.requires.target

pub put_out-requires : goal.put_out-requires
put_out-requires c =
    live_rewritten c.self.inside.nodes c.put_into.new.nodes c.args.b.now c.args.a.now
    (λ n. record n { into = set n.into (c.in_ok-copy.field-0, c.args.f) (Some c.args.rank) }) c.in_ok-put_into.ensures.ok
    (live_there c.self.inside.nodes c.args.self.now c.args.a.now c.self.view_is c.requires.source)

pub invariant_of-self-in-Ok : goal.invariant_of-self-in-Ok
invariant_of-self-in-Ok c =
    linked c.self.inside.roots c.self.inside.nodes c.put_into.new.nodes c.put_out.new.nodes c.args.a.now c.args.b.now c.args.f (Some c.args.rank)
    (into_key c.self.inside.nodes c.put_into.new.nodes c.args.b.now (c.in_ok-copy.field-0, c.args.f) (c.args.a.now, c.args.f) (Some c.args.rank)
    (ap (λ x. (x, c.args.f)) c.in_ok-copy.ensures) c.in_ok-put_into.ensures.ok)
    (out_key c.put_into.new.nodes c.put_out.new.nodes c.args.a.now c.args.b.now c.in_ok-target.target c.args.f
    (Some c.args.rank) c.in_ok-target.ensures c.in-Ok.ensures.ok) c.self.invariant

pub restore_into-requires-clause-live : goal.restore_into-requires-clause-live
restore_into-requires-clause-live c =
    subst (λ (t : Elements). IsSome (get t c.args.b.now)) (sym c.in-Err.ensures.err)
    (live_rewritten c.self.inside.nodes c.put_into.new.nodes c.args.b.now c.args.b.now
    (λ n. record n { into = set n.into (c.in_ok-copy.field-0, c.args.f) (Some c.args.rank) }) c.in_ok-put_into.ensures.ok
    (live_there c.self.inside.nodes c.args.self.now c.args.b.now c.self.view_is c.requires.target))

pub restore_into-requires-clause-there : goal.restore_into-requires-clause-there
restore_into-requires-clause-there c =
    ap (λ (t : Elements). is_some (inner (λ (n : Node). n.into) (get t c.args.b.now) (c.in_ok-copy-2.field-0, c.args.f))) c.in-Err.ensures.err
    ∙ into_there c.self.inside.nodes c.put_into.new.nodes c.args.b.now (c.in_ok-copy-2.field-0, c.args.f) c.args.rank
    (into_key c.self.inside.nodes c.put_into.new.nodes c.args.b.now (c.in_ok-copy.field-0, c.args.f) (c.in_ok-copy-2.field-0, c.args.f)
    (Some c.args.rank) (ap (λ x. (x, c.args.f)) (c.in_ok-copy.ensures ∙ sym c.in_ok-copy-2.ensures)) c.in_ok-put_into.ensures.ok)

pub invariant_of-self-in-Err : goal.invariant_of-self-in-Err
invariant_of-self-in-Err c =
    let key : AttrKey = (c.in_ok-copy-2.field-0, c.args.f) in
    let into = into_key c.self.inside.nodes c.put_into.new.nodes c.args.b.now (c.in_ok-copy.field-0, c.args.f) key (Some c.args.rank)
    (ap (λ x. (x, c.args.f)) (c.in_ok-copy.ensures ∙ sym c.in_ok-copy-2.ensures)) c.in_ok-put_into.ensures.ok in
    let back = subst (λ (t : Elements).
    Rewrites t c.restore_into.new.nodes c.args.b.now (λ n. record n { into = set n.into key c.rank_into-old.result })) c.in-Err.ensures.err
    c.restore_into.ensures in
    subst (λ (t : Elements). IsAtBothEnds t × IsHoused c.self.inside.roots t)
    (sym (row_back c.self.inside.nodes c.put_into.new.nodes c.restore_into.new.nodes c.args.b.now key (Some c.args.rank) c.rank_into-old.result
    (sym c.rank_into-old.ensures) into back)) c.self.invariant

pub returns-in-Ok-clause-ok : goal.returns-in-Ok-clause-ok
returns-in-Ok-clause-ok c =
    row_written c.self.inside.nodes c.put_into.new.nodes c.put_out.new.nodes c.args.a.now c.args.b.now c.args.f (Some c.args.rank)
    (into_key c.self.inside.nodes c.put_into.new.nodes c.args.b.now (c.in_ok-copy.field-0, c.args.f) (c.args.a.now, c.args.f) (Some c.args.rank)
    (ap (λ x. (x, c.args.f)) c.in_ok-copy.ensures) c.in_ok-put_into.ensures.ok)
    (out_key c.put_into.new.nodes c.put_out.new.nodes c.args.a.now c.args.b.now c.in_ok-target.target c.args.f
    (Some c.args.rank) c.in_ok-target.ensures c.in-Ok.ensures.ok)
    ∙ ap (λ (s : State). record s { row = set s.row (c.args.a.now, c.args.f, c.args.b.now) (Some c.args.rank) }) c.self.view_is

pub returns-clause-err : goal.returns-clause-err
returns-clause-err c =
    let key : AttrKey = (c.in_ok-copy-2.field-0, c.args.f) in
    let into = into_key c.self.inside.nodes c.put_into.new.nodes c.args.b.now (c.in_ok-copy.field-0, c.args.f) key (Some c.args.rank)
    (ap (λ x. (x, c.args.f)) (c.in_ok-copy.ensures ∙ sym c.in_ok-copy-2.ensures)) c.in_ok-put_into.ensures.ok in
    let back = subst (λ (t : Elements).
    Rewrites t c.restore_into.new.nodes c.args.b.now (λ n. record n { into = set n.into key c.rank_into-old.result })) c.in-Err.ensures.err
    c.restore_into.ensures in
    ap nodes_state (row_back c.self.inside.nodes c.put_into.new.nodes c.restore_into.new.nodes c.args.b.now key
    (Some c.args.rank) c.rank_into-old.result (sym c.rank_into-old.ensures) into back) ∙ c.self.view_is
