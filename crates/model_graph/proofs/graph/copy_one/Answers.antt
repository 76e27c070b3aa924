use Rattle.std.proofs.Common.{sym, ap, ◌∙◌}
use Rattle.std.specs.Prelude.{Some, is_some}
use Rattle.std.specs.FinMap.{get}
use Rattle.std.proofs.lemmas.Result.{on_ok_weaker}
use Rattle.finite_maps.specs.Maps.{set}
use Rattle.model_graph.proofs.Copied.{copy_stays, copy_put, copied_some, has_own, has_none, not_there}
use Rattle.model_graph.proofs.graph.copy_one.Goals as goal

pub returns-then-is_some : goal.returns-then-is_some
returns-then-is_some c =
    let there = ap is_some (sym c.find.ensures) ∙ sym (copied_some c.find.result) ∙ sym c.is_some.ensures ∙ c.if-is_some.true in
    copy_stays c.args.copy.now c.args.nodes.now c.args.id.now (has_own (get c.args.copy.now c.args.id.now) (get c.args.nodes.now c.args.id.now) there)

pub returns-in-None : goal.returns-in-None
returns-in-None c =
    let none = not_there (get c.args.copy.now c.args.id.now)
    (ap is_some (sym c.find.ensures) ∙ sym (copied_some c.find.result) ∙ sym c.is_some.ensures ∙ c.if-is_some.false) in
    copy_stays c.args.copy.now c.args.nodes.now c.args.id.now
    (has_none (get c.args.copy.now c.args.id.now) (get c.args.nodes.now c.args.id.now) none (sym c.in-None.ensures))

pub returns-in_ok-node-in-Some : goal.returns-in_ok-node-in-Some
returns-in_ok-node-in-Some c =
    let none = not_there (get c.args.copy.now c.args.id.now)
    (ap is_some (sym c.find.ensures) ∙ sym (copied_some c.find.result) ∙ sym c.is_some.ensures ∙ c.if-is_some.false) in
    on_ok_weaker c.put_new.result (λ is.
    copy_put c.args.copy.now c.args.nodes.now c.put_new.new.self c.args.id.now c.in-Some.node.now none (sym c.in-Some.ensures)
    (is ∙ (λ i. set c.args.copy.now (c.in_ok-key-in-Some.ensures i) (Some (c.in_ok-node-in-Some.ensures i))))) c.put_new.ensures.ok
