use Rattle.std.proofs.Common.{◌≡◌, true, cond, sym, ap, ◌∙◌}
use Rattle.std.specs.Prelude.{None, is_some}
use Rattle.std.specs.BTreeMap as tree
use Rattle.finite_maps.specs.Maps.{set}
use Rattle.finite_maps.proofs.TableLaws.{table_updates}
use Rattle.finite_maps.proofs.EqualLaws.{text_equality}
use Rattle.model_state.specs.Keys.{row_cmp}
use Rattle.model_state.proofs.Orders.{row_order}
use Rattle.step_apply.proofs.IncomingKept.{arrived}
use Rattle.step_apply.proofs.Routed.{routed}
use Rattle.step_apply.proofs.rows.Rows.drop_at.Goals as goal

pub invariant_of-self : goal.invariant_of-self
invariant_of-self c =
    let k = c.args.key.now in
    let found : is_some (tree.get row_cmp c.self.inside.tree k) ≡ true =
    ap is_some (sym c.remove.ensures.value) ∙ sym c.is_some.ensures ∙ c.if-is_some.true in (
      routed c.self.inside.tree c.remove.new.self c.self.inside.out c.drop_in.new.inside k None c.self.invariant.0 c.remove.ensures.updates.0
          c.drop_in.ensures.here c.drop_in.ensures.same_element c.drop_in.ensures.there,
      arrived c.self.inside.tree c.remove.new.self c.self.inside.into c.rewrite_to.new.into k None c.self.invariant.1 c.remove.ensures.updates.0
          (c.rewrite_to.ensures.here
          (ap is_some (c.self.invariant.1 k.2 k ∙ ap (λ b. cond b (tree.get row_cmp c.self.inside.tree k) None) (text_equality.own k.2)) ∙ found))
          c.rewrite_to.ensures.there,
    )

pub returns-then-is_some : goal.returns-then-is_some
returns-then-is_some c =
    table_updates row_order c.self.inside.tree c.remove.new.self c.args.key.now None c.remove.ensures.updates.0
    ∙ ap (λ m. set m c.args.key.now None) c.self.view_is

pub returns-else-is_some : goal.returns-else-is_some
returns-else-is_some c =
    table_updates row_order c.self.inside.tree c.remove.new.self c.args.key.now None c.remove.ensures.updates.0
    ∙ ap (λ m. set m c.args.key.now None) c.self.view_is
