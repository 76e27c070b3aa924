use Rattle.std.proofs.Common.{◌≡◌, true, false, refl, sym, ap, ◌∙◌, cond}
use Rattle.std.specs.Prelude.{None}
use Rattle.std.specs.FinMap.{get, empty, get-empty}
use Rattle.std.specs.BTreeMap as tree
use Rattle.std.specs.BTreeMap.{is_at}
use Rattle.finite_maps.proofs.MapLaws.{same, same_key}
use Rattle.model_state.specs.Keys.{id_cmp, row_cmp}
use Rattle.model_state.proofs.Orders.{id_order, row_order}
use Rattle.step_apply.specs.Groups.{rows_of, incoming_rows}
use Rattle.step_apply.proofs.rows.clear_to.Goals as goal

pub returns-then-is_no_target : goal.returns-then-is_no_target
returns-then-is_no_target c = λ x.
    let old = c.args.into.now in
    elim (is_at (id_cmp c.args.b.now) x) as (λ t. is_at (id_cmp c.args.b.now) x ≡ t → incoming_rows c.remove.new.self x ≡ incoming_rows old x) [
      | true ↦ λ at.
          ap rows_of (c.remove.ensures.updates.0 x ∙ ap (λ t. cond t None (tree.get id_cmp old x)) at)
          ∙ sym (same row_order (incoming_rows old x) empty (λ q.
          ap (λ k. get (incoming_rows old k) q) (sym (same_key id_order c.args.b.now x at))
          ∙ c.is_no_target.ensures c.if-is_no_target.true q ∙ sym (get-empty row_cmp q)))
      | false ↦ λ differ. ap rows_of (c.remove.ensures.updates.2 x differ)
    ] refl
