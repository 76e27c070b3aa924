use Rattle.std.proofs.Common.{◌≡◌, true, false, refl, sym, ap, ◌∙◌, cond}
use Rattle.std.specs.Prelude.{None}
use Rattle.std.specs.Ordering.{nat_cmp}
use Rattle.std.specs.FinMap.{get, empty, get-empty}
use Rattle.std.specs.BTreeMap as tree
use Rattle.std.specs.BTreeMap.{is_at}
use Rattle.finite_maps.proofs.MapLaws.{same, same_key}
use Rattle.model_state.specs.Keys.{id_cmp}
use Rattle.model_state.proofs.Orders.{id_order, nat_order}
use Rattle.step_apply.specs.Groups.{group_of}
use Rattle.step_apply.proofs.groups.clear_of.Goals as goal

pub returns-then-is_empty_of : goal.returns-then-is_empty_of
returns-then-is_empty_of c = λ g.
    let old = c.args.fan.now in
    elim (is_at (nat_cmp c.args.f) g) as (λ b. is_at (nat_cmp c.args.f) g ≡ b
    → group_of (tree.get nat_cmp c.remove.new.self g) ≡ group_of (tree.get nat_cmp old g)) [
      | true ↦ λ at.
          ap group_of (c.remove.ensures.updates.0 g ∙ ap (λ b. cond b None (tree.get nat_cmp old g)) at)
          ∙ sym (same id_order (group_of (tree.get nat_cmp old g)) empty (λ q.
          ap (λ k. get (group_of (tree.get nat_cmp old k)) q) (sym (same_key nat_order c.args.f g at))
          ∙ c.is_empty_of.ensures c.if-is_empty_of.true q ∙ sym (get-empty id_cmp q)))
      | false ↦ λ differ. ap group_of (c.remove.ensures.updates.2 g differ)
    ] refl
