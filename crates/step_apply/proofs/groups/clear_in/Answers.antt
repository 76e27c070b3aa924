use Rattle.std.proofs.Common.{◌≡◌, true, false, refl, sym, ap, ◌∙◌, cond}
use Rattle.std.specs.Prelude.{None}
use Rattle.std.specs.FinMap.{get, empty, get-empty}
use Rattle.std.specs.BTreeMap as tree
use Rattle.std.specs.BTreeMap.{is_at}
use Rattle.finite_maps.proofs.MapLaws.{same, same_key}
use Rattle.model_state.specs.Keys.{id_cmp}
use Rattle.model_state.proofs.Orders.{id_order}
use Rattle.step_apply.specs.Groups.{fan_of, members_of}
use Rattle.step_apply.proofs.groups.clear_in.Goals as goal

pub returns-then-is_bare : goal.returns-then-is_bare
returns-then-is_bare c = λ b g.
    let old = c.args.inside.now in
    elim (is_at (id_cmp c.args.a.now) b) as (λ t. is_at (id_cmp c.args.a.now) b ≡ t → members_of c.remove.new.self b g ≡ members_of old b g) [
      | true ↦ λ at.
          ap (λ o. fan_of o g) (c.remove.ensures.updates.0 b ∙ ap (λ t. cond t None (tree.get id_cmp old b)) at)
          ∙ sym (same id_order (members_of old b g) empty (λ q.
          ap (λ k. get (members_of old k g) q) (sym (same_key id_order c.args.a.now b at))
          ∙ c.is_bare.ensures c.if-is_bare.true g q ∙ sym (get-empty id_cmp q)))
      | false ↦ λ differ. ap (λ o. fan_of o g) (c.remove.ensures.updates.2 b differ)
    ] refl
