use Rattle.std.proofs.Common.{ℕ, sym, ap, ◌∙◌, ◌||◌}
use Rattle.finite_maps.specs.Equal.{text_eq}
use Rattle.finite_maps.specs.Maps.{count}
use Rattle.model_state.specs.Keys.{RowKey}
use Rattle.model_state.proofs.Orders.{row_order}
use Rattle.step_apply.proofs.Emptied.{none_at}
use Rattle.step_apply.proofs.Counted.{count_keys}
use Rattle.step_apply.proofs.rows.Rows.count_at.Goals as goal

pub returns : goal.returns
returns c =
    c.counted_at.ensures.count
    ∙ sym (count_keys row_order (λ (k : RowKey). text_eq c.args.e.now k.0 || text_eq c.args.e.now k.2) c.self.inside.tree c.counted_at.ensures.ordered)
    ∙ ap (count (λ (e : RowKey × ℕ). (λ (k : RowKey). text_eq c.args.e.now k.0 || text_eq c.args.e.now k.2) e.0)) c.self.view_is

pub returns-then-is_no_target : goal.returns-then-is_no_target
returns-then-is_no_target c =
    none_at c.self.inside.tree c.self.inside.out c.self.inside.into c.self.invariant.0 c.self.invariant.1 c.args.e.now
    (c.is_bare.ensures c.if-is_bare.true) (c.is_no_target.ensures c.if-is_no_target.true)
    ∙ ap (count (λ (e : RowKey × ℕ). (λ (k : RowKey). text_eq c.args.e.now k.0 || text_eq c.args.e.now k.2) e.0)) c.self.view_is
