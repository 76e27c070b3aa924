use Rattle.std.proofs.Common.{sym, ap, ◌∙◌}
use Rattle.std.specs.FinMap.{get, get-empty}
use Rattle.finite_maps.proofs.TableLaws.{get-table}
use Rattle.model_state.specs.Keys.{id_cmp}
use Rattle.model_state.proofs.Orders.{row_order}
use Rattle.step_apply.proofs.rows.Rows.rank.Goals as goal

pub returns-in-None : goal.returns-in-None
returns-in-None c =
    sym (get-empty id_cmp c.args.b.now) ∙ ap (λ m. get m c.args.b.now) c.in-None.ensures
    ∙ c.self.invariant.0 c.args.a.now c.args.f c.args.b.now
    ∙ sym (get-table row_order c.self.inside.tree (c.args.a.now, c.args.f, c.args.b.now))
    ∙ ap (λ m. get m (c.args.a.now, c.args.f, c.args.b.now)) c.self.view_is

pub returns-in-Some : goal.returns-in-Some
returns-in-Some c =
    c.rank.ensures ∙ ap (λ m. get m c.args.b.now) c.in-Some.ensures
    ∙ c.self.invariant.0 c.args.a.now c.args.f c.args.b.now
    ∙ sym (get-table row_order c.self.inside.tree (c.args.a.now, c.args.f, c.args.b.now))
    ∙ ap (λ m. get m (c.args.a.now, c.args.f, c.args.b.now)) c.self.view_is
