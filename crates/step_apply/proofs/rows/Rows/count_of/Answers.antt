use Rattle.std.proofs.Common.{ℕ, sym, ap, ◌∙◌, length}
use Rattle.std.specs.FinMap.{entries}
use Rattle.finite_maps.specs.Maps.{count}
use Rattle.model_state.specs.Keys.{RowKey, id_cmp}
use Rattle.model_state.specs.Listing.{is_of}
use Rattle.step_apply.proofs.Grouped.{no_entries}
use Rattle.step_apply.proofs.Routed.{targets_count}
use Rattle.step_apply.proofs.rows.Rows.count_of.Goals as goal

pub returns-in-None : goal.returns-in-None
returns-in-None c =
    ap length (sym (no_entries id_cmp)) ∙ ap (λ m. length (entries m)) c.in-None.ensures
    ∙ targets_count c.self.inside.tree c.self.inside.out c.self.invariant.0 c.args.a.now c.args.f
    ∙ ap (count (λ (e : RowKey × ℕ). is_of c.args.a.now c.args.f e.0)) c.self.view_is

pub returns-in-Some : goal.returns-in-Some
returns-in-Some c =
    c.len.ensures
    ∙ ap (λ m. length (entries m)) c.in-Some.ensures
    ∙ targets_count c.self.inside.tree c.self.inside.out c.self.invariant.0 c.args.a.now c.args.f
    ∙ ap (count (λ (e : RowKey × ℕ). is_of c.args.a.now c.args.f e.0)) c.self.view_is
