use Rattle.std.proofs.Common.{sym, ap, ◌∙◌, map}
use Rattle.std.specs.FinMap.{entries}
use Rattle.finite_maps.specs.Sorts.{in_order}
use Rattle.model_state.specs.Keys.{id_cmp}
use Rattle.model_state.specs.Listing.{entry_cmp, last_rank, targets}
use Rattle.ranked_lists.specs.Ranks.{ranked_entry}
use Rattle.step_apply.proofs.Grouped.{no_entries}
use Rattle.step_apply.proofs.Routed.{targets_are}
use Rattle.step_apply.proofs.rows.Rows.last_target.Goals as goal

pub returns-in-None : goal.returns-in-None
returns-in-None c =
    ap (λ es. last_rank (in_order entry_cmp (map ranked_entry es))) (sym (no_entries id_cmp) ∙ ap entries c.in-None.ensures)
    ∙ ap (λ es. last_rank (in_order entry_cmp es)) (targets_are c.self.inside.tree c.self.inside.out c.self.invariant.0 c.args.a.now c.args.f)
    ∙ ap (λ m. last_rank (targets m c.args.a.now c.args.f)) c.self.view_is

pub returns-in-Some : goal.returns-in-Some
returns-in-Some c =
    c.last.ensures
    ∙ ap (λ es. last_rank (in_order entry_cmp (map ranked_entry es))) (ap entries c.in-Some.ensures)
    ∙ ap (λ es. last_rank (in_order entry_cmp es)) (targets_are c.self.inside.tree c.self.inside.out c.self.invariant.0 c.args.a.now c.args.f)
    ∙ ap (λ m. last_rank (targets m c.args.a.now c.args.f)) c.self.view_is
