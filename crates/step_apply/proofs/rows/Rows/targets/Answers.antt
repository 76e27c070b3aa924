use Rattle.std.proofs.Common.{◌≡◌, sym, ap, subst, ◌∙◌, map}
use Rattle.std.specs.Prelude.{IfOk}
use Rattle.std.specs.FinMap.{entries}
use Rattle.finite_maps.specs.Sorts.{in_order}
use Rattle.model_state.specs.Keys.{id_cmp}
use Rattle.model_state.specs.Listing.{entry_cmp, targets}
use Rattle.ranked_lists.specs.Ranks.{ranked_entry}
use Rattle.step_apply.proofs.Grouped.{no_entries}
use Rattle.step_apply.proofs.Routed.{targets_are}
use Rattle.step_apply.proofs.rows.Rows.targets.Goals as goal

pub returns-in-None : goal.returns-in-None
returns-in-None c =
    c.new.ensures
    ∙ ap (λ es. in_order entry_cmp (map ranked_entry es)) (sym (no_entries id_cmp) ∙ ap entries c.in-None.ensures)
    ∙ ap (in_order entry_cmp) (targets_are c.self.inside.tree c.self.inside.out c.self.invariant.0 c.args.a.now c.args.f)
    ∙ ap (λ m. targets m c.args.a.now c.args.f) c.self.view_is

pub returns-in-Some : goal.returns-in-Some
returns-in-Some c =
    subst (λ es. IfOk c.list.result (λ l. l ≡ es))
    (ap (in_order entry_cmp)
    (ap (λ m. map ranked_entry (entries m)) c.in-Some.ensures
    ∙ targets_are c.self.inside.tree c.self.inside.out c.self.invariant.0 c.args.a.now c.args.f)
    ∙ ap (λ m. targets m c.args.a.now c.args.f) c.self.view_is)
    c.list.ensures
