use Rattle.std.proofs.Common.{◌≡◌, sym, ap, subst, ◌∙◌, map}
use Rattle.std.specs.Prelude.{IfOk}
use Rattle.std.specs.FinMap.{entries}
use Rattle.finite_maps.specs.Sorts.{in_order}
use Rattle.model_state.specs.Keys.{id_cmp}
use Rattle.model_state.specs.Listing.{entry_cmp}
use Rattle.ranked_lists.specs.Ranks.{ranked_entry}
use Rattle.step_apply.specs.Groups.{standing}
use Rattle.step_apply.proofs.Grouped.{no_entries}
use Rattle.step_apply.proofs.groups.Groups.list.Goals as goal

pub returns-in-Root : goal.returns-in-Root
returns-in-Root c =
    subst (λ es. IfOk c.list.result (λ l. l ≡ es))
    (ap (λ p. in_order entry_cmp (map ranked_entry (entries (standing c.args.self.now p)))) (sym c.in-Root.is)) c.list.ensures

pub returns-in-None : goal.returns-in-None
returns-in-None c =
    c.new.ensures
    ∙ ap (λ es. in_order entry_cmp (map ranked_entry es)) (sym (no_entries id_cmp))
    ∙ ap (λ m. in_order entry_cmp (map ranked_entry (entries m))) c.in-None.ensures
    ∙ ap (λ p. in_order entry_cmp (map ranked_entry (entries (standing c.args.self.now p)))) (sym c.in-Inside.is)

pub returns-in-Some : goal.returns-in-Some
returns-in-Some c =
    subst (λ es. IfOk c.list-in-Some.result (λ l. l ≡ es))
    (ap (λ m. in_order entry_cmp (map ranked_entry (entries m))) c.in-Some.ensures
    ∙ ap (λ p. in_order entry_cmp (map ranked_entry (entries (standing c.args.self.now p)))) (sym c.in-Inside.is))
    c.list-in-Some.ensures
