use Rattle.std.proofs.Common.{sym, ap, ◌∙◌, map}
use Rattle.finite_maps.specs.Sorts.{in_order}
use Rattle.model_state.specs.Keys.{id_cmp}
use Rattle.model_state.specs.Listing.{entry_cmp, last_rank}
use Rattle.step_apply.specs.Groups.{standing}
use Rattle.ranked_lists.specs.Ranks.{entries_by_rank, ranked_entry}
use Rattle.step_apply.proofs.Grouped.{no_entries}
use Rattle.step_apply.proofs.groups.Groups.last.Goals as goal

pub returns-in-Root : goal.returns-in-Root
returns-in-Root c = c.last.ensures ∙ ap (λ p. last_rank (entries_by_rank (standing c.args.self.now p))) (sym c.in-Root.is)

pub returns-in-None : goal.returns-in-None
returns-in-None c =
    ap (λ es. last_rank (in_order entry_cmp (map ranked_entry es))) (sym (no_entries id_cmp))
    ∙ ap (λ m. last_rank (entries_by_rank m)) c.in-None.ensures
    ∙ ap (λ p. last_rank (entries_by_rank (standing c.args.self.now p))) (sym c.in-Inside.is)

pub returns-in-Some : goal.returns-in-Some
returns-in-Some c =
    c.last-in-Some.ensures
    ∙ ap (λ m. last_rank (entries_by_rank m)) c.in-Some.ensures
    ∙ ap (λ p. last_rank (entries_by_rank (standing c.args.self.now p))) (sym c.in-Inside.is)
