use Rattle.std.proofs.Common.{sym, ap, subst, ◌∙◌}
use Rattle.model_state.specs.Listing.{last_rank}
use Rattle.ranked_lists.specs.Ranks.{entries_by_rank}
use Rattle.ranked_lists.specs.Ranked.{held, IsHeld}
use Rattle.ranked_lists.proofs.Ends.{last_entry}
use Rattle.ranked_lists.proofs.ranked_list.RankedList.last.Goals as goal

pub returns-in-Some-last : goal.returns-in-Some-last
returns-in-Some-last c =
    let a = c.self.inside in
    sym (last_entry c.deref-in-None.result.now c.in-Some-last.entry.now (sym c.in-Some-last.ensures.value))
    ∙ ap last_rank (c.deref-in-None.ensures.value ∙ subst (IsHeld a.few.items) c.in-None.is c.self.invariant)
    ∙ ap (λ m. last_rank (entries_by_rank m)) (ap (held a.few.items) (sym c.in-None.is) ∙ c.self.view_is)
