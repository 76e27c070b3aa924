use Rattle.std.proofs.Common.{sym, ap, subst, ◌∙◌, length}
use Rattle.std.specs.FinMap.{entries}
use Rattle.ranked_lists.specs.Ranked.{rank_map, held, IsHeld}
use Rattle.ranked_lists.proofs.Held.{length_ranked}
use Rattle.ranked_lists.proofs.ranked_list.RankedList.len.Goals as goal

pub returns-in-None : goal.returns-in-None
returns-in-None c =
    let a = c.self.inside in
    c.len.ensures ∙ a.few.ok.0 ∙ ap length (subst (IsHeld a.few.items) c.in-None.is c.self.invariant) ∙ length_ranked (rank_map a.few.items)
    ∙ ap (λ m. length (entries m)) (ap (held a.few.items) (sym c.in-None.is) ∙ c.self.view_is)
