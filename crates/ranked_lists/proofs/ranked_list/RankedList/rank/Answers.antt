use Rattle.std.proofs.Common.{sym, ap, ◌∙◌}
use Rattle.std.specs.FinMap.{get}
use Rattle.ranked_lists.specs.Ranked.{rank_of, held}
use Rattle.ranked_lists.proofs.Held.{get-ranks}
use Rattle.ranked_lists.proofs.ranked_list.RankedList.rank.Goals as goal

pub returns-in-None : goal.returns-in-None
returns-in-None c =
    let a = c.self.inside in
    c.rank_among.ensures ∙ ap (λ xs. rank_of xs c.args.e.now) c.as_slice.ensures.value ∙ sym (get-ranks a.few.items c.args.e.now)
    ∙ ap (λ m. get m c.args.e.now) (ap (held a.few.items) (sym c.in-None.is) ∙ c.self.view_is)
