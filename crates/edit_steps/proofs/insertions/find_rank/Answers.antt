use Rattle.std.proofs.Common.{◌≡◌, sym, ◌∙◌, length}
use Rattle.std.specs.Prelude.{None}
use Rattle.model_state.specs.Ranks.{rank_between, most_entries}
use Rattle.edit_steps.specs.Spot.{rank_for, ranks_of}
use Rattle.edit_steps.proofs.SpotLaws.{spot_anew, is_less}
use Rattle.edit_steps.proofs.insertions.find_rank.Goals as goal

pub returns-in-Some-even_rank-clause-rank : goal.returns-in-Some-even_rank-clause-rank
returns-in-Some-even_rank-clause-rank c =
    let none : rank_for (ranks_of c.args.list.now) c.args.k ≡ None =
    sym ((λ i. rank_between (c.rank_before.ensures i) (c.rank_at.ensures i))) ∙ sym c.rank_within.ensures ∙ c.in-None.is in
    sym c.in-Some-even_rank.is ∙ c.even_rank.ensures
    ∙ sym (spot_anew c.args.list.now c.args.k c.requires none (is_less (length c.args.list.now) most_entries c.if-list-ge-MOST_ENTRIES.false))
