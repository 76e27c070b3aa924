use Rattle.std.proofs.Common.{ap, ◌∙◌, length}
use Rattle.std.specs.FinMap.{entries}
use Rattle.ranked_lists.specs.Ranked.{rank_map}
use Rattle.ranked_lists.proofs.Held.{length_ranked}
use Rattle.ranked_lists.proofs.many.Many.len.Goals as goal

pub returns : goal.returns
returns c = c.len.ensures.len ∙ ap length c.self.invariant.0 ∙ length_ranked (rank_map c.self.inside.by_rank.keys) ∙ ap (λ m. length (entries m)) c.self.view_is
