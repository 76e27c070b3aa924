use Rattle.std.proofs.Common.{◌≡◌, ap, subst, ◌∙◌}
use Rattle.std.specs.Prelude.{IfOk}
use Rattle.ranked_lists.specs.Ranks.{entries_by_rank}
use Rattle.ranked_lists.proofs.many.Many.list.Goals as goal

pub returns : goal.returns
returns c = subst (λ es. IfOk c.entries_of.result (λ l. l ≡ es)) (c.self.invariant.0 ∙ ap entries_by_rank c.self.view_is) c.entries_of.ensures.entries
