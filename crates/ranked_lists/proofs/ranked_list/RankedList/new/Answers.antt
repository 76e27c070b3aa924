use Rattle.std.proofs.Common.{sym, subst}
use Rattle.ranked_lists.specs.Ranked.{AreRanked}
use Rattle.ranked_lists.proofs.Held.{none_ranked}
use Rattle.ranked_lists.proofs.ranked_list.RankedList.new.Goals as goal

pub invariant_of-result : goal.invariant_of-result
invariant_of-result c = subst AreRanked (sym c.new.ensures.items) none_ranked
