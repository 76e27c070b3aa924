use Rattle.std.proofs.Common.{◌≡◌, take}
use Rattle.ranked_lists.proofs.Taken.{put_all}
use Rattle.ranked_lists.proofs.ranked_list.many_of.Given as goal

abbrev pub invariant-loop-entry : goal.invariant-loop-entry
invariant-loop-entry l = l.many ≡ put_all (take l.entry-index l.entries)
