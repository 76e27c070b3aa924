-- those that stand are the ones gathered and those still to be looked at
use Rattle.std.proofs.Common.{◌≡◌, ◌++◌, ◌≤◌, length, take}
use Rattle.std.proofs.Common.{reverse}
use Rattle.canoniser.specs.Meetings.{standing_of}
use Rattle.canoniser.proofs.turns.keep.Given as goal

abbrev pub invariant-loop-op : goal.invariant-loop-op
invariant-loop-op l = record {
  within : length l.list.items ≤ length l.stands;
  all : standing_of (take (length l.list.items) l.stands) l.list.items ++ reverse l.turned.items ≡ standing_of l.stands l.fn.list.items;
}

abbrev pub decreases-loop-op : goal.decreases-loop-op
decreases-loop-op l = length l.list.items
