-- the flags of the versions so far are set
use Rattle.std.proofs.Common.{take}
use Rattle.history_tree.specs.Marks.{Flagged}
use Rattle.history_tree.proofs.merging.flag_all.Given as goal

abbrev pub invariant-loop-v : goal.invariant-loop-v
invariant-loop-v l = Flagged l.fn.flags.items l.flags.items (take l.v-index l.versions)
