-- the flags of the base's path, of the pending versions and of those that the path's first versions list as merged are set
use Rattle.std.proofs.Common.{take}
use Rattle.history_tree.proofs.Flags.{FlagsSoFar}
use Rattle.history_tree.proofs.history.History.known_flags.Given as goal

abbrev pub invariant-loop-v : goal.invariant-loop-v
invariant-loop-v l = FlagsSoFar l.self.history l.v-items l.pending (take l.v-index l.v-items) l.flags.items
