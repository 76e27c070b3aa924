-- the versions so far are added
use Rattle.std.proofs.Common.{◌≡◌, take}
use Rattle.change_index.specs.Index.{index_of}
use Rattle.change_index.proofs.index.index_of.Given as goal

abbrev pub invariant-loop-v : goal.invariant-loop-v
invariant-loop-v l = l.index ≡ index_of l.meta (take l.v l.history.history.versions)
