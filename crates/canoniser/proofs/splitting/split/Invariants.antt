-- the operations so far are split, and those of the rest come
use Rattle.std.proofs.Common.{◌≡◌, ◌++◌, drop}
use Rattle.merge_laws.specs.Split.{split}
use Rattle.canoniser.proofs.splitting.split.Given as goal

abbrev pub invariant-loop-op : goal.invariant-loop-op
invariant-loop-op l = l.list.items ++ split (drop l.op-index l.ops) ≡ split l.ops
