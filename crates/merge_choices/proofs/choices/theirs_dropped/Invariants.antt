-- the flags of the buckets so far are set
use Rattle.std.proofs.Common.{drop}
use Rattle.merge_laws.specs.Merge.{drops_theirs}
use Rattle.merge_choices.proofs.Drops.{FlagsSoFar}
use Rattle.merge_choices.proofs.choices.theirs_dropped.Given as goal

abbrev pub invariant-loop-k : goal.invariant-loop-k
invariant-loop-k l = FlagsSoFar l.flags.items l.size (drops_theirs (drop l.k l.buckets) (drop l.k l.sides)) (drops_theirs l.buckets l.sides)
