-- the pairs so far, and those that are left
use Rattle.std.proofs.Common.{◌≡◌, ◌++◌, drop}
use Rattle.merge_laws.specs.Pairs.{pairs, pairs_from}
use Rattle.conflict_buckets.proofs.pairing.pairs_among.Given as goal

abbrev pub invariant-loop-i : goal.invariant-loop-i
invariant-loop-i l = l.found ++ pairs_from l._meta l.i (drop l.i l._theirs) l._mine ≡ pairs l._meta l._theirs l._mine
