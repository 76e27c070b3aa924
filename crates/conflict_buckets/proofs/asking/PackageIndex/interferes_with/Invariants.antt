-- none of those gone over interferes with one of the package's
use Rattle.std.proofs.Common.{◌≡◌, drop}
use Rattle.merge_laws.specs.Pairs.{have_pair}
use Rattle.conflict_buckets.proofs.Asked.{meets_some}
use Rattle.conflict_buckets.proofs.asking.PackageIndex.interferes_with.Given as goal

abbrev pub invariant-loop-other : goal.invariant-loop-other
invariant-loop-other l = have_pair l.meta l._package l.others ≡ meets_some l.meta l._package (drop l.other-index l.others)
