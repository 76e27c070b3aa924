-- none of those gone over is found
use Rattle.std.proofs.Common.{◌≡◌, drop}
use Rattle.merge_laws.specs.Pairs.{first_interfering}
use Rattle.merge_plans.proofs.pairs.first_interfering.Given as goal

abbrev pub invariant-loop-u : goal.invariant-loop-u
invariant-loop-u l = first_interfering l.meta l.history.history.versions l.operations l.versions ≡ first_interfering l.meta l.history.history.versions
    l.operations (drop l.u-index l.versions)
