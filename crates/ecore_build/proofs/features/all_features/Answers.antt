use Rattle.std.proofs.Common.{map, arith}
use Rattle.ecore_build.proofs.BuildLaws.{features_is}
use Rattle.ecore_build.proofs.features.all_features.Goals as goal

pub returns : goal.returns
returns c = features_is c.args.above.now c.loop-set.set-index (map (λ fs. fs.items) c.args.own.now) (map (λ ups. ups.items) c.args.supers.now)
    (omega arith) c.loop-set.invariant c.requires
