use Rattle.std.proofs.Common.{List, ℕ, subst}
use Rattle.ecore_meta.specs.Features.{Listed}
use Rattle.ecore_meta.proofs.FeatureLaws.{all_more}
use Rattle.ecore_meta.proofs.feature_index.feature_indexes.Goals as goal

pub loop-class-preserved : goal.loop-class-preserved
loop-class-preserved c =
    let P : List ℕ → Type 0 = λ ns. Listed c.args.features.now ns c.in_ok-index.index in
    all_more c.args.features.now c.args.classes.now c.loop-class.class-index c.class-item.result c.loop-class.indexes.items c.in_ok-index.index
    c.push.new.self.items c.in_ok-push.ensures.items c.loop-class-test.true c.loop-class.invariant c.class-item.is
    (subst P c.as_slice.ensures c.in_ok-index.ensures)
