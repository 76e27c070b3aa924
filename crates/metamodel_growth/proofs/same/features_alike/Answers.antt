use Rattle.std.proofs.Common.{◌≡◌, false, arith, length}
use Rattle.metamodel_growth.specs.Same.{feature_alike}
use Rattle.metamodel_growth.proofs.SameLaws.{all_true, one_false}
use Rattle.metamodel_growth.proofs.same.features_alike.Goals as goal

pub returns-then-not-feature_alike : goal.returns-then-not-feature_alike
returns-then-not-feature_alike c =
    let p = c.feature_alike.ensures in
    let q = c.if-not-feature_alike.true in
    let other : feature_alike c.args.a.now c.args.b.now c.loop-f.f ≡ false = cc in
    one_false (feature_alike c.args.a.now c.args.b.now) (length c.args.a.now.features) c.loop-f.f
    (omega (arith, c.loop-f-test.true, c.feature_count-f-end.ensures)) other

pub returns : goal.returns
returns c = all_true (feature_alike c.args.a.now c.args.b.now) (length c.args.a.now.features) c.loop-f.f c.loop-f.invariant
    (omega (arith, c.loop-f-test.false, c.feature_count-f-end.ensures))
