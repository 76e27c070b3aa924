use Rattle.std.proofs.Common.{◌≡◌, false, arith, length}
use Rattle.metamodel_growth.specs.Extension.{feature_kept, full_name}
use Rattle.metamodel_growth.proofs.CodeLaws.{lost_at, none_lost}
use Rattle.metamodel_growth.proofs.missing.lost_feature.Goals as goal

pub returns-then-not-feature_kept : goal.returns-then-not-feature_kept
returns-then-not-feature_kept c =
    let a = c.feature_kept.ensures in
    let b = c.if-not-feature_kept.true in
    let lost : feature_kept c.args.old.now c.args.next.now c.loop-f.f ≡ false = cc in
    lost_at (full_name c.args.old.now) (feature_kept c.args.old.now c.args.next.now)
    (length c.args.old.now.features) c.loop-f.f c.loop-f.invariant
    (omega (arith, c.loop-f-test.true, c.feature_count-f-end.ensures)) lost

pub returns : goal.returns
returns c =
    none_lost (full_name c.args.old.now) (feature_kept c.args.old.now c.args.next.now)
    (length c.args.old.now.features) c.loop-f.f c.loop-f.invariant (omega (arith, c.loop-f-test.false, c.feature_count-f-end.ensures))
