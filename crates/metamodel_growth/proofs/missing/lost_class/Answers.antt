use Rattle.std.proofs.Common.{◌≡◌, false, arith, length}
use Rattle.metamodel_growth.specs.Extension.{class_kept, class_name}
use Rattle.metamodel_growth.proofs.CodeLaws.{lost_at, none_lost}
use Rattle.metamodel_growth.proofs.missing.lost_class.Goals as goal

pub returns-then-not-branch : goal.returns-then-not-branch
returns-then-not-branch c =
    let a = c.in_ok-class_kept.ensures in
    let b = c.if-not-branch.true in
    let lost : class_kept c.args.old.now c.args.next.now c.loop-c.c ≡ false = cc in
    lost_at (class_name c.args.old.now) (class_kept c.args.old.now c.args.next.now)
    (length c.args.old.now.classes) c.loop-c.c c.loop-c.invariant (omega (arith, c.loop-c-test.true, c.class_count-c-end.ensures)) lost

pub returns : goal.returns
returns c =
    none_lost (class_name c.args.old.now) (class_kept c.args.old.now c.args.next.now)
    (length c.args.old.now.classes) c.loop-c.c c.loop-c.invariant (omega (arith, c.loop-c-test.false, c.class_count-c-end.ensures))
