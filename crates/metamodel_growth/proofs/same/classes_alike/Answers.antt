use Rattle.std.proofs.Common.{◌≡◌, false, arith, length}
use Rattle.metamodel_growth.specs.Same.{class_alike}
use Rattle.metamodel_growth.proofs.SameLaws.{all_true, one_false}
use Rattle.metamodel_growth.proofs.same.classes_alike.Goals as goal

pub returns-then-not-class_alike : goal.returns-then-not-class_alike
returns-then-not-class_alike c =
    let p = c.class_alike.ensures in
    let q = c.if-not-class_alike.true in
    let other : class_alike c.args.a.now c.args.b.now c.loop-c.c ≡ false = cc in
    one_false (class_alike c.args.a.now c.args.b.now) (length c.args.a.now.classes) c.loop-c.c
    (omega (arith, c.loop-c-test.true, c.class_count-c-end.ensures)) other

pub returns : goal.returns
returns c = all_true (class_alike c.args.a.now c.args.b.now) (length c.args.a.now.classes) c.loop-c.c c.loop-c.invariant
    (omega (arith, c.loop-c-test.false, c.class_count-c-end.ensures))
