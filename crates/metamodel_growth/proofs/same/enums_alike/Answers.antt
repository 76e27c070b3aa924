use Rattle.std.proofs.Common.{◌≡◌, false, arith, length}
use Rattle.metamodel_growth.specs.Same.{enum_alike}
use Rattle.metamodel_growth.proofs.SameLaws.{all_true, one_false}
use Rattle.metamodel_growth.proofs.same.enums_alike.Goals as goal

pub returns-then-not-enum_alike : goal.returns-then-not-enum_alike
returns-then-not-enum_alike c =
    let p = c.enum_alike.ensures in
    let q = c.if-not-enum_alike.true in
    let other : enum_alike c.args.a.now c.args.b.now c.loop-e.e ≡ false = cc in
    one_false (enum_alike c.args.a.now c.args.b.now) (length c.args.a.now.enums) c.loop-e.e
    (omega (arith, c.loop-e-test.true, c.enum_count-e-end.ensures)) other

pub returns : goal.returns
returns c = all_true (enum_alike c.args.a.now c.args.b.now) (length c.args.a.now.enums) c.loop-e.e c.loop-e.invariant
    (omega (arith, c.loop-e-test.false, c.enum_count-e-end.ensures))
