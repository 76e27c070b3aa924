use Rattle.std.proofs.Common.{◌≡◌, false, arith, length}
use Rattle.metamodel_growth.specs.Extension.{enum_kept, enum_name}
use Rattle.metamodel_growth.proofs.CodeLaws.{lost_at, none_lost}
use Rattle.metamodel_growth.proofs.missing.lost_enum.Goals as goal

pub returns-then-not-enum_kept : goal.returns-then-not-enum_kept
returns-then-not-enum_kept c =
    let a = c.enum_kept.ensures in
    let b = c.if-not-enum_kept.true in
    let lost : enum_kept c.args.old.now c.args.next.now c.loop-e.e ≡ false = cc in
    lost_at (enum_name c.args.old.now) (enum_kept c.args.old.now c.args.next.now)
    (length c.args.old.now.enums) c.loop-e.e c.loop-e.invariant (omega (arith, c.loop-e-test.true, c.enum_count-e-end.ensures)) lost

pub returns : goal.returns
returns c =
    none_lost (enum_name c.args.old.now) (enum_kept c.args.old.now c.args.next.now)
    (length c.args.old.now.enums) c.loop-e.e c.loop-e.invariant (omega (arith, c.loop-e-test.false, c.enum_count-e-end.ensures))
