use Rattle.std.proofs.Common.{refl}
use Rattle.metamodel_growth.proofs.IdentityLaws.{all_own, one_more_own, one_not_own}
use Rattle.metamodel_growth.proofs.RenumberLaws.{never}
use Rattle.metamodel_growth.proofs.order.stand_in_place.Goals as goal

pub loop-i-preserved : goal.loop-i-preserved
loop-i-preserved c = one_more_own c.args.numbers.now c.loop-i.i c.loop-i-test.true c.if-n-i.false c.loop-i.invariant

pub returns-then-n-i : goal.returns-then-n-i
returns-then-n-i c = (
  λ h. absurd (never h),
  λ is. absurd (one_not_own c.args.numbers.now c.loop-i.i c.loop-i-test.true c.if-n-i.true is),
)

pub returns : goal.returns
returns c = (λ h. all_own c.args.numbers.now c.loop-i.i c.loop-i.invariant c.loop-i.auto.i-end c.loop-i-test.false, λ is. refl)
