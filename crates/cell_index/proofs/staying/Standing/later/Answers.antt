-- what stands below the place is no hit, since the list rises
use Rattle.std.proofs.Common.{◌≡◌, sym, subst, drop, arith}
use Rattle.std.specs.List.{Contains}
use Rattle.cell_index.specs.Standing.{Hit}
use Rattle.cell_index.proofs.Rises.{passed_above}
use Rattle.cell_index.proofs.staying.Standing.later.Goals as goal

pub returns-then-place-floor-clause-clear : goal.returns-then-place-floor-clause-clear
returns-then-place-floor-clause-clear c = λ k has_k far hit.
    let low = c.if-place-floor.true in
    passed_above c.args.list.now c.loop-i.i
    (Hit c.args.self.now.stands.items c.args.prints.now c.args.print.now c.args.below) c.loop-i-test.true c.loop-i.invariant.within
    c.loop-i.invariant.passed c.requires.rise.0 k c.requires.rise.1 (omega (arith, far, low)) has_k hit

pub returns-then-is_hit-clause-clear : goal.returns-then-is_hit-clause-clear
returns-then-is_hit-clause-clear c = λ k has_k far hit.
    passed_above c.args.list.now c.loop-i.i
    (Hit c.args.self.now.stands.items c.args.prints.now c.args.print.now c.args.below) c.loop-i-test.true c.loop-i.invariant.within
    c.loop-i.invariant.passed c.requires.rise.0 k c.requires.rise.1 (omega (arith, far)) has_k hit

pub returns-clause-clear : goal.returns-clause-clear
returns-clause-clear c = λ k has_k far hit.
    let end = c.loop-i-test.false in
    let zero : c.loop-i.i ≡ 0 = omega (arith, end) in
    c.loop-i.invariant.passed k (subst (λ n. Contains (drop n c.args.list.now) k) (sym zero) has_k) hit
