-- where the last number before a place is at most the bound, all before it are
use Rattle.std.proofs.Common.{◌-◌, ◌≤◌, get_or, arith}
use Rattle.change_index.proofs.Lists.{rises_to}
use Rattle.change_index.proofs.common.passed_from.Goals as goal

pub returns-else-numbers-start-clause-below : goal.returns-else-numbers-start-clause-below
returns-else-numbers-start-clause-below c k low =
    let us = c.args.numbers.now in
    let last = c.back.start - 1 in
    let most : get_or us k 0 ≤ get_or us last 0 =
    rises_to us c.requires.rises k last 0 (omega (arith, low)) (omega (arith, low, c.back.invariant.within, c.requires.inside)) in
    omega (arith, most, c.if-numbers-start.false)
