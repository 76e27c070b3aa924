use Rattle.std.proofs.Common.{ap, arith}
use Rattle.page_pool.specs.Frames.{Frames, out_of}
use Rattle.page_pool.proofs.Slots.{counted}
use Rattle.page_pool.proofs.pool.Pool.taken.Goals as goal

pub overflow_sub-result : goal.overflow_sub-result
overflow_sub-result c = let n = counted c.self.inside.slots.items in omega (arith, n, c.self.invariant.count)

pub returns-clause-taken : goal.returns-clause-taken
returns-clause-taken c = let n = counted c.self.inside.slots.items in let v = ap (λ (l : Frames). out_of l) c.self.view_is
    in omega (arith, n, v, c.self.invariant.count)

pub returns-clause-limit : goal.returns-clause-limit
returns-clause-limit c = omega (arith, c.self.invariant.few)
