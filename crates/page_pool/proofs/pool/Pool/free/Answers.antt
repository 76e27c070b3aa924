use Rattle.std.proofs.Common.{arith}
use Rattle.page_pool.proofs.Slots.{counted}
use Rattle.page_pool.proofs.pool.Pool.free.Goals as goal

pub overflow_cast-result : goal.overflow_cast-result
overflow_cast-result c = let n = counted c.self.inside.slots.items in omega (arith, n, c.self.invariant.count, c.self.invariant.few)
