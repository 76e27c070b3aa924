use Rattle.std.proofs.Common.{vec_capacity, refl}
use Rattle.page_pool.specs.Frames.{out_of, free_of}
use Rattle.page_pool.proofs.Soundness.{sound_none}
use Rattle.page_pool.proofs.pool.Pool.new.Goals as goal

pub invariant_of-result : goal.invariant_of-result
invariant_of-result c = rw (c.new.ensures.items, c.new-2.ensures.items) (sound_none (vec_capacity c.new-2.result))

pub returns-clause-out : goal.returns-clause-out
unfolding out_of
returns-clause-out c = rw c.new.ensures.items refl

pub returns-clause-free : goal.returns-clause-free
unfolding free_of
returns-clause-free c = rw c.new.ensures.items refl
