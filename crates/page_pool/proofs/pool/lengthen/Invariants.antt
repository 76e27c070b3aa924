use Rattle.std.proofs.Common.{◌≡◌, ◌+◌, vec_len, vec_capacity}
use Rattle.page_pool.specs.Frames.{out_of, free_of, SameFrames}
use Rattle.page_pool.specs.Region.{IsSound}
use Rattle.page_pool.proofs.pool.lengthen.Given as goal

abbrev pub invariant-loop : goal.invariant-loop
invariant-loop l = record {
  sound : IsSound l.slots.items l.free.items (vec_capacity l.free);
  size : vec_len l.slots ≡ vec_len l.initial.slots + l.counter;
  capacity : vec_capacity l.slots ≡ vec_capacity l.initial.slots;
  free_capacity : vec_capacity l.free ≡ vec_capacity l.initial.free;
  same : SameFrames l.initial.slots.items l.slots.items;
  out : out_of l.slots.items ≡ out_of l.initial.slots.items;
  free : free_of l.slots.items ≡ free_of l.initial.slots.items + l.counter;
}
