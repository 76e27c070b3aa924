use Rattle.std.proofs.Common.{◌≡◌, ◌<◌, ℕ, List, [], ◌∷◌, ◌++◌, Option, length, ap, ◌∙◌, arith, vec_capacity}
use Rattle.page_pool.specs.Frames.{Frames, frame_at, out_of, free_of, pool_limit}
use Rattle.page_pool.proofs.Slots.{counted, longer}
use Rattle.page_pool.proofs.Steps.{one_more}
use Rattle.page_pool.proofs.pool.lengthen.Goals as goal

pub push_reserved-requires-in-loop : goal.push_reserved-requires-in-loop
push_reserved-requires-in-loop c = let s = c.loop.invariant.sound.count in let n = counted c.loop.slots.items
    in omega (arith, s, n, c.loop.invariant.size, c.loop.invariant.free_capacity)

pub loop-preserved : goal.loop-preserved
loop-preserved c =
    let i = c.loop.invariant in
    let is = c.push_reserved.ensures.items ∙ ap (λ (o : Option (List ℕ)). c.loop.slots.items ++ o ∷ []) c.new.ensures in
    let more = longer c.loop.slots.items in
    let few : length c.loop.slots.items < pool_limit = omega (arith, i.size) in
    let room : length c.loop.slots.items < vec_capacity c.loop.free = omega (arith, i.size, i.free_capacity) in
    let number : c.len-number.result ≡ length c.loop.slots.items = omega arith in
    let added = ap (λ (l : Frames). free_of l) is ∙ more.2 in
    record {
      sound = one_more c.loop.slots.items c.push_reserved.new.self.items c.loop.free.items c.push_reserved-in-loop.new.self.items c.len-number.result
          (vec_capacity c.loop.free)
          (vec_capacity c.push_reserved-in-loop.new.self) i.sound is c.push_reserved-in-loop.ensures.items number
          c.push_reserved-in-loop.ensures.capacity few room;
      size = omega (arith, i.size);
      capacity = c.push_reserved.ensures.capacity ∙ i.capacity;
      free_capacity = c.push_reserved-in-loop.ensures.capacity ∙ i.free_capacity;
      same = λ k. ap (λ (l : Frames). frame_at l k) is ∙ more.0 k ∙ i.same k;
      out = ap (λ (l : Frames). out_of l) is ∙ more.1 ∙ i.out;
      free = omega (arith, added, i.free);
    }
