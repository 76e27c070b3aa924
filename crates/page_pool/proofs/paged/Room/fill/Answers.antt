use Rattle.std.proofs.Common.{◌+◌, ◌<◌, ◌*◌, ℕ, List, length, sym, subst, arith}
use Rattle.page_pool.specs.Frames.{IsWritten, overwritten, zeros, frame_size}
use Rattle.page_pool.proofs.Filling.{Filled, taken_is_out, one_filled, at_some}
use Rattle.page_pool.proofs.paged.Room.fill.Goals as goal

pub write-requires-clause-out : goal.write-requires-clause-out
write-requires-clause-out c = taken_is_out c.loop-i.pool c.take.new.self c.in-Some.frame c.in-Some.ensures.some

pub loop-i-preserved : goal.loop-i-preserved
loop-i-preserved c =
    let i = c.loop-i.invariant in
    let taken = c.in-Some.ensures.some in
    let written = at_some (λ (b : List ℕ). IsWritten c.take.new.self c.write.new.self c.in-Some.frame (overwritten b 0 c.piece_of.result.now)) _ zeros
    taken.changes.at c.write.ensures.written in
    let before_end : frame_size * c.loop-i.i < length c.args.bytes.now = omega (arith, c.loop-i-test.true, c.count_frames-i-end.ensures) in
    record {
      filled = subst (λ (l : List ℕ). Filled c.args.pool.now c.write.new.self l c.args.bytes.now (c.loop-i.i + 1)) (sym c.push_reserved.ensures.items)
          (one_filled c.args.pool.now c.loop-i.pool c.take.new.self c.write.new.self c.loop-i.frames.items c.in-Some.frame c.loop-i.i c.args.bytes.now
          c.piece_of.result.now i.filled taken written c.piece_of.ensures.piece before_end);
      size = omega (arith, i.size, c.push_reserved.ensures.len);
      room = omega (arith, i.room, c.push_reserved.ensures.capacity);
      out = omega (arith, i.out, taken.out, written.out);
      free = omega (arith, i.free, taken.free, written.free);
    }
