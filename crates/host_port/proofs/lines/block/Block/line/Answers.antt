use Rattle.std.proofs.Common.{arith, sym, inl, inr, length}
use Rattle.host_port.specs.Reads.{read_so_far}
use Rattle.host_port.proofs.ScriptBlocks.{block_step_is, Found, near_of, far_of}
use Rattle.host_port.proofs.lines.block.Block.line.Goals as goal
use Rattle.host_port.proofs.lines.block.Block.line.Goals.{then-used-ge-BLOCK_LIMIT, else-used-ge-BLOCK_LIMIT}

pub returns-clause-step : goal.returns-clause-step
returns-clause-step g c = λ tells takes line.
    let f : Found c.args.start c.piece_end.new.self.offset c.in_ok-len.len c.piece_end.new.self.pending
    (g.H.Host.told c.piece_end.new.host).left c.in_ok-len.stop = record {
      within_pending = grind (arith, c.in_ok-len.ensures.feed, c.in_ok-len.ensures.all);
      clear = c.in_ok-len.ensures.clear;
      feed = c.in_ok-len.ensures.feed;
      all = c.in_ok-len.ensures.all;
      end = c.in_ok-len.ensures.end tells;
      near = near_of c.in_ok-len.stop c.piece_end.new.self.offset c.in_ok-len.len (length c.piece_end.new.self.pending)
          (λ h. (c.in_ok-len.ensures.feed h).0) c.in_ok-len.ensures.near c.piece_end.new.self.within;
      started = grind (arith, c.in_ok-len.ensures.offset);
      limit = grind (arith, c.piece_end.new.self.within, c.in_ok-len.ensures.feed, c.in_ok-len.ensures.all);
      far = λ h. far_of c.args.start c.piece_end.new.self.offset c.in_ok-len.len c.if-used-ge-BLOCK_LIMIT.longest
          (elim c.if-used-ge-BLOCK_LIMIT.branch [
            | then-used-ge-BLOCK_LIMIT w ↦ inl (w.longest-is, grind (arith, c.in_ok-len.ensures.offset))
            | else-used-ge-BLOCK_LIMIT w ↦ inr (grind (arith, w.longest-is, c.in_ok-len.ensures.offset), grind (arith, c.in_ok-len.ensures.offset))
          ])
          (c.in_ok-len.ensures.far h) (grind (arith, c.in_ok-len.ensures.offset));
    } in
    rw (sym (c.in_ok-len.ensures.unread tells), sym c.in_ok-len.ensures.offset)
    (block_step_is takes line c.args.start c.piece_end.new.self.offset c.line_at.new.unread.offset c.in_ok-len.len (read_so_far c.args.self.now)
    (read_so_far c.line_at.new.self)
    c.piece_end.new.self.pending (g.H.Host.told c.piece_end.new.host).left c.line_at.new.unread.pending c.in_ok-len.stop c.line_at.result f
    c.line_at.ensures.line c.line_at.ensures.pending c.line_at.ensures.offset)
