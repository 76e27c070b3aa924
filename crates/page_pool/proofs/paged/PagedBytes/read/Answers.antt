use Rattle.std.proofs.Common.{◌<◌, ◌++◌, ℕ, List, length, get_or, ap, sym, ◌∙◌, arith}
use Rattle.page_pool.proofs.Pieces.{nth_out, one_read}
use Rattle.page_pool.proofs.paged.PagedBytes.read.Goals as goal

pub bytes-requires : goal.bytes-requires
bytes-requires c =
    let h : c.loop-frame.frame-index < length c.self.inside.frames.items = omega arith in
    record {
      out = nth_out c.args.pool.now c.args.self.now c.self.inside.frames.items c.self.inside.size c.loop-frame.frame-index c.frame-item.result
          c.self.view_is c.requires.out h
          (c.frame-item.is ∙ ap (λ (l : List ℕ). get_or l c.loop-frame.frame-index c.frame-item.result) c.deref-frame-items.ensures.value);
    }

pub loop-frame-preserved : goal.loop-frame-preserved
loop-frame-preserved c =
    let h : c.loop-frame.frame-index < length c.self.inside.frames.items = omega arith in
    c.in_ok-extend_from_slice.ensures.items ∙ ap (λ (l : List ℕ). l ++ c.bytes.result.now) c.loop-frame.invariant
    ∙ sym (one_read c.args.pool.now c.self.inside.frames.items c.loop-frame.frame-index c.frame-item.result c.bytes.result.now h
    (c.frame-item.is ∙ ap (λ (l : List ℕ). get_or l c.loop-frame.frame-index c.frame-item.result) c.deref-frame-items.ensures.value)
    c.bytes.ensures.bytes)
