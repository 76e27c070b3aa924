use Rattle.std.proofs.Common.{◌+◌, ◌*◌, ◌<◌, ◌≤◌, length, ap, arith}
use Rattle.page_pool.specs.Paged.{PagedState}
use Rattle.page_pool.proofs.Pieces.{nth_out, whole, part}
use Rattle.page_pool.proofs.paged.PagedBytes.piece.Goals as goal
use Rattle.page_pool.specs.Frames.{frame_size}

pub bytes-page-requires : goal.bytes-page-requires
bytes-page-requires c =
    let h : c.args.i < length c.self.inside.frames.items = omega (arith, ap (λ (p : PagedState). length p.frames) c.self.view_is, c.requires.index) in
    record {
      out = nth_out c.args.pool.now c.args.self.now c.self.inside.frames.items c.self.inside.size c.args.i c.index.result.now c.self.view_is
          c.requires.out h c.index.ensures;
    }

pub returns-then-left-lt-FRAME_SIZE : goal.returns-then-left-lt-FRAME_SIZE
returns-then-left-lt-FRAME_SIZE c =
    let h : c.args.i < length c.self.inside.frames.items = omega (arith, ap (λ (p : PagedState). length p.frames) c.self.view_is, c.requires.index) in
    let g : frame_size * c.args.i ≤ c.self.inside.size = omega (arith, c.self.invariant, h) in
    record {
      piece = part c.args.pool.now c.args.self.now c.self.inside.frames.items c.self.inside.size c.args.i c.index.result.now c.self.view_is
          c.requires.out h c.index.ensures c.bytes-page.result.now c.bytes-page.ensures.bytes c.bytes-page.ensures.size g c.if-left-lt-FRAME_SIZE.true;
    }

pub returns : goal.returns
returns c =
    let h : c.args.i < length c.self.inside.frames.items = omega (arith, ap (λ (p : PagedState). length p.frames) c.self.view_is, c.requires.index) in
    let g : frame_size * c.args.i + frame_size ≤ c.self.inside.size = omega (arith, c.self.invariant, h, c.if-left-lt-FRAME_SIZE.false) in
    record {
      piece = whole c.args.pool.now c.args.self.now c.self.inside.frames.items c.self.inside.size c.args.i c.index.result.now c.self.view_is
          c.requires.out h c.index.ensures c.bytes-page.result.now c.bytes-page.ensures.bytes c.bytes-page.ensures.size g;
    }
