use Rattle.std.proofs.Common.{◌≡◌, ◌+◌, ◌*◌, ◌≤◌, ℕ, length, drop, refl, subst, ap, arith}
use Rattle.std.specs.Prelude.{IsTrue}
use Rattle.std.proofs.lemmas.List.{length-take, length-drop}
use Rattle.page_pool.specs.Paged.{content}
use Rattle.commit_journal.proofs.Pages.{Wrote, content_size, place_fits, piece_during, one_wrote}
use Rattle.commit_journal.proofs.write.write_pieces.Goals as goal
use Rattle.page_pool.specs.Frames.{frame_size}

pub overflow_mul-i : goal.overflow_mul-i
overflow_mul-i g c = let s = content_size c.args.pool.now c.args.paged.now c.requires.out c.requires.count
    in omega (arith, s, c.requires.limit, c.requires.count, c.loop-i-test.true, c.frames-i-end.ensures.count)

pub overflow_add-at : goal.overflow_add-at
overflow_add-at g c = let s = content_size c.args.pool.now c.args.paged.now c.requires.out c.requires.count
    in omega (arith, s, c.requires.limit, c.requires.count, c.loop-i-test.true, c.frames-i-end.ensures.count)

pub write_at-requires-clause-offset : goal.write_at-requires-clause-offset
write_at-requires-clause-offset g c =
    let s = content_size c.args.pool.now c.args.paged.now c.requires.out c.requires.count in
    let low : frame_size * c.loop-i.i ≤ length (content c.args.pool.now c.args.paged.now) =
    omega (arith, s, c.loop-i-test.true, c.frames-i-end.ensures.count) in
    λ told. place_fits (g.H.Host.told c.args.host.now) (g.H.Host.told c.loop-i.host) c.args.at (c.args.at + frame_size * c.loop-i.i)
    (frame_size * c.loop-i.i) (content c.args.pool.now c.args.paged.now) c.loop-i.invariant refl low c.requires.offset
    (subst (λ b. IsTrue b) c.loop-i.invariant.course.tells told)

pub write_at-requires-clause-limit : goal.write_at-requires-clause-limit
write_at-requires-clause-limit g c =
    let s = content_size c.args.pool.now c.args.paged.now c.requires.out c.requires.count in
    let p = ap length c.piece-piece.ensures.piece in
    let t = length-take frame_size (drop (frame_size * c.loop-i.i) (content c.args.pool.now c.args.paged.now)) in
    let d = length-drop (frame_size * c.loop-i.i) (content c.args.pool.now c.args.paged.now) in
    omega (arith, s, p, t, d, c.requires.limit, c.loop-i-test.true, c.frames-i-end.ensures.count)

pub returns-in_err-write_at-clause-during : goal.returns-in_err-write_at-clause-during
returns-in_err-write_at-clause-during g c =
    let s = content_size c.args.pool.now c.args.paged.now c.requires.out c.requires.count in
    let low : frame_size * c.loop-i.i ≤ length (content c.args.pool.now c.args.paged.now) =
    omega (arith, s, c.loop-i-test.true, c.frames-i-end.ensures.count) in
    piece_during (g.H.Host.told c.args.host.now) (g.H.Host.told c.loop-i.host) (g.H.Host.told c.write_at.new.self) c.args.at
    (c.args.at + frame_size * c.loop-i.i) (frame_size * c.loop-i.i)
    (content c.args.pool.now c.args.paged.now) c.piece-piece.result.now c.loop-i.invariant refl low c.piece-piece.ensures.piece c.requires.offset
    c.write_at.ensures.course c.write_at.ensures.said c.write_at.ensures.input c.write_at.ensures.alone c.write_at.ensures.part

pub loop-i-preserved : goal.loop-i-preserved
loop-i-preserved g c =
    let s = content_size c.args.pool.now c.args.paged.now c.requires.out c.requires.count in
    let low : frame_size * c.loop-i.i ≤ length (content c.args.pool.now c.args.paged.now) =
    omega (arith, s, c.loop-i-test.true, c.frames-i-end.ensures.count) in
    let next : frame_size * c.loop-i.i + frame_size ≡ frame_size * (c.loop-i.i + 1) = omega arith in
    subst (λ (n : ℕ). Wrote (g.H.Host.told c.args.host.now) (g.H.Host.told c.write_at.new.self) c.args.at (content c.args.pool.now c.args.paged.now) n) next
    (one_wrote (g.H.Host.told c.args.host.now) (g.H.Host.told c.loop-i.host) (g.H.Host.told c.write_at.new.self) c.args.at
    (c.args.at + frame_size * c.loop-i.i) (frame_size * c.loop-i.i)
    (content c.args.pool.now c.args.paged.now) c.piece-piece.result.now c.loop-i.invariant refl low c.piece-piece.ensures.piece c.requires.offset
    c.write_at.ensures.course c.write_at.ensures.said c.write_at.ensures.input c.write_at.ensures.alone c.write_at.ensures.part
    c.in_ok-write_at.ensures.whole)
