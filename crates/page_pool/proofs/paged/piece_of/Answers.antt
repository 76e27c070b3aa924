use Rattle.std.proofs.Common.{◌*◌, drop, sym, ◌∙◌, arith, length-drop}
use Rattle.std.proofs.lemmas.List.{take_all, take_rest}
use Rattle.page_pool.proofs.paged.piece_of.Goals as goal
use Rattle.page_pool.specs.Frames.{frame_size}

pub returns-then-rest-lt-FRAME_SIZE-clause-piece : goal.returns-then-rest-lt-FRAME_SIZE-clause-piece
returns-then-rest-lt-FRAME_SIZE-clause-piece c = let d = length-drop (frame_size * c.args.i) c.args.bytes.now
    in take_rest c.args.bytes.now (frame_size * c.args.i) ∙ sym (take_all frame_size (drop (frame_size * c.args.i) c.args.bytes.now) (omega (arith, d)))
