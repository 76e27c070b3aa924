use Rattle.std.proofs.Common.{◌+◌, ◌^◌, sym, arith}
use Rattle.turn_frames.specs.Turns.{most_turn_bytes}
use Rattle.turn_frames.proofs.Looks.{narrow_some, narrow_far, narrow_none}
use Rattle.turn_frames.proofs.head.count_of.Goals as goal

pub returns-then-count-le-MOST_TURN_BYTES : goal.returns-then-count-le-MOST_TURN_BYTES
returns-then-count-le-MOST_TURN_BYTES c =
    sym (narrow_some (most_turn_bytes + 1) (2 ^ 32) (omega arith) (omega arith) c.args.word.now c.in-Some.count (sym c.in-Some.ensures) (omega arith))

pub returns-else-count-le-MOST_TURN_BYTES : goal.returns-else-count-le-MOST_TURN_BYTES
returns-else-count-le-MOST_TURN_BYTES c =
    sym (narrow_far (most_turn_bytes + 1) (2 ^ 32) (omega arith) (omega arith) c.args.word.now c.in-Some.count (sym c.in-Some.ensures) (omega arith))

pub returns-in-None : goal.returns-in-None
returns-in-None c = sym (narrow_none (most_turn_bytes + 1) (2 ^ 32) (omega arith) (omega arith) c.args.word.now (sym c.in-None.ensures))
