use Rattle.turn_frames.specs.Turns.{head_of}
use Rattle.turn_frames.proofs.Looks.{no_other, head_shape}
use Rattle.turn_frames.proofs.head.head_of.Goals as goal

pub returns-in-Err-clause-none : goal.returns-in-Err-clause-none
returns-in-Err-clause-none c = no_other (head_of c.args.line.now) (λ head is. c.in-Err.ensures.cases.0 (head_shape c.args.line.now head is).0)
