use Rattle.std.proofs.Common.{arith}
use Rattle.std.proofs.lemmas.Str.Pattern.{split_once_first}
use Rattle.turn_frames.proofs.Looks.{unspaced}
use Rattle.turn_frames.proofs.head.head_of_text.Goals as goal

pub returns-in_err-user-clause-none : goal.returns-in_err-user-clause-none
returns-in_err-user-clause-none c =
    let cut = split_once_first 32 c.args.line.now c.split_once.result c.split_once.ensures.cases (omega arith) in
    let whole = rw c.in_err-user.was at cut in
    rw c.from_residual.ensures (unspaced c.args.line.now whole)
