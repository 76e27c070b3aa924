use Rattle.std.proofs.Common.{ap, length, arith}
use Rattle.op_form.proofs.FormedLaws.{is_event_holds}
use Rattle.plain_repository.proofs.Decoded.{decoded, none_spelled, other_spelled}
use Rattle.event_play.proofs.PlayedBytes.{bytes_played}
use Rattle.event_play.proofs.playing.play_bytes.Goals as goal

pub returns-in-Err-NotForm-clause-refused : goal.returns-in-Err-NotForm-clause-refused
returns-in-Err-NotForm-clause-refused c =
    λ is event could bytes_are.
    none_spelled c.args.repo.now c.args.bytes.now c.in-Err-NotForm.field-0
    (rw c.in-Err-NotForm.field-0-is (rw c.in-Err-NotForm.field-0-is at c.in-Err-NotForm.ensures.read)) event could bytes_are

pub make-requires-clause-event : goal.make-requires-clause-event
make-requires-clause-event c =
    let spelled = decoded c.args.bytes.now c.in-Ok.event (λ i. omega (arith, c.type_inv.bytes i)) c.in-Ok.ensures.read in
    is_event_holds c.in-Ok.event spelled.0

pub make-requires-clause-size : goal.make-requires-clause-size
make-requires-clause-size c =
    let spelled = decoded c.args.bytes.now c.in-Ok.event (λ i. omega (arith, c.type_inv.bytes i)) c.in-Ok.ensures.read in
    ap length spelled.1

pub returns-clause-played : goal.returns-clause-played
returns-clause-played c =
    let spelled = decoded c.args.bytes.now c.in-Ok.event (λ i. omega (arith, c.type_inv.bytes i)) c.in-Ok.ensures.read in
    bytes_played c.make.result c.args.repo.now c.make.new.repo c.args.bytes.now c.in-Ok.event spelled.1 c.make.ensures.could c.make.ensures.made

pub returns-clause-refused : goal.returns-clause-refused
returns-clause-refused c =
    λ is event could bytes_are.
    other_spelled c.args.repo.now c.args.bytes.now c.in-Ok.event c.in-Ok.ensures.read (c.make.ensures.cannot is) event could bytes_are
