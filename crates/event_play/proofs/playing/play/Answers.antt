use Rattle.op_form.proofs.FormedLaws.{is_event_holds}
use Rattle.plain_repository.proofs.Encodings.{playable_is_event}
use Rattle.event_play.proofs.playing.play.Goals as goal

pub make-requires-clause-event : goal.make-requires-clause-event
make-requires-clause-event c = is_event_holds c.args.event (playable_is_event c.args.repo.now c.args.event c.requires.can)
