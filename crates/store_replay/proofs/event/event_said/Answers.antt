use Rattle.std.proofs.Common.{sym, subst}
use Rattle.op_form.specs.declared.event.Event.{Event}
use Rattle.op_form.specs.Formed.{IsEvent}
use Rattle.plain_repository.proofs.Encodings.{playable_is_event}
use Rattle.store_replay.specs.Printing.{IsPlayedEvent}
use Rattle.store_replay.proofs.Events.{found_is, of_ok, said_again}
use Rattle.store_replay.proofs.event.event_said.Goals as goal

pub said_over-said-requires-clause-formed : goal.said_over-said-requires-clause-formed
said_over-said-requires-clause-formed c = subst IsEvent (sym (found_is c.args.repo.now c.args.played.now c.in_ok-event.event c.in_ok-event.ensures c.requires))
    (playable_is_event c.requires.before c.requires.event c.requires.made.could)

pub said_over-said-requires-clause-played : goal.said_over-said-requires-clause-played
said_over-said-requires-clause-played c = (
  c.requires.before,
  subst (λ (e : Event). IsPlayedEvent c.args.repo.now c.requires.before e)
      (sym (found_is c.args.repo.now c.args.played.now c.in_ok-event.event c.in_ok-event.ensures c.requires)) c.requires.made,
)

pub returns : goal.returns
returns c = of_ok c.said_over-said.result _ _
    (λ said gives was. said_again c.args.repo.now c.args.played.now c.in_ok-event.event said.bytes.items said.printable c.in_ok-event.ensures gives
    was) c.said_over-said.ensures
