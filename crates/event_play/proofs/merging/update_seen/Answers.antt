use Rattle.std.proofs.Common.{subst}
use Rattle.op_form.specs.declared.event.Event.TheVariants.{Update}
use Rattle.event_play.specs.Foreseen.{IsForeseen}
use Rattle.event_play.specs.declared.foreseen.Foreseen.{Foreseen}
use Rattle.event_play.proofs.Seen.{update_foreseen}
use Rattle.event_play.proofs.merging.update_seen.Goals as goal

pub returns-in-Update-clause-update : goal.returns-in-Update-clause-update
returns-in-Update-clause-update c =
    update_foreseen c.args.repo.now c.args.ws c.args.letters.now c.in-Update.updated
    (subst (λ (f : Foreseen). IsForeseen c.args.repo.now (Update c.args.ws c.args.letters.now) f) c.in-Update.is c.requires.foreseen)
