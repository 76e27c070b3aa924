use Rattle.std.proofs.Common.{subst}
use Rattle.op_form.specs.declared.event.Event.TheVariants.{Merge}
use Rattle.event_play.specs.Foreseen.{IsForeseen}
use Rattle.event_play.specs.declared.foreseen.Foreseen.{Foreseen}
use Rattle.event_play.proofs.Seen.{merge_foreseen}
use Rattle.event_play.proofs.merging.merge_seen.Goals as goal

pub returns-in-Merge-clause-merge : goal.returns-in-Merge-clause-merge
returns-in-Merge-clause-merge c =
    merge_foreseen c.args.repo.now c.args.ws c.args.branch c.args.letters.now c.in-Merge.merged
    (subst (λ (f : Foreseen). IsForeseen c.args.repo.now (Merge c.args.ws c.args.branch c.args.letters.now) f) c.in-Merge.is c.requires.foreseen)
