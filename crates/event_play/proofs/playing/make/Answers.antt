use Rattle.std.proofs.Common.{sym, subst}
use Rattle.state_cache.specs.Entries.{stands}
use Rattle.version_states.specs.Cached.{AreEncodings}
use Rattle.plain_repository.specs.State.{State}
use Rattle.event_play.proofs.Caching.{forms_effect}
use Rattle.op_form.proofs.FormedLaws.{is_event_is}
use Rattle.event_play.proofs.playing.make.Goals as goal

pub change-requires-clause-spelled : goal.change-requires-clause-spelled
change-requires-clause-spelled c = is_event_is c.args.event c.requires.event

pub returns-clause-forms : goal.returns-clause-forms
returns-clause-forms c =
    subst (λ (s : State). AreEncodings s.meta s.history (stands c.change.new.pool c.change.new.cache)) (sym c.set_journal.ensures.done)
    (subst (λ (s : State). AreEncodings s.meta s.history (stands c.change.new.pool c.change.new.cache)) (sym c.in_ok-change.ensures.done)
    (forms_effect c.args.repo.now c.args.event c.change.new.pool c.change.new.cache c.recall_order.ensures c.in_ok-change.ensures.could c.change.ensures.forms))
