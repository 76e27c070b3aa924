use Rattle.std.proofs.Common.{sym, subst, ◌∙◌}
use Rattle.store_session.specs.Opening.{SpellsEvent}
use Rattle.store_session.proofs.Reading.{read_again, spelled_is_read}
use Rattle.store_session.proofs.opening.Played.event.Goals as goal

pub returns-in-Ok : goal.returns-in-Ok
returns-in-Ok c = λ event formed spelled.
    read_again c.deref.result.now c.in-Ok.event c.in-Ok.ensures.read event formed (c.deref.ensures.value ∙ c.self.view_is ∙ spelled)

pub unreachable-requires : goal.unreachable-requires
unreachable-requires c = spelled_is_read c.deref.result.now c.in-Err-NotForm.field-0 (subst SpellsEvent (sym c.deref.ensures.value) c.self.invariant)
    (rw c.in-Err-NotForm.field-0-is (rw c.in-Err-NotForm.field-0-is at c.in-Err-NotForm.ensures.read))
