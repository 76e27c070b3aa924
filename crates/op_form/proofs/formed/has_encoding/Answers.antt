use Rattle.std.proofs.Common.{sym, ◌∙◌}
use Rattle.op_form.proofs.FormedLaws.{is_event_is}
use Rattle.op_form.proofs.formed.has_encoding.Goals as goal

pub returns-clause-spelled : goal.returns-clause-spelled
returns-clause-spelled c = λ h. is_event_is c.args.event.now (sym c.is_event.ensures ∙ h)
