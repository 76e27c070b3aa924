use Rattle.std.proofs.Common.{ap, sym, ◌∙◌}
use Rattle.script_lang.specs.declared.reply.Refusal.TheVariants as refusals
use Rattle.replay_script.specs.Answers.{history_of, lines_again}
use Rattle.replay_script.specs.declared.fault.PrintFault.TheVariants.{NotPrintable, TooLong, Unknown}
use Rattle.store_replay.proofs.Events.{has_lines, is_bad, is_long, is_there, not_memory, of_both, refusal_line}
use Rattle.store_replay.proofs.event.said_over.Goals as goal

pub returns-in-Ok : goal.returns-in-Ok
returns-in-Ok c = λ s made. has_lines c.args.repo.now s c.args.event.now made c.in-Ok.bytes.items (rw c.history.ensures at c.in-Ok.ensures.lines)

pub returns-in-Err-TooLong : goal.returns-in-Err-TooLong
returns-in-Err-TooLong c =
    let lines = not_memory c.in-Err-TooLong.field-0 TooLong (lines_again (history_of c.history.result) c.args.event.now) c.in-Err-TooLong.field-0-is
    (λ e. absurd cc) c.in-Err-TooLong.ensures.fault in
    of_both c.refused.result _ _ _
    (λ said line none s made.
    let is = is_long c.args.repo.now s c.args.event.now made said.bytes.items (rw c.history.ensures at lines)
    (line ∙ ap (λ n. refusal_line (refusals.TooLong n)) c.event_count-number.ensures) in
    (is.0, none ∙ is.1))
    c.refused.ensures.line c.refused.ensures.none

pub returns-in-Err-NotPrintable : goal.returns-in-Err-NotPrintable
returns-in-Err-NotPrintable c =
    let lines = not_memory c.in-Err-NotPrintable.field-0 NotPrintable
    (lines_again (history_of c.history.result) c.args.event.now) c.in-Err-NotPrintable.field-0-is
    (λ e. absurd cc) c.in-Err-NotPrintable.ensures.fault in
    of_both c.refused-in-Err-NotPrintable.result _ _ _
    (λ said line none s made.
    let is = is_bad c.args.repo.now s c.args.event.now made said.bytes.items (rw c.history.ensures at lines)
    (line ∙ ap (λ n. refusal_line (refusals.NotPrintable n)) c.event_count-number.ensures) in
    (is.0, none ∙ is.1))
    c.refused-in-Err-NotPrintable.ensures.line c.refused-in-Err-NotPrintable.ensures.none

pub unreachable-requires : goal.unreachable-requires
unreachable-requires c =
    let lines = not_memory c.in-Err-Unknown.field-0 Unknown (lines_again (history_of c.history.result) c.args.event.now) c.in-Err-Unknown.field-0-is
    (λ e. absurd cc) c.in-Err-Unknown.ensures.fault in
    is_there c.args.repo.now c.requires.played.0 c.args.event.now c.requires.played.1 (rw c.history.ensures at lines)
