use Rattle.std.proofs.Common.{sym, ap, ◌∙◌}
use Rattle.script_lang.specs.Words.{is_numeral}
use Rattle.script_lang.proofs.Numbers.{too_large}
use Rattle.turn_frames.proofs.head.number_of.Goals as goal

pub returns-in-Err : goal.returns-in-Err
returns-in-Err c =
    too_large 32 c.args.word.now c.parse.result c.in-Err.field-0 c.parse.ensures.value.0 c.in-Err.is
    (sym (ap is_numeral c.as_bytes.ensures.value) ∙ sym c.is_numeral.ensures ∙ c.if-not-is_numeral.false)
