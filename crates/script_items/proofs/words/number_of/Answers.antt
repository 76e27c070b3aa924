use Rattle.std.proofs.Common.{◌∙◌, sym, ap}
use Rattle.script_items.specs.Words.{is_numeral}
use Rattle.script_items.proofs.Asked.{number_is, no_numeral, no_number}
use Rattle.script_items.proofs.words.number_of.Goals as goal

pub returns-then-not-is_numeral-clause-none : goal.returns-then-not-is_numeral-clause-none
returns-then-not-is_numeral-clause-none c =
    no_numeral c.args.word.now (ap is_numeral (sym c.as_bytes.ensures.value) ∙ sym c.is_numeral.ensures ∙ c.if-not-is_numeral.true)

pub returns-in-Ok-clause-number : goal.returns-in-Ok-clause-number
returns-in-Ok-clause-number c =
    number_is c.args.word.now c.parse.result c.in-Ok.number c.parse.ensures.value.0 c.in-Ok.is
    (ap is_numeral (sym c.as_bytes.ensures.value) ∙ sym c.is_numeral.ensures ∙ c.if-not-is_numeral.false)

pub returns-in-Err-clause-none : goal.returns-in-Err-clause-none
returns-in-Err-clause-none c = no_number c.args.word.now c.parse.result c.in-Err.field-0 c.parse.ensures.value.0 c.in-Err.is
