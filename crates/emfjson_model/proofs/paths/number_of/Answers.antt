use Rattle.std.proofs.Common.{sym, ap, ◌∙◌}
use Rattle.std.specs.List.{list_all}
use Rattle.std.specs.Char.{is_ascii_digit}
use Rattle.emfjson_model.proofs.Digits.{too_large}
use Rattle.emfjson_model.proofs.paths.number_of.Goals as goal

pub returns-in-Err : goal.returns-in-Err
returns-in-Err c =
    too_large c.args.text.now c.parse.result c.in-Err.field-0 c.parse.ensures.value.0 c.in-Err.is
    (sym (ap (list_all is_ascii_digit) c.as_bytes.ensures.value) ∙ sym c.are_digits.ensures ∙ c.if-not-are_digits.false)
