use Rattle.byte_form.specs.Fields.{text_at, text_encoding}
use Rattle.byte_form.specs.Laws.{IsShortText}
use Rattle.byte_form.proofs.FieldLemmas.{apart, byte_again, byte_spelled, u32_again, u32_spelled, u64_again, u64_spelled, text_again, text_spelled}
use Rattle.byte_form.proofs.laws.law_of_fields.Goals as goal

pub returns-clause-bytes_again : goal.returns-clause-bytes_again
returns-clause-bytes_again c = byte_again

pub returns-clause-bytes_spelled : goal.returns-clause-bytes_spelled
returns-clause-bytes_spelled c = byte_spelled

pub returns-clause-short_numbers_again : goal.returns-clause-short_numbers_again
returns-clause-short_numbers_again c = u32_again

pub returns-clause-short_numbers_spelled : goal.returns-clause-short_numbers_spelled
returns-clause-short_numbers_spelled c = u32_spelled

pub returns-clause-long_numbers_again : goal.returns-clause-long_numbers_again
returns-clause-long_numbers_again c = u64_again

pub returns-clause-long_numbers_spelled : goal.returns-clause-long_numbers_spelled
returns-clause-long_numbers_spelled c = u64_spelled

pub returns-clause-texts_again : goal.returns-clause-texts_again
returns-clause-texts_again c = text_again

pub returns-clause-texts_spelled : goal.returns-clause-texts_spelled
returns-clause-texts_spelled c = text_spelled

pub returns-clause-texts_apart : goal.returns-clause-texts_apart
returns-clause-texts_apart c = apart IsShortText text_encoding text_at text_again
