use Rattle.std.proofs.Common.{length, refl}
use Rattle.op_form.proofs.FormedLaws.{short_text_is}
use Rattle.op_form.proofs.formed.is_short_text.Goals as goal

pub returns : goal.returns
returns c = short_text_is c.args.text.now c.as_str.result.now
    (length c.as_str.result.now) c.is_short.result c.as_str.ensures c.as_str.utf8 refl c.is_short.ensures
