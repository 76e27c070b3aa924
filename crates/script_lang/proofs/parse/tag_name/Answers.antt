use Rattle.std.proofs.Common.{None, arith}
use Rattle.std.proofs.lemmas.Str.Pattern.{strip_prefix_char}
use Rattle.script_lang.proofs.Tags.{no_tag}
use Rattle.script_lang.proofs.parse.tag_name.Goals as goal

pub returns-in-None-clause-none : goal.returns-in-None-clause-none
returns-in-None-clause-none c = no_tag _ (strip_prefix_char 64 c.args.word.now None c.in-None.ensures.cases (omega arith))
